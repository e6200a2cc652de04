use Rattle.std.proofs.Common.{◌≤◌, ◌-◌, length}
use Rattle.rv_formula.specs.Parsers.{parse_of}
use Rattle.rv_formula.specs.Parsing.{IsSoFar}
use Rattle.rv_formula.proofs.parser.read_all.Given as goal

-- the tokens up to here were read to what the parser has
abbrev pub invariant-tokens : goal.invariant-tokens
invariant-tokens l = record { within : l.at ≤ length l.text; so_far : IsSoFar l.text l.at (parse_of l.parser) }

abbrev pub decreases-tokens : goal.decreases-tokens
decreases-tokens l = length l.text - l.at
