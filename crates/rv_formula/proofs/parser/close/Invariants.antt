use Rattle.std.proofs.Common.{◌≡◌, length}
use Rattle.rv_formula.specs.Parsing.{close}
use Rattle.rv_formula.proofs.parser.close.Given as goal

-- what is left to end is so of the whole
abbrev pub invariant-open : goal.invariant-open
invariant-open l = close l.least l.ops.items l.pending.items l.value ≡ close l.least l.fn.ops.items l.fn.pending.items l.operand

abbrev pub decreases-open : goal.decreases-open
decreases-open l = length l.pending.items
