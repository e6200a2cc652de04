use Rattle.std.proofs.Common.{◌≡◌, ◌+◌, ◌≤◌, [], length}
use Rattle.rv_listing.specs.Tokens.{lines_of}
use Rattle.rv_dump.specs.Reading.{reading}
use Rattle.rv_dump.proofs.reading.undump.Given as goal

abbrev pub invariant-line : goal.invariant-line
invariant-line l = (reading l.flags l.base l.number l.bytes (lines_of l.rest) ≡ reading l.flags l.base 1 [] (lines_of l.text)) × (l.number + length l.rest ≤ length l.text + 1)

abbrev pub decreases-line : goal.decreases-line
decreases-line l = length l.rest
