use Rattle.std.proofs.Common.{◌≡◌, ◌+◌, ◌≤◌, length}
use Rattle.rv_listing.specs.Tokens.{lines_of}
use Rattle.rv_listing.specs.Reading.{no_draft, reading}
use Rattle.rv_listing.proofs.reading.read_lines.Given as goal

abbrev pub invariant-loop-line : goal.invariant-loop-line
invariant-loop-line l = (reading l.number l.draft (lines_of l.rest) ≡ reading 1 no_draft (lines_of l.text)) × (l.number + length l.rest ≤ length l.text + 1)

abbrev pub decreases-loop-line : goal.decreases-loop-line
decreases-loop-line l = length l.rest
