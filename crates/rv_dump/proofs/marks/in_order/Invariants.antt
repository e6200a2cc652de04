use Rattle.std.proofs.Common.{◌≡◌, ◌++◌, map, length}
use Rattle.std.specs.List.{flat_map}
use Rattle.rv_listing.specs.Tokens.{lines_of}
use Rattle.rv_dump.specs.Marks.{seen, line_marks}
use Rattle.rv_dump.proofs.marks.in_order.Given as goal

abbrev pub invariant-line : goal.invariant-line
invariant-line l = map seen l.marks.items ++ flat_map line_marks (lines_of l.rest) ≡ flat_map line_marks (lines_of l.report)

abbrev pub decreases-line : goal.decreases-line
decreases-line l = length l.rest
