use Rattle.std.proofs.Common.{length}
use Rattle.rvdis.proofs.listed.put_marks.Given as goal

abbrev pub decreases-line : goal.decreases-line
decreases-line l = length l.rest
