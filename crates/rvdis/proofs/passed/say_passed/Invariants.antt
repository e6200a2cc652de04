use Rattle.std.proofs.Common.{length}
use Rattle.rvdis.proofs.passed.say_passed.Given as goal

abbrev pub decreases-lines : goal.decreases-lines
decreases-lines l = length l.rest
