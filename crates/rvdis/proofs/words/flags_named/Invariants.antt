use Rattle.std.proofs.Common.{length}
use Rattle.rvdis.proofs.words.flags_named.Given as goal

abbrev pub decreases-names : goal.decreases-names
decreases-names l = length l.rest
