use Rattle.std.proofs.Common.{◌≡◌, [], length}
use Rattle.rv_load.specs.Answers.{stored_after}
use Rattle.rv_load.proofs.answers.stored_bytes.Given as goal

abbrev pub invariant-pairs : goal.invariant-pairs
invariant-pairs l = stored_after l.bytes l.rest ≡ stored_after [] l.fn.w

abbrev pub decreases-pairs : goal.decreases-pairs
decreases-pairs l = length l.rest
