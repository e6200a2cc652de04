use Rattle.std.proofs.Common.{◌≡◌, length}
use Rattle.rv_listing.specs.Tokens.{words_after}
use Rattle.rv_load.specs.Records.{are_handlers}
use Rattle.rv_load.proofs.records.are_handlers.Given as goal

abbrev pub invariant-loop-w : goal.invariant-loop-w
invariant-loop-w l = are_handlers l.count (words_after l.rest) ≡ are_handlers l.count (words_after l.fn.rest)

abbrev pub decreases-loop-w : goal.decreases-loop-w
decreases-loop-w l = length l.rest
