use Rattle.std.proofs.Common.{◌≡◌, [], length}
use Rattle.rv_listing.specs.Tokens.{parts_of, parts_after}
use Rattle.rv_load.specs.Words.{sets_after}
use Rattle.rv_load.proofs.callees.sets_of.Given as goal

abbrev pub invariant-words : goal.invariant-words
invariant-words l = sets_after l.registers (parts_after 44 l.rest) ≡ sets_after [] (parts_of 44 l.fn.w)

abbrev pub decreases-words : goal.decreases-words
decreases-words l = length l.rest
