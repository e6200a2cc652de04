use Rattle.std.proofs.Common.{◌≡◌, length}
use Rattle.rv_base.specs.Flags.{no_flags}
use Rattle.rv_listing.specs.Tokens.{words_after}
use Rattle.rv_listing.specs.FlagsHeader.{flags_after}
use Rattle.rv_listing.proofs.flags_header.flags.Given as goal

abbrev pub invariant-loop-w : goal.invariant-loop-w
invariant-loop-w l = flags_after l.flags (words_after l.rest) ≡ flags_after no_flags (words_after l.fn.rest)

abbrev pub decreases-loop-w : goal.decreases-loop-w
decreases-loop-w l = length l.rest
