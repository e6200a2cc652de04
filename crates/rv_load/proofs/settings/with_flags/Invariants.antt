use Rattle.std.proofs.Common.{◌≡◌, length}
use Rattle.rv_listing.specs.Tokens.{parts_of, parts_after}
use Rattle.rv_listing.specs.FlagsHeader.{flags_after, flags_form}
use Rattle.rv_load.proofs.settings.with_flags.Given as goal

abbrev pub invariant-names : goal.invariant-names
invariant-names l = flags_after l.flags (parts_after 44 l.rest) ≡ flags_form (parts_of 44 l.fn.names)

abbrev pub decreases-names : goal.decreases-names
decreases-names l = length l.rest
