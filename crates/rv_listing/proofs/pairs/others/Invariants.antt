use Rattle.std.proofs.Common.{◌≡◌, length}
use Rattle.rv_listing.specs.Tokens.{parts_after}
use Rattle.rv_listing.specs.Pairs.{each_after}
use Rattle.rv_listing.proofs.pairs.others.Given as goal

abbrev pub invariant-loop-part : goal.invariant-loop-part
invariant-loop-part g l = each_after g.T.Token.reads l.made (parts_after l.separator l.rest) ≡ each_after g.T.Token.reads l.fn.sofar (parts_after l.separator l.fn.rest)

abbrev pub decreases-loop-part : goal.decreases-loop-part
decreases-loop-part g l = length l.rest
