use Rattle.std.proofs.Common.{◌≡◌, drop}
use Rattle.rv_listing.specs.Tokens.{digits_after}
use Rattle.rv_listing.proofs.tokens.digits.Given as goal

abbrev pub invariant-loop-c : goal.invariant-loop-c
invariant-loop-c l = digits_after l.base l.n (drop l.c-index l.w) ≡ digits_after l.base 0 l.w
