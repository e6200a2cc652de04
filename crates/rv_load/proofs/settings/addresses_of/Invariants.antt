use Rattle.std.proofs.Common.{◌≡◌, [], drop}
use Rattle.rv_load.specs.Words.{addresses_from}
use Rattle.rv_load.proofs.settings.addresses_of.Given as goal

abbrev pub invariant-loop-index : goal.invariant-loop-index
invariant-loop-index l = addresses_from l.named l.index l.addresses (drop l.index l.words) ≡ addresses_from l.named 0 [] l.words
