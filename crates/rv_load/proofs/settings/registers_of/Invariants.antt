use Rattle.std.proofs.Common.{◌≡◌, [], drop}
use Rattle.rv_load.specs.Words.{registers_from}
use Rattle.rv_load.proofs.settings.registers_of.Given as goal

abbrev pub invariant-loop-index : goal.invariant-loop-index
invariant-loop-index l = registers_from l.index l.registers (drop l.index l.words) ≡ registers_from 0 [] l.words
