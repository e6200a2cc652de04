use Rattle.std.proofs.Common.{◌≡◌, [], drop}
use Rattle.rv_load.specs.Words.{data_from}
use Rattle.rv_load.proofs.settings.memory_of.Given as goal

abbrev pub invariant-loop-index : goal.invariant-loop-index
invariant-loop-index l = data_from l.index l.memory (drop l.index l.words) ≡ data_from 0 [] l.words
