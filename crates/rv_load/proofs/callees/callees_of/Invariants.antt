use Rattle.std.proofs.Common.{◌≡◌, [], drop}
use Rattle.rv_load.specs.Words.{callees_from}
use Rattle.rv_load.proofs.callees.callees_of.Given as goal

abbrev pub invariant-loop-index : goal.invariant-loop-index
invariant-loop-index l = callees_from l.symbols l.index l.callees (drop l.index l.words) ≡ callees_from l.symbols 0 [] l.words
