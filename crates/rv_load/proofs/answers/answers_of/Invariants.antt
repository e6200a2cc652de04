use Rattle.std.proofs.Common.{◌≡◌, [], drop}
use Rattle.rv_load.specs.Words.{answers_from}
use Rattle.rv_load.proofs.answers.answers_of.Given as goal

abbrev pub invariant-loop-index : goal.invariant-loop-index
invariant-loop-index l = answers_from l.index l.answers (drop l.index l.words) ≡ answers_from 0 [] l.words
