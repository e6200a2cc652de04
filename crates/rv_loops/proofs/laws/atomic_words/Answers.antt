use Rattle.rv_loops.proofs.AtomicWords.{are_words}
use Rattle.rv_loops.proofs.laws.atomic_words.Goals as goal

pub returns : goal.returns
returns c = are_words
