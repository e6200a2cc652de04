use Rattle.rv_sequences.proofs.Terms.{on_ok_weaker}
use Rattle.rv_sequences.proofs.shortest.put_encoded.Goals as goal

pub returns-in-Half-clause-slot : goal.returns-in-Half-clause-slot
returns-in-Half-clause-slot c = on_ok_weaker c.put_half.result (λ p flags d h own. p flags d (rw c.in-Half.is at h) (rw c.in-Half.is at own)) c.put_half.ensures.slot

pub returns-in-Word-clause-slot : goal.returns-in-Word-clause-slot
returns-in-Word-clause-slot c = on_ok_weaker c.put_word.result (λ p flags d h own. let is = rw c.in-Word.is at h in p flags d is.long is.decodes) c.put_word.ensures.slot
