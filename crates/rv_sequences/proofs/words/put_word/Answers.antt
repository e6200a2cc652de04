use Rattle.rv_sequences.proofs.{Encoded.bytes_of_word, SlotsPut.op_put, Terms.arith}
use Rattle.rv_sequences.proofs.words.put_word.Goals as goal

pub returns-clause-slot : goal.returns-clause-slot
returns-clause-slot c = λ flags d four decodes. op_put _ _ _ _ _ _ four decodes (bytes_of_word _ (omega arith)) c.in_ok-put4.ensures.put.2 c.in_ok-put4.ensures.sound
