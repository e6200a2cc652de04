use Rattle.rv_sequences.proofs.SlotsPut.{bytes_put}
use Rattle.rv_sequences.proofs.expansions.put_bytes.Goals as goal

pub returns-clause-slots : goal.returns-clause-slots
returns-clause-slots c = λ flags. bytes_put _ _ _ _ c.in_ok-put_data.ensures.put.2 c.in_ok-put_data.ensures.sound
