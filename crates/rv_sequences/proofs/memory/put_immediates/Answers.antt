use Rattle.rv_sequences.proofs.SlotsPut.{both_alone}
use Rattle.rv_sequences.proofs.memory.put_immediates.Goals as goal

pub returns-clause-slots : goal.returns-clause-slots
returns-clause-slots c = both_alone _ _ _ _ _ tt c.in_ok-put_lui.ensures.slots c.in_ok-put_lower_immediate.ensures.slots
