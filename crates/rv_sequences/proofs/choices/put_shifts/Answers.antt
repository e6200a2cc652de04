use Rattle.rv_sequences.proofs.SlotsPut.{both_alone}
use Rattle.rv_sequences.proofs.choices.put_shifts.Goals as goal

pub returns-clause-slots : goal.returns-clause-slots
returns-clause-slots c = both_alone _ _ _ _ _ tt c.in_ok-put_rri.ensures.slots c.in_ok-put_rri-2.ensures.slots
