use Rattle.rv_sequences.proofs.SlotsPut.{half_put}
use Rattle.rv_sequences.proofs.shortest.put_half.Goals as goal

pub returns-clause-slot : goal.returns-clause-slot
returns-clause-slot c = λ flags d is own. half_put _ _ _ _ _ is own c.ranges.half.fits c.in_ok-put2.ensures.put.2 c.in_ok-put2.ensures.sound
