use Rattle.rv_sequences.proofs.{AddressCode.access_put, SlotsPut.none_put}
use Rattle.rv_sequences.proofs.memory.put_access.Goals as goal

pub returns-in_ok-add_trap-in-Some-clause-slots : goal.returns-in_ok-add_trap-in-Some-clause-slots
returns-in_ok-add_trap-in-Some-clause-slots c = λ flags. access_put _ _ _ _ _ c.in-Some.is c.in_ok-add_trap-in-Some.ensures.recorded.2 c.in_ok-add_trap-in-Some.ensures.sound

pub returns-in-None-clause-slots : goal.returns-in-None-clause-slots
returns-in-None-clause-slots c = λ flags. rw c.in-None.is (none_put _ _ c.requires.sound)
