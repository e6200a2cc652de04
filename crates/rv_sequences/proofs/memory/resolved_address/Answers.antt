use Rattle.rv_sequences.proofs.{AddressCode.name_put, SlotsPut.none_put}
use Rattle.rv_sequences.proofs.memory.resolved_address.Goals as goal

pub returns-in-RegOffset-clause-slots : goal.returns-in-RegOffset-clause-slots
returns-in-RegOffset-clause-slots c = λ flags. rw c.in-RegOffset.is (none_put _ _ c.requires.sound)

pub returns-in-SPOffset-clause-slots : goal.returns-in-SPOffset-clause-slots
returns-in-SPOffset-clause-slots c = λ flags. rw c.in-SPOffset.is (none_put _ _ c.requires.sound)

pub returns-in-FPOffset-clause-slots : goal.returns-in-FPOffset-clause-slots
returns-in-FPOffset-clause-slots c = λ flags. rw c.in-FPOffset.is (none_put _ _ c.requires.sound)

pub returns-in-SlotOffset-clause-slots : goal.returns-in-SlotOffset-clause-slots
returns-in-SlotOffset-clause-slots c = λ flags. rw c.in-SlotOffset.is (none_put _ _ c.requires.sound)

pub returns-in-IncomingArg-clause-slots : goal.returns-in-IncomingArg-clause-slots
returns-in-IncomingArg-clause-slots c = λ flags. rw c.in-IncomingArg.is (none_put _ _ c.requires.sound)

pub returns-in-Label-clause-slots : goal.returns-in-Label-clause-slots
returns-in-Label-clause-slots c = λ flags. rw c.in-Label.is (none_put _ _ c.requires.sound)

pub returns-in_ok-label-in-Const-clause-slots : goal.returns-in_ok-label-in-Const-clause-slots
returns-in_ok-label-in-Const-clause-slots c = let e = c.in_ok-label-in-Const.ensures in λ flags. rw c.in-Const.is (name_put _ _ _ _ e.named.2 e.sound)
