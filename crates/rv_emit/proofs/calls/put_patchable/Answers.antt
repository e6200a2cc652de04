use Rattle.rv_emit.proofs.Terms.{none_put}
use Rattle.rv_emit.proofs.calls.put_patchable.Goals as goal

pub returns-in_ok-put_patch-clause-slots : goal.returns-in_ok-put_patch-clause-slots
returns-in_ok-put_patch-clause-slots c = λ flags. rw c.if-patchable.true (c.in_ok-put_patch.ensures.slots flags)

pub returns-else-patchable-clause-slots : goal.returns-else-patchable-clause-slots
returns-else-patchable-clause-slots c = λ flags. rw c.if-patchable.false (none_put _ _ c.requires.sound)
