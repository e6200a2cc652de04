use Rattle.rv_sequences.proofs.{SlotsPut.{none_put, alone}, Terms.on_ok_weaker}
use Rattle.rv_sequences.proofs.words.put_branch.Goals as goal

pub returns-in-Fallthrough-default-clause-slots : goal.returns-in-Fallthrough-default-clause-slots
returns-in-Fallthrough-default-clause-slots c = rw c.in-Fallthrough-default.is-0 (none_put _ _ c.requires.sound)

pub returns-in-Label-Fallthrough-clause-slots : goal.returns-in-Label-Fallthrough-clause-slots
returns-in-Label-Fallthrough-clause-slots c = on_ok_weaker c.put_compare.result (λ p. rw (c.in-Label-Fallthrough.is-0, c.in-Label-Fallthrough.is-1) (alone (p c.args.flags))) c.put_compare.ensures.slot

pub returns-in-Label-Label-clause-slots : goal.returns-in-Label-Label-clause-slots
returns-in-Label-Label-clause-slots c = on_ok_weaker c.put_compare_and_jump.result (λ p. rw (c.in-Label-Label.is-0, c.in-Label-Label.is-1) (alone p)) c.put_compare_and_jump.ensures.slots
