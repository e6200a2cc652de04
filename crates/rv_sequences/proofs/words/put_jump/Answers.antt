use Rattle.rv_sequences.proofs.SlotsPut.{whole_jump_put}
use Rattle.rv_sequences.proofs.words.put_jump.Goals as goal

pub returns-then-flags-clause-slot : goal.returns-then-flags-clause-slot
returns-then-flags-clause-slot c = c.in_ok-put_half_jump.ensures.slot c.args.flags c.if-flags.true

pub returns-clause-slot : goal.returns-clause-slot
returns-clause-slot c = whole_jump_put _ _ _ _ c.if-flags.false (c.in_ok-put_wide_jump.ensures.slot c.args.flags)
