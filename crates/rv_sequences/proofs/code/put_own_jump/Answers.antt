use Rattle.rv_sequences.proofs.SlotsPut.{whole_jump_put}
use Rattle.rv_sequences.proofs.code.put_own_jump.Goals as goal

pub returns-clause-slot : goal.returns-clause-slot
returns-clause-slot c = whole_jump_put _ _ _ _ c.if-flags.false (c.in_ok-put_wide_jump.ensures.slot c.args.flags)
