use Rattle.rv_sequences.proofs.SlotsPut.{half_jump_put}
use Rattle.rv_sequences.proofs.code.put_own_half.Goals as goal

pub returns-clause-slot : goal.returns-clause-slot
returns-clause-slot c = half_jump_put _ c.requires.half _ c.use_label_at_offset.new.self _ _ _ _ c.half_word.ensures c.cur_offset-here.ensures c.in_ok-use_label_at_offset.ensures.recorded.2 c.in_ok-put2.ensures.put.2 c.in_ok-put2.ensures.sound
