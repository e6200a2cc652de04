use Rattle.rv_sequences.proofs.{SlotsPut.both_alone, Terms.{refl, real_number}}
use Rattle.rv_sequences.proofs.halves.put_boxing.Goals as goal

pub returns-clause-slots : goal.returns-clause-slots
returns-clause-slots c =
    let flags = c.args.flags in
    both_alone _ _ _ _ _ tt (rw (c.from_i32.ensures, (real_number _ _ _ c.writable_spilltmp_reg2.ensures)) at c.in_ok-put_lui.ensures.slots)
    (both_alone _ _ _ _ _ tt
    (rw ((real_number _ _ _ c.spilltmp_reg2.ensures), (real_number _ _ _ c.spilltmp_reg.ensures), (real_number _ _ _ c.writable_spilltmp_reg.ensures)) at c.in_ok-put_rrr.ensures.slots)
    (c.in_ok-put_word.ensures.slot flags _ refl (c.word_to_float.ensures flags)))
