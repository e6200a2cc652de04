use Rattle.rv_sequences.proofs.{AddressCode.place_last, SlotsPut.both_alone, Terms.{refl, location_at, real_number}}
use Rattle.rv_sequences.proofs.halves.put_half_store.Goals as goal

pub put_store-requires-clause-fine : goal.put_store-requires-clause-fine
put_store-requires-clause-fine c = place_last _ _ _ _ (c.in_ok-put_word.ensures.slot c.args.flags _ refl (c.word_to_integer.ensures c.args.flags)) c.requires.fine

pub returns-clause-slots : goal.returns-clause-slots
returns-clause-slots c =
    let flags = c.args.flags in
    let at = location_at c.args.place in
    both_alone _ _ _ _ _ tt (c.in_ok-put_word.ensures.slot flags _ refl (c.word_to_integer.ensures flags)) (rw (real_number _ _ _ c.spilltmp_reg2.ensures) at c.in_ok-put_store.ensures.slots)
