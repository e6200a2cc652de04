use Rattle.rv_sequences.proofs.{AddressCode.{access_then, far_store_put, longer}, SlotsPut.alone_sound, Terms.{refl, arith, no_flags, access_short, real_number}}
use Rattle.rv_sequences.proofs.memory.put_spilled_store.Goals as goal

pub put_word-requires : goal.put_word-requires
put_word-requires c = record { room = omega (arith, longer _ _ _ (access_short c.args.trap) (c.in_ok-put_access.ensures.slots no_flags), c.requires.room); sound = alone_sound _ _ _ (c.in_ok-put_access.ensures.slots no_flags) }

pub returns-clause-slots : goal.returns-clause-slots
returns-clause-slots c = λ flags has.
    access_then c.args.trap _ _ _ _ (c.in_ok-put_access.ensures.slots flags)
    (far_store_put _ _ _ _ (rw (real_number _ _ _ c.spilltmp_reg.ensures) at (c.in_ok-put_word.ensures.slot flags _ refl (c.encode_store.ensures flags has))))
