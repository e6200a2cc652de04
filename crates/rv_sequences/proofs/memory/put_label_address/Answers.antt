use Rattle.rv_sequences.proofs.{AddressCode.aim_put, Encoded.addi_patchable, SlotsPut.{both_alone, alone_long, alone_sound, alone_usable}, Terms.{arith, no_flags}}
use Rattle.rv_sequences.proofs.memory.put_label_address.Goals as goal

pub put_use-requires : goal.put_use-requires
put_use-requires c = record {
  usable = alone_usable _ _ _ _ (c.in_ok-put_upper.ensures.slots no_flags) c.requires.label;
  room = omega (arith, alone_long _ _ _ (c.in_ok-put_upper.ensures.slots no_flags), c.requires.room);
  sound = alone_sound _ _ _ (c.in_ok-put_upper.ensures.slots no_flags);
}

pub returns-clause-slots : goal.returns-clause-slots
returns-clause-slots c =
    λ flags. both_alone _ _ _ _ _ tt (c.in_ok-put_upper.ensures.slots flags)
    (aim_put _ _ _ _ _ _ _ (addi_patchable _ _ _ _ (omega arith) c.addition_word.ensures) c.in_ok-put_use.ensures.added c.in_ok-put_use.ensures.sound)
