use Rattle.rv_sequences.proofs.{AddressCode.{aim_put, longer}, Encoded.load_patchable, SlotsPut.{both_alone, alone_long, alone_sound, alone_usable}, Terms.{arith, access_short, no_flags}}
use Rattle.rv_sequences.proofs.memory.put_label_load.Goals as goal

pub put_access-requires : goal.put_access-requires
put_access-requires c = record { sound = alone_sound _ _ _ (c.in_ok-put_upper.ensures.slots no_flags) }

pub put_use-requires : goal.put_use-requires
put_use-requires c = record {
  usable = alone_usable _ _ _ _ (c.in_ok-put_access.ensures.slots no_flags) (alone_usable _ _ _ _ (c.in_ok-put_upper.ensures.slots no_flags) c.requires.label);
  room = omega (arith, alone_long _ _ _ (c.in_ok-put_upper.ensures.slots no_flags), longer _ _ _ (access_short c.args.trap) (c.in_ok-put_access.ensures.slots no_flags), c.requires.room);
  sound = alone_sound _ _ _ (c.in_ok-put_access.ensures.slots no_flags);
}

pub returns-clause-slots : goal.returns-clause-slots
returns-clause-slots c =
    λ flags has. both_alone _ _ _ _ _ tt (c.in_ok-put_upper.ensures.slots flags)
    (both_alone _ _ _ _ _ (access_short c.args.trap).plain (c.in_ok-put_access.ensures.slots flags)
    (aim_put _ _ _ _ _ _ _ (load_patchable _ _ _ _ _ has (omega arith) c.load_word.ensures) c.in_ok-put_use.ensures.added c.in_ok-put_use.ensures.sound))
