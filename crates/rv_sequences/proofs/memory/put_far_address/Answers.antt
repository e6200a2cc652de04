use Rattle.rv_sequences.proofs.{AddressCode.{longer, pieces_then}, SlotsPut.alone_sound, Terms.{arith, to_z-of_z, w64, number_of, offset_short}}
use Rattle.rv_sequences.proofs.memory.put_far_address.Goals as goal

pub put_rrr-requires-clause-room : goal.put_rrr-requires-clause-room
put_rrr-requires-clause-room c =
    let rd = number_of c.args.rd.reg in
    omega (arith, longer _ _ _ (offset_short c.args.flags rd c.args.offset) (rw (to_z-of_z w64 c.args.offset c.ranges.offset) at c.in_ok-put_offset.ensures.slots), c.requires.room)

pub put_rrr-requires-clause-sound : goal.put_rrr-requires-clause-sound
put_rrr-requires-clause-sound c = alone_sound _ _ _ (rw (to_z-of_z w64 c.args.offset c.ranges.offset) at c.in_ok-put_offset.ensures.slots)

pub returns-clause-slots : goal.returns-clause-slots
returns-clause-slots c =
    pieces_then _ _ _ _ _ (offset_short c.args.flags (number_of c.args.rd.reg) c.args.offset).plain (rw (to_z-of_z w64 c.args.offset c.ranges.offset) at c.in_ok-put_offset.ensures.slots) c.in_ok-put_rrr.ensures.slots
