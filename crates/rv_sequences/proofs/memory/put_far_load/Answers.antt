use Rattle.rv_sequences.proofs.{AddressCode.{longer, pieces_then}, SlotsPut.alone_sound, Terms.{arith, w64, to_z-of_z, number_of, Based, PutsAlone, address_pieces, address_slots, address_short, real_number}}
use Rattle.rv_sequences.proofs.memory.put_far_load.Goals as goal

pub put_spilled_load-requires : goal.put_spilled_load-requires
put_spilled_load-requires c = record { rd = c.requires.rd; room = omega (arith, longer _ _ _ (address_short c.args.flags (number_of c.writable_spilltmp_reg.result.reg) (Based (number_of c.args.base) c.args.offset)) (rw (to_z-of_z w64 c.args.offset c.ranges.offset) at c.in_ok-put_based_address.ensures.slots), c.requires.room); sound = alone_sound _ _ _ c.in_ok-put_based_address.ensures.slots }

pub returns-clause-slots : goal.returns-clause-slots
returns-clause-slots c =
    let flags = c.args.flags in
    let at : PutsAlone flags (address_slots flags 31 (Based (number_of c.args.base) c.args.offset)) c.args.sink.now c.put_based_address.new.sink = rw (real_number _ _ _ c.writable_spilltmp_reg.ensures) at
    (rw (to_z-of_z w64 c.args.offset c.ranges.offset) at c.in_ok-put_based_address.ensures.slots) in
    pieces_then (address_pieces 31 (Based (number_of c.args.base) c.args.offset)) _ _ _ _ (address_short flags 31 (Based (number_of c.args.base) c.args.offset)).plain at (c.in_ok-put_spilled_load.ensures.slots flags c.requires.has)
