use Rattle.rv_sequences.proofs.{AddressCode.{longer, pieces_then}, SlotsPut.alone_sound, Terms.{arith, number_of, PutsAlone, location_at, address_pieces, address_slots, address_short, real_number}}
use Rattle.rv_sequences.proofs.memory.put_far_store.Goals as goal

pub put_spilled_store-requires : goal.put_spilled_store-requires
put_spilled_store-requires c = record { src = c.requires.src; room = omega (arith, longer _ _ _ (address_short c.args.flags (number_of c.writable_spilltmp_reg.result.reg) (location_at c.args.place)) c.in_ok-put_address.ensures.slots, c.requires.room); sound = alone_sound _ _ _ c.in_ok-put_address.ensures.slots }

pub returns-clause-slots : goal.returns-clause-slots
returns-clause-slots c =
    let flags = c.args.flags in
    let at : PutsAlone flags (address_slots flags 31 (location_at c.args.place)) c.args.sink.now c.put_address.new.sink = rw (real_number _ _ _ c.writable_spilltmp_reg.ensures) at c.in_ok-put_address.ensures.slots in
    pieces_then (address_pieces 31 (location_at c.args.place)) _ _ _ _ (address_short flags 31 (location_at c.args.place)).plain at (c.in_ok-put_spilled_store.ensures.slots flags c.requires.has)
