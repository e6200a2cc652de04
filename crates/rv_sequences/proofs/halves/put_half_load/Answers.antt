use Rattle.rv_sequences.proofs.{AddressCode.{longer, load_is_short, pieces_then}, SlotsPut.alone_sound, Terms.{arith, boxing_pieces, load_pieces, number_of, Lh, location_at, real_number}}
use Rattle.rv_sequences.proofs.halves.put_half_load.Goals as goal

pub put_boxing-requires : goal.put_boxing-requires
put_boxing-requires c = record { rd = c.requires.rd; room = omega (arith, longer _ _ _ (load_is_short c.args.flags (number_of c.writable_spilltmp_reg-half.result.reg) Lh c.args.trap (location_at c.args.place)) c.in_ok-put_load.ensures.slots, c.requires.room); sound = alone_sound _ _ _ c.in_ok-put_load.ensures.slots }

pub returns-clause-slots : goal.returns-clause-slots
returns-clause-slots c =
    let at = location_at c.args.place in
    pieces_then (load_pieces Lh 31 c.args.trap at) (boxing_pieces (number_of c.args.rd.reg)) _ _ _ (load_is_short c.args.flags 31 Lh _ at).plain (rw (real_number _ _ _ c.writable_spilltmp_reg-half.ensures) at c.in_ok-put_load.ensures.slots) c.in_ok-put_boxing.ensures.slots
