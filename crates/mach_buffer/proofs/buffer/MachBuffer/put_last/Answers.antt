use Rattle.std.proofs.Common.{◌≡◌, map, length, arith}
use Rattle.mach_buffer.proofs.Words.{IsSound}
use Rattle.mach_buffer.proofs.Words.{length-map, key_number, shape_of, place_of}
use Rattle.mach_buffer.proofs.LastVeneers.{other_none, padding_for, padded_can, last_room}
use Rattle.mach_buffer.proofs.buffer.MachBuffer.put_last.Goals as goal

pub pad_last-requires : goal.pad_last-requires
pad_last-requires g c =
    let K = g.L.MachInstLabelUse.kinds in
    record { room = last_room K (shape_of c.args.self.now) (map key_number c.in_ok-order.order.items) c.requires.ready (rw (← other_none K (place_of c.args.self.now), ← c.deref.ensures.value) c.in_ok-order.ensures) c.len.result (grind (arith, length-map)) }

pub put_pending-requires : goal.put_pending-requires
unfolding IsSound
put_pending-requires g c =
    let K = g.L.MachInstLabelUse.kinds in
    let order = map key_number c.in_ok-order.order.items in
    let count : c.len.result ≡ length order = grind (arith, length-map) in
    rw (c.in_ok-pad_last.ensures.shape, count, c.deref-2.ensures.value, (padding_for (length order) (shape_of c.args.self.now)).1) (padded_can K (shape_of c.args.self.now) order c.requires.sound.whole c.requires.ready (rw (← other_none K (place_of c.args.self.now), ← c.deref.ensures.value) c.in_ok-order.ensures))

pub returns : goal.returns
returns g c =
    let order = map key_number c.in_ok-order.order.items in
    let count : c.len.result ≡ length order = grind (arith, length-map) in
    record {
      order = order;
      in_order = rw (← other_none g.L.MachInstLabelUse.kinds (place_of c.args.self.now), ← c.deref.ensures.value) c.in_ok-order.ensures;
      whole = rw (c.in_ok-put_pending.ensures.put, c.deref-2.ensures.value, c.in_ok-pad_last.ensures.shape, count);
    }
