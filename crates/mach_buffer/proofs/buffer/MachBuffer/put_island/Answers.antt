use Rattle.std.proofs.Common.{rules, ◌≡◌, ◌+◌, ◌*◌, ◌-◌, ◌<◌, ◌∙◌, ap, sym, subst, map, length, Some, arith}
use Rattle.mach_buffer.proofs.Words.{IsSound}
use Rattle.mach_buffer.proofs.Words.{length-map, slice_get, IsSomeAnd, code_limit, Shape, with_label, is_other, deadline, put_all, IsOrder, aligned, padded, needs_own, with_own, end_after, put_constants, key_number, CanPutAll, Inside, inside_of, shape_of, bytes_of}
use Rattle.mach_uses.proofs.OrderOfVeneers.{order_long}
use Rattle.mach_buffer.proofs.IslandVeneers.{IsReady, before_room, pad_room, end_room, jump_there, island_can, island_done}
use Rattle.mach_buffer.proofs.VeneersAndConstants.{length_padded}
use Rattle.mach_buffer.proofs.buffer.MachBuffer.put_island.Given as given
use Rattle.mach_buffer.proofs.buffer.MachBuffer.put_island.Goals.{After-len, After-needs_own-needed, In_ok-put_pending}
use Rattle.mach_buffer.proofs.buffer.MachBuffer.put_island.Goals as goal

in_order : (g : given.Over) (c : After-len g) → let s = shape_of c.args.self.now in IsOrder g.L.MachInstLabelUse.kinds (is_other g.L.MachInstLabelUse.kinds s.place (Some c.args.after_island)) s.uses (map key_number c.in_ok-order.order.items)
in_order g c =
    let pad = c.in_ok-pad.ensures.shape in
    rw (c.deref.ensures.value, ap (λ (x : Shape g.row.L.Denot). x.uses) pad, ap (λ (x : Shape g.row.L.Denot). x.place) pad) at c.in_ok-order.ensures

ready : (g : given.Over) (c : After-needs_own-needed g) → let K = g.L.MachInstLabelUse in let s = shape_of c.args.self.now in let order = map key_number c.in_ok-order.order.items in
    IsOrder K.kinds (is_other K.kinds s.place (Some c.args.after_island)) s.uses order → c.len.result ≡ length order → IsReady K.kinds s (inside_of c.args.self.now) c.args.after_island order c.needs_own-needed.result
unfolding IsSound
ready g c order many =
    let K = g.L.MachInstLabelUse in
    let Tells : Shape g.row.L.Denot → Type 0 = λ x. IsSomeAnd (slice_get x.uses (length x.uses - 1)) (λ u. c.needs_own-needed.result ≡ needs_own (end_after x) (length x.bytes) c.len.result (deadline K.kinds u)) in
    let test = rw (jump_there c.requires.ready.jump, length_padded (bytes_of c.args.self.now), many) at (subst Tells c.in_ok-pad.ensures.shape c.needs_own-needed.ensures) in
    record { sound = c.requires.sound; can = c.requires.ready; in_order = order; test = test }

pub pad-requires : goal.pad-requires
pad-requires g c = record { room = pad_room c.requires.ready }

pub needs_own-needed-requires-clause-room : goal.needs_own-needed-requires-clause-room
needs_own-needed-requires-clause-room g c =
    let room = before_room c.requires.ready c.len.result (grind (arith, length-map, order_long (in_order g c))) in
    subst (λ (x : Shape g.row.L.Denot). end_after x (length x.bytes + 8 * c.len.result) < code_limit) (sym c.in_ok-pad.ensures.shape) (rw (length_padded (bytes_of c.args.self.now)) room)

pub put_pending-requires : goal.put_pending-requires
unfolding IsSound
put_pending-requires g c =
    let d = goal.at.put_pending-requires g c in
    rw c.deref-2.ensures.value (subst (λ (x : Shape g.row.L.Denot). CanPutAll g.L.MachInstLabelUse.kinds x (with_own c.needs_own-needed.result (length x.uses - 1) (map key_number c.in_ok-order.order.items))) (sym c.in_ok-pad.ensures.shape)
    (island_can (ready g d.After-needs_own-needed (in_order g d.After-len) (grind (arith, length-map)))))

-- after the veneers and the constants
put : (g : given.Over) (c : In_ok-put_pending g) → let s = shape_of c.args.self.now in shape_of c.put_pending.new.self ≡ put_constants (put_all g.L.MachInstLabelUse.kinds (with_own c.needs_own-needed.result (length s.uses - 1) (map key_number c.in_ok-order.order.items)) (padded s))
put g c = c.in_ok-put_pending.ensures.put ∙ (λ i. let s = c.in_ok-pad.ensures.shape i in put_constants (put_all g.L.MachInstLabelUse.kinds (with_own c.needs_own-needed.result (length s.uses - 1) (map key_number (c.deref-2.ensures.value i))) s))

pub pad-requires-2 : goal.pad-requires-2
unfolding IsSound
pad-requires-2 g c =
    let d = goal.at.pad-requires-2 g c in
    record { room = subst (λ (x : Shape g.row.L.Denot). aligned (length x.bytes) < code_limit) (sym (put g d.In_ok-put_pending)) (end_room g.met.L.MachInstLabelUse.veneer_ok (ready g d.After-needs_own-needed (in_order g d.After-len) (grind (arith, length-map)))) }

pub returns : goal.returns
unfolding IsSound
returns g c =
    let d = goal.at.returns g c in
    let s = shape_of c.args.self.now in
    let l = c.in_ok-place_label.ensures in
    let whole = l.shape ∙ ap (with_label c.args.after_island) (c.in_ok-pad-2.ensures.shape ∙ ap padded (put g d.In_ok-put_pending)) in
    let inside = c.in_ok-pad-2.ensures.inside ∙ c.in_ok-put_pending.ensures.inside ∙ c.in_ok-pad.ensures.inside in
    let new : Inside = record { pending = c.clear.new.self; seen = c.pad-2.new.self.constants.seen.items } in
    let x = island_done g.met.L.MachInstLabelUse.veneer_ok s (inside_of c.args.self.now) new c.args.after_island _ c.needs_own-needed.result (ready g d.After-needs_own-needed (in_order g d.After-len) (grind (arith, length-map))) c.clear.ensures (ap (λ (i : Inside). i.seen) inside) _ whole in
    record { island = x.0; grows = x.1; own = x.2; windows = x.3; constants = x.4; sound = rw l.inside x.5; spoiled = search rules }
