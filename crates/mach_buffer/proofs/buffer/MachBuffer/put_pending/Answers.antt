use Rattle.std.proofs.Common.{◌-◌, map, length, arith}
use Rattle.mach_buffer.proofs.Words.{length-map, with_own, key_number, shape_of, uses_of}
use Rattle.mach_buffer.proofs.VeneersAndConstants.{Going, own_asks, own_going, going_from, after_veneers}
use Rattle.mach_buffer.proofs.buffer.MachBuffer.put_pending.Goals as goal

pub put_own-requires : goal.put_own-requires
put_own-requires g c =
    let w = going_from c.requires in
    let asks = own_asks c.args.needed (length (uses_of c.args.self.now) - 1) (map key_number c.args.order.now) w in
    record { some = λ e. (let a = (asks e).0 in omega arith); may = λ e. (asks e).1; room = λ e. (asks e).2; even = w.even }

pub put_veneers-requires : goal.put_veneers-requires
put_veneers-requires g c =
    let J = length (uses_of c.args.self.now) - 1 in
    let order = map key_number c.args.order.now in
    let w : Going g.L.MachInstLabelUse.kinds order (with_own c.args.needed J order) (shape_of c.args.self.now) (shape_of c.put_own.new.self) =
    rw c.in_ok-put_own.ensures.shape (own_going g.met.L.MachInstLabelUse.veneer_ok c.args.needed J order (going_from c.requires)) in
    record { can = w.can; room = omega (arith, w.room, length-map c.args.order.now key_number); even = w.even }

pub put_constants-requires : goal.put_constants-requires
put_constants-requires g c = let x = after_veneers g.met.L.MachInstLabelUse.veneer_ok c.requires (shape_of c.put_veneers.new.self) (grind arith) in record { ordered = x.0; room = x.1 }

pub returns-clause-put : goal.returns-clause-put
returns-clause-put g c = grind arith
