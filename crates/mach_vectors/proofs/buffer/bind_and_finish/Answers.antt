use Rattle.std.proofs.Common.{arith, sym, ap, ◌∙◌, ◌≡◌, ◌<◌, ◌+◌, ◌*◌, ◌^◌, Bool, true, length}
use Rattle.std.specs.Prelude.{nat_lt, ◌&&◌, ◌||◌}
use Rattle.std.proofs.lemmas.Bool.{and_parts, ltb-true}
use Rattle.rv_base.specs.LabelUse.{code_limit}
use Rattle.mach_uses.specs.Reach.{island_margin}
use Rattle.mach_buffer.specs.Buffer.{shape_of, bytes_of, allocated_of, pending_of}
use Rattle.mach_buffer.specs.Constants.{reserve_of}
use Rattle.mach_buffer.proofs.Kept.{can_finish}
use Rattle.mach_vectors.proofs.buffer.bind_and_finish.Goals as goal

pub finish-requires-clause-ready : goal.finish-requires-clause-ready
finish-requires-clause-ready g c =
    let K = g.L.MachInstLabelUse in
    let b = c.bind_each.new.buffer in
    let e = c.in_ok-bind_each.ensures in
    let few : Bool = nat_lt (allocated_of b) (2 ^ 29) in
    let fit : Bool = nat_lt (length (bytes_of b) + 0 + reserve_of (shape_of b) + 8 * length (pending_of K.kinds b) + island_margin + 2) code_limit in
    λ unspoiled.
    let parts : (few ≡ true) × (fit ≡ true) = and_parts few fit (sym (ap (λ spoiled. spoiled || (few && fit)) unspoiled) ∙ sym c.has_room.ensures ∙ c.if-not-has_room.false) in
    let fits : length (bytes_of b) + 0 + reserve_of (shape_of b) + 8 * length (pending_of K.kinds b) + island_margin + 2 < code_limit = ltb-true _ _ parts.1 in
    let room : length (bytes_of b) + 8 * length (pending_of K.kinds b) + reserve_of (shape_of b) + 2 < code_limit = omega (arith, fits) in
    can_finish e.kept e.bound room
