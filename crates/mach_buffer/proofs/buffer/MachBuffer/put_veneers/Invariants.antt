use Rattle.std.proofs.Common.{◌≡◌, drop, map}
use Rattle.mach_buffer.proofs.Words.{key_number, shape_of, inside_of, spoiled_of}
use Rattle.mach_buffer.proofs.VeneersAndConstants.{Going}
use Rattle.mach_buffer.proofs.buffer.MachBuffer.put_veneers.Given as goal

abbrev pub invariant-loop-key : goal.invariant-loop-key
invariant-loop-key g l =
    let K = g.L.MachInstLabelUse in
    Going K.kinds (drop l.key-index (map key_number l.order)) (map key_number l.order) (shape_of l.initial.self) (shape_of l.self)
    × (inside_of l.self ≡ inside_of l.initial.self) × (spoiled_of l.self ≡ spoiled_of l.initial.self)
