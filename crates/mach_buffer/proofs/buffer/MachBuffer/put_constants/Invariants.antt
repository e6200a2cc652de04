use Rattle.std.proofs.Common.{◌≡◌, drop}
use Rattle.mach_buffer.proofs.Words.{shape_of, inside_of, spoiled_of}
use Rattle.mach_buffer.proofs.ConstantsPut.{Putting}
use Rattle.mach_buffer.proofs.buffer.MachBuffer.put_constants.Given as goal

abbrev pub invariant-loop-index : goal.invariant-loop-index
invariant-loop-index g l =
    Putting (drop l.index l.initial.self.constants.named.items) (shape_of l.initial.self) (shape_of l.self)
    × (l.self.constants.named ≡ l.initial.self.constants.named) × (inside_of l.self ≡ inside_of l.initial.self) × (spoiled_of l.self ≡ spoiled_of l.initial.self)
