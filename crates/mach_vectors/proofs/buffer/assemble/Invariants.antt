use Rattle.std.specs.Prelude.{◌≡◌}
use Rattle.mach_buffer.specs.Buffer.{registered_of}
use Rattle.mach_buffer.specs.Kept.{IsKept}
use Rattle.mach_vectors.proofs.buffer.assemble.Given as goal

abbrev pub invariant-loop-item : goal.invariant-loop-item
invariant-loop-item g l = let K = g.L.MachInstLabelUse in IsKept K.kinds 4 l.buffer × (registered_of l.buffer ≡ l.fn.constants)
