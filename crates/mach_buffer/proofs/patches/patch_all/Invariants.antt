use Rattle.std.proofs.Common.{◌≡◌, length}
use Rattle.mach_buffer.proofs.Words.{place_in, patches_of}
use Rattle.mach_buffer.proofs.Windows.{Progress}
use Rattle.mach_buffer.proofs.patches.patch_all.Given as goal

abbrev pub invariant-loop-u : goal.invariant-loop-u
invariant-loop-u g l = Progress g.L.MachInstLabelUse.kinds l.initial.bytes l.bytes (patches_of (place_in l.labels) l.uses) l.u-index × (length l.bytes ≡ length l.initial.bytes)
