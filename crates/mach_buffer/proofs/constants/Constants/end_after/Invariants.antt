use Rattle.std.proofs.Common.{◌≡◌, drop, length}
use Rattle.mach_buffer.proofs.Words.{constants_end}
use Rattle.mach_buffer.proofs.constants.Constants.end_after.Given as goal

abbrev pub invariant-loop-index : goal.invariant-loop-index
invariant-loop-index l = constants_end l.self.registered.items (drop l.index l.self.named.items) l.end ≡ constants_end l.self.registered.items (drop (length l.self.placed.items) l.self.named.items) l.start
