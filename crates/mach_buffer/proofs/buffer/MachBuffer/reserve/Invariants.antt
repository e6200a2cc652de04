use Rattle.std.proofs.Common.{◌≡◌, ◌+◌, ◌*◌, ◌≤◌, drop}
use Rattle.mach_buffer.proofs.Words.{reserve_from, reserve_of, shape_of, place_of}
use Rattle.mach_buffer.proofs.buffer.MachBuffer.reserve.Given as goal

abbrev pub invariant-loop-constant : goal.invariant-loop-constant
invariant-loop-constant g l =
    (l.sum + reserve_from (place_of l.self) l.constant-index (drop l.constant-index l.self.constants.registered.items) ≡ reserve_of (shape_of l.self))
    × (l.number ≡ l.constant-index) × (l.sum ≤ l.constant-index * 18446744073709551632)
