use Rattle.std.proofs.Common.{◌≡◌, false, map, take}
use Rattle.mach_buffer.proofs.Words.{Constant}
use Rattle.mach_buffer.proofs.constants.Constants.register.Given as goal

abbrev pub invariant-loop-constant : goal.invariant-loop-constant
invariant-loop-constant l =
    (l.self.registered.items ≡ take l.constant-index l.constants) × (l.self.seen.items ≡ map (λ (c : Constant). false) (take l.constant-index l.constants))
    × (l.self.named ≡ l.initial.self.named) × (l.self.placed ≡ l.initial.self.placed)
