use Rattle.std.proofs.Common.{◌≡◌}
use Rattle.rv_full.specs.Vectors.{moved}
use Rattle.rv_full.specs.Steps.{with_own}
use Rattle.rv_full.proofs.machine.FullMachine.move_registers.Given as goal

abbrev pub invariant-loop-n : goal.invariant-loop-n
invariant-loop-n l = l.self ≡ with_own l.fn.self (moved l.fn.self.full.units l.fn.from l.fn.to l.n)
