use Rattle.std.proofs.Common.{◌≡◌}
use Rattle.rv_full.specs.Vectors.{bytes_at}
use Rattle.rv_full.proofs.machine.FullMachine.bytes_at.Given as goal

abbrev pub invariant-loop-n : goal.invariant-loop-n
invariant-loop-n l = l.bytes ≡ bytes_at l.self.full.state.values.mem l.at l.n
