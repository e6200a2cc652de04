use Rattle.rv_loops.proofs.SharedLoops.{loop_runs}
use Rattle.rv_loops.proofs.laws.loops_run.Goals as goal
use Rattle.std.proofs.Common.{◌≡◌, true, ℕ}

pub returns : goal.returns
returns c = λ test. loop_runs (λ regs. (k : ℕ) → test k regs ≡ true)
