use Rattle.std.proofs.Common.{◌≡◌, ◌++◌}
use Rattle.rv_run.specs.Memory.{row_bytes}
use Rattle.rv_run.proofs.memory.put_bytes.Given as goal

abbrev pub invariant-loop-n : goal.invariant-loop-n
invariant-loop-n l = l.out.items ≡ l.initial.out.items ++ row_bytes l.machine.state.values.mem l.at l.n
