use Rattle.std.proofs.Common.{◌≡◌, ◌++◌, drop}
use Rattle.rv_run.specs.Memory.{row_lines}
use Rattle.rv_run.proofs.memory.put_rows.Given as goal

abbrev pub invariant-loop-row : goal.invariant-loop-row
invariant-loop-row l = l.out.items ++ row_lines l.machine.state.values.mem (drop l.row-index l.rows) ≡ l.initial.out.items ++ row_lines l.machine.state.values.mem l.rows
