use Rattle.std.proofs.Common.{◌≡◌, ◌++◌, drop}
use Rattle.rv_run.specs.Memory.{rows_of}
use Rattle.rv_run.proofs.memory.rows_of.Given as goal

abbrev pub invariant-loop-address : goal.invariant-loop-address
invariant-loop-address l = l.rows.items ++ rows_of l.before.state.values.mem l.after.state.values.mem (drop l.address-index l.addresses) ≡ rows_of l.before.state.values.mem l.after.state.values.mem l.addresses
