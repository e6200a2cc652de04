use Rattle.std.proofs.Common.{◌≡◌, length}
use Rattle.rv_run.specs.Output.{file}
use Rattle.rv_run.proofs.program.registers_of.Given as goal

abbrev pub invariant-loop-n : goal.invariant-loop-n
invariant-loop-n l = record {
  values : l.registers ≡ file l.n l.machine.full.state.values;
  count : length l.registers ≡ l.n;
}
