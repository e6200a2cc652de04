use Rattle.std.proofs.Common.{◌≡◌, drop}
use Rattle.rv_steps.specs.Starting.{with_memory_of}
use Rattle.rv_steps.proofs.starting.put_memory.Given as goal

abbrev pub invariant-loop-data : goal.invariant-loop-data
invariant-loop-data l = record {
  put : with_memory_of l.machine (drop l.data-index l.memory) ≡ with_memory_of l.initial.machine l.memory;
  flags : l.machine.flags ≡ l.initial.machine.flags;
}
