use Rattle.std.proofs.Common.{◌≡◌, drop}
use Rattle.rv_steps.specs.Starting.{with_registers_of}
use Rattle.rv_steps.proofs.starting.put_registers.Given as goal

abbrev pub invariant-loop-register : goal.invariant-loop-register
invariant-loop-register l = record {
  put : with_registers_of l.machine (drop l.register-index l.registers) ≡ with_registers_of l.initial.machine l.registers;
  flags : l.machine.flags ≡ l.initial.machine.flags;
}
