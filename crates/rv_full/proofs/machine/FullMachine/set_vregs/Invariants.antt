use Rattle.std.proofs.Common.{◌≡◌, true, drop}
use Rattle.rv_full.specs.Rows.{all_low}
use Rattle.rv_full.specs.Vectors.{set_vregs}
use Rattle.rv_full.specs.Steps.{with_own}
use Rattle.rv_full.proofs.machine.FullMachine.set_vregs.Given as goal

abbrev pub invariant-loop-register : goal.invariant-loop-register
invariant-loop-register l = record {
  keeps : with_own l.self (set_vregs l.self.full.units (drop l.register-index l.registers)) ≡ with_own l.fn.self (set_vregs l.fn.self.full.units l.fn.registers);
  low : all_low (drop l.register-index l.registers) ≡ true;
}
