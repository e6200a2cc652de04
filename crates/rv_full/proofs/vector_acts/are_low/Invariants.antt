use Rattle.std.proofs.Common.{◌≡◌, drop}
use Rattle.rv_full.specs.Rows.{all_low}
use Rattle.rv_full.proofs.vector_acts.are_low.Given as goal

abbrev pub invariant-loop-register : goal.invariant-loop-register
invariant-loop-register l = all_low (drop l.register-index l.registers) ≡ all_low l.fn.registers
