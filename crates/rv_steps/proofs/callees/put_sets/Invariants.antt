use Rattle.std.proofs.Common.{◌≡◌, ◌++◌, drop}
use Rattle.rv_steps.specs.Tracing.{sets_text}
use Rattle.rv_steps.proofs.callees.put_sets.Given as goal

abbrev pub invariant-loop-register : goal.invariant-loop-register
invariant-loop-register l = l.out.items ++ sets_text (drop l.register-index l.registers) ≡ l.initial.out.items ++ sets_text l.registers
