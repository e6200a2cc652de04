use Rattle.std.proofs.Common.{◌≡◌, ◌<◌, ℕ}
use Rattle.rv_base.specs.declared.regs.RegClass.TheVariants.{Float}
use Rattle.rv_base.specs.RegNames.{real_name}
use Rattle.rv_disasm.proofs.reading.float_register.Given as goal

abbrev pub invariant-loop-number : goal.invariant-loop-number
invariant-loop-number l = (k : ℕ) → k < l.number → l.token ≡ real_name Float k → ⊥
