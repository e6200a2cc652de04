-- The registers that hold one value.
use Rattle.std.specs.Prelude.{ℕ}
use Rattle.rv_base.specs.declared.value_regs.ValueRegs.{ValueRegs}
use Rattle.rv_base.specs.declared.value_regs.ValueRegs.TheVariants.{One, Two}

abbrev pub count_of : {R : Type 0} → ValueRegs R → ℕ
count_of (One r) = 1
count_of (Two r s) = 2
