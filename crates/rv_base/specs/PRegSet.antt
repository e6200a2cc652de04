-- Sets of the machine's registers.
use Rattle.std.specs.Prelude.{ℕ, Bool, ◌==◌}
use Rattle.std.specs.Int.{bit_at}
use Rattle.rv_base.specs.declared.regs.RegClass.{RegClass}
use Rattle.rv_base.specs.declared.regs.RegClass.TheVariants.{Int, Float, Vector}
use Rattle.rv_base.specs.declared.preg_set.PRegSet.{PRegSet}

-- the set's numbers in a file, each as a bit
abbrev pub numbers_of : PRegSet → RegClass → ℕ
numbers_of set Int = set.int
numbers_of set Float = set.float
numbers_of set Vector = set.vector

-- whether the register of this file and number is in the set
abbrev pub contains : PRegSet → RegClass → ℕ → Bool
contains set class number = bit_at (numbers_of set class) number == 1
