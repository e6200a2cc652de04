-- Registers: their class, their number, and what a real one is.
use Rattle.std.specs.Prelude.{◌≡◌, ℕ, ◌<◌, Option, Some, None}
use Rattle.std.proofs.Common.{lit<}
use Rattle.rv_base.specs.declared.regs.RegClass.{RegClass}
use Rattle.rv_base.specs.declared.regs.RegClass.TheVariants.{Int}
use Rattle.rv_base.specs.declared.regs.PReg.{PReg}
use Rattle.rv_base.specs.declared.regs.Reg.{Reg}
use Rattle.rv_base.specs.declared.regs.Reg.TheVariants.{Real, Virtual}

abbrev pub class_of : Reg → RegClass
class_of (Real p) = p.class
class_of (Virtual class index) = class

-- the machine's register, where there is one
abbrev pub real_of : Reg → Option PReg
real_of (Real p) = Some p
real_of (Virtual class index) = None

-- the number that instructions hold; 0 for a virtual register, which no instruction holds
abbrev pub number_of : Reg → ℕ
number_of (Real p) = p.number
number_of (Virtual class index) = 0

abbrev pub IsPReg : PReg → RegClass → ℕ → Type 0
IsPReg p class number = (p.class ≡ class) × (p.number ≡ number)

-- a real register of this class and number
abbrev pub IsReal : Reg → RegClass → ℕ → Type 0
IsReal (Real p) class number = IsPReg p class number
IsReal (Virtual other index) class number = ⊥

-- a virtual register of this index and class
abbrev pub IsVirtualOf : Reg → ℕ → RegClass → Type 0
IsVirtualOf (Real p) index class = ⊥
IsVirtualOf (Virtual file at) index class = (at.value ≡ index) × (file ≡ class)

-- a register's place in the order of its file: a real one's number, and above it a virtual one's index
abbrev pub index_of : Reg → ℕ
index_of (Real p) = p.number
index_of (Virtual class index) = index.value

-- the integer register of a number
abbrev pub int_reg : (number : ℕ) → number < 32 → Reg
int_reg number in_file = Real (record { class = Int; number = number; in_file = in_file })

abbrev pub stack_pointer : Reg
stack_pointer = int_reg 2 (lit< tt)

abbrev pub frame_pointer : Reg
frame_pointer = int_reg 8 (lit< tt)
