-- Registers that words hold.
use Rattle.std.specs.Prelude.{◌≡◌, ◌<◌, ◌≤◌, IsSome, IsSomeAnd}
use Rattle.rv_base.specs.declared.regs.PReg.{PReg}
use Rattle.rv_base.specs.declared.regs.Reg.{Reg}
use Rattle.rv_base.specs.declared.regs.RegClass.TheVariants.{Int}
use Rattle.rv_base.specs.Regs.{real_of}

-- a register of the machine
abbrev pub IsRealRegister : Reg → Type 0
IsRealRegister r = IsSome (real_of r)

-- one of the integer file
abbrev pub IsIntRegister : Reg → Type 0
IsIntRegister r = IsSomeAnd (real_of r) (λ p. p.class ≡ Int)

-- one that three bits of a halfword name, of any file: from 8 to 15
pub record IsShort (p : PReg) : Type 0 where
  pub low : 8 ≤ p.number
  pub high : p.number < 16

abbrev pub IsShortRegister : Reg → Type 0
IsShortRegister r = IsSomeAnd (real_of r) (λ p. IsShort p)
