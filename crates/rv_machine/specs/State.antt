-- States of the machine: registers, memory and program counter. Registers hold 64 bits, and addresses wrap at 2 ^ 64.
use Rattle.std.specs.Prelude.{◌≡◌, ℕ, zero, suc, ◌+◌, ◌-◌, ◌*◌, ◌%◌, ◌^◌, ◌<◌, nat_lt, if◌then◌else◌, List, [], ◌∷◌, length, slice_index, slice_set, ℤ, pos, negsuc, unwrap_or}
use Rattle.std.specs.Int.{cast_unsigned}
use mir.Syntax.{w64}
use Rattle.std.specs.FinMap as map
use Rattle.std.specs.FinMap.{FinMap}
use Rattle.std.specs.Ordering.{nat_cmp}

-- bytes by their addresses
abbrev pub Memory : Type 0
Memory = FinMap nat_cmp ℕ

-- the byte at an address, 0 where nothing was put
abbrev pub byte : Memory → ℕ → ℕ
byte mem at = unwrap_or (map.get mem at) 0

abbrev pub wrap : ℕ → ℕ
wrap n = n % 2 ^ 64

-- bytes put at an address and on
abbrev pub store : Memory → ℕ → List ℕ → Memory
store mem at [] = mem
store mem at (b ∷ bs) = store (map.insert mem at b) (wrap (at + 1)) bs

-- the registers x1 to x31, and the memory
pub record Values : Type 0 where
  pub regs : List ℕ
  pub mem : Memory

pub record State : Type 0 where
  pub pc : ℕ
  pub values : Values

-- x0 reads 0
abbrev pub reg_of : List ℕ → ℕ → ℕ
reg_of regs zero = 0
reg_of regs (suc n) = slice_index regs n

-- x0 drops what is written
abbrev pub set_reg_of : List ℕ → ℕ → ℕ → List ℕ
set_reg_of regs zero v = regs
set_reg_of regs (suc n) v = slice_set regs n v

abbrev pub reg : Values → ℕ → ℕ
reg v n = reg_of v.regs n

abbrev pub set_reg : Values → ℕ → ℕ → Values
set_reg v n x = record { regs = set_reg_of v.regs n x; mem = v.mem }

abbrev pub at : ℕ → Values → State
at pc v = record { pc = pc; values = v }

-- each number is in its range
pub record AreValues (v : Values) : Type 0 where
  pub count : length v.regs ≡ 31
  pub fits : (n : ℕ) → reg v n < 2 ^ 64
  pub bytes : (a : ℕ) → byte v.mem a < 256

pub record IsState (s : State) : Type 0 where
  pub pc : s.pc < 2 ^ 64
  pub values : AreValues s.values

-- a signed number modulo 2 ^ 64
abbrev pub low64 : ℤ → ℕ
low64 z = cast_unsigned w64 z

-- n read as a signed number, half of whose range is given
abbrev pub signed : ℕ → ℕ → ℤ
signed half n = if nat_lt n half then pos n else negsuc (2 * half - suc n)
