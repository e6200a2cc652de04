-- Numbers in registers of 64 bits: "NaN Boxing of Narrower Values" and "NaN Generation and Propagation" of "F" and "D". The numbers are
-- those of IEEE 754.
use Rattle.std.specs.Prelude.{ℕ, ◌+◌, ◌-◌, ◌%◌, ◌/◌, ◌^◌, ◌==◌, if◌then◌else◌, Option, Some, None, to_bits, from_bits}
use lib.Ieee.{Float, Format, binary32, binary64}
use Rattle.rv_machine.specs.declared.ops.FloatFormat.{FloatFormat}
use Rattle.rv_machine.specs.declared.ops.FloatFormat.TheVariants.{H, S, D}
use Rattle.rv_host.specs.declared.numbers.Operands.{Operands}
use Rattle.rv_host.specs.declared.numbers.Precision.{Precision}
use Rattle.rv_host.specs.declared.numbers.Precision.TheVariants.{Single, Double}

abbrev pub precision_of : FloatFormat → Option Precision
precision_of H = None
precision_of S = Some Single
precision_of D = Some Double

abbrev pub ieee : Precision → Format
ieee Single = binary32
ieee Double = binary64

-- the NaN that operations give
abbrev pub canonical : Format → ℕ
canonical binary32 = 0x7fc0_0000
canonical binary64 = 0x7ff8_0000_0000_0000

-- the bits of the number in a register; a single has ones above it, and else counts as the canonical NaN
abbrev pub unboxed : Format → ℕ → ℕ
unboxed binary32 register = if register / 2 ^ 32 == 2 ^ 32 - 1 then register % 2 ^ 32 else canonical binary32
unboxed binary64 register = register

abbrev pub boxed : Format → ℕ → ℕ
boxed binary32 bits = bits + (2 ^ 64 - 2 ^ 32)
boxed binary64 bits = bits

-- the number in a register
abbrev pub number : Format → ℕ → Float
number f register = from_bits f (unboxed f register)

-- a register that has a number; of a NaN these bits are the canonical one's
abbrev pub put : Format → Float → ℕ
put f x = boxed f (to_bits f x)

-- the numbers that an operation reads
abbrev pub first : Precision → Operands → Float
first p o = number (ieee p) o.first

abbrev pub second : Precision → Operands → Float
second p o = number (ieee p) o.second

abbrev pub third : Precision → Operands → Float
third p o = number (ieee p) o.third
