-- Registers of 64 bits, and their low words of 32, as integers: "4.2 Integer Computational Instructions" of RV64I.
use Rattle.std.specs.Prelude.{ℕ, ◌/◌, ◌%◌, ◌^◌, ℤ}
use Rattle.std.specs.Int.{cast_signed, cast_unsigned}
use mir.Syntax.{w32, w128}
use Rattle.rv_machine.specs.State.{low64}
pub use Rattle.rv_base.specs.CondCodes.{signed64, signed_below}

-- the low 32 bits of a register
abbrev pub low_word : ℕ → ℕ
low_word x = x % 2 ^ 32

-- they, read as a signed integer
abbrev pub signed32 : ℕ → ℤ
signed32 x = cast_signed w32 (low_word x)

-- they, sign-extended to 64 bits
abbrev pub extend_word : ℕ → ℕ
extend_word x = low64 (signed32 x)

-- the upper 64 of the 128 bits of a signed integer
abbrev pub high64 : ℤ → ℕ
high64 z = cast_unsigned w128 z / 2 ^ 64
