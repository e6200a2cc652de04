-- "M", Integer Multiplication and Division: what the operations compute of rs1 and rs2. Quotients are rounded to 0; one that
-- is too large keeps its low bits.
use Rattle.std.specs.Prelude.{ℕ, ◌-◌, ◌*◌, ◌/◌, ◌%◌, ◌^◌, ◌==◌, if◌then◌else◌, pos, ◌*ℤ◌, int_rem}
use Rattle.std.specs.Int.{int_wrapping_div}
use mir.Syntax.{w32, w64}
use Rattle.rv_machine.specs.declared.ops.MulOp.{MulOp}
use Rattle.rv_machine.specs.declared.ops.MulOp.TheVariants.{Mul, Mulh, Mulhsu, Mulhu, Div, Divu, Rem, Remu, Mulw, Divw, Divuw, Remw, Remuw}
use Rattle.rv_machine.specs.State.{wrap, low64}
use Rattle.rv_machine.specs.Arithmetic.{signed64, signed32, low_word, extend_word, high64}

-- what a division by 0 gives
abbrev pub all_ones : ℕ
all_ones = 2 ^ 64 - 1

abbrev pub mul_result : MulOp → ℕ → ℕ → ℕ
mul_result Mul x y = wrap (x * y)
mul_result Mulh x y = high64 (signed64 x *ℤ signed64 y)
mul_result Mulhsu x y = high64 (signed64 x *ℤ pos y)
mul_result Mulhu x y = x * y / 2 ^ 64
mul_result Div x y = if y == 0 then all_ones else low64 (int_wrapping_div w64 (signed64 x) (signed64 y))
mul_result Divu x y = if y == 0 then all_ones else x / y
mul_result Rem x y = if y == 0 then x else low64 (int_rem (signed64 x) (signed64 y))
mul_result Remu x y = if y == 0 then x else x % y
mul_result Mulw x y = extend_word (x * y)
mul_result Divw x y = if low_word y == 0 then all_ones else low64 (int_wrapping_div w32 (signed32 x) (signed32 y))
mul_result Divuw x y = if low_word y == 0 then all_ones else extend_word (low_word x / low_word y)
mul_result Remw x y = if low_word y == 0 then extend_word x else low64 (int_rem (signed32 x) (signed32 y))
mul_result Remuw x y = if low_word y == 0 then extend_word x else extend_word (low_word x % low_word y)
