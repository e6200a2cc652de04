-- "B", Bit Manipulation: what the operations of Zba, Zbb and Zbs compute of rs1, rs2 and their immediate.
use Rattle.std.specs.Prelude.{ℕ, ◌+◌, ◌*◌, ◌%◌, ◌^◌, ◌==◌, if◌then◌else◌, min, max, map, bit_and, bit_or, bit_xor, count_ones}
use Rattle.std.specs.Int.{bit_at, bit_not, leading_zeros, trailing_zeros, rotate_left, rotate_right, swap_bytes, from_le_bytes, to_le_bytes, cast_signed}
use mir.Syntax.{w8, w16, w32, w64}
use Rattle.rv_machine.specs.declared.ops.BitOp.{BitOp}
use Rattle.rv_machine.specs.declared.ops.BitOp.TheVariants.{AddUw, Sh1add, Sh1addUw, Sh2add, Sh2addUw, Sh3add, Sh3addUw, SlliUw, Andn, Orn, Xnor, Clz, Clzw, Ctz, Ctzw, Cpop, Cpopw, Max, Maxu, Min, Minu, SextB, SextH, ZextH, Rol, Rolw, Ror, Rori, Roriw, Rorw, OrcB, Rev8, Bclr, Bclri, Bext, Bexti, Binv, Binvi, Bset, Bseti}
use Rattle.rv_machine.specs.State.{wrap, low64}
use Rattle.rv_machine.specs.Arithmetic.{signed_below, low_word, extend_word}

-- all ones where any bit of a byte is
abbrev pub spread : ℕ → ℕ
spread b = if b == 0 then 0 else 255

abbrev pub bit_result : BitOp → ℕ → ℕ → ℕ → ℕ
bit_result AddUw x y imm = wrap (y + low_word x)
bit_result Sh1add x y imm = wrap (y + x * 2)
bit_result Sh1addUw x y imm = wrap (y + low_word x * 2)
bit_result Sh2add x y imm = wrap (y + x * 4)
bit_result Sh2addUw x y imm = wrap (y + low_word x * 4)
bit_result Sh3add x y imm = wrap (y + x * 8)
bit_result Sh3addUw x y imm = wrap (y + low_word x * 8)
bit_result SlliUw x y imm = wrap (low_word x * 2 ^ (imm % 64))
bit_result Andn x y imm = bit_and x (bit_not w64 y)
bit_result Orn x y imm = bit_or x (bit_not w64 y)
bit_result Xnor x y imm = bit_not w64 (bit_xor x y)
bit_result Clz x y imm = leading_zeros w64 x
bit_result Clzw x y imm = leading_zeros w32 (low_word x)
bit_result Ctz x y imm = trailing_zeros w64 x
bit_result Ctzw x y imm = trailing_zeros w32 (low_word x)
bit_result Cpop x y imm = count_ones x
bit_result Cpopw x y imm = count_ones (low_word x)
bit_result Max x y imm = if signed_below x y then y else x
bit_result Maxu x y imm = max x y
bit_result Min x y imm = if signed_below x y then x else y
bit_result Minu x y imm = min x y
bit_result SextB x y imm = low64 (cast_signed w8 (x % 2 ^ 8))
bit_result SextH x y imm = low64 (cast_signed w16 (x % 2 ^ 16))
bit_result ZextH x y imm = x % 2 ^ 16
bit_result Rol x y imm = rotate_left w64 x (y % 64)
bit_result Rolw x y imm = extend_word (rotate_left w32 (low_word x) (y % 32))
bit_result Ror x y imm = rotate_right w64 x (y % 64)
bit_result Rori x y imm = rotate_right w64 x (imm % 64)
bit_result Roriw x y imm = extend_word (rotate_right w32 (low_word x) (imm % 32))
bit_result Rorw x y imm = extend_word (rotate_right w32 (low_word x) (y % 32))
bit_result OrcB x y imm = from_le_bytes w64 (map spread (to_le_bytes w64 x))
bit_result Rev8 x y imm = swap_bytes w64 x
bit_result Bclr x y imm = bit_and x (bit_not w64 (2 ^ (y % 64)))
bit_result Bclri x y imm = bit_and x (bit_not w64 (2 ^ (imm % 64)))
bit_result Bext x y imm = bit_at x (y % 64)
bit_result Bexti x y imm = bit_at x (imm % 64)
bit_result Binv x y imm = bit_xor x (2 ^ (y % 64))
bit_result Binvi x y imm = bit_xor x (2 ^ (imm % 64))
bit_result Bset x y imm = bit_or x (2 ^ (y % 64))
bit_result Bseti x y imm = bit_or x (2 ^ (imm % 64))
