-- "Zbc", Carry-less Multiplication, and "Zbkb", Bit Manipulation for Cryptography: what the operations compute of rs1 and rs2.
use Rattle.std.specs.Prelude.{ℕ, zero, suc, ◌+◌, ◌*◌, ◌/◌, ◌%◌, ◌^◌, ◌==◌, if◌then◌else◌, bit_xor}
use Rattle.std.specs.Int.{swap_bytes, reverse_bits}
use mir.Syntax.{w64}
use Rattle.rv_machine.specs.declared.decoding.Decoded.{Decoded}
use Rattle.rv_machine.specs.declared.ops.CarryOp.{CarryOp}
use Rattle.rv_machine.specs.declared.ops.CarryOp.TheVariants.{Clmul, Clmulh, Clmulr, Pack, Packh, Packw, Brev8}
use Rattle.rv_machine.specs.Arithmetic.{low_word, extend_word}
use Rattle.rv_full.specs.Units.{FullValues}
use Rattle.rv_full.specs.Rows.{Row, Does, x_of, y_of, put_x}

-- x shifted by i where bit i of y is 1
abbrev pub partial : ℕ → ℕ → ℕ → ℕ
partial x y i = if y / 2 ^ i % 2 == 1 then x * 2 ^ i else 0

-- the carry-less product of x and the low n bits of y: a sum without carries
abbrev pub product : ℕ → ℕ → ℕ → ℕ
product x y zero = 0
product x y (suc i) = bit_xor (product x y i) (partial x y i)

abbrev pub carry_result : CarryOp → ℕ → ℕ → ℕ
carry_result Clmul x y = product x y 64 % 2 ^ 64
carry_result Clmulh x y = product x y 64 / 2 ^ 64
carry_result Clmulr x y = product x y 64 / 2 ^ 63 % 2 ^ 64
carry_result Pack x y = low_word x + low_word y * 2 ^ 32
carry_result Packh x y = x % 2 ^ 8 + y % 2 ^ 8 * 2 ^ 8
carry_result Packw x y = extend_word (x % 2 ^ 16 + y % 2 ^ 16 * 2 ^ 16)
-- the bits in each byte reversed: all of them, and then the bytes back in their order
carry_result Brev8 x y = swap_bytes w64 (reverse_bits w64 x)

abbrev pub carry_row : CarryOp → Decoded → FullValues → Row
carry_row op d v = Does (put_x d (carry_result op (x_of d v) (y_of d v)) v)
