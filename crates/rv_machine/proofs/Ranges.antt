-- What an operation computes of 64 bits has 64 bits.
use Rattle.std.proofs.Common.{ℕ, zero, suc, ◌-◌, ◌*◌, ◌/◌, ◌%◌, ◌^◌, ◌<◌, ◌≤◌, Bool, true, false, T, leb, [], ◌∷◌, map, if◌then◌else◌, ◌==◌, ℤ, pos, ◌*ℤ◌, int_div, int_rem, unsigned_abs, FitsSigned, bit_and, arith, lit<, lit≤, pow_pos, shr_lt, mul-le-mul, mod-lt, div-le_self, le_trans, lt_of_le_of_lt, lt_of_lt_of_le, w8, w16, w32, w64}
use mir.Syntax.{Width, w128}
use mir.Val.{bits, hbits}
use Rattle.std.proofs.Math.Nat.{mod-le}
use Rattle.std.proofs.Math.Pow.{ones_sub-lt, pow-lt}
use Rattle.std.proofs.Math.Facts.{sfits_widen, Fits-of_z, Fits-lt-pow}
use Rattle.std.proofs.lemmas.Nat.{and_le_l, or_lt, xor_lt, leading_le, trailing_le, ones-le}
use Rattle.std.proofs.lemmas.Nat.Bits.{bit_at-lt}
use Rattle.std.proofs.lemmas.Int.{ints, fits_signed_mul}
use Rattle.std.specs.Int.{from_bool, int_shr, int_wrapping_div, byte_at, cast_signed, cast_unsigned, bit_at, bit_not, rotate_left, rotate_right, swap_bytes, from_le_bytes, to_le_bytes}
use Rattle.std.specs.Int.Signed.{mag_shr, mag_rem}
use Rattle.rv_machine.specs.declared.ops.AluOp.{AluOp}
use Rattle.rv_machine.specs.declared.ops.AluOp.TheVariants.{Int as IntFamily, Mul as MulFamily, Bit}
use Rattle.rv_machine.specs.declared.ops.IntOp.{IntOp}
use Rattle.rv_machine.specs.declared.ops.IntOp.TheVariants.{Addi, Slti, Sltiu, Xori, Ori, Andi, Slli, Srli, Srai, Add, Sub, Sll, Slt, Sltu, Xor, Srl, Sra, Or, And, Addiw, Slliw, Srliw, Sraiw, Addw, Subw, Sllw, Srlw, Sraw, CzeroEqz, CzeroNez}
use Rattle.rv_machine.specs.declared.ops.MulOp.{MulOp}
use Rattle.rv_machine.specs.declared.ops.MulOp.TheVariants.{Mul, Mulh, Mulhsu, Mulhu, Div, Divu, Rem, Remu, Mulw, Divw, Divuw, Remw, Remuw}
use Rattle.rv_machine.specs.declared.ops.BitOp.{BitOp}
use Rattle.rv_machine.specs.declared.ops.BitOp.TheVariants.{AddUw, Sh1add, Sh1addUw, Sh2add, Sh2addUw, Sh3add, Sh3addUw, SlliUw, Andn, Orn, Xnor, Clz, Clzw, Ctz, Ctzw, Cpop, Cpopw, Max, Maxu, Min, Minu, SextB, SextH, ZextH, Rol, Rolw, Ror, Rori, Roriw, Rorw, OrcB, Rev8, Bclr, Bclri, Bext, Bexti, Binv, Binvi, Bset, Bseti}
use Rattle.rv_machine.specs.State.{wrap, low64}
use Rattle.rv_machine.specs.Arithmetic.{signed_below, signed64, signed32, low_word, extend_word, high64}
use Rattle.rv_machine.specs.Int.{int_result}
use Rattle.rv_machine.specs.MulDiv.{mul_result}
use Rattle.rv_machine.specs.Bits.{bit_result, spread}
use Rattle.rv_machine.specs.Effects.{alu_result}
use Rattle.rv_machine.proofs.Products.{size_below}

-- ---- by the kind of word

wrap_fits : (n : ℕ) → wrap n < 2 ^ 64
wrap_fits n = mod-lt n (pow_pos 64)

word_fits : (n : ℕ) → low_word n < 2 ^ 32
word_fits n = mod-lt n (pow_pos 32)

chosen_fits : (c : Bool) (x y n : ℕ) → x < n → y < n → (if c then x else y) < n
chosen_fits true x y n h g = h
chosen_fits false x y n h g = g

test_fits : (c : Bool) → from_bool c < 2 ^ 64
test_fits true = lit< tt
test_fits false = lit< tt

quotient_fits : (x y n : ℕ) → x < n → x / y < n
quotient_fits x y n h = lt_of_le_of_lt (div-le_self x y) h

rest_fits : (x y n : ℕ) → x < n → x % y < n
rest_fits x y n h = lt_of_le_of_lt (mod-le x y) h

and_fits : (x y n : ℕ) → x < n → bit_and x y < n
and_fits x y n h = lt_of_le_of_lt (and_le_l x y) h

not_fits : (w : Width) (n : ℕ) → bit_not w n < 2 ^ bits w
not_fits w n = ones_sub-lt (bits w) n

power_fits : (k : ℕ) → 2 ^ (k % 64) < 2 ^ 64
power_fits k = pow-lt (mod-lt k (lit< tt))

bit_at_fits : (n i : ℕ) → bit_at n i < 2 ^ 64
bit_at_fits n i = lt_of_lt_of_le (bit_at-lt n i) (lit≤ tt)

-- a count of at most 64 bits
count_fits : (n : ℕ) → n ≤ 64 → n < 2 ^ 64
count_fits n h = omega arith

left_fits : (w : Width) (n by : ℕ) → n < 2 ^ bits w → rotate_left w n by < 2 ^ bits w
left_fits w n by h = or_lt (bits w) _ _ (mod-lt _ (pow_pos (bits w))) (quotient_fits n _ (2 ^ bits w) h)

right_fits : (w : Width) (n by : ℕ) → n < 2 ^ bits w → rotate_right w n by < 2 ^ bits w
right_fits w n by h = or_lt (bits w) _ _ (quotient_fits n _ (2 ^ bits w) h) (mod-lt _ (pow_pos (bits w)))

-- ---- signed numbers and their bits

-- any bits, read as a signed number
read_fits : (w : Width) (n : ℕ) → FitsSigned w (cast_signed w n)
read_fits w n = omega (arith, ints)

low64_fits : (z : ℤ) → FitsSigned w64 z → low64 z < 2 ^ 64
low64_fits z h = Fits-lt-pow (Fits-of_z h)

-- a number of at most 64 bits, sign-extended
extended_fits : (w : Width) (n : ℕ) → T (leb (hbits w) (hbits w64)) → low64 (cast_signed w n) < 2 ^ 64
extended_fits w n t = low64_fits _ (sfits_widen t (read_fits w n))

extend_word_fits : (n : ℕ) → extend_word n < 2 ^ 64
extend_word_fits n = extended_fits w32 (low_word n) tt

shifted_fits : (z : ℤ) (k : ℕ) → FitsSigned w64 z → low64 (int_shr z k) < 2 ^ 64
shifted_fits z k h = low64_fits (int_shr z k) (record { sfits = lt_of_le_of_lt (mag_shr z (2 ^ k)) h.sfits })

signed_quotient_fits : (w : Width) (z d : ℤ) → T (leb (hbits w) (hbits w64)) → low64 (int_wrapping_div w z d) < 2 ^ 64
signed_quotient_fits w z d t = extended_fits w (cast_unsigned w (int_div z d)) t

signed_rest_fits : (z d : ℤ) → FitsSigned w64 z → low64 (int_rem z d) < 2 ^ 64
signed_rest_fits z d h = low64_fits (int_rem z d) (record { sfits = lt_of_le_of_lt (mag_rem z d) h.sfits })

signed64_fits : (x : ℕ) → FitsSigned w64 (signed64 x)
signed64_fits x = read_fits w64 x

signed32_fits : (x : ℕ) → FitsSigned w64 (signed32 x)
signed32_fits x = sfits_widen tt (read_fits w32 (low_word x))

high64_fits : (z : ℤ) → FitsSigned w128 z → high64 z < 2 ^ 64
high64_fits z h = shr_lt 64 64 (Fits-lt-pow (Fits-of_z h))

-- a product whose one factor may be unsigned
product_fits : (a b : ℤ) → unsigned_abs a ≤ 2 ^ 63 → unsigned_abs b < 2 ^ 64 → high64 (a *ℤ b) < 2 ^ 64
product_fits a b ha hb = high64_fits (a *ℤ b) (fits_signed_mul w128 a b (2 ^ 63) (2 ^ 64 - 1) ha (omega arith) (lit< tt))

-- the upper 64 bits of a product
upper_fits : (x y : ℕ) → x < 2 ^ 64 → y < 2 ^ 64 → x * y / 2 ^ 64 < 2 ^ 64
upper_fits x y hx hy =
    let a : x ≤ 2 ^ 64 - 1 = omega arith in
    let b : y ≤ 2 ^ 64 - 1 = omega arith in
    shr_lt 64 64 (lt_of_le_of_lt (mul-le-mul a b) (lit< tt))

-- ---- bytes

spread_fits : (n : ℕ) → spread n < 256
spread_fits n = chosen_fits (n == 0) 0 255 256 (lit< tt) (lit< tt)

-- a number of eight bytes
eight_fit : (a b c d e f g h : ℕ) → a < 256 → b < 256 → c < 256 → d < 256 → e < 256 → f < 256 → g < 256 → h < 256 → from_le_bytes w64 (a ∷ b ∷ c ∷ d ∷ e ∷ f ∷ g ∷ h ∷ []) < 2 ^ 64
eight_fit a b c d e f g h ha hb hc hd he hf hg hh = omega arith

-- each byte that is not 0 made all ones
combined_fits : (x : ℕ) → from_le_bytes w64 (map spread (to_le_bytes w64 x)) < 2 ^ 64
combined_fits x = eight_fit _ _ _ _ _ _ _ _ (spread_fits _) (spread_fits _) (spread_fits _) (spread_fits _) (spread_fits _) (spread_fits _) (spread_fits _) (spread_fits _)

-- the bytes in the opposite order
swapped_fits : (x : ℕ) → swap_bytes w64 x < 2 ^ 64
swapped_fits x =
    omega (arith, eight_fit (byte_at 7 x) (byte_at 6 x) (byte_at 5 x) (byte_at 4 x) (byte_at 3 x) (byte_at 2 x) (byte_at 1 x) (byte_at 0 x) (byte_at_fits 7) (byte_at_fits 6) (byte_at_fits 5) (byte_at_fits 4) (byte_at_fits 3) (byte_at_fits 2) (byte_at_fits 1) (byte_at_fits 0))
  where
    byte_at_fits : (i : ℕ) → byte_at i x < 256
    byte_at_fits zero = mod-lt x (lit< tt)
    byte_at_fits (suc i) = mod-lt _ (lit< tt)

-- ---- by family

pub int_fits : (op : IntOp) (x y imm : ℕ) → x < 2 ^ 64 → y < 2 ^ 64 → imm < 2 ^ 64 → int_result op x y imm < 2 ^ 64
int_fits Addi x y imm hx hy hi = wrap_fits _
int_fits Slti x y imm hx hy hi = test_fits _
int_fits Sltiu x y imm hx hy hi = test_fits _
int_fits Xori x y imm hx hy hi = xor_lt 64 x imm hx hi
int_fits Ori x y imm hx hy hi = or_lt 64 x imm hx hi
int_fits Andi x y imm hx hy hi = and_fits x imm (2 ^ 64) hx
int_fits Slli x y imm hx hy hi = wrap_fits _
int_fits Srli x y imm hx hy hi = quotient_fits x _ (2 ^ 64) hx
int_fits Srai x y imm hx hy hi = shifted_fits _ _ (signed64_fits x)
int_fits Add x y imm hx hy hi = wrap_fits _
int_fits Sub x y imm hx hy hi = wrap_fits _
int_fits Sll x y imm hx hy hi = wrap_fits _
int_fits Slt x y imm hx hy hi = test_fits _
int_fits Sltu x y imm hx hy hi = test_fits _
int_fits Xor x y imm hx hy hi = xor_lt 64 x y hx hy
int_fits Srl x y imm hx hy hi = quotient_fits x _ (2 ^ 64) hx
int_fits Sra x y imm hx hy hi = shifted_fits _ _ (signed64_fits x)
int_fits Or x y imm hx hy hi = or_lt 64 x y hx hy
int_fits And x y imm hx hy hi = and_fits x y (2 ^ 64) hx
int_fits Addiw x y imm hx hy hi = extend_word_fits _
int_fits Slliw x y imm hx hy hi = extend_word_fits _
int_fits Srliw x y imm hx hy hi = extend_word_fits _
int_fits Sraiw x y imm hx hy hi = shifted_fits _ _ (signed32_fits x)
int_fits Addw x y imm hx hy hi = extend_word_fits _
int_fits Subw x y imm hx hy hi = extend_word_fits _
int_fits Sllw x y imm hx hy hi = extend_word_fits _
int_fits Srlw x y imm hx hy hi = extend_word_fits _
int_fits Sraw x y imm hx hy hi = shifted_fits _ _ (signed32_fits x)
int_fits CzeroEqz x y imm hx hy hi = chosen_fits (y == 0) 0 x (2 ^ 64) (lit< tt) hx
int_fits CzeroNez x y imm hx hy hi = chosen_fits (y == 0) x 0 (2 ^ 64) hx (lit< tt)

pub mul_fits : (op : MulOp) (x y : ℕ) → x < 2 ^ 64 → y < 2 ^ 64 → mul_result op x y < 2 ^ 64
mul_fits Mul x y hx hy = wrap_fits _
mul_fits Mulh x y hx hy = product_fits (signed64 x) (signed64 y) (size_below _ (signed64_fits x)) (lt_of_le_of_lt (size_below _ (signed64_fits y)) (lit< tt))
mul_fits Mulhsu x y hx hy = product_fits (signed64 x) (pos y) (size_below _ (signed64_fits x)) hy
mul_fits Mulhu x y hx hy = upper_fits x y hx hy
mul_fits Div x y hx hy = chosen_fits (y == 0) _ _ (2 ^ 64) (lit< tt) (signed_quotient_fits w64 (signed64 x) (signed64 y) tt)
mul_fits Divu x y hx hy = chosen_fits (y == 0) _ _ (2 ^ 64) (lit< tt) (quotient_fits x y (2 ^ 64) hx)
mul_fits Rem x y hx hy = chosen_fits (y == 0) _ _ (2 ^ 64) hx (signed_rest_fits _ _ (signed64_fits x))
mul_fits Remu x y hx hy = chosen_fits (y == 0) _ _ (2 ^ 64) hx (rest_fits x y (2 ^ 64) hx)
mul_fits Mulw x y hx hy = extend_word_fits _
mul_fits Divw x y hx hy = chosen_fits (low_word y == 0) _ _ (2 ^ 64) (lit< tt) (signed_quotient_fits w32 (signed32 x) (signed32 y) tt)
mul_fits Divuw x y hx hy = chosen_fits (low_word y == 0) _ _ (2 ^ 64) (lit< tt) (extend_word_fits _)
mul_fits Remw x y hx hy = chosen_fits (low_word y == 0) _ _ (2 ^ 64) (extend_word_fits x) (signed_rest_fits _ _ (signed32_fits x))
mul_fits Remuw x y hx hy = chosen_fits (low_word y == 0) _ _ (2 ^ 64) (extend_word_fits x) (extend_word_fits _)

pub bit_fits : (op : BitOp) (x y imm : ℕ) → x < 2 ^ 64 → y < 2 ^ 64 → imm < 2 ^ 64 → bit_result op x y imm < 2 ^ 64
bit_fits AddUw x y imm hx hy hi = wrap_fits _
bit_fits Sh1add x y imm hx hy hi = wrap_fits _
bit_fits Sh1addUw x y imm hx hy hi = wrap_fits _
bit_fits Sh2add x y imm hx hy hi = wrap_fits _
bit_fits Sh2addUw x y imm hx hy hi = wrap_fits _
bit_fits Sh3add x y imm hx hy hi = wrap_fits _
bit_fits Sh3addUw x y imm hx hy hi = wrap_fits _
bit_fits SlliUw x y imm hx hy hi = wrap_fits _
bit_fits Andn x y imm hx hy hi = and_fits x _ (2 ^ 64) hx
bit_fits Orn x y imm hx hy hi = or_lt 64 x _ hx (not_fits w64 y)
bit_fits Xnor x y imm hx hy hi = not_fits w64 _
bit_fits Clz x y imm hx hy hi = count_fits _ (leading_le 64 x)
bit_fits Clzw x y imm hx hy hi = count_fits _ (le_trans (leading_le 32 (low_word x)) (lit≤ tt))
bit_fits Ctz x y imm hx hy hi = count_fits _ (trailing_le 64 x)
bit_fits Ctzw x y imm hx hy hi = count_fits _ (le_trans (trailing_le 32 (low_word x)) (lit≤ tt))
bit_fits Cpop x y imm hx hy hi = count_fits _ (ones-le 64 x hx)
bit_fits Cpopw x y imm hx hy hi = count_fits _ (le_trans (ones-le 32 (low_word x) (word_fits x)) (lit≤ tt))
bit_fits Max x y imm hx hy hi = chosen_fits (signed_below x y) y x (2 ^ 64) hy hx
bit_fits Maxu x y imm hx hy hi = omega arith
bit_fits Min x y imm hx hy hi = chosen_fits (signed_below x y) x y (2 ^ 64) hx hy
bit_fits Minu x y imm hx hy hi = omega arith
bit_fits SextB x y imm hx hy hi = extended_fits w8 (x % 2 ^ 8) tt
bit_fits SextH x y imm hx hy hi = extended_fits w16 (x % 2 ^ 16) tt
bit_fits ZextH x y imm hx hy hi = rest_fits x (2 ^ 16) (2 ^ 64) hx
bit_fits Rol x y imm hx hy hi = left_fits w64 x _ hx
bit_fits Rolw x y imm hx hy hi = extend_word_fits _
bit_fits Ror x y imm hx hy hi = right_fits w64 x _ hx
bit_fits Rori x y imm hx hy hi = right_fits w64 x _ hx
bit_fits Roriw x y imm hx hy hi = extend_word_fits _
bit_fits Rorw x y imm hx hy hi = extend_word_fits _
bit_fits OrcB x y imm hx hy hi = combined_fits x
bit_fits Rev8 x y imm hx hy hi = swapped_fits x
bit_fits Bclr x y imm hx hy hi = and_fits x _ (2 ^ 64) hx
bit_fits Bclri x y imm hx hy hi = and_fits x _ (2 ^ 64) hx
bit_fits Bext x y imm hx hy hi = bit_at_fits x _
bit_fits Bexti x y imm hx hy hi = bit_at_fits x _
bit_fits Binv x y imm hx hy hi = xor_lt 64 x _ hx (power_fits y)
bit_fits Binvi x y imm hx hy hi = xor_lt 64 x _ hx (power_fits imm)
bit_fits Bset x y imm hx hy hi = or_lt 64 x _ hx (power_fits y)
bit_fits Bseti x y imm hx hy hi = or_lt 64 x _ hx (power_fits imm)

-- over all families
pub alu_result_fits : (op : AluOp) (x y imm : ℕ) → x < 2 ^ 64 → y < 2 ^ 64 → imm < 2 ^ 64 → alu_result op x y imm < 2 ^ 64
alu_result_fits (IntFamily op) x y imm hx hy hi = int_fits op x y imm hx hy hi
alu_result_fits (MulFamily op) x y imm hx hy hi = mul_fits op x y hx hy
alu_result_fits (Bit op) x y imm hx hy hi = bit_fits op x y imm hx hy hi
