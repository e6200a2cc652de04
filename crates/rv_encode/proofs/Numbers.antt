-- What the low bits of a signed integer make, read as a signed integer again, and where a shift amount stands among them.
use Rattle.std.proofs.Common.{◌≡◌, ◌≢◌, ℕ, zero, suc, ◌+◌, ◌-◌, ◌*◌, ◌/◌, ◌%◌, ◌^◌, ◌<◌, ◌≤ℤ◌, ◌<ℤ◌, ℤ, pos, negsuc, neg_ℤ, ◌*ℤ◌, refl, arith}
use Rattle.std.proofs.lemmas.Int.{ints}
use Rattle.rv_imms.specs.declared.imm6.Imm6.{Imm6}
use Rattle.rv_imms.specs.Bits.{low_bits}
use Rattle.rv_machine.specs.State.{signed}
use Rattle.rv_encode.specs.Layouts.{IsEven}

signed-pos : (half n : ℕ) → n < half → signed half n ≡ pos n
signed-pos half n h = grind (arith, ints)

signed-negsuc : (half n : ℕ) → n < half → signed half (2 * half - suc n) ≡ negsuc n
signed-negsuc half n h = grind (arith, ints)

-- the bits of a number from -half to below half, read signed, are that number
pub signed-low_bits : (half : ℕ) (z : ℤ) → z <ℤ pos half → neg_ℤ (pos half) ≤ℤ z → signed half (low_bits (2 * half) z) ≡ z
signed-low_bits half (pos n) up low = let h : n < half = omega (arith, ints) in signed-pos half n h
signed-low_bits half (negsuc n) up low = let h : n < half = omega (arith, ints) in signed-negsuc half n h

pub low_bits_even : (half : ℕ) (z : ℤ) → z <ℤ pos (2 * half) → neg_ℤ (pos (2 * half)) ≤ℤ z → IsEven z → low_bits (2 * half) z % 2 ≡ 0
low_bits_even half (pos n) up low e = e
low_bits_even half (negsuc n) up low e = let h : suc n < 2 * half + 1 = omega (arith, ints) in omega (arith, e)

-- so bit 0, which no word holds, is 0
pub low_bits_held : (half : ℕ) (z : ℤ) → z <ℤ pos (2 * half) → neg_ℤ (pos (2 * half)) ≤ℤ z → IsEven z → low_bits (2 * half) z / 2 * 2 ≡ low_bits (2 * half) z
low_bits_held half z up low e = let even = low_bits_even half z up low e in omega (arith, even)

-- ---- a shift amount, below bits of the operation's own

pub funct6_above : (f n : ℕ) → (f * 2 ^ 6 + n % 2 ^ 6) / 2 ^ 6 ≡ f
funct6_above f n = omega arith

pub amount6_below : (f n : ℕ) → (f * 2 ^ 6 + n % 2 ^ 6) % 2 ^ 6 ≡ n % 2 ^ 6
amount6_below f n = omega arith

pub funct7_above : (f n : ℕ) → (f * 2 ^ 5 + n % 2 ^ 5) / 2 ^ 5 ≡ f
funct7_above f n = omega arith

pub amount5_below : (f n : ℕ) → (f * 2 ^ 5 + n % 2 ^ 5) % 2 ^ 5 ≡ n % 2 ^ 5
amount5_below f n = omega arith

pub funct6_over : (f n : ℕ) → (f * 2 ^ 5 + n % 2 ^ 5) / 2 ^ 6 ≡ f / 2
funct6_over f n = omega arith

-- ---- six bits

pub low_bits_nonzero : (imm : Imm6) → imm.value ≢ pos 0 → 0 < low_bits (2 ^ 6) imm.value
low_bits_nonzero imm some = six_bits_nonzero imm.value some (omega (arith, ints))
  where
    six_bits_nonzero : (z : ℤ) → z ≢ pos 0 → neg_ℤ (pos (2 ^ 5)) ≤ℤ z → 0 < low_bits (2 ^ 6) z
    six_bits_nonzero (pos zero) other low = absurd (other refl)
    six_bits_nonzero (pos (suc n)) other low = omega arith
    six_bits_nonzero (negsuc n) other low = let h : n < 2 ^ 5 = omega (arith, ints) in omega arith

-- sixteen times the six bits are the ten bits of sixteen times the number
pub signed_sixteens : (imm : Imm6) → signed (2 ^ 9) (16 * low_bits (2 ^ 6) imm.value) ≡ pos 16 *ℤ imm.value
signed_sixteens imm = sixteens imm.value (omega (arith, ints)) (omega (arith, ints))
  where
    sixteens : (z : ℤ) → z <ℤ pos (2 ^ 5) → neg_ℤ (pos (2 ^ 5)) ≤ℤ z → signed (2 ^ 9) (16 * low_bits (2 ^ 6) z) ≡ pos 16 *ℤ z
    sixteens (pos n) up low = let h : n < 2 ^ 5 = omega (arith, ints) in grind (arith, ints)
    sixteens (negsuc n) up low = let h : n < 2 ^ 5 = omega (arith, ints) in grind (arith, ints)

-- a register's number, as three bits of a halfword hold it
pub less_8 : (r n : ℕ) → 8 + r ≡ n → r ≡ n - 8
less_8 r n is = omega arith
