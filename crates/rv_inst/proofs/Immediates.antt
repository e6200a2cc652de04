-- The upper and the lower immediate of a number are the only ones that make it.
use Rattle.std.proofs.Common.{◌≡◌, true, false, ℤ, pos, negsuc, ◌≤ℤ◌, arith}
use Rattle.std.proofs.lemmas.Int.{ints}
use Rattle.rv_imms.specs.Splitting.{value_of, IsSplittable}
use Rattle.rv_inst.specs.Addresses.{is_splittable}
use Rattle.rv_inst.specs.Immediates.{upper_of, lower_of}

pub upper_is : (z upper lower : ℤ) → negsuc 524287 ≤ℤ upper → upper ≤ℤ pos 524287 → negsuc 2047 ≤ℤ lower → lower ≤ℤ pos 2047 → value_of upper lower ≡ z → upper_of z ≡ upper
upper_is z upper lower a b c d made = grind (arith, ints)

pub lower_is : (z upper lower : ℤ) → negsuc 524287 ≤ℤ upper → upper ≤ℤ pos 524287 → negsuc 2047 ≤ℤ lower → lower ≤ℤ pos 2047 → value_of upper lower ≡ z → lower_of z ≡ lower
lower_is z upper lower a b c d made = grind (arith, ints)

-- and what they make is no less than the least that two make, and no greater than the greatest
pub made_is_splittable : (z upper lower : ℤ) → negsuc 524287 ≤ℤ upper → upper ≤ℤ pos 524287 → negsuc 2047 ≤ℤ lower → lower ≤ℤ pos 2047 → value_of upper lower ≡ z → IsSplittable z
made_is_splittable z upper lower a b c d made = grind (arith, ints)

-- the test of what two immediates make
pub splits : (o upper lower : ℤ) → negsuc 524287 ≤ℤ upper → upper ≤ℤ pos 524287 → negsuc 2047 ≤ℤ lower → lower ≤ℤ pos 2047 → value_of upper lower ≡ o → is_splittable o ≡ true
splits o upper lower a b c d e = grind (arith, ints)

pub splits_not : (o : ℤ) → ¬ (IsSplittable o) → is_splittable o ≡ false
splits_not o h = grind (arith, ints)

pub splits_all : (o : ℤ) → IsSplittable o → is_splittable o ≡ true
splits_all o h = grind (arith, ints)

pub splittable : (o : ℤ) → is_splittable o ≡ true → IsSplittable o
splittable o h = grind (arith, ints)
