-- The numbers that an upper immediate of 20 bits and a lower one of 12 make, both signed.
use Rattle.std.specs.Prelude.{ℤ, pos, negsuc, ◌+ℤ◌, ◌*ℤ◌, ◌≤ℤ◌}

-- lui's immediate counts 4096s
abbrev pub value_of : ℤ → ℤ → ℤ
value_of upper lower = (upper *ℤ pos 4096) +ℤ lower

-- the least number: both immediates at their least
abbrev pub least : ℤ
least = value_of (negsuc 524287) (negsuc 2047)

-- the greatest: both at their greatest
abbrev pub greatest : ℤ
greatest = value_of (pos 524287) (pos 2047)

-- from the least to the greatest, each of which has one pair of immediates
abbrev pub IsSplittable : ℤ → Type 0
IsSplittable z = (least ≤ℤ z) × (z ≤ℤ greatest)
