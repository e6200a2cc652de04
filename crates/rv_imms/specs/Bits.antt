-- Signed numbers: their bits, the range of so many bits, and their text with a sign.
use Rattle.std.specs.Prelude.{ℕ, suc, ◌-◌, ◌^◌, ℤ, pos, negsuc, ◌≤ℤ◌, List, ◌++◌, codes}
use Rattle.std.specs.Fmt.{decimal}

-- a signed number modulo a power of 2 that is above its magnitude: its low bits in two's complement
abbrev pub low_bits : ℕ → ℤ → ℕ
low_bits m (pos n) = n
low_bits m (negsuc n) = m - suc n

-- whether a number fits this many bits in two's complement
abbrev pub IsSigned : ℕ → ℤ → Type 0
IsSigned bits z = (negsuc (2 ^ (bits - 1) - 1) ≤ℤ z) × (z ≤ℤ pos (2 ^ (bits - 1) - 1))

-- a sign and the decimal digits; 0 has the sign +
abbrev pub text_with_sign : ℤ → List ℕ
text_with_sign (pos n) = codes "+" ++ decimal n
text_with_sign (negsuc n) = codes "-" ++ decimal (suc n)
