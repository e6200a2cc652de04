-- Products of two signed numbers of 64 bits fit 128.
use Rattle.std.proofs.Common.{◌≡◌, ◌*◌, ◌^◌, ◌<◌, ◌≤◌, ℤ, pos, negsuc, ◌*ℤ◌, to_z, of_z, FitsSigned, w64, arith, ap, ◌∙◌}
use Rattle.std.specs.Prelude.{unsigned_abs}
use mir.Syntax.{w128}
use Rattle.std.proofs.lemmas.Int.{to_z-of_z, fits_signed_mul}

-- the size of a register that is read as a signed number
pub size_below : (z : ℤ) → FitsSigned w64 z → unsigned_abs z ≤ 2 ^ 63
size_below (pos n) h = let g = h.sfits in omega arith
size_below (negsuc n) h = let g = h.sfits in omega arith

fits_wide : (z : ℤ) → FitsSigned w64 z → FitsSigned w128 z
fits_wide (pos n) h = let g = h.sfits in record { sfits = omega arith }
fits_wide (negsuc n) h = let g = h.sfits in record { sfits = omega arith }

-- the code's product in 128 bits is the product
pub wide_product : (a b : ℤ) → FitsSigned w64 a → FitsSigned w64 b → to_z w128 (of_z w128 (to_z w128 (of_z w128 a) *ℤ to_z w128 (of_z w128 b))) ≡ a *ℤ b
wide_product a b ha hb =
    let room : 2 ^ 63 * 2 ^ 63 < 2 ^ 127 = omega arith in
    ap (λ z. to_z w128 (of_z w128 z)) (λ i. to_z-of_z w128 a (fits_wide a ha) i *ℤ to_z-of_z w128 b (fits_wide b hb) i)
    ∙ to_z-of_z w128 (a *ℤ b) (fits_signed_mul w128 a b (2 ^ 63) (2 ^ 63) (size_below a ha) (size_below b hb) room)
