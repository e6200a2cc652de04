-- No two vector types have the same bits: each field is read back from its own.
use Rattle.std.proofs.Common.{◌≡◌, ◌+◌, ◌*◌, ◌^◌, ◌<◌, ℕ, [], ◌∷◌, get_or, refl, sym, ◌∙◌, ap, arith}
use Rattle.rv_vector.specs.declared.widths.VecElementWidth.{VecElementWidth}
use Rattle.rv_vector.specs.declared.widths.VecElementWidth.TheVariants.{E8, E16, E32, E64}
use Rattle.rv_vector.specs.declared.widths.VecLmul.{VecLmul}
use Rattle.rv_vector.specs.declared.widths.VecLmul.TheVariants.{LmulF8, LmulF4, LmulF2, Lmul1, Lmul2, Lmul4, Lmul8}
use Rattle.rv_vector.specs.declared.modes.VecTailMode.{VecTailMode}
use Rattle.rv_vector.specs.declared.modes.VecTailMode.TheVariants as tail
use Rattle.rv_vector.specs.declared.modes.VecMaskMode.{VecMaskMode}
use Rattle.rv_vector.specs.declared.modes.VecMaskMode.TheVariants as mask
use Rattle.rv_vector.specs.declared.vtype.VType.{VType}
use Rattle.rv_vector.specs.Widths.{sew_of, lmul_of}
use Rattle.rv_vector.specs.Modes.{tail_of, mask_of}
use Rattle.rv_vector.specs.VType.{vtype_of}

-- numbers of three, three, one and one bit, one above the other
fields : (l s t m l2 s2 t2 m2 : ℕ) → l < 8 → l2 < 8 → s < 8 → s2 < 8 → t < 2 → t2 < 2 → l + s * 2 ^ 3 + t * 2 ^ 6 + m * 2 ^ 7 ≡ l2 + s2 * 2 ^ 3 + t2 * 2 ^ 6 + m2 * 2 ^ 7 → (l ≡ l2) × (s ≡ s2) × (t ≡ t2) × (m ≡ m2)
fields l s t m l2 s2 t2 m2 h1 h2 h3 h4 h5 h6 e = (omega arith, omega arith, omega arith, omega arith)

sew_small : (w : VecElementWidth) → sew_of w < 8
sew_small E8 = omega arith
sew_small E16 = omega arith
sew_small E32 = omega arith
sew_small E64 = omega arith

lmul_small : (l : VecLmul) → lmul_of l < 8
lmul_small LmulF8 = omega arith
lmul_small LmulF4 = omega arith
lmul_small LmulF2 = omega arith
lmul_small Lmul1 = omega arith
lmul_small Lmul2 = omega arith
lmul_small Lmul4 = omega arith
lmul_small Lmul8 = omega arith

tail_small : (t : VecTailMode) → tail_of t < 2
tail_small tail.Agnostic = omega arith
tail_small tail.Undisturbed = omega arith

abbrev sew_at : ℕ → VecElementWidth
sew_at n = get_or (E8 ∷ E16 ∷ E32 ∷ []) n E64

sew_back : (w : VecElementWidth) → sew_at (sew_of w) ≡ w
sew_back E8 = refl
sew_back E16 = refl
sew_back E32 = refl
sew_back E64 = refl

-- no multiplier has the bits 4
abbrev lmul_at : ℕ → VecLmul
lmul_at n = get_or (Lmul1 ∷ Lmul2 ∷ Lmul4 ∷ Lmul8 ∷ Lmul1 ∷ LmulF8 ∷ LmulF4 ∷ []) n LmulF2

lmul_back : (l : VecLmul) → lmul_at (lmul_of l) ≡ l
lmul_back LmulF8 = refl
lmul_back LmulF4 = refl
lmul_back LmulF2 = refl
lmul_back Lmul1 = refl
lmul_back Lmul2 = refl
lmul_back Lmul4 = refl
lmul_back Lmul8 = refl

abbrev tail_at : ℕ → VecTailMode
tail_at n = get_or (tail.Undisturbed ∷ []) n tail.Agnostic

tail_back : (t : VecTailMode) → tail_at (tail_of t) ≡ t
tail_back tail.Agnostic = refl
tail_back tail.Undisturbed = refl

abbrev mask_at : ℕ → VecMaskMode
mask_at n = get_or (mask.Undisturbed ∷ []) n mask.Agnostic

mask_back : (m : VecMaskMode) → mask_at (mask_of m) ≡ m
mask_back mask.Agnostic = refl
mask_back mask.Undisturbed = refl

-- the fields of equal bits are the same
pub distinct : (a b : VType) → vtype_of a ≡ vtype_of b → a ≡ b
distinct a b e =
    let same = fields (lmul_of a.lmul) (sew_of a.sew) (tail_of a.tail_mode) (mask_of a.mask_mode) (lmul_of b.lmul) (sew_of b.sew) (tail_of b.tail_mode) (mask_of b.mask_mode) (lmul_small a.lmul) (lmul_small b.lmul) (sew_small a.sew) (sew_small b.sew) (tail_small a.tail_mode) (tail_small b.tail_mode) e in
    let lmul : a.lmul ≡ b.lmul = sym (lmul_back a.lmul) ∙ ap lmul_at same.0 ∙ lmul_back b.lmul in
    let sew : a.sew ≡ b.sew = sym (sew_back a.sew) ∙ ap sew_at same.1 ∙ sew_back b.sew in
    let tail_mode : a.tail_mode ≡ b.tail_mode = sym (tail_back a.tail_mode) ∙ ap tail_at same.2 ∙ tail_back b.tail_mode in
    let mask_mode : a.mask_mode ≡ b.mask_mode = sym (mask_back a.mask_mode) ∙ ap mask_at same.3 ∙ mask_back b.mask_mode in
    λ i. record { sew = sew i; lmul = lmul i; tail_mode = tail_mode i; mask_mode = mask_mode i }
