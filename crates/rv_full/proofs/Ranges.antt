-- Numbers in their ranges.
use Rattle.std.proofs.Common.{◌≡◌, ℕ, zero, suc, ◌^◌, ◌<◌, List, [], ◌∷◌, ◌++◌, drop, refl, sym, subst, lit<}
use Rattle.std.specs.List.{AllByRecursion}
use Rattle.std.specs.Prelude.{slice_index, replicate}
use Rattle.rv_full.specs.Units.{AreUnits}
use Rattle.rv_full.specs.View.{zero_units}

zeros : (k n : ℕ) → slice_index (replicate k 0) n ≡ 0
zeros zero n = refl
zeros (suc k) zero = refl
zeros (suc k) (suc n) = zeros k n

pub are_zero_units : AreUnits zero_units
are_zero_units = record {
  float_count = refl;
  float_fits = λ n. subst (λ x. x < 2 ^ 64) (sym (zeros 32 n)) (lit< tt);
  vector_count = refl;
  vector_fits = λ n. subst (λ x. x < 2 ^ 128) (sym (zeros 32 n)) (lit< tt);
  frm_fits = lit< tt;
  reserved_fits = tt;
  avl_fits = lit< tt;
  vtype_fits = lit< tt;
}

-- what holds of each of some holds of those after the first few
pub all_after : {X : Type 0} (P : X → Type 0) (n : ℕ) (xs : List X) → AllByRecursion P xs → AllByRecursion P (drop n xs)
all_after P zero xs all = all
all_after P (suc n) [] all = tt
all_after P (suc n) (x ∷ xs) all = all_after P n xs all.1

-- and of one more
pub all_more : {X : Type 0} (P : X → Type 0) (xs : List X) (y : X) → AllByRecursion P xs → P y → AllByRecursion P (xs ++ y ∷ [])
all_more P [] y all last = (last, tt)
all_more P (x ∷ xs) y all last = (all.0, all_more P xs y all.1 last)
