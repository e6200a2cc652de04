-- Pieces that open a text in one way, one after the other.
use Rattle.std.proofs.Common.{◌≡◌, ℕ, List, [], ◌∷◌, ◌++◌, refl, sym, ◌∙◌, append_assoc}
use Rattle.std.specs.List.{flat_map, AllByRecursion}

-- A piece that opens a text in one way: what it stands for, and what is after it, is known.
pub record Opens {A : Type 0} (P : A → Type 0) (f : A → List ℕ) : Type 0 where
  pub one : (x y : A) (a b : List ℕ) → P x → P y → f x ++ a ≡ f y ++ b → (x ≡ y) × (a ≡ b)

-- not a piece and more
abbrev pub No : {A : Type 0} → (A → Type 0) → (A → List ℕ) → List ℕ → Type 0
No {A} P f a = (x : A) (t : List ℕ) → P x → f x ++ t ≡ a → ⊥

pub all_open : {A : Type 0} (P : A → Type 0) (f : A → List ℕ) → Opens P f → (xs ys : List A) (a b : List ℕ) → AllByRecursion P xs → AllByRecursion P ys → No P f a → No P f b
    → flat_map f xs ++ a ≡ flat_map f ys ++ b → (xs ≡ ys) × (a ≡ b)
all_open P f o [] [] a b fx fy na nb e = (refl, e)
all_open P f o [] (y ∷ ys) a b fx fy na nb e = absurd (na y (flat_map f ys ++ b) fy.0 (sym (append_assoc (f y) (flat_map f ys) b) ∙ sym e))
all_open P f o (x ∷ xs) [] a b fx fy na nb e = absurd (nb x (flat_map f xs ++ a) fx.0 (sym (append_assoc (f x) (flat_map f xs) a) ∙ e))
all_open P f o (x ∷ xs) (y ∷ ys) a b fx fy na nb e =
    let first = o.one x y (flat_map f xs ++ a) (flat_map f ys ++ b) fx.0 fy.0 (sym (append_assoc (f x) (flat_map f xs) a) ∙ e ∙ append_assoc (f y) (flat_map f ys) b) in
    let others = all_open P f o xs ys a b fx.1 fy.1 na nb first.1 in
    ((λ i. first.0 i ∷ others.0 i), others.1)
