-- Elements of lists by their places.
use Rattle.std.proofs.Common.{[], ◌≡◌, ◌≢◌, ℕ, zero, suc, ◌+◌, ◌<◌, ◌⊎◌, inl, inr, ⊎_elim, List, ◌∷◌, ◌++◌, length, drop, map, set, Option, Some, None, refl, ap, sym, ◌∙◌, subst, arith}
use Rattle.mach_uses.proofs.Words.{drop-map, cases_eq, common_steps, same_Some, gets, slice_get, slice_index_or, slice_get-map, slice_get_cases, option_map}
pub use Rattle.std.proofs.lemmas.Option.{slice_get_within as below}
pub use Rattle.std.proofs.lemmas.List.{append-nil as append_none}
pub use Rattle.std.proofs.Math.Seq.{take-append_seam as take_front}

pub slice_get-append : {X : Type 0} (xs ys : List X) (i : ℕ) (x : X) → slice_get xs i ≡ Some x → slice_get (xs ++ ys) i ≡ Some x
slice_get-append xs ys i x h = grind (arith, common_steps, gets)

pub slice_get-append_at : {X : Type 0} (xs : List X) (y : X) (ys : List X) → slice_get (xs ++ y ∷ ys) (length xs) ≡ Some y
slice_get-append_at xs y ys = grind (arith, common_steps, gets)

pub slice_get-append_last : {X : Type 0} (xs : List X) (y : X) → slice_get (xs ++ y ∷ []) (length xs) ≡ Some y
slice_get-append_last xs y = slice_get-append_at xs y []

pub slice_get-set_other : {X : Type 0} (xs : List X) (i j : ℕ) (y : X) → j ≢ i → slice_get (set xs i y) j ≡ slice_get xs j
slice_get-set_other xs i j y n = grind (arith, common_steps, gets)

-- an element of a list with one changed
pub changed : {X : Type 0} (xs : List X) (i : ℕ) (y : X) (k : ℕ) (x : X) → slice_get (set xs i y) k ≡ Some x → ((k ≢ i) × (slice_get xs k ≡ Some x)) ⊎ ((k ≡ i) × (y ≡ x))
changed xs i y k x h = ⊎_elim (λ e. inr (e, grind (arith, common_steps, gets))) (λ ne. inl (ne, sym (slice_get-set_other xs i k y ne) ∙ h)) (cases_eq k i)

-- what is said of each holds still, of one that is changed and of those that are not
pub set_each : {X : Type 0} (P : X → Type 0) (xs : List X) (i : ℕ) (y : X) → P y → ((j : ℕ) (x : X) → slice_get xs j ≡ Some x → P x) → (j : ℕ) (x : X) → slice_get (set xs i y) j ≡ Some x → P x
set_each P xs i y py h j x k = ⊎_elim (λ a. h j x a.1) (λ a. subst P a.1 py) (changed xs i y j x k)

-- an element of a mapped list
pub record Comes {X Y : Type 0} (f : X → Y) (xs : List X) (j : ℕ) (y : Y) : Type 0 where
  pub from : X
  pub there : slice_get xs j ≡ Some from
  pub is : f from ≡ y

pub comes_from : {X Y : Type 0} (f : X → Y) (xs : List X) (j : ℕ) (y : Y) → slice_get (map f xs) j ≡ Some y → Comes f xs j y
comes_from f [] j y h = absurd (cc)
comes_from f (x ∷ xs) zero y h = record { from = x; there = refl; is = same_Some _ _ h }
comes_from f (x ∷ xs) (suc j) y h = let c = comes_from f xs j y h in record { from = c.from; there = c.there; is = c.is }

pub mapped : {X Y : Type 0} (f : X → Y) (xs : List X) (j : ℕ) (x : X) → slice_get xs j ≡ Some x → slice_get (map f xs) j ≡ Some (f x)
mapped f xs j x h = slice_get-map f xs j ∙ ap (option_map f) h

pub map_each : {X Y : Type 0} (P : Y → Type 0) (f : X → Y) (xs : List X) → ((j : ℕ) (x : X) → slice_get xs j ≡ Some x → P (f x)) → (j : ℕ) (y : Y) → slice_get (map f xs) j ≡ Some y → P y
map_each P f xs each j y h = let c = comes_from f xs j y h in subst P c.is (each j c.from c.there)

-- where an element of two lists stands
pub record After {X : Type 0} (xs ys : List X) (j : ℕ) (x : X) : Type 0 where
  pub index : ℕ
  pub is : j ≡ length xs + index
  pub there : slice_get ys index ≡ Some x

pub locate : {X : Type 0} (xs ys : List X) (j : ℕ) (x : X) → slice_get (xs ++ ys) j ≡ Some x → (slice_get xs j ≡ Some x) ⊎ After xs ys j x
locate [] ys j x h = inr (record { index = j; is = omega arith; there = h })
locate (y ∷ xs) ys zero x h = inl h
locate (y ∷ xs) ys (suc j) x h = ⊎_elim (λ a. inl a) (λ b. inr (record { index = b.index; is = let e = b.is in omega arith; there = b.there })) (locate xs ys j x h)

-- each of two lists
pub both_lists : {X : Type 0} (P : X → Type 0) (xs ys : List X) → ((j : ℕ) (x : X) → slice_get xs j ≡ Some x → P x) → ((j : ℕ) (x : X) → slice_get ys j ≡ Some x → P x) → (j : ℕ) (x : X) → slice_get (xs ++ ys) j ≡ Some x → P x
both_lists P xs ys hx hy j x h = ⊎_elim (λ a. hx j x a) (λ a. hy a.index x a.there) (locate xs ys j x h)

pub one_there : {X : Type 0} (y : X) (k : ℕ) (x : X) → slice_get (y ∷ []) k ≡ Some x → (k ≡ 0) × (y ≡ x)
one_there y k x h = grind arith

pub only_one : {X : Type 0} (P : X → Type 0) (y : X) → P y → (k : ℕ) (x : X) → slice_get (y ∷ []) k ≡ Some x → P x
only_one P y py k x h = subst P (one_there y k x h).1 py

-- an element of a list with one added
pub pushed : {X : Type 0} (xs : List X) (y : X) (k : ℕ) (x : X) → slice_get (xs ++ y ∷ []) k ≡ Some x → (slice_get xs k ≡ Some x) ⊎ ((k ≡ length xs) × (y ≡ x))
pushed xs y k x h = grind (arith, locate xs (y ∷ []) k x h, one_there y)

pub append_each : {X : Type 0} (P : X → Type 0) (xs : List X) (y : X) → P y → ((j : ℕ) (x : X) → slice_get xs j ≡ Some x → P x) → (j : ℕ) (x : X) → slice_get (xs ++ y ∷ []) j ≡ Some x → P x
append_each P xs y py h j x k = ⊎_elim (λ a. h j x a) (λ a. subst P a.1 py) (pushed xs y j x k)

-- one below the length is found
pub found_at : {X : Type 0} (xs : List X) (n : ℕ) → n < length xs → (x : X) × (slice_get xs n ≡ Some x)
found_at xs n lt = ⊎_elim (λ a. (a.0, a.2)) (λ b. absurd (omega (arith, b.0))) (slice_get_cases xs n).1

pub none_of : {X : Type 0} (o : Option X) → ((x : X) → o ≡ Some x → ⊥) → o ≡ None
none_of o never = grind (arith, never)

-- what is left of a list from a place on
pub drop_mapped : {X : Type 0} (f : X → ℕ) (xs : List X) (i : ℕ) (d : X) → i < length xs → drop i (map f xs) ≡ f (slice_index_or xs i d) ∷ drop (i + 1) (map f xs)
drop_mapped f xs i d lt = grind (arith, common_steps, drop-map)
