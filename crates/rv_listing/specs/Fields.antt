-- The fields of a line: a token for each.
use Rattle.std.specs.Prelude.{◌≡◌, ℕ, List, [], ◌∷◌, ◌++◌, Option, Some, None, Result, Ok, Err}
use Rattle.std.specs.Borrow.{Bor}
use Rattle.rv_listing.specs.declared.fields.LineError.{LineError}
use Rattle.rv_listing.specs.declared.fields.LineError.TheVariants as bad
use Rattle.rv_listing.specs.Tokens.{◌>>=◌, words_after}

-- the first word, by a token's form
abbrev pub field : {A : Type 0} → (List ℕ → Option A) → List (List ℕ) → Option (A × List (List ℕ))
field token [] = None
field token (w ∷ ws) = token w >>= λ x. Some (x, ws)

abbrev pub done : {A : Type 0} → A → List (List ℕ) → Option (A × List (List ℕ))
done x ws = Some (x, ws)

-- what a reader of a field returned, and the words after it
abbrev pub Takes : {A : Type 0} → Option (A × Bor (List ℕ)) → Option (A × List (List ℕ)) → Type 0
Takes None taken = taken ≡ None
Takes (Some x) taken = taken ≡ Some (x.0, words_after x.1.now)

-- a form of line with one more token
infixl 20 ◌⊛◌
abbrev pub ◌⊛◌ : {A B : Type 0} → (List (List ℕ) → Option ((A → B) × List (List ℕ))) → (List ℕ → Option A) → List (List ℕ) → Option (B × List (List ℕ))
(form ⊛ token) ws = form ws >>= λ f. field token f.1 >>= λ x. Some (f.0 x.0, x.1)

abbrev pub no_more : {A : Type 0} → A × List (List ℕ) → Option A
no_more (x, []) = Some x
no_more (x, w ∷ ws) = None

abbrev pub whole : {A : Type 0} → (List (List ℕ) → Option (A × List (List ℕ))) → List (List ℕ) → Option A
whole form ws = form ws >>= no_more

-- what a reader that allocates returned; out of memory says nothing
abbrev pub Makes : {A : Type 0} → Result A LineError → Option A → Type 0
Makes (Ok x) made = made ≡ Some x
Makes (Err bad.NotAllowed) made = made ≡ None
Makes (Err bad.OutOfMemory) made = Unit {0}

-- the same, with the words after
abbrev pub TakesFirst : {A : Type 0} → Result (A × Bor (List ℕ)) LineError → Option (A × List (List ℕ)) → Type 0
TakesFirst (Ok x) taken = taken ≡ Some (x.0, words_after x.1.now)
TakesFirst (Err bad.NotAllowed) taken = taken ≡ None
TakesFirst (Err bad.OutOfMemory) taken = Unit {0}

-- what a reader that puts one more element into a list did; out of memory says nothing
abbrev pub Pushes : {A : Type 0} → List A → List A → Option A → Result Unit LineError → Type 0
Pushes old new element (Ok x) = (element >>= λ e. Some (old ++ e ∷ [])) ≡ Some new
Pushes old new element (Err bad.NotAllowed) = element ≡ None
Pushes old new element (Err bad.OutOfMemory) = Unit {0}
