-- What follows a piece of a text.
use Rattle.std.specs.Prelude.{◌≡◌, ℕ, ◌==◌, if◌then◌else◌, List, [], ◌∷◌, Option, Some, None, MatchOption}
use Rattle.std.specs.Borrow.{Bor}

-- what follows a piece, where the text begins with it
abbrev pub strip : List ℕ → List ℕ → Option (List ℕ)
strip [] text = Some text
strip (c ∷ piece) [] = None
strip (c ∷ piece) (d ∷ text) = if d == c then strip piece text else None

-- what a function returned is what follows the piece
abbrev pub Strips : List ℕ → List ℕ → Option (Bor (List ℕ)) → Type 0
Strips piece text result = MatchOption result (strip piece text ≡ None) (λ rest. strip piece text ≡ Some rest.now)
