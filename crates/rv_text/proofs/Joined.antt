-- A text that is appended piece by piece.
use Rattle.std.proofs.Common.{◌≡◌, ℕ, List, ◌++◌, ap, ◌∙◌, append_assoc}

-- what stands after one more piece
pub more : {front new : List ℕ} (old text piece : List ℕ) → front ≡ old ++ text → new ≡ front ++ piece → new ≡ old ++ (text ++ piece)
more old text piece before after = after ∙ ap (λ f. f ++ piece) before ∙ append_assoc old text piece
