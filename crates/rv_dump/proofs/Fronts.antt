-- What the first instruction of code makes of its lines.
use Rattle.std.proofs.Common.{◌≡◌, ℕ, ◌%◌, ◌<◌, ◌≤◌, Bool, true, false, cond, List, [], ◌∷◌, ◌++◌, length, take, drop, ◌-◌, Option, Some, None, refl, sym, ap, ◌∙◌, append-nil, append_assoc, arith}
use Rattle.std.specs.Prelude.{◌==◌}
use Rattle.std.proofs.lemmas.List.{take_rest}
use Rattle.rv_base.specs.declared.flags.IsaFlags.{IsaFlags}
use Rattle.rv_dump.specs.Dump.{word_line, data_line, code_lines, further, front, half, word}

abbrev pub front_lines : IsaFlags → ℕ → List ℕ → List ℕ → Option (ℕ × ℕ) → List ℕ
front_lines flags p note bytes None = data_line p note bytes
front_lines flags p note bytes (Some f) = word_line flags p note f.0 ++ code_lines flags (further p f.1) [] (drop f.1 bytes)

pub first_lines : (flags : IsaFlags) (p : ℕ) (note bytes : List ℕ) → 0 < length bytes → code_lines flags p note bytes ≡ front_lines flags p note bytes (front bytes)
first_lines flags p note [] some = absurd (omega arith)
first_lines flags p note (a ∷ []) some = refl
first_lines flags p note (a ∷ b ∷ []) some = on (a % 4 == 3)
  where
    on : (x : Bool) → cond x (data_line p note (a ∷ b ∷ [])) (word_line flags p note (half a b)) ≡ front_lines flags p note (a ∷ b ∷ []) (cond x None (Some (half a b, 2)))
    on true = refl
    on false = sym (append-nil (word_line flags p note (half a b)))
first_lines flags p note (a ∷ b ∷ c ∷ []) some = on (a % 4 == 3)
  where
    on : (x : Bool) → cond x (data_line p note (a ∷ b ∷ c ∷ [])) (word_line flags p note (half a b) ++ data_line (further p 2) [] (c ∷ [])) ≡ front_lines flags p note (a ∷ b ∷ c ∷ []) (cond x None (Some (half a b, 2)))
    on true = refl
    on false = refl
first_lines flags p note (a ∷ b ∷ c ∷ d ∷ rest) some = on (a % 4 == 3)
  where
    on : (x : Bool) → cond x (word_line flags p note (word a b c d) ++ code_lines flags (further p 4) [] rest) (word_line flags p note (half a b) ++ code_lines flags (further p 2) [] (c ∷ d ∷ rest)) ≡ front_lines flags p note (a ∷ b ∷ c ∷ d ∷ rest) (cond x (Some (word a b c d, 4)) (Some (half a b, 2)))
    on true = refl
    on false = refl

more_than_none : (n m : ℕ) → 0 < n → n ≤ m → 0 < m
more_than_none n m h g = omega arith

-- one instruction more
pub code_step : (flags : IsaFlags) (p : ℕ) (note rest whole old new : List ℕ) (f : ℕ × ℕ) → (0 < f.1) × (f.1 ≤ length rest) → front rest ≡ Some f → new ≡ old ++ word_line flags p note f.0 → old ++ code_lines flags p note rest ≡ whole
    → new ++ code_lines flags (further p f.1) [] (take (length rest - f.1) (drop f.1 rest)) ≡ whole
code_step flags p note rest whole old new f within is put inv =
    let some = more_than_none f.1 (length rest) within.0 within.1 in
    let tail = drop f.1 rest in
    let line = word_line flags p note f.0 in
    let all : take (length rest - f.1) tail ≡ tail = take_rest rest f.1 in
    let lines = code_lines flags (further p f.1) [] tail in
    ap (λ t. new ++ code_lines flags (further p f.1) [] t) all ∙ ap (λ n. n ++ lines) put ∙ append_assoc old line lines ∙ sym (ap (λ l. old ++ l) (first_lines flags p note rest some ∙ ap (front_lines flags p note rest) is)) ∙ inv
