-- Lines generated one after the other.
use Rattle.std.proofs.Common.{◌≡◌, ℕ, suc, ◌+◌, ◌-◌, ◌<◌, ◌≤◌, List, [], ◌∷◌, ◌++◌, sym, ap, ◌∙◌, append_assoc, append-nil, refl, arith}
use Rattle.rv_inst.specs.declared.inst.Line.{Line}
use Rattle.rv_gen.specs.Generated.{line_at, state_after, lines_from}

pub next_line : (out new total : List Line) (i s : ℕ) → i < 1300 → new ≡ out ++ line_at i s ∷ []
    → out ++ lines_from (1300 - i) i s ≡ total → new ++ lines_from (1300 - (i + 1)) (i + 1) (state_after i s) ≡ total
unfolding lines_from
next_line out new total i s lt put so_far =
    let lines_after : 1300 - i ≡ suc (1300 - (i + 1)) = omega arith in
    let whole : out ++ (line_at i s ∷ lines_from (1300 - (i + 1)) (i + 1) (state_after i s)) ≡ total = ap (λ (m : ℕ). out ++ lines_from m i s) (sym lines_after) ∙ so_far in
    rw put (append_assoc out (line_at i s ∷ []) (lines_from (1300 - (i + 1)) (i + 1) (state_after i s)) ∙ whole)

pub first_line : (out : List Line) (s : ℕ) → out ≡ [] → out ++ lines_from (1300 - 0) 0 s ≡ lines_from 1300 0 s
first_line out s none = rw none refl

pub last_line : (out total : List Line) (i s : ℕ) → 1300 ≤ i → out ++ lines_from (1300 - i) i s ≡ total → out ≡ total
unfolding lines_from
last_line out total i s past so_far =
    let none : 1300 - i ≡ 0 = omega arith in
    let whole : out ++ [] ≡ total = ap (λ (m : ℕ). out ++ lines_from m i s) (sym none) ∙ so_far in
    sym (append-nil out) ∙ whole
