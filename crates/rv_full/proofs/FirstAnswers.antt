-- The answers that are left once the first is taken.
use Rattle.std.proofs.Common.{◌≡◌, ℕ, zero, suc, ◌+◌, List, [], ◌∷◌, drop, refl, ap, sym, ◌∙◌, add-one}
use Rattle.rv_full.specs.declared.answer.Answer.{Answer}
use Rattle.rv_full.specs.Rows.{rest}

rest_drop_suc : (answers : List Answer) (n : ℕ) → rest (drop n answers) ≡ drop (suc n) answers
rest_drop_suc [] zero = refl
rest_drop_suc [] (suc n) = refl
rest_drop_suc (a ∷ more) zero = refl
rest_drop_suc (a ∷ more) (suc n) = rest_drop_suc more n

pub rest_drop : (answers : List Answer) (n : ℕ) → rest (drop n answers) ≡ drop (n + 1) answers
rest_drop answers n = rest_drop_suc answers n ∙ ap (λ k. drop k answers) (sym (add-one n))
