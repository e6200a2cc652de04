-- Looking a name up in a list of addresses.
use Rattle.std.proofs.Common.{◌≡◌, ℕ, ◌<◌, ◌^◌, ◌==◌, List, [], ◌∷◌, true, false, Some, None, map, ap, ◌∙◌, arith}
use Rattle.std.specs.Prelude.{cond}
use Rattle.std.specs.Option.{option_map}
use Rattle.std.specs.Cmp.{unsigned_tied}
use Rattle.std.proofs.lemmas.Bool.Decides.{nat_tests}
use Rattle.std.proofs.lemmas.Cmp.{nat_cmp_total}
use Rattle.std.specs.FinMap.{get, get-insert, get-empty, from_entries}
use Rattle.std.specs.Ordering.{nat_cmp}
use Rattle.rv_base.specs.declared.external_name.ExternalName.{ExternalName}
use Rattle.rv_machine.specs.State.{wrap}
use Rattle.rv_fill.specs.Filled.{table_of, address_in}

pub no_address : (number : ℕ) → address_in (table_of []) number ≡ None
no_address number = ap (option_map wrap) (get-empty nat_cmp number)

look : (first : ExternalName × ℕ) (rest : List (ExternalName × ℕ)) (number : ℕ) → address_in (table_of (first ∷ rest)) number ≡ option_map wrap (cond (number == first.0.number) (Some first.1) (get (table_of rest) number))
look first rest number = ap (option_map wrap) (get-insert nat_cmp_total (table_of rest) first.0.number first.1 number ∙ ap (λ b. cond b (Some first.1) (get (table_of rest) number)) (unsigned_tied number first.0.number))

is_same : (m n : ℕ) → m ≡ n → (n == m) ≡ true
is_same m n e = grind (arith, nat_tests)

is_other : (m n : ℕ) → ¬ (m ≡ n) → (n == m) ≡ false
is_other m n differ = grind (arith, nat_tests)

pub first_address : (first : ExternalName × ℕ) (rest : List (ExternalName × ℕ)) (number : ℕ) → first.0.number ≡ number → first.1 < 2 ^ 64 → address_in (table_of (first ∷ rest)) number ≡ Some first.1
first_address first rest number e fits =
    let within : wrap first.1 ≡ first.1 = omega arith in
    look first rest number ∙ ap (λ b. option_map wrap (cond b (Some first.1) (get (table_of rest) number))) (is_same first.0.number number e) ∙ ap (λ (a : ℕ). Some a) within

pub later_address : (first : ExternalName × ℕ) (rest : List (ExternalName × ℕ)) (number : ℕ) → ¬ (first.0.number ≡ number) → address_in (table_of (first ∷ rest)) number ≡ address_in (table_of rest) number
later_address first rest number differ = look first rest number ∙ ap (λ b. option_map wrap (cond b (Some first.1) (get (table_of rest) number))) (is_other first.0.number number differ)
