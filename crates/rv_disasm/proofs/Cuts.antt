-- Where a byte first stands.
use Rattle.std.proofs.Common.{◌≡◌, ℕ, suc, ◌+◌, ◌≤◌, Bool, true, false, cond, not, eqb, ltb, List, [], ◌∷◌, length, Option, Some, None, refl, arith}
use Rattle.std.specs.Prelude.{MatchOption}
use Rattle.std.specs.List.{position_or_len}
use Rattle.std.proofs.lemmas.Bool.{ltb-false}

cases : (b : Bool) (k len : ℕ) (r : Option ℕ) → ltb k len ≡ b → k ≤ len → r ≡ cond b (Some k) None → MatchOption r (len ≡ k) (λ at. at ≡ k)
cases true k len (Some at) t le e = cc
cases true k len None t le e = absurd (cc)
cases false k len (Some at) t le e = absurd (cc)
cases false k len None t le e = let h : len ≤ k = ltb-false _ _ t in omega arith

pub place_found : (k len : ℕ) (r : Option ℕ) → k ≤ len → r ≡ cond (ltb k len) (Some k) None → MatchOption r (len ≡ k) (λ at. at ≡ k)
place_found k len r le e = cases (ltb k len) k len r refl le e

within_step : (b : Bool) (k n : ℕ) → k ≤ n → cond (not b) (1 + k) 0 ≤ suc n
within_step true k n h = omega arith
within_step false k n h = omega arith

pub place_within : (byte : ℕ) (t : List ℕ) → position_or_len (λ c. eqb c byte) t ≤ length t
place_within byte [] = omega arith
place_within byte (c ∷ cs) = within_step (eqb c byte) (position_or_len (λ c. eqb c byte) cs) (length cs) (place_within byte cs)
