-- A text cut at the first LF, and a word or a line at the first separator.
use Rattle.std.proofs.Common.{◌≡◌, ◌≢◌, ℕ, suc, ◌+◌, Bool, true, false, cond, not, eqb, List, [], ◌∷◌, take, drop, length, ◌-◌, ◌<◌, ◌≤◌, ltb, Option, Some, None, refl, sym, arith}
use Rattle.std.specs.List.{position_or_len}
use Rattle.std.specs.Prelude.{MatchOption}
use Rattle.std.proofs.lemmas.Bool.{ltb-false}
use Rattle.std.proofs.lemmas.List.{take_all}
use Rattle.std.proofs.lemmas.List.Sums.{position_or_len_is}
use Rattle.memchr.specs.Find.{IsFirstByte, is_byte}
use Rattle.rv_listing.specs.Tokens.{onto, lines_of, parts_of, parts_after, after_lf}

parts_step : (sep : ℕ) (b : Bool) (c : ℕ) (cs : List ℕ) (k : ℕ) → parts_of sep cs ≡ take k cs ∷ parts_after sep (drop k cs)
    → cond b ([] ∷ parts_of sep cs) (onto c (parts_of sep cs)) ≡ take (cond (not b) (1 + k) 0) (c ∷ cs) ∷ parts_after sep (drop (cond (not b) (1 + k) 0) (c ∷ cs))
parts_step sep true c cs k h = refl
parts_step sep false c cs k h = let e : 1 + k ≡ suc k = omega arith in rw (e, h) refl

pub parts_cut : (sep : ℕ) (t : List ℕ) → parts_of sep t ≡ take (position_or_len (λ c. eqb c sep) t) t ∷ parts_after sep (drop (position_or_len (λ c. eqb c sep) t) t)
parts_cut sep [] = refl
parts_cut sep (c ∷ cs) = parts_step sep (eqb c sep) c cs (position_or_len (λ c. eqb c sep) cs) (parts_cut sep cs)

lines_step : (b : Bool) (c : ℕ) (cs : List ℕ) (k : ℕ) → lines_of cs ≡ take k cs ∷ lines_of (after_lf (drop k cs))
    → cond b ([] ∷ lines_of cs) (onto c (lines_of cs)) ≡ take (cond (not b) (1 + k) 0) (c ∷ cs) ∷ lines_of (after_lf (drop (cond (not b) (1 + k) 0) (c ∷ cs)))
lines_step true c cs k h = refl
lines_step false c cs k h = let e : 1 + k ≡ suc k = omega arith in rw (e, h) refl

lines_last : (b : Bool) (c : ℕ) → cond b ([] ∷ []) ((c ∷ []) ∷ []) ≡ take (cond (not b) (1 + 0) 0) (c ∷ []) ∷ lines_of (after_lf (drop (cond (not b) (1 + 0) 0) (c ∷ [])))
lines_last true c = refl
lines_last false c = refl

pub lines_cut : (t : List ℕ) → t ≢ [] → lines_of t ≡ take (position_or_len (λ c. eqb c 10) t) t ∷ lines_of (after_lf (drop (position_or_len (λ c. eqb c 10) t) t))
lines_cut [] full = absurd (full refl)
lines_cut (c ∷ []) full = lines_last (eqb c 10) c
lines_cut (c ∷ d ∷ cs) full = lines_step (eqb c 10) c (d ∷ cs) (position_or_len (λ c. eqb c 10) (d ∷ cs)) (lines_cut (d ∷ cs) (λ e. cc))

pub not_nil : (t : List ℕ) (b : Bool) → b ≡ false → b ≡ eqb (length t) 0 → t ≢ []
not_nil [] b f e = λ same. absurd (cc)
not_nil (c ∷ cs) b f e = λ same. cc

pub after_lf_short : (t : List ℕ) → length t < 1 → after_lf t ≡ t
after_lf_short [] h = refl
after_lf_short (c ∷ cs) h = absurd (omega arith)

pub after_lf_rest : (t : List ℕ) → after_lf t ≡ take (length t - 1) (drop 1 t)
after_lf_rest [] = refl
after_lf_rest (c ∷ cs) = let e : suc (length cs) - 1 ≡ length cs = omega arith in rw e (sym (take_all (length cs) cs (omega arith)))

place_cases : (b : Bool) (k len : ℕ) (r : Option ℕ) → ltb k len ≡ b → k ≤ len → r ≡ cond b (Some k) None → MatchOption r (len ≡ k) (λ at. at ≡ k)
place_cases true k len (Some at) t le e = cc
place_cases true k len None t le e = absurd (cc)
place_cases false k len (Some at) t le e = absurd (cc)
place_cases false k len None t le e = let h : len ≤ k = ltb-false _ _ t in omega arith

pub place_found : (k len : ℕ) (r : Option ℕ) → k ≤ len → r ≡ cond (ltb k len) (Some k) None → MatchOption r (len ≡ k) (λ at. at ≡ k)
place_found k len r le e = place_cases (ltb k len) k len r refl le e

within_step : (b : Bool) (k n : ℕ) → k ≤ n → cond (not b) (1 + k) 0 ≤ suc n
within_step true k n h = omega arith
within_step false k n h = omega arith

pub place_within : (byte : ℕ) (t : List ℕ) → position_or_len (λ c. eqb c byte) t ≤ length t
place_within byte [] = omega arith
place_within byte (c ∷ cs) = within_step (eqb c byte) (position_or_len (λ c. eqb c byte) cs) (length cs) (place_within byte cs)

-- ---- where a search finds the byte

not_true : (b : Bool) → (b ≡ true → ⊥) → b ≡ false
not_true true h = absurd (h refl)
not_true false h = refl

pub first_at : (byte : ℕ) (t : List ℕ) (at : ℕ) → IsFirstByte (is_byte byte) t (Some at) → at ≡ position_or_len (λ c. eqb c byte) t
first_at byte t at first =
    sym (position_or_len_is (λ c. eqb c byte) t at 0 (let high = first.0.high in omega arith) (λ k lt. not_true _ (first.0.before k (omega arith) lt)) (λ lt. first.1))

pub first_nowhere : (byte : ℕ) (t : List ℕ) → IsFirstByte (is_byte byte) t None → length t ≡ position_or_len (λ c. eqb c byte) t
first_nowhere byte t nowhere =
    sym (position_or_len_is (λ c. eqb c byte) t (length t) 0 (omega arith) (λ k lt. not_true _ (nowhere k (omega arith) lt)) (λ lt. absurd (omega arith)))
