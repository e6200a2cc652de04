-- What follows a piece of a text.
use Rattle.std.proofs.Common.{◌≡◌, ◌≢◌, ℕ, Bool, true, false, cond, zero, suc, ◌+◌, ◌-◌, ◌<◌, ◌≤◌, List, [], ◌∷◌, ◌++◌, length, get_or, take, drop, take_all, Option, Some, None, refl, sym, ap, ◌∙◌, append-nil, arith}
use Rattle.std.specs.Prelude.{◌==◌, MatchOption}
use Rattle.std.specs.Borrow.{Bor}
use Rattle.std.specs.List.{flat_map}
use Rattle.rv_machine.specs.declared.decoding.Decoded.{Decoded}
use Rattle.rv_disasm.specs.declared.layouts.Field.{Field}
use Rattle.rv_disasm.specs.Text.{field_text, further_text, fields_text}
use Rattle.std.specs.Option.{option_and_then}
use Rattle.std.proofs.lemmas.Bool.{eqb-true, eq-eqb, ne_eqb, true≢false}
use Rattle.rv_disasm.specs.Strip.{strip, Strips}

-- a piece of two parts is one part after the other
pub strip_parts : (a b t : List ℕ) → strip (a ++ b) t ≡ option_and_then (strip b) (strip a t)
strip_parts [] b t = refl
strip_parts (c ∷ a) b [] = refl
strip_parts (c ∷ a) b (d ∷ t) = on (d == c) (strip_parts a b t)
  where
    on : (x : Bool) → strip (a ++ b) t ≡ option_and_then (strip b) (strip a t) → cond x (strip (a ++ b) t) None ≡ option_and_then (strip b) (cond x (strip a t) None)
    on true e = e
    on false e = refl

pub strip_front : (a rest : List ℕ) → strip a (a ++ rest) ≡ Some rest
strip_front [] rest = refl
strip_front (c ∷ a) rest = ap (λ x. cond x (strip a (a ++ rest)) None) (eq-eqb c c refl) ∙ strip_front a rest

some_same : (x y : List ℕ) → Some x ≡ Some y → x ≡ y
some_same x y e = cc

pub strip_exact : (a t rest : List ℕ) → strip a t ≡ Some rest → t ≡ a ++ rest
strip_exact [] t rest e = some_same t rest e
strip_exact (c ∷ a) [] rest e = absurd (cc)
strip_exact (c ∷ a) (d ∷ t) rest e = on (d == c) refl (strip_exact a t rest) e
  where
    on : (x : Bool) → (d == c) ≡ x → (strip a t ≡ Some rest → t ≡ a ++ rest) → cond x (strip a t) None ≡ Some rest → d ∷ t ≡ c ∷ (a ++ rest)
    on true same more e =
        let head : d ≡ c = eqb-true d c same in
        let tail : t ≡ a ++ rest = more e in
        (λ i. head i ∷ tail i)
    on false other more e = absurd (cc)

-- what std's strip_prefix returns
pub stripped : (a t : List ℕ) (r : Option (Bor (List ℕ))) → MatchOption r ((rest : List ℕ) → t ≢ a ++ rest) (λ x. t ≡ a ++ x.now) → Strips a t r
stripped a t None h = on (strip a t) refl
  where
    on : (o : Option (List ℕ)) → strip a t ≡ o → strip a t ≡ None
    on None e = e
    on (Some rest) e = absurd (h rest (strip_exact a t rest e))
stripped a t (Some x) h = ap (strip a) h ∙ strip_front a x.now

-- two pieces and a third
pub strip_first : (lead : ℕ) (a b t : List ℕ) → strip (lead ∷ (a ++ b)) t ≡ option_and_then (λ m. option_and_then (strip b) (strip a m)) (strip (lead ∷ []) t)
strip_first lead a b t = strip_parts (lead ∷ []) (a ++ b) t ∙ on (strip (lead ∷ []) t)
  where
    on : (o : Option (List ℕ)) → option_and_then (strip (a ++ b)) o ≡ option_and_then (λ m. option_and_then (strip b) (strip a m)) o
    on None = refl
    on (Some m) = strip_parts a b m

-- ---- a text that is the piece alone

abbrev some_nil : Option (List ℕ)
some_nil = Some []

strip_self : (a : List ℕ) → strip a a ≡ Some []
strip_self a = ap (strip a) (sym (append-nil a)) ∙ strip_front a []

pub whole_text : (a t rest : List ℕ) (b : Bool) → b ≡ (length rest == 0) → strip a t ≡ Some rest → ((b ≡ true) → t ≡ a) × (t ≡ a → b ≡ true)
whole_text a t [] b is s = (λ e. strip_exact a t [] s ∙ append-nil a, λ e. is)
whole_text a t (c ∷ rest) b is s = (λ e. absurd (true≢false (sym e ∙ is ∙ ne_eqb (length (c ∷ rest)) 0 (λ z. omega arith))), λ e. other (sym (strip_self a) ∙ ap (strip a) (sym e) ∙ s))
  where
    other : some_nil ≡ Some (c ∷ rest) → b ≡ true
    other e = absurd (cc)

pub no_text : (a t : List ℕ) → strip a t ≡ None → (false ≡ true → t ≡ a) × (t ≡ a → false ≡ true)
no_text a t s = (λ e. absurd (true≢false (sym e)), λ e. other (sym (strip_self a) ∙ ap (strip a) (sym e) ∙ s))
  where
    other : some_nil ≡ None → false ≡ true
    other e = absurd (cc)

-- ---- pieces one after the other

pub strips_same : (p t q u : List ℕ) (r : Option (Bor (List ℕ))) → strip p t ≡ strip q u → Strips q u r → Strips p t r
strips_same p t q u None e h = e ∙ h
strips_same p t q u (Some x) e h = e ∙ h

pub strips_none : (p t : List ℕ) (r : Option (Bor (List ℕ))) → r ≡ None → strip p t ≡ None → Strips p t r
strips_none p t None is h = h
strips_none p t (Some x) is h = absurd (cc)

step : {A : Type 0} (g : A → List ℕ) (xs : List A) (i : ℕ) (d : A) (t : List ℕ) → i < length xs → strip (flat_map g (drop i xs)) t ≡ option_and_then (strip (flat_map g (drop (suc i) xs))) (strip (g (get_or xs i d)) t)
step g [] i d t h = absurd (omega arith)
step g (x ∷ xs) zero d t h = strip_parts (g x) (flat_map g xs) t
step g (x ∷ xs) (suc i) d t h = step g xs i d t (omega arith)

pub kept : {A : Type 0} (g : A → List ℕ) (xs : List A) (i : ℕ) (d : A) (t u : List ℕ) (whole : Option (List ℕ)) → i < length xs → strip (g (get_or xs i d)) t ≡ Some u → strip (flat_map g (drop i xs)) t ≡ whole → strip (flat_map g (drop (i + 1) xs)) u ≡ whole
kept g xs i d t u whole h s inv =
    let next : i + 1 ≡ suc i = omega arith in
    ap (λ k. strip (flat_map g (drop k xs)) u) next ∙ sym (step g xs i d t h ∙ ap (option_and_then (strip (flat_map g (drop (suc i) xs)))) s) ∙ inv

pub ends : {A : Type 0} (g : A → List ℕ) (xs : List A) (i : ℕ) (d : A) (t : List ℕ) (whole : Option (List ℕ)) → i < length xs → strip (g (get_or xs i d)) t ≡ None → strip (flat_map g (drop i xs)) t ≡ whole → whole ≡ None
ends g xs i d t whole h s inv = sym inv ∙ step g xs i d t h ∙ ap (option_and_then (strip (flat_map g (drop (suc i) xs)))) s

pub fields_on : (d : Decoded) (fields : List Field) (x : Field) (t m u : List ℕ) (r : Option (Bor (List ℕ))) → 1 ≤ length fields → strip (32 ∷ []) t ≡ Some m → strip (field_text d (get_or fields 0 x)) m ≡ Some u
    → Strips (flat_map (further_text d) (take (length fields - 1) (drop 1 fields))) u r → Strips (fields_text 32 fields d) t r
fields_on d [] x t m u r some a b s = absurd (omega arith)
fields_on d (f ∷ fs) x t m u r some a b s =
    let g = further_text d in
    let all : take (length (f ∷ fs) - 1) fs ≡ fs = take_all (length (f ∷ fs) - 1) fs (omega arith) in
    strips_same (32 ∷ (field_text d f ++ flat_map g fs)) t (flat_map g (take (length (f ∷ fs) - 1) fs)) u r
    (strip_first 32 (field_text d f) (flat_map g fs) t ∙ ap (option_and_then (λ k. option_and_then (strip (flat_map g fs)) (strip (field_text d f) k))) a ∙ ap (option_and_then (strip (flat_map g fs))) b ∙ ap (λ l. strip (flat_map g l) u) (sym all))
    s
