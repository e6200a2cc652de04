-- The constants of an island, and those that the end puts, come after all bytes that stood before, one after the other.
use Rattle.rv_emit.proofs.Terms.{◌≡◌, ◌⊎◌, inl, inr, ⊎_elim, ℕ, zero, suc, ◌+◌, ◌-◌, ◌<◌, ◌≤◌, List, [], ◌∷◌, ◌++◌, length, Option, Some, None, refl, ap, sym, ◌∙◌, subst, arith, slice_get, length-append, same_Some, Kinds, ConstAlign, A1, Constant, VCodeConstant, MachLabel, ConstPlace, Use, Shape}
use Rattle.rv_emit.proofs.Terms.{with_bytes, unplaced_of, zeros, aligned_to, put_constant_at, put_constant, put_each, put_constants, put_at, put_veneer, put_all, Islanded, padding, padded, island_veneers, Finishes, padded_for, below, locate, StandInTurn, AddsConstants}

-- ---- several steps

pub adds_both : {L : Type 0} {s m t : Shape L} → AddsConstants s m → AddsConstants m t → AddsConstants s t
adds_both a b =
    let first = a.longer in
    let second = b.longer in
    record {
      longer = omega (arith, first, second);
      fresh = λ j c h. ⊎_elim (λ stood. a.fresh j c stood) (λ after. inr (omega (arith, first, after))) (b.fresh j c h);
      in_turn = λ turn. b.in_turn (a.in_turn turn);
      registered = b.registered ∙ a.registered;
    }

-- what puts no constant adds none
pub adds_none : {L : Type 0} {s t : Shape L} → length s.bytes ≤ length t.bytes → t.constants ≡ s.constants → t.registered ≡ s.registered → AddsConstants s t
adds_none {L} {s} {t} longer same known = record {
  longer = longer;
  fresh = λ j c h. inl (stood j c h);
  in_turn = λ turn. record {
    ascend = λ i j c d k lt hc hd hk. turn.ascend i j c d k lt (stood i c hc) (stood j d hd) (was c k hk);
    within = λ j c k hc hk. let le = turn.within j c k (stood j c hc) (was c k hk) in omega (arith, le, longer);
  };
  registered = known;
}
  where
    stood : (j : ℕ) (c : ConstPlace) → slice_get t.constants j ≡ Some c → slice_get s.constants j ≡ Some c
    stood j c h = ap (λ (cs : List ConstPlace). slice_get cs j) (sym same) ∙ h

    was : (c : ConstPlace) (k : Constant) → slice_get t.registered c.constant.number ≡ Some k → slice_get s.registered c.constant.number ≡ Some k
    was c k h = ap (λ (cs : List Constant). slice_get cs c.constant.number) (sym known) ∙ h

-- where nothing is put, none is
pub adds_same : {L : Type 0} (s : Shape L) → AddsConstants s s
adds_same s = adds_none (omega arith) refl refl

-- bytes more
adds_bytes : {L : Type 0} (more : List ℕ) (s : Shape L) → AddsConstants s (with_bytes more s)
adds_bytes more s = let long = length-append s.bytes more in adds_none (omega (arith, long)) refl refl

-- ---- a constant

aligned_after : (a : ConstAlign) (n : ℕ) → n ≤ aligned_to a n
aligned_after A1 n = omega arith
aligned_after a n = omega arith

zeros_long : (n : ℕ) → length (zeros n) ≡ n
zeros_long zero = refl
zeros_long (suc n) = ap suc (zeros_long n)

one_there : {X : Type 0} (y : X) (i : ℕ) (x : X) → slice_get (y ∷ []) i ≡ Some x → (i ≡ 0) × (y ≡ x)
one_there y zero x h = (refl, same_Some _ _ h)
one_there y (suc i) x h = absurd (cc)

-- an element of the others, or the last
pub before_or_last : {X : Type 0} (xs : List X) (y : X) (j : ℕ) (x : X) → slice_get (xs ++ y ∷ []) j ≡ Some x → (slice_get xs j ≡ Some x) ⊎ ((j ≡ length xs) × (y ≡ x))
before_or_last xs y j x h = ⊎_elim (λ a. inl a) (λ d. let o = one_there y d.index x d.there in let e = d.is in let z = o.0 in inr (omega arith, o.1)) (locate xs (y ∷ []) j x h)

-- one constant more
module _ {L : Type 0} (s : Shape L) (name : VCodeConstant) (constant : Constant) (known : slice_get s.registered name.number ≡ Some constant) where
  abbrev at : ℕ
  at = aligned_to constant.align (length s.bytes)

  abbrev new : Shape L
  new = put_constant_at (Some constant) name s

  abbrev last : ConstPlace
  last = record { constant = name; offset = at }

  -- it begins after all bytes, and ends with them
  begins : length s.bytes ≤ at
  begins = aligned_after constant.align (length s.bytes)

  ends : length new.bytes ≡ at + length constant.bytes
  ends = let fill = zeros (at - length s.bytes) in omega (arith, length-append (s.bytes ++ fill) constant.bytes, length-append s.bytes fill, zeros_long (at - length s.bytes), begins)

  stood_or_last : (j : ℕ) (c : ConstPlace) → slice_get new.constants j ≡ Some c → (slice_get s.constants j ≡ Some c) ⊎ ((j ≡ length s.constants) × (last ≡ c))
  stood_or_last j c h = before_or_last s.constants last j c h

  -- those that stood end before it begins
  ascend : StandInTurn s → (i j : ℕ) (c d : ConstPlace) (k : Constant) → i < j → slice_get s.registered c.constant.number ≡ Some k → (slice_get s.constants i ≡ Some c) ⊎ ((i ≡ length s.constants) × (last ≡ c)) → (slice_get s.constants j ≡ Some d) ⊎ ((j ≡ length s.constants) × (last ≡ d)) → c.offset + length k.bytes ≤ d.offset
  ascend turn i j c d k lt hk (inl hc) (inl hd) = turn.ascend i j c d k lt hc hd hk
  ascend turn i j c d k lt hk (inl hc) (inr (e, is)) = let le = turn.within i c k hc hk in let here : at ≡ d.offset = ap (λ (p : ConstPlace). p.offset) is in omega (arith, le, here, begins)
  ascend turn i j c d k lt hk (inr (e, is)) (inl hd) = let inside = below s.constants j d hd in absurd (omega (arith, lt, e, inside))
  ascend turn i j c d k lt hk (inr (e, is)) (inr (f, there)) = absurd (omega (arith, lt, e, f))

  within : StandInTurn s → (j : ℕ) (c : ConstPlace) (k : Constant) → slice_get s.registered c.constant.number ≡ Some k → (slice_get s.constants j ≡ Some c) ⊎ ((j ≡ length s.constants) × (last ≡ c)) → c.offset + length k.bytes ≤ length new.bytes
  within turn j c k hk (inl hc) = omega (arith, turn.within j c k hc hk, begins, ends)
  within turn j c k hk (inr (e, is)) =
      let here : at ≡ c.offset = ap (λ (p : ConstPlace). p.offset) is in
      let same : constant ≡ k = same_Some _ _ (sym known ∙ ap (λ (p : ConstPlace). slice_get s.registered p.constant.number) is ∙ hk) in
      let long : length constant.bytes ≡ length k.bytes = ap (λ (x : Constant). length x.bytes) same in
      omega (arith, here, long, ends)

  adds_constant : AddsConstants s new
  adds_constant = record {
    longer = let after = begins in let end = ends in omega (arith, after, end);
    fresh = λ j c h. ⊎_elim (λ stood. inl stood) (λ x. inr (let here : at ≡ c.offset = ap (λ (p : ConstPlace). p.offset) x.1 in let after = begins in omega (arith, here, after))) (stood_or_last j c h);
    in_turn = λ turn. record {
      ascend = λ i j c d k lt hc hd hk. ascend turn i j c d k lt hk (stood_or_last i c hc) (stood_or_last j d hd);
      within = λ j c k hc hk. within turn j c k hk (stood_or_last j c hc);
    };
    registered = refl;
  }

adds_found : {L : Type 0} (found : Option Constant) (name : VCodeConstant) (s : Shape L) → slice_get s.registered name.number ≡ found → AddsConstants s (put_constant_at found name s)
adds_found None name s known = adds_none (omega arith) refl refl
adds_found (Some constant) name s known = adds_constant s name constant known

adds_each : {L : Type 0} (names : List VCodeConstant) (s : Shape L) → AddsConstants s (put_each names s)
adds_each [] s = adds_none (omega arith) refl refl
adds_each (name ∷ names) s = adds_both (adds_found (slice_get s.registered name.number) name s refl) (adds_each names (put_constant name s))

-- ---- veneers

adds_veneer : {L : Type 0} (kinds : Kinds L) (index : ℕ) (user : Option (Use L)) (s : Shape L) → AddsConstants s (put_at kinds index user s)
adds_veneer kinds index None s = adds_none (omega arith) refl refl
adds_veneer kinds index (Some u) s = let long = length-append s.bytes (kinds.veneer u.kind).bytes in adds_none (omega (arith, long)) refl refl

adds_veneers : {L : Type 0} (kinds : Kinds L) (order : List ℕ) (s : Shape L) → AddsConstants s (put_all kinds order s)
adds_veneers kinds [] s = adds_none (omega arith) refl refl
adds_veneers kinds (index ∷ order) s = adds_both (adds_veneer kinds index (slice_get s.uses index) s) (adds_veneers kinds order (put_veneer kinds index s))

-- veneers, and the constants that don't stand yet
adds_last : {L : Type 0} (kinds : Kinds L) (order : List ℕ) (s : Shape L) → AddsConstants s (put_constants (put_all kinds order s))
adds_last kinds order s = adds_both (adds_veneers kinds order s) (adds_each (unplaced_of (put_all kinds order s)) (put_all kinds order s))

-- ---- an island, and the end

pub adds_island : {L : Type 0} (kinds : Kinds L) (after_island : MachLabel) (old new : Shape L) → Islanded kinds after_island old new → AddsConstants old new
adds_island {L} kinds after_island old new i =
    let order = island_veneers kinds old i.jump i.order in
    let put : Shape L = put_constants (put_all kinds order (padded old)) in
    subst (λ (t : Shape L). AddsConstants old t) (sym i.whole)
    (adds_both (adds_bytes (padding (length old.bytes)) old)
    (adds_both (adds_last kinds order (padded old))
    (adds_both (adds_bytes (padding (length put.bytes)) put) (adds_none (omega arith) refl refl))))

adds_padding : {L : Type 0} (count : ℕ) (s : Shape L) → AddsConstants s (padded_for count s)
adds_padding zero s = adds_none (omega arith) refl refl
adds_padding (suc count) s = adds_bytes (padding (length s.bytes)) s

pub adds_end : {L : Type 0} (kinds : Kinds L) (s : Shape L) (bytes : List ℕ) (f : Finishes kinds s bytes) → AddsConstants s f.put
adds_end {L} kinds s bytes f = subst (λ (t : Shape L). AddsConstants s t) (sym f.whole) (adds_both (adds_padding (length f.order) s) (adds_last kinds f.order (padded_for (length f.order) s)))
