-- The constants of a sound buffer, as they are registered, named and put; and the places of labels.
use Rattle.std.proofs.Common.{[], arith, ◌≡◌, ◌≢◌, ℕ, zero, suc, ◌+◌, ◌<◌, ◌≤◌, ◌⊎◌, ⊎_elim, true, false, List, ◌∷◌, ◌++◌, length, map, take, drop, Option, Some, None, refl, ap, sym, ◌∙◌, append-nil, Bool, set}
use Rattle.mach_buffer.proofs.Words.{nat_tests, common_steps, cases_eq, eq-eqb, ne_eqb, true≢false, slice_get-map, gets, get_or_from_slice_get, length-drop, length-append, map-append, take-append-le, take_all, slice_get, is_some, if◌then◌else◌, Constant, VCodeConstant, first_inner, first_constant, ConstPlace, Shape, placed, constant_label, inner_count, is_named, with_named, unplaced_of, IsUsable, IsConstantLabel, offset_in, AreOrdered, IsOrdered, cases_Bool, drop_more, nil_from_length, length-map, length-set, option_map, nat_eq, ◌||◌, name_more, AreNoted, take_more}
use Rattle.mach_uses.proofs.Lists.{append_each, below, none_of, comes_from, pushed, found_at, slice_get-append_last, slice_get-set_other}

-- ---- the places of labels

pub placed_same : (place : ℕ → Option ℕ) (label at : ℕ) → placed place label at label ≡ Some at
placed_same place label at = ap (λ b. if b then Some at else place label) (eq-eqb label label refl)

pub placed_other : (place : ℕ → Option ℕ) (label at other : ℕ) → other ≢ label → placed place label at other ≡ place other
placed_other place label at other ne = ap (λ b. if b then Some at else place other) (ne_eqb other label ne)

-- what is given out next is the label of no constant, and may not be named yet
pub not_next : {L : Type 0} (s : Shape L) {label : ℕ} → s.allocated < inner_count → label ≡ first_inner + s.allocated → IsUsable s label → ⊥
not_next s few e u = absurd (grind (arith, nat_tests))

-- ---- a constant is named

-- where one of a number is named
pub is_named_at : (named : List VCodeConstant) (number : ℕ) → is_named named number ≡ true → (i : ℕ) × (k : VCodeConstant) × (slice_get named i ≡ Some k) × (k.number ≡ number)
is_named_at [] number h = absurd (true≢false (sym h))
is_named_at (n ∷ named) number h = ⊎_elim (λ e. (0, n, refl, e)) (λ ne. let r = is_named_at named number (grind (arith, nat_tests)) in (suc r.0, r.1, r.2, r.3)) (cases_eq n.number number)

pub not_named : (named : List VCodeConstant) (number : ℕ) → is_named named number ≡ false → (i : ℕ) (k : VCodeConstant) → slice_get named i ≡ Some k → k.number ≢ number
not_named [] number h i k e q = absurd (cc)
not_named (n ∷ named) number h zero k e q = absurd (grind (arith, nat_tests))
not_named (n ∷ named) number h (suc i) k e q = absurd (grind (arith, nat_tests, not_named named number))

pub ordered_named : {L : Type 0} (s : Shape L) (k : VCodeConstant) → k.number < length s.registered → ((label at : ℕ) → s.place label ≡ Some at → IsUsable s label) → IsOrdered s → IsOrdered (with_named k s)
ordered_named {L} s k known usable o = ⊎_elim (λ e. rw e (rw (append-nil s.named) o)) (λ e. rw e (more e)) (cases_Bool (is_named s.named k.number))
  where
    more : is_named s.named k.number ≡ false → AreOrdered s.allocated s.place s.registered (s.named ++ k ∷ []) s.constants
    more e =
        let others = not_named s.named k.number e in
        let unbound = none_of (s.place (constant_label k).number) (λ at h. grind (arith, usable (constant_label k).number at h, o.few)) in
        let few : length s.constants ≤ length s.named = grind (arith, nat_tests, common_steps, ap (length {A = VCodeConstant}) o.first) in
        let first = take-append-le (length s.constants) s.named (k ∷ []) few in
        grind (arith, pushed s.named k, o.once, o.free)

-- ---- a table says which constants are named

-- none is noted, where none is named
pub noted_none : (registered : List Constant) (named : List VCodeConstant) (seen : List Bool) → named ≡ [] → seen ≡ map (λ (c : Constant). false) registered → AreNoted registered named seen
noted_none registered named seen none e = rw (none, e) (record { long = length-map registered (λ (c : Constant). false); each = λ n lt. let c = found_at registered n lt in slice_get-map (λ (c : Constant). false) registered n ∙ ap (option_map (λ (c : Constant). false)) c.1 })

-- where none is registered, none is named
pub none_named : {L : Type 0} (s : Shape L) → IsOrdered s → s.registered ≡ [] → s.named ≡ []
none_named s o none = nil_from_length s.named (grind (arith, found_at s.named 0, o.known 0, ap (length {A = Constant}) none))

named_append : (named : List VCodeConstant) (k : VCodeConstant) (n : ℕ) → is_named (named ++ k ∷ []) n ≡ (is_named named n || nat_eq k.number n)
named_append [] k n = grind (arith, nat_tests)
named_append (m ∷ named) k n = grind (arith, nat_tests, named_append named k n)

pub noted_more : (registered : List Constant) (named : List VCodeConstant) (seen : List Bool) (k : VCodeConstant) → AreNoted registered named seen → k.number < length registered → AreNoted registered (named ++ k ∷ []) (set seen k.number true)
noted_more registered named seen k h lt = record { long = length-set seen k.number true ∙ h.long; each = λ n low. grind (arith, nat_tests, common_steps, gets, h.long, h.each n, named_append named k n, slice_get-set_other seen k.number n true) }

-- the label of a constant that was named may be used
pub name_there : (k : VCodeConstant) (named : List VCodeConstant) → IsConstantLabel (name_more k named) (constant_label k).number
name_there k named = ⊎_elim
    (λ e. let r = is_named_at named k.number e in record { index = r.0; constant = r.1; there = rw (e, append-nil) r.2; is = ap (λ n. first_constant + n) (sym r.3) })
    (λ e. record { index = length named; constant = k; there = rw e (slice_get-append_last named k); is = refl })
    (cases_Bool (is_named named k.number))

-- ---- the next constant is put

-- what stands is one more, the first of those that didn't stand yet
pub next_there : {L : Type 0} (s : Shape L) (k : VCodeConstant) (ks : List VCodeConstant) → unplaced_of s ≡ k ∷ ks → slice_get s.named (length s.constants) ≡ Some k
next_there s k ks e = grind (arith, common_steps, gets)

-- the others are still to be put
pub next_unplaced : {L : Type 0} (s : Shape L) (k : VCodeConstant) (ks : List VCodeConstant) (c : ConstPlace) → unplaced_of s ≡ k ∷ ks → drop (length (s.constants ++ c ∷ [])) s.named ≡ ks
next_unplaced s k ks c e = grind (arith, length-append s.constants (c ∷ []), drop_more s.named (length s.constants) k (below s.named _ k (next_there s k ks e)))

pub ordered_constant : {L : Type 0} (s : Shape L) (k : VCodeConstant) (ks : List VCodeConstant) (at : ℕ) → unplaced_of s ≡ k ∷ ks → IsOrdered s → AreOrdered s.allocated (placed s.place (constant_label k).number at) s.registered s.named (s.constants ++ record { constant = k; offset = at } ∷ [])
ordered_constant {L} s k ks at e o =
    let there = next_there s k ks e in
    let c : ConstPlace = record { constant = k; offset = at } in
    let long : length (s.constants ++ c ∷ []) ≡ length s.constants + 1 = length-append s.constants (c ∷ []) in
    let first = map-append (λ (x : ConstPlace). x.constant) s.constants (c ∷ []) ∙ ap (λ (xs : List VCodeConstant). xs ++ k ∷ []) o.first ∙ sym (ap (λ n. take n s.named) long ∙ take_more s.named (length s.constants) k (below s.named _ k there) ∙ ap (λ (x : VCodeConstant). take (length s.constants) s.named ++ x ∷ []) (get_or_from_slice_get s.named (length s.constants) k k there)) in
    -- a constant that stands is one of the first that were named
    let stood : (j : ℕ) (d : ConstPlace) → slice_get s.constants j ≡ Some d → (j < length s.constants) × (slice_get s.named j ≡ Some d.constant) = λ j d h.
    grind (arith, common_steps, gets, below s.constants j d h, slice_get-map (λ (x : ConstPlace). x.constant) s.constants j, ap (λ (xs : List VCodeConstant). slice_get xs j) o.first) in
    let bound = append_each (λ (x : ConstPlace). placed s.place (constant_label k).number at (constant_label x.constant).number ≡ Some x.offset) s.constants c (placed_same s.place (constant_label k).number at)
    (λ j d h. grind (arith, nat_tests, stood j d h, o.once j (length s.constants) d.constant k, o.bound j d h)) in
    let free : (i : ℕ) (l : VCodeConstant) → length (s.constants ++ c ∷ []) ≤ i → slice_get s.named i ≡ Some l → placed s.place (constant_label k).number at (constant_label l).number ≡ None = λ i l le h. grind (arith, nat_tests, o.once i (length s.constants) l k, o.free i l) in
    assumption

-- ---- once all stand

-- the first constant of a number, where there is one
offset_found : (cs : List ConstPlace) (number at : ℕ) → offset_in cs number ≡ Some at → (j : ℕ) × (c : ConstPlace) × (slice_get cs j ≡ Some c) × (c.constant.number ≡ number) × (c.offset ≡ at)
offset_found [] number at e = absurd (cc)
offset_found (d ∷ cs) number at e = ⊎_elim (λ q. (0, d, refl, q, grind (arith, nat_tests))) (λ ne. let r = offset_found cs number at (grind (arith, nat_tests)) in (suc r.0, r.1, r.2, r.3, r.4)) (cases_eq d.constant.number number)

offset_missing : (cs : List ConstPlace) (number : ℕ) → offset_in cs number ≡ None → (j : ℕ) (c : ConstPlace) → slice_get cs j ≡ Some c → c.constant.number ≢ number
offset_missing [] number e j c h q = absurd (cc)
offset_missing (d ∷ cs) number e zero c h q = absurd (grind (arith, nat_tests))
offset_missing (d ∷ cs) number e (suc j) c h q = offset_missing cs number (grind (arith, nat_tests)) j c h q

module _ {L : Type 0} (s : Shape L) (o : IsOrdered s) (unplaced : unplaced_of s ≡ []) where
  -- all that were named stand, in their order
  pub all_listed : map (λ (c : ConstPlace). c.constant) s.constants ≡ s.named
  all_listed = o.first ∙ take_all (length s.constants) s.named (omega (arith, length-drop (length s.constants) s.named, ap (length {A = VCodeConstant}) unplaced))

  -- one that was named stands
  stands_named : (i : ℕ) (k : VCodeConstant) → slice_get s.named i ≡ Some k → (c : ConstPlace) × (j : ℕ) × (slice_get s.constants j ≡ Some c) × (c.constant ≡ k)
  stands_named i k h = let c = comes_from (λ (c : ConstPlace). c.constant) s.constants i k (ap (λ (ks : List VCodeConstant). slice_get ks i) all_listed ∙ h) in (c.from, i, c.there, c.is)

  -- so a label that is bound, or that of a constant that was named, is bound
  pub bound_or_named : (label : ℕ) → (is_some (s.place label) ≡ true) ⊎ IsConstantLabel s.named label → is_some (s.place label) ≡ true
  bound_or_named label h = grind (arith, nat_tests, stands_named, o.bound)

  -- the place of a constant's label is where it stands
  pub place_offset : ((label at : ℕ) → s.place label ≡ Some at → IsUsable s label) → (number : ℕ) → s.place (first_constant + number) ≡ offset_in s.constants number
  place_offset usable number = grind (arith, nat_tests, offset_found s.constants number, offset_missing s.constants number, usable (first_constant + number), stands_named, o.bound, o.few)
