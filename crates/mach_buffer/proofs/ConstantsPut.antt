-- The constants that don't stand yet are put: where they end, what stands after them, and the room that they take.
use Rattle.std.proofs.Common.{[], ◌≡◌, ℕ, zero, suc, ◌+◌, ◌-◌, ◌%◌, ◌<◌, ◌≤◌, ◌⊎◌, inl, inr, ⊎_elim, List, ◌∷◌, ◌++◌, length, Option, Some, None, refl, ap, sym, ◌∙◌, subst, arith, append_assoc, false, take}
use Rattle.mach_buffer.proofs.Words.{nat_tests, cases_eq, length-append, slice_get, Kinds, ConstAlign, Constant, VCodeConstant, first_constant, ConstPlace, Shape, with_bytes, placed, constant_label, unplaced_of, IsConstantLabel, AllEnd, Lasts, zeros, aligned_to, constants_end, end_after, put_constant_at, put_constant, put_each, put_constants, reserve_from, reserve_of, alignment_reserve, IsOrdered, ConstantStands, AllStand, code_limit}
use Rattle.mach_buffer.proofs.ConstantOrder.{placed_other, next_there, next_unplaced, ordered_constant}
use Rattle.mach_buffer.proofs.Lasting.{none_added, some_added, lasts_places, lasts_same, lasts_more}
use Rattle.mach_uses.proofs.Lists.{append_each, found_at}

-- the next multiple is at most 15 after, is even, is its own next, and only grows
pub aligned_is : (a : ConstAlign) (n : ℕ) → (n ≤ aligned_to a n) × (aligned_to a n ≤ n + 15) × (aligned_to a n % 2 ≡ 0) × (aligned_to a (aligned_to a n) ≡ aligned_to a n) × ((m : ℕ) → m ≤ n → aligned_to a m ≤ aligned_to a n)
aligned_is a n = grind arith

pub length_zeros : (n : ℕ) → length (zeros n) ≡ n
length_zeros zero = refl
length_zeros (suc n) = ap suc (length_zeros n)

pub zeros_taken : (n k : ℕ) → n ≤ k → take n (zeros k) ≡ zeros n
zeros_taken zero k le = refl
zeros_taken (suc n) zero le = absurd (omega arith)
zeros_taken (suc n) (suc k) le = ap (λ (bs : List ℕ). 0 ∷ bs) (zeros_taken n k (omega arith))

-- they end after where they begin, and end later where they begin later
pub ends_is : (registered : List Constant) (ks : List VCodeConstant) (n : ℕ) → (n ≤ constants_end registered ks n) × ((m : ℕ) → m ≤ n → constants_end registered ks m ≤ constants_end registered ks n)
ends_is registered [] n = grind arith
ends_is registered (k ∷ ks) n = grind (arith, aligned_is, ends_is registered ks)

-- ---- room for those that don't stand yet

-- what stands elsewhere leaves it
pub reserve_other : (place new_place : ℕ → Option ℕ) (i : ℕ) (cs : List Constant) → ((n : ℕ) → i ≤ n → new_place (first_constant + n) ≡ place (first_constant + n)) → reserve_from new_place i cs ≡ reserve_from place i cs
reserve_other place new_place i [] same = refl
reserve_other place new_place i (c ∷ cs) same = grind (arith, same i, reserve_other place new_place (suc i) cs (λ n le. same n (omega arith)))

-- one that comes to stand takes what was kept for it
reserve_less : (place : ℕ → Option ℕ) (i n label at : ℕ) (cs : List Constant) (c : Constant) → slice_get cs n ≡ Some c → label ≡ first_constant + (i + n) → place label ≡ None → reserve_from (placed place label at) i cs + (length c.bytes + alignment_reserve) ≡ reserve_from place i cs
reserve_less place i n label at [] c h is free = absurd (cc)
reserve_less place i zero label at (d ∷ cs) c h is free =
    let rest = reserve_other place (placed place label at) (suc i) cs (λ m le. placed_other place label at (first_constant + m) (λ q. absurd (omega arith))) in
    let was : place (first_constant + i) ≡ None = ap place (omega arith) ∙ free in
    grind (arith, nat_tests, rest, was)
reserve_less place i (suc n) label at (d ∷ cs) c h is free = grind (arith, nat_tests, reserve_less place (suc i) n label at cs c h (omega arith) free)

-- what stands lasts
pub stands_last : {L : Type 0} {kinds : Kinds L} {s t : Shape L} → Lasts kinds s t → t.constants ≡ s.constants → AllStand kinds s → AllStand kinds t
stands_last {L} {kinds} {s} {t} l e stand j c h =
    let w = stand j c (ap (λ (cs : List ConstPlace). slice_get cs j) (sym e) ∙ h) in
    let lasts = lasts_more w.lasts l in
    grind arith

-- what stands after constants are put, where others are still to be put
pub record ConstantsDone {L : Type 0} (kinds : Kinds L) (s t : Shape L) (ks left : List VCodeConstant) : Type 0 where
  pub same : t ≡ record s { bytes = t.bytes; place = t.place; constants = t.constants }
  pub lasts : Lasts kinds s t
  pub ordered : IsOrdered t
  pub places : (label at : ℕ) → t.place label ≡ Some at → (s.place label ≡ Some at) ⊎ ((at ≤ length t.bytes) × (at % 2 ≡ 0) × IsConstantLabel s.named label)
  pub others : (label : ℕ) → label < first_constant → t.place label ≡ s.place label
  pub stand : AllEnd kinds s → AllStand kinds s → AllStand kinds t
  pub long : length t.bytes ≡ constants_end s.registered ks (length s.bytes)
  pub unplaced : unplaced_of t ≡ left
  pub room : (n : ℕ) → constants_end s.registered ks n + reserve_of t ≤ n + reserve_of s

-- the first of them is put
pub one_done : {L : Type 0} (kinds : Kinds L) (s : Shape L) (k : VCodeConstant) (ks : List VCodeConstant) → unplaced_of s ≡ k ∷ ks → IsOrdered s → ConstantsDone kinds s (put_constant k s) (k ∷ []) ks
one_done {L} kinds s k ks unplaced o =
    let there = next_there s k ks unplaced in
    let found = found_at s.registered k.number (o.known (length s.constants) k there) in
    let c = found.0 in
    let at = aligned_to c.align (length s.bytes) in
    let is = aligned_is c.align (length s.bytes) in
    let pad = zeros (at - length s.bytes) in
    let padded : length (s.bytes ++ pad) ≡ at = omega (arith, length-append s.bytes pad, length_zeros (at - length s.bytes)) in
    let long = length-append (s.bytes ++ pad) c.bytes in
    let label = (constant_label k).number in
    let free : s.place label ≡ None = o.free (length s.constants) k (omega arith) there in
    let stand : ConstPlace = record { constant = k; offset = at } in
    let one : Shape L = put_constant_at (Some c) k s in
    let stay : (other to : ℕ) → s.place other ≡ Some to → one.place other ≡ Some to = λ other to h. grind (arith, nat_tests) in
    let lasts : Lasts kinds s one = lasts_places kinds s one (record { more = pad ++ c.bytes; is = append_assoc s.bytes pad c.bytes }) refl stay (omega arith) (grind arith) refl (none_added _) (some_added _ _) in
    let after : Lasts kinds (with_bytes c.bytes (with_bytes pad s)) one = lasts_places kinds _ one (none_added _) refl stay (omega arith) (grind arith) refl (none_added _) (some_added _ _) in
    let named : IsConstantLabel s.named label = record { index = length s.constants; constant = k; there = there; is = refl } in
    rw found.1 (record {
      same = refl;
      lasts = lasts;
      ordered = ordered_constant s k ks at unplaced o;
      places = λ other to h. ⊎_elim (λ e. inr (grind (arith, nat_tests, is.2), grind (arith, nat_tests, is.2), subst (IsConstantLabel s.named) (sym e) named)) (λ ne. inl (grind (arith, nat_tests))) (cases_eq other label);
      others = λ other lt. grind (arith, nat_tests);
      stand = λ ends all. append_each (ConstantStands kinds one) s.constants stand
          (record { constant = c; there = found.1; before = with_bytes pad s; ends = λ j u h. grind (arith, ends j u h); at = sym padded; aligned = is.3; lasts = after })
          (λ j d h. let w = all j d h in let last = lasts_more w.lasts lasts in grind arith);
      long = rw found.1 (omega arith);
      unplaced = next_unplaced s k ks stand unplaced;
      room = λ n. rw found.1 (omega (arith, reserve_less s.place 0 k.number label at s.registered c found.1 (omega arith) free, (aligned_is c.align n).1));
    })

-- uses stay, whatever constants are put
pub uses_stay : {L : Type 0} (ks : List VCodeConstant) (s : Shape L) → (put_each ks s).uses ≡ s.uses
uses_stay [] s = refl
uses_stay {L} (k ∷ ks) s = grind (arith, uses_stay ks (put_constant k s))

-- several are, and all where none is left out
pub each_done : {L : Type 0} {kinds : Kinds L} (ks : List VCodeConstant) (s : Shape L) → unplaced_of s ≡ ks → IsOrdered s → ConstantsDone kinds s (put_each ks s) ks []
each_done {L} {kinds} [] s unplaced o = let lasts = lasts_same kinds s in grind arith
each_done {L} {kinds} (k ∷ ks) s unplaced o =
    let a = one_done kinds s k ks unplaced o in
    let b = each_done {kinds = kinds} ks (put_constant k s) a.unplaced a.ordered in
    let t = put_each ks (put_constant k s) in
    let same = b.same ∙ ap (λ (x : Shape L). record x { bytes = t.bytes; place = t.place; constants = t.constants }) a.same in
    let lasts = lasts_more a.lasts b.lasts in
    let long = rw (a.lasts.registered, a.long) at b.long in
    let stand : AllEnd kinds s → AllStand kinds s → AllStand kinds t = λ ends all. b.stand (λ j u h. grind (arith, ends j u, ap (λ (x : Shape L). x.uses) a.same, a.lasts.grows.longer)) (a.stand ends all) in
    let room : (n : ℕ) → constants_end s.registered (k ∷ ks) n + reserve_of t ≤ n + reserve_of s = λ n. omega (arith, rw a.lasts.registered at (a.room n), rw a.lasts.registered at (b.room (constants_end s.registered (k ∷ []) n))) in
    grind (arith, a.places, b.places, a.others, b.others, b.lasts.grows.longer, ap (λ (x : Shape L). x.named) a.same)

-- so they take no more room than was kept for them, of whatever kinds the uses are
pub ends_within : {L : Type 0} (s : Shape L) → IsOrdered s → (n : ℕ) → end_after s n + reserve_of (put_constants s) ≤ n + reserve_of s
ends_within {L} s o =
    let any : Kinds L = record { aims = λ k bytes to. ⊥; fields = λ k. []; forward = λ k. 0; backward = λ k. 0; has_veneer = λ k. false; veneer = λ k. record { bytes = []; place = 0; kind = k } } in
    (each_done {kinds = any} (unplaced_of s) s refl o).room

-- the rest is still to be put
pub record Putting {L : Type 0} (rest : List VCodeConstant) (first now : Shape L) : Type 0 where
  pub whole : put_each rest now ≡ put_constants first
  pub unplaced : unplaced_of now ≡ rest
  pub ordered : IsOrdered now
  pub room : constants_end now.registered rest (length now.bytes) < code_limit

module _ {L : Type 0} {k : VCodeConstant} {all rest : List VCodeConstant} {first now : Shape L} where
  pub putting_next : Kinds L → Putting all first now → all ≡ k ∷ rest → (new : Shape L) → new ≡ put_constant k now → Putting rest first new
  putting_next kinds w e new is =
      let a = one_done kinds now k rest (w.unplaced ∙ e) w.ordered in
      rw is (record { whole = rw e at w.whole; unplaced = a.unplaced; ordered = a.ordered; room = rw (a.lasts.registered, a.long) (rw e at w.room) })
