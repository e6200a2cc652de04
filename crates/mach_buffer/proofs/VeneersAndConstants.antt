-- Zero bytes, veneers, and constants, put one after the other.
use Rattle.std.proofs.Common.{[], ◌≡◌, ℕ, ◌+◌, ◌-◌, ◌*◌, ◌%◌, ◌<◌, ◌≤◌, inr, ⊎_elim, Bool, true, false, List, ◌++◌, length, drop, Option, Some, refl, ap, sym, ◌∙◌, subst, arith, ◌⊎◌, inl, ◌∷◌, set, None, append_assoc}
use Rattle.mach_buffer.proofs.Words.{take-append-drop, nat_tests, length-append, slice_get, IsSomeAnd, first_constant, code_limit, Kinds, Use, ConstPlace, Shape, with_bytes, unplaced_of, IsUsable, is_reached, is_pending, AreWindows, IsLinked, put_all, aligned, padding, with_own, Grows, Lasts, end_after, put_constants, AreOrdered, IsOrdered, AllStand, IsNone, CanPutAll, AddsOwn, le-leb, and_from, length-map, map-append, MachLabel, veneer_use, core, recorded, put_veneer, IsOwn, CanPutAt, CanPut, IsWhole}
use Rattle.mach_uses.proofs.Lists.{below, append_none, both_lists, changed, comes_from, locate, only_one, slice_get-append, slice_get-set_other, pushed}
use Rattle.mach_buffer.proofs.Links.{HasLaw, linked_bytes, windows_bytes, recorded_get, recorded_set, veneer_put}
use Rattle.mach_buffer.proofs.Lasting.{stays_reached, grows_more, lasts_bytes, lasts_more, lasts_veneers, veneers_last}
use Rattle.mach_buffer.proofs.ConstantsPut.{length_zeros, ends_is, ConstantsDone, each_done, stands_last}

-- ---- padding

pub length_padded : (bytes : List ℕ) → length (bytes ++ padding (length bytes)) ≡ aligned (length bytes)
length_padded bytes = let z = length_zeros (aligned (length bytes) - length bytes) in let l = length-append bytes (padding (length bytes)) in omega arith

pub padding_even : (n : ℕ) → n % 2 ≡ 0 → length (padding n) % 2 ≡ 0
padding_even n e = let z = length_zeros (aligned n - n) in omega arith

pub aligned_near : (n : ℕ) → n % 2 ≡ 0 → aligned n ≤ n + 2
aligned_near n e = omega arith

-- a use was there, with the same place, kind and label
pub record Was {L : Type 0} (uses : List (Use L)) (j : ℕ) (u : Use L) : Type 0 where
  pub was : Use L
  pub there : slice_get uses j ≡ Some was
  pub alike : core was ≡ core u

pub recorded_at : {L : Type 0} (new_uses uses : List (Use L)) (more : List (Use L)) → recorded new_uses ≡ recorded uses ++ more → (j : ℕ) (u : Use L) → slice_get new_uses j ≡ Some u → Was uses j u ⊎ ((k : ℕ) × (j ≡ length uses + k) × (slice_get more k ≡ Some (core u)))
recorded_at new_uses uses more e j u h = ⊎_elim
    (λ a. let c = comes_from core uses j (core u) a in inl (record { was = c.from; there = c.there; alike = c.is }))
    (λ a. inr (a.index, a.is ∙ ap (λ (n : ℕ). n + a.index) (length-map uses core), a.there))
    (locate (recorded uses) more j (core u) (ap (λ us. slice_get us j) (sym e) ∙ recorded_get new_uses j u h))

-- what is said of each label that was used is said of each that is
pub own_labels : {L : Type 0} {kinds : Kinds L} {from : ℕ} {uses new_uses : List (Use L)} → AddsOwn kinds from uses new_uses → (P : MachLabel → Type 0) → ((j : ℕ) (u : Use L) → slice_get uses j ≡ Some u → P u.label) → (j : ℕ) (u : Use L) → slice_get new_uses j ≡ Some u → P u.label
own_labels {L} {kinds} {from} {uses} {new_uses} a P each j u h = ⊎_elim
    (λ w. subst (λ (x : Use L). P x.label) w.alike (each j w.was w.there))
    (λ r. let x = a.own r.0 (core u) r.2 in subst P x.names (each x.user x.used x.there))
    (recorded_at new_uses uses a.more a.grown j u h)

-- no use in a veneer was added, and then some more
pub adds_none : {L : Type 0} {kinds : Kinds L} (from : ℕ) (uses : List (Use L)) → AddsOwn kinds from uses uses
adds_none from uses = grind (arith, append_none)

pub adds_more : {L : Type 0} {kinds : Kinds L} {from next : ℕ} {uses mid new : List (Use L)} → from ≤ next → AddsOwn kinds from uses mid → AddsOwn kinds next mid new → AddsOwn kinds from uses new
adds_more {L} {kinds} {from} {next} {uses} {mid} le a b =
    let grown = b.grown ∙ ap (λ us. us ++ b.more) a.grown ∙ append_assoc (recorded uses) a.more b.more in
    let own = both_lists (IsOwn kinds uses from) a.more b.more a.own (λ k x h.
    let o = b.own k x h in
    let w = own_labels a (λ l. (u : Use L) × (k : ℕ) × (slice_get uses k ≡ Some u) × (u.label ≡ l)) (λ j u q. (u, j, q, refl)) o.user o.used o.there in
    record { after = omega (arith, o.after); bare = o.bare; final = o.final; far = o.far; user = w.1; used = w.0; there = w.2; names = w.3 ∙ o.names }) in
    record { more = a.more ++ b.more; grown = grown; own = own }

-- ---- between two veneers

-- the others can still get theirs
pub can_still : {L : Type 0} (kinds : Kinds L) (uses : List (Use L)) (i : ℕ) (v own : Use L) (cur : ℕ) (order : List ℕ) → IsNone i order → CanPut kinds uses cur order → CanPut kinds (set uses i v ++ own ∷ []) cur order
can_still kinds uses i v own cur [] none can = tt
can_still kinds uses i v own cur (j ∷ order) none can =
    let c = can.0 in
    let there = slice_get-append (set uses i v) (own ∷ []) j c.user (slice_get-set_other uses i j v none.0 ∙ c.there) in
    (record { user = c.user; there = there; supported = c.supported; near = c.near }, can.1, can_still kinds uses i v own (cur + 8) order none.1 can.2)

-- the rest are still to be put
pub record Going {L : Type 0} (kinds : Kinds L) (rest order : List ℕ) (first now : Shape L) : Type 0 where
  pub whole : put_all kinds rest now ≡ put_all kinds order first
  pub even : length now.bytes % 2 ≡ 0
  pub can : CanPut kinds now.uses (length now.bytes) rest
  pub room : length now.bytes + 8 * length rest < code_limit

module _ {L : Type 0} {kinds : Kinds L} {i : ℕ} {all rest order : List ℕ} {first now : Shape L} where
  -- what the next veneer asks
  pub going_may : Going kinds all order first now → all ≡ i ∷ rest → IsSomeAnd (slice_get now.uses i) (λ u. kinds.has_veneer u.kind ≡ true)
  going_may w e = let c = (rw e at w.can).0 in rw c.there c.supported

  pub going_room : Going kinds all order first now → all ≡ i ∷ rest → length now.bytes + 8 < code_limit
  going_room w e = omega (arith, w.room, ap (length {A = ℕ}) e)

  -- it is put
  pub going_next : HasLaw kinds → Going kinds all order first now → all ≡ i ∷ rest → (new : Shape L) → new ≡ put_veneer kinds i now → Going kinds rest order first new
  going_next law w e new is =
      let can = rw e at w.can in
      let c = can.0 in
      let long = length-append now.bytes (kinds.veneer c.user.kind).bytes in
      let eight = (law c.user.kind c.supported).eight in
      let still = can_still kinds now.uses i (record c.user { veneer = Some (length now.bytes) }) (veneer_use (kinds.veneer c.user.kind) (length now.bytes) c.user.label) (length now.bytes + 8) rest can.1 can.2 in
      rw (is, c.there) (grind (arith, w.whole))

-- ---- all of them

-- what stands after the veneers of these uses
pub record AllPut {L : Type 0} (kinds : Kinds L) (order : List ℕ) (s t : Shape L) : Type 0 where
  pub linked : IsLinked kinds t.bytes t.uses
  pub even : length t.bytes % 2 ≡ 0
  pub long : length t.bytes ≡ length s.bytes + 8 * length order
  pub grown : AddsOwn kinds (length s.bytes) s.uses t.uses
  pub kept : (j : ℕ) (u : Use L) → slice_get t.uses j ≡ Some u → u.veneer ≡ None → kinds.has_veneer u.kind ≡ true → (slice_get s.uses j ≡ Some u) × IsNone j order
  pub windows : AreWindows kinds s.bytes s.uses → AreWindows kinds t.bytes t.uses

all_one : {L : Type 0} {kinds : Kinds L} → HasLaw kinds → (i : ℕ) (s : Shape L) → IsLinked kinds s.bytes s.uses → length s.bytes % 2 ≡ 0 → CanPutAt kinds s.uses (length s.bytes) i → AllPut kinds (i ∷ []) s (put_veneer kinds i s)
all_one {L} {kinds} law i s linked even can =
    let u = can.user in
    let ok = law u.kind can.supported in
    let v : Use L = record u { veneer = Some (length s.bytes) } in
    let own : Use L = veneer_use (kinds.veneer u.kind) (length s.bytes) u.label in
    let long = length-append s.bytes (kinds.veneer u.kind).bytes in
    let put = veneer_put law linked i u can.there can.near can.supported even in
    let is_own : IsOwn kinds s.uses (length s.bytes) own = record { after = omega arith; bare = refl; final = ok.final; far = and_from _ _ (le-leb _ _ ok.far_forward) (le-leb _ _ ok.far_backward); user = i; used = u; there = can.there; names = refl } in
    rw can.there (record {
      linked = put.0;
      even = omega (arith, ok.eight);
      long = omega (arith, ok.eight);
      grown = record { more = own ∷ []; grown = map-append core (set s.uses i v) (own ∷ []) ∙ ap (λ us. us ++ own ∷ []) (recorded_set s.uses i u v can.there refl); own = only_one (IsOwn kinds s.uses (length s.bytes)) own is_own };
      kept = λ j x h bare has. grind (arith, pushed (set s.uses i v) own j x h, changed s.uses i v j x, ok.final);
      windows = put.1;
    })

pub all_put : {L : Type 0} {kinds : Kinds L} → HasLaw kinds → {all : List ℕ} {first : Shape L} (order : List ℕ) (s : Shape L) → IsLinked kinds s.bytes s.uses → Going kinds order all first s → AllPut kinds order s (put_all kinds order s)
all_put law [] s linked w = record { linked = linked; even = w.even; long = omega arith; grown = adds_none (length s.bytes) s.uses; kept = λ j u h bare has. (h, tt); windows = λ x. x }
all_put {L} {kinds} law (i ∷ order) s linked w =
    let a = all_one law i s linked w.even w.can.0 in
    let b = all_put law order (put_veneer kinds i s) a.linked (going_next law w refl _ refl) in
    record { linked = b.linked; even = b.even; long = omega (arith, a.long, b.long); grown = adds_more (omega (arith, a.long)) a.grown b.grown; kept = λ j u h bare has. grind (arith, b.kept j u h, a.kept j u); windows = λ w. b.windows (a.windows w) }

-- ---- veneers, with that of the last use before the others where it needs one

module _ {L : Type 0} {kinds : Kinds L} {all : List ℕ} {first now : Shape L} where
  -- what the last use's own veneer asks
  pub own_asks : (needed : Bool) (jump : ℕ) (order : List ℕ) → Going kinds (with_own needed jump order) all first now → needed ≡ true → (jump < length now.uses) × IsSomeAnd (slice_get now.uses jump) (λ u. kinds.has_veneer u.kind ≡ true) × (length now.bytes + 8 < code_limit)
  own_asks needed jump order w e = let v = rw e at w in (below now.uses jump v.can.0.user v.can.0.there, going_may v refl, going_room v refl)

  pub own_going : HasLaw kinds → (needed : Bool) (jump : ℕ) (order : List ℕ) → Going kinds (with_own needed jump order) all first now → Going kinds order all first (put_all kinds (with_own needed jump []) now)
  own_going law true jump order w = going_next law w refl _ refl
  own_going law false jump order w = w

module _ {L : Type 0} {kinds : Kinds L} {s : Shape L} {order : List ℕ} where
  pub going_from : CanPutAll kinds s order → Going kinds order order s s
  going_from c = record { whole = refl; even = c.even; can = c.can; room = omega (arith, c.room, (ends_is s.registered (unplaced_of s) (length s.bytes + 8 * length order)).0) }

  -- the constants can be put after them
  pub after_veneers : HasLaw kinds → CanPutAll kinds s order → (t : Shape L) → t ≡ put_all kinds order s → IsOrdered t × (end_after t (length t.bytes) < code_limit)
  after_veneers law c t e = let long = (all_put law order s c.linked (going_from c)).long in rw (e, (veneers_last kinds order s).same) (c.ordered, subst (λ n. end_after s n < code_limit) (sym long) c.room)

-- ---- what stands after them

pub grown_pending : {L : Type 0} (kinds : Kinds L) (place new_place : ℕ → Option ℕ) (u : Use L) → ((label to : ℕ) → place label ≡ Some to → new_place label ≡ Some to) → is_pending kinds new_place u ≡ true → is_pending kinds place u ≡ true
grown_pending kinds place new_place u stays h = grind (arith, nat_tests, stays_reached kinds u (place u.label.number) (new_place u.label.number) (stays u.label.number))

-- after zero bytes, these veneers and the constants that don't stand yet
pub record Extended {L : Type 0} (kinds : Kinds L) (pad : List ℕ) (order : List ℕ) (s : Shape L) : Type 0 where
  pub bytes : List ℕ
  pub uses : List (Use L)
  pub place : ℕ → Option ℕ
  pub constants : List ConstPlace
  pub is : put_constants (put_all kinds order (with_bytes pad s)) ≡ record s { bytes = bytes; uses = uses; place = place; constants = constants }
  pub linked : IsLinked kinds bytes uses
  pub places : (label at : ℕ) → place label ≡ Some at → (at ≤ length bytes) × (at % 2 ≡ 0) × IsUsable s label
  pub known : (j : ℕ) (u : Use L) → slice_get uses j ≡ Some u → IsUsable s u.label.number
  pub ordered : AreOrdered s.allocated place s.registered s.named constants
  pub unplaced : drop (length constants) s.named ≡ []
  pub grows : Grows s.bytes s.uses s.place bytes uses place
  pub own : AddsOwn kinds (length s.bytes) s.uses uses
  pub windows : AreWindows kinds s.bytes s.uses → AreWindows kinds bytes uses
  pub others : (label : ℕ) → label < first_constant → place label ≡ s.place label
  pub long : length bytes ≡ end_after s (length (s.bytes ++ pad) + 8 * length order)
  pub idle : (new_place : ℕ → Option ℕ) → ((j : ℕ) (u : Use L) → slice_get s.uses j ≡ Some u → u.offset ≤ length bytes → IsNone j order → is_pending kinds new_place u ≡ false) → (j : ℕ) (u : Use L) → slice_get uses j ≡ Some u → is_pending kinds new_place u ≡ false
  pub stand : ((j : ℕ) (u : Use L) → slice_get s.uses j ≡ Some u → is_reached kinds (s.place u.label.number) u ≡ true → IsNone j order) → AreWindows kinds s.bytes s.uses → AllStand kinds s → AllStand kinds (record s { bytes = bytes; uses = uses; place = place; constants = constants })

pub extended : {L : Type 0} {kinds : Kinds L} → HasLaw kinds → (pad order : List ℕ) (s : Shape L) → IsWhole kinds s → length pad % 2 ≡ 0 → CanPutAll kinds (with_bytes pad s) order → Extended kinds pad order s
extended {L} {kinds} law pad order s w even can =
    let padded = with_bytes pad s in
    let all = all_put law order padded (linked_bytes w.linked pad) (going_from can) in
    let last = veneers_last kinds order padded in
    let t : Shape L = record s { bytes = (put_all kinds order padded).bytes; uses = (put_all kinds order padded).uses } in
    let d = put_constants t in
    let c : ConstantsDone kinds t d (unplaced_of t) [] = each_done (unplaced_of t) t refl w.ordered in
    let longer = c.lasts.grows.longer in
    let more = drop (length t.bytes) d.bytes in
    let bytes : t.bytes ++ more ≡ d.bytes = ap (λ bs. bs ++ more) (sym c.lasts.grows.before) ∙ take-append-drop (length t.bytes) d.bytes in
    let put_windows : AreWindows kinds s.bytes s.uses → AreWindows kinds t.bytes t.uses = λ x. all.windows (windows_bytes x pad) in
    record {
      bytes = d.bytes;
      uses = t.uses;
      place = d.place;
      constants = d.constants;
      is = ap put_constants last.same ∙ c.same;
      linked = subst (λ (bs : List ℕ). IsLinked kinds bs t.uses) bytes (linked_bytes all.linked more);
      places = λ label at h. ⊎_elim (λ a. let q = w.places label at a in (omega (arith, q.0, length-append s.bytes pad, all.long, longer), q.1, q.2)) (λ a. (a.0, a.1, inr a.2)) (c.places label at h);
      known = own_labels all.grown (λ l. IsUsable s l.number) w.known;
      ordered = subst (λ (x : Shape L). IsOrdered x) c.same c.ordered;
      unplaced = ap (λ (x : Shape L). unplaced_of x) (sym c.same) ∙ c.unplaced;
      grows = grows_more (lasts_bytes kinds pad s).grows (grows_more last.grows (subst (λ (x : Shape L). Grows t.bytes t.uses t.place x.bytes x.uses x.place) c.same c.lasts.grows));
      own = adds_more (omega (arith, length-append s.bytes pad)) (adds_none (length s.bytes) s.uses) all.grown;
      windows = λ x. subst (λ (bs : List ℕ). AreWindows kinds bs t.uses) bytes (windows_bytes (put_windows x) more);
      others = c.others;
      long = c.long ∙ ap (end_after s) all.long;
      idle = λ new_place each j u h. grind (arith, nat_tests, all.kept j u h, all.linked.before j u h, each j u, longer);
      stand = λ none x stand.
          let to_veneers : Lasts kinds s t = subst (Lasts kinds s) last.same (lasts_more (lasts_bytes kinds pad s) (lasts_veneers kinds order padded none)) in
          subst (AllStand kinds) c.same (c.stand (λ j u h. (put_windows x).inside j u h) (stands_last to_veneers refl stand));
    }
