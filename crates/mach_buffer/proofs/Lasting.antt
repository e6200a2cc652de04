-- How a buffer grows, and what lasts in it.
use Rattle.std.proofs.Common.{[], ◌≡◌, ℕ, ◌+◌, ◌≤◌, true, List, ◌∷◌, ◌++◌, length, take, set, Option, Some, None, refl, ap, sym, ◌∙◌, arith, append_assoc}
use Rattle.mach_buffer.proofs.Words.{nat_tests, take-take, length-append, map-append, slice_get, MachLabel, Kinds, VCodeConstant, Event, MachRecord, Use, Shape, with_bytes, with_use, with_label, with_allocated, with_record, with_named, veneer_use, core, recorded, is_reached, put_at, put_veneer, put_all, IsNone, Grows, RecordsLast, Lasts}
use Rattle.mach_buffer.proofs.Links.{recorded_set}
use Rattle.mach_uses.proofs.Lists.{append_none, both_lists, map_each, only_one, slice_get-append, slice_get-set_other, take_front, pushed}
use Rattle.mach_buffer.proofs.ConstantOrder.{placed_other}

-- ---- growing

-- and then some more
pub grows_more : {L : Type 0} {b0 b1 b2 : List ℕ} {u0 u1 u2 : List (Use L)} {p0 p1 p2 : ℕ → Option ℕ} → Grows b0 u0 p0 b1 u1 p1 → Grows b1 u1 p1 b2 u2 p2 → Grows b0 u0 p0 b2 u2 p2
grows_more {L} {b0} {b1} {b2} {u0} {u1} {u2} {p0} {p1} {p2} x y =
    let before = sym (take-take (length b0) (length b1) b2 x.longer) ∙ ap (take (length b0)) y.before ∙ x.before in
    let grown = y.grown ∙ ap (λ us. us ++ y.more) x.grown ∙ append_assoc (recorded u0) x.more y.more in
    let after = both_lists (λ (u : Use L). length b0 ≤ u.offset) x.more y.more x.after (λ k u h. omega (arith, y.after k u h, x.longer)) in
    grind (arith, x.longer, y.longer, x.places, y.places)

-- by bytes, and uses whose windows stand among them
pub grows_put : {L : Type 0} {bytes : List ℕ} {uses : List (Use L)} {place : ℕ → Option ℕ} (block : List ℕ) (own : List (Use L)) → ((k : ℕ) (u : Use L) → slice_get own k ≡ Some u → length bytes ≤ u.offset) →
    (new_bytes : List ℕ) (new_uses : List (Use L)) (new_place : ℕ → Option ℕ) → new_bytes ≡ bytes ++ block → recorded new_uses ≡ recorded uses ++ recorded own → ((label to : ℕ) → place label ≡ Some to → new_place label ≡ Some to) →
    Grows bytes uses place new_bytes new_uses new_place
grows_put {L} {bytes} {uses} {place} block own after new_bytes new_uses new_place eb eu kept =
    let before = ap (take (length bytes)) eb ∙ take_front bytes block in
    let all_after = map_each (λ (x : Use L). length bytes ≤ x.offset) core own after in
    grind (arith, ap (length {A = ℕ}) eb, length-append bytes block)

-- what a list becomes as elements are added
pub record Added {X : Type 0} (xs ys : List X) : Type 0 where
  pub more : List X
  pub is : ys ≡ xs ++ more

abbrev pub none_added : {X : Type 0} (xs : List X) → Added xs xs
none_added xs = record { more = []; is = sym (append_none xs) }

abbrev pub some_added : {X : Type 0} (xs more : List X) → Added xs (xs ++ more)
some_added xs more = record { more = more; is = refl }

-- ---- lasting

-- a shape lasts in one whose lists only had elements added
pub lasts_added : {L : Type 0} (kinds : Kinds L) (s t : Shape L) → Added s.bytes t.bytes → (uses : Added s.uses t.uses) → ((k : ℕ) (u : Use L) → slice_get uses.more k ≡ Some u → length s.bytes ≤ u.offset) → ((label to : ℕ) → s.place label ≡ Some to → t.place label ≡ Some to) →
    s.allocated ≤ t.allocated → RecordsLast s t → t.registered ≡ s.registered → Added s.named t.named → Added s.constants t.constants → Lasts kinds s t
lasts_added {L} kinds s t bytes uses after places allocated records registered named constants =
    let grows = grows_put bytes.more uses.more after t.bytes t.uses t.place bytes.is (ap recorded uses.is ∙ map-append core s.uses uses.more) places in
    grind (arith, slice_get-append s.uses uses.more, slice_get-append s.named named.more, slice_get-append s.constants constants.more)

-- the labels are bound as they were, or one more is
pub lasts_places : {L : Type 0} (kinds : Kinds L) (s t : Shape L) → Added s.bytes t.bytes → t.uses ≡ s.uses → ((label to : ℕ) → s.place label ≡ Some to → t.place label ≡ Some to) → s.allocated ≤ t.allocated → RecordsLast s t → t.registered ≡ s.registered → Added s.named t.named → Added s.constants t.constants → Lasts kinds s t
lasts_places kinds s t bytes uses = lasts_added kinds s t bytes (record { more = []; is = uses ∙ sym (append_none s.uses) }) (λ k u h. absurd (cc))

pub lasts_same : {L : Type 0} (kinds : Kinds L) (s : Shape L) → Lasts kinds s s
lasts_same kinds s = lasts_places kinds s s (none_added _) refl (λ label to h. h) (omega arith) (grind arith) refl (none_added _) (none_added _)

-- a label in reach stays so
pub stays_reached : {L : Type 0} (kinds : Kinds L) (u : Use L) (old new : Option ℕ) → ((to : ℕ) → old ≡ Some to → new ≡ Some to) → is_reached kinds old u ≡ true → is_reached kinds new u ≡ true
stays_reached kinds u old new stays h = grind (arith, nat_tests, stays)

pub lasts_more : {L : Type 0} {kinds : Kinds L} {s t v : Shape L} → Lasts kinds s t → Lasts kinds t v → Lasts kinds s v
lasts_more {L} {kinds} {s} {t} {v} x y =
    let grows = grows_more x.grows y.grows in
    grind (arith, stays_reached, x.grows.longer)

pub lasts_bytes : {L : Type 0} (kinds : Kinds L) (piece : List ℕ) (s : Shape L) → Lasts kinds s (with_bytes piece s)
lasts_bytes kinds piece s = lasts_places kinds s (with_bytes piece s) (some_added _ _) refl (λ label to h. h) (omega arith) (grind arith) refl (none_added _) (none_added _)

pub lasts_use : {L : Type 0} (kinds : Kinds L) (u : Use L) (s : Shape L) → length s.bytes ≤ u.offset → Lasts kinds s (with_use u s)
lasts_use {L} kinds u s le = lasts_added kinds s (with_use u s) (none_added _) (some_added _ _) (only_one (λ (y : Use L). length s.bytes ≤ y.offset) u le) (λ label to h. h) (omega arith) (grind arith) refl (none_added _) (none_added _)

pub lasts_allocated : {L : Type 0} (kinds : Kinds L) (s : Shape L) → Lasts kinds s (with_allocated s)
lasts_allocated kinds s = lasts_places kinds s (with_allocated s) (none_added _) refl (λ label to h. h) (omega arith) (grind arith) refl (none_added _) (none_added _)

pub lasts_record : {L : Type 0} (kinds : Kinds L) (event : Event) (s : Shape L) → Lasts kinds s (with_record event s)
lasts_record kinds event s =
    let new : MachRecord = record { offset = length s.bytes; event = event } in
    let records : RecordsLast s (with_record event s) = grind (arith, slice_get-append s.records (new ∷ []), pushed s.records new) in
    lasts_places kinds s (with_record event s) (none_added _) refl (λ label to h. h) (omega arith) records refl (none_added _) (none_added _)

pub lasts_named : {L : Type 0} (kinds : Kinds L) (k : VCodeConstant) (s : Shape L) → Lasts kinds s (with_named k s)
lasts_named kinds k s = lasts_places kinds s (with_named k s) (none_added _) refl (λ label to h. h) (omega arith) (grind arith) refl (some_added _ _) (none_added _)

pub lasts_label : {L : Type 0} (kinds : Kinds L) (label : MachLabel) (s : Shape L) → s.place label.number ≡ None → Lasts kinds s (with_label label s)
lasts_label kinds label s unbound = lasts_places kinds s (with_label label s) (none_added _) refl (λ other to h. placed_other s.place label.number (length s.bytes) other (λ e. let none = ap s.place e ∙ unbound in absurd (cc)) ∙ h) (omega arith) (grind arith) refl (none_added _) (none_added _)

-- ---- veneers

-- what these veneers leave: all but bytes and uses, which grow, and each use that isn't one of theirs
pub record VeneersLast {L : Type 0} (kinds : Kinds L) (order : List ℕ) (s t : Shape L) : Type 0 where
  pub same : t ≡ record s { bytes = t.bytes; uses = t.uses }
  pub grows : Grows s.bytes s.uses s.place t.bytes t.uses s.place
  pub keeps : (j : ℕ) (u : Use L) → IsNone j order → slice_get s.uses j ≡ Some u → slice_get t.uses j ≡ Some u

one_last : {L : Type 0} (kinds : Kinds L) (i : ℕ) (o : Option (Use L)) (s : Shape L) → slice_get s.uses i ≡ o → VeneersLast kinds (i ∷ []) s (put_at kinds i o s)
one_last kinds i None s e = record { same = refl; grows = (lasts_same kinds s).grows; keeps = λ j u none h. h }
one_last {L} kinds i (Some u) s e =
    let v : Use L = record u { veneer = Some (length s.bytes) } in
    let own : Use L = veneer_use (kinds.veneer u.kind) (length s.bytes) u.label in
    record {
      same = refl;
      grows = grows_put (kinds.veneer u.kind).bytes (own ∷ []) (only_one (λ x. length s.bytes ≤ x.offset) own (omega arith)) _ _ s.place refl (map-append core (set s.uses i v) (own ∷ []) ∙ ap (λ us. us ++ own ∷ []) (recorded_set s.uses i u v e refl)) (λ label to h. h);
      keeps = λ j x none h. slice_get-append (set s.uses i v) (own ∷ []) j x (slice_get-set_other s.uses i j v (λ q. none.0 (sym q)) ∙ h);
    }

pub veneers_last : {L : Type 0} (kinds : Kinds L) (order : List ℕ) (s : Shape L) → VeneersLast kinds order s (put_all kinds order s)
veneers_last kinds [] s = record { same = refl; grows = (lasts_same kinds s).grows; keeps = λ j u none h. h }
veneers_last {L} kinds (i ∷ order) s =
    let a = one_last kinds i (slice_get s.uses i) s refl in
    let b = veneers_last kinds order (put_veneer kinds i s) in
    let t = put_all kinds (i ∷ order) s in
    let same = b.same ∙ ap (λ (x : Shape L). record x { bytes = t.bytes; uses = t.uses }) a.same in
    let grows = grows_more a.grows (rw (ap (λ (x : Shape L). x.place) a.same) at b.grows) in
    grind (arith, a.keeps, b.keeps)

-- a shape lasts, where no use in reach of its label is one of theirs
pub lasts_veneers : {L : Type 0} (kinds : Kinds L) (order : List ℕ) (s : Shape L) → ((j : ℕ) (u : Use L) → slice_get s.uses j ≡ Some u → is_reached kinds (s.place u.label.number) u ≡ true → IsNone j order) → Lasts kinds s (put_all kinds order s)
lasts_veneers {L} kinds order s none =
    let v = veneers_last kinds order s in
    rw v.same (grind (arith, none, v.keeps))
