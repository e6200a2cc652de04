-- Veneers that stand, and the windows of uses, as code and uses are added.
use Rattle.std.proofs.Common.{[], ◌≡◌, ◌≢◌, ℕ, ◌+◌, ◌-◌, ◌%◌, ◌≤◌, ◌⊎◌, inl, inr, true, false, List, ◌∷◌, ◌++◌, length, take, drop, set, Option, Some, None, refl, ap, sym, ◌∙◌, subst, arith}
use Rattle.std.proofs.Math.Seq.{drop-append-add}
use Rattle.mach_buffer.proofs.Words.{true≢false, same_Some, slice_get-map, drop-take, take-take, length-append, length-drop, take_all, set-append_left, map-set, set-get_or, slice_get, Kinds, Veneer, IsVeneer, IsFresh, Use, veneer_use, core, recorded, window, IsApart, AreWindows, deadline, HasVeneer, IsLinked, common_steps, gets}
use Rattle.mach_uses.proofs.Lists.{append_each, below, both_lists, changed, locate, one_there, only_one, set_each, slice_get-append, slice_get-append_last, slice_get-set_other, take_front, mapped}
use Rattle.mach_buffer.proofs.Windows.{fresh_in_prefix}

-- the veneer of each kind that has one
abbrev pub HasLaw : {L : Type 0} → Kinds L → Type 0
HasLaw {L} kinds = (kind : L) → kinds.has_veneer kind ≡ true → IsVeneer kinds (kinds.veneer kind)

-- a window stays as bytes are added
pub window_stays : (bytes new : List ℕ) (p n : ℕ) → p + n ≤ length bytes → take (length bytes) new ≡ bytes → window new p n ≡ window bytes p n
window_stays bytes new p n le e =
    sym (drop-take p n new) ∙ ap (drop p) (sym (take-take (p + n) (length bytes) new le) ∙ ap (take (p + n)) e) ∙ drop-take p n bytes

-- the window at the end of what was there
pub window_last : (bytes code : List ℕ) → window (bytes ++ code) (length bytes) (length code) ≡ code
window_last bytes code = grind (arith, common_steps)

module _ {L : Type 0} {kinds : Kinds L} {bytes : List ℕ} {uses : List (Use L)} where
  -- a veneer stays where its own use does, whatever is known of the veneer's place
  has_stays : {u : Use L} {at : ℕ} (o : Option ℕ) (new_bytes : List ℕ) (new_uses : List (Use L)) → take (length bytes) new_bytes ≡ bytes → length bytes ≤ length new_bytes → (h : HasVeneer kinds bytes uses u at) → slice_get new_uses h.index ≡ Some (veneer_use (kinds.veneer u.kind) at u.label) →
      HasVeneer kinds new_bytes new_uses (record u { veneer = o }) at
  has_stays o new_bytes new_uses before longer h own = record { inside = (let i = h.inside in omega arith); code = window_stays bytes new_bytes _ 8 h.inside before ∙ h.code; index = h.index; own = own; near = h.near; after = h.after; supported = h.supported; even = h.even }

  -- bytes are added
  pub linked_bytes : IsLinked kinds bytes uses → (more : List ℕ) → IsLinked kinds (bytes ++ more) uses
  linked_bytes l more =
      let longer : length bytes ≤ length (bytes ++ more) = omega (arith, length-append bytes more) in
      record { each = λ j u at h e. let v = l.each j u at h e in has_stays u.veneer (bytes ++ more) uses (take_front bytes more) longer v v.own; before = λ j u h. omega (arith, l.before j u h, longer) }

  -- a use is added, with no veneer yet
  pub linked_use : IsLinked kinds bytes uses → (u : Use L) → u.veneer ≡ None → u.offset ≤ length bytes → IsLinked kinds bytes (uses ++ u ∷ [])
  linked_use l u bare le = record {
    each = λ j x at h e. append_each (λ x. (at : ℕ) → x.veneer ≡ Some at → HasVeneer kinds bytes (uses ++ u ∷ []) x at) uses u (λ at e. absurd (cc))
        (λ j x h at e. let v = l.each j x at h e in has_stays x.veneer bytes (uses ++ u ∷ []) (take_all (length bytes) bytes (omega arith)) (omega arith) v (slice_get-append uses (u ∷ []) v.index _ v.own)) j x h at e;
    before = append_each (λ x. x.offset ≤ length bytes) uses u le l.before;
  }

  -- a use gets a veneer that stands
  linked_set : HasLaw kinds → IsLinked kinds bytes uses → (i : ℕ) (u : Use L) → slice_get uses i ≡ Some u → (at : ℕ) → HasVeneer kinds bytes uses u at → IsLinked kinds bytes (set uses i (record u { veneer = Some at }))
  linked_set law l i u there at has =
      let v : Use L = record u { veneer = Some at } in
      let new = set uses i v in
      -- a veneer's own use supports none, so it isn't the one that is changed
      let stays : (x : Use L) (to : ℕ) (o : Option ℕ) → HasVeneer kinds bytes uses x to → HasVeneer kinds bytes new (record x { veneer = o }) to = λ x to o h.
      let differs : h.index ≢ i = λ same. true≢false (sym has.supported ∙ ap (λ (y : Use L). kinds.has_veneer y.kind) (same_Some _ _ (sym there ∙ ap (slice_get uses) (sym same) ∙ h.own)) ∙ (law x.kind h.supported).final) in
      has_stays o bytes new (take_all (length bytes) bytes (omega arith)) (omega arith) h (slice_get-set_other uses i h.index v differs ∙ h.own) in
      record {
        each = λ j x to h e. set_each (λ x. (to : ℕ) → x.veneer ≡ Some to → HasVeneer kinds bytes new x to) uses i v (λ to e. subst (HasVeneer kinds bytes new v) (same_Some _ _ e) (stays u at (Some at) has)) (λ j x h to e. stays x to x.veneer (l.each j x to h e)) j x h to e;
        before = set_each (λ x. x.offset ≤ length bytes) uses i v (l.before i u there) l.before;
      }

-- ---- uses as they were recorded

pub recorded_set : {L : Type 0} (uses : List (Use L)) (i : ℕ) (u v : Use L) → slice_get uses i ≡ Some u → core v ≡ core u → recorded (set uses i v) ≡ recorded uses
recorded_set uses i u v h e = map-set core uses i v ∙ grind (arith, common_steps, gets, slice_get-map core uses i, set-get_or (recorded uses) i (core u))

pub recorded_get : {L : Type 0} (uses : List (Use L)) (i : ℕ) (u : Use L) → slice_get uses i ≡ Some u → slice_get (recorded uses) i ≡ Some (core u)
recorded_get = mapped core

-- ---- the windows of uses, as a buffer grows

pub windows_bytes : {L : Type 0} {kinds : Kinds L} {bytes : List ℕ} {uses : List (Use L)} → AreWindows kinds bytes uses → (more : List ℕ) → AreWindows kinds (bytes ++ more) uses
windows_bytes {L} {kinds} {bytes} {uses} w more =
    let long = length-append bytes more in
    let fresh : (j : ℕ) (u : Use L) → slice_get uses j ≡ Some u → IsFresh (kinds.fields u.kind) (window (bytes ++ more) u.offset (length (kinds.fields u.kind))) =
    λ j u h. rw (window_stays bytes (bytes ++ more) u.offset (length (kinds.fields u.kind)) (w.inside j u h) (take_front bytes more)) (w.fresh j u h) in
    grind (arith, w.inside, w.veneers)

pub windows_none : {L : Type 0} {kinds : Kinds L} → AreWindows kinds [] []
windows_none {L} {kinds} = grind arith

window_block : (bytes block : List ℕ) (place size : ℕ) → length bytes ≤ place → window (bytes ++ block) place size ≡ window block (place - length bytes) size
window_block bytes block place size le =
    let split : length bytes + (place - length bytes) ≡ place = omega arith in
    ap (take size) (ap (λ n. drop n (bytes ++ block)) (sym split) ∙ drop-append-add bytes block (place - length bytes))

-- ---- a sequence with its own uses

-- the windows of a sequence's own uses stand in it, at even places, fresh and apart, and have no veneers yet
pub record OwnWindows {L : Type 0} (kinds : Kinds L) (start : ℕ) (block : List ℕ) (own : List (Use L)) : Type 0 where
  pub bare : (k : ℕ) (u : Use L) → slice_get own k ≡ Some u → u.veneer ≡ None
  pub even : (k : ℕ) (u : Use L) → slice_get own k ≡ Some u → u.offset % 2 ≡ 0
  pub begins : (k : ℕ) (u : Use L) → slice_get own k ≡ Some u → start ≤ u.offset
  pub ends : (k : ℕ) (u : Use L) → slice_get own k ≡ Some u → u.offset + length (kinds.fields u.kind) ≤ start + length block
  pub fresh : (k : ℕ) (u : Use L) → slice_get own k ≡ Some u → IsFresh (kinds.fields u.kind) (window block (u.offset - start) (length (kinds.fields u.kind)))
  pub apart : (j k : ℕ) (u v : Use L) → j ≢ k → slice_get own j ≡ Some u → slice_get own k ≡ Some v → IsApart u.offset (length (kinds.fields u.kind)) v.offset (length (kinds.fields v.kind))

pub windows_block : {L : Type 0} {kinds : Kinds L} {bytes : List ℕ} {uses : List (Use L)} → AreWindows kinds bytes uses → (block : List ℕ) (own : List (Use L)) → OwnWindows kinds (length bytes) block own → AreWindows kinds (bytes ++ block) (uses ++ own)
windows_block {L} {kinds} {bytes} {uses} w block own o = record {
  even = both_lists (λ x. x.offset % 2 ≡ 0) uses own w.even o.even;
  inside = both_lists (λ x. x.offset + length (kinds.fields x.kind) ≤ length (bytes ++ block)) uses own (λ k x q. let i = w.inside k x q in omega (arith, length-append bytes block)) (λ k x q. let i = o.ends k x q in omega (arith, length-append bytes block));
  fresh = both_lists (λ x. IsFresh (kinds.fields x.kind) (window (bytes ++ block) x.offset (length (kinds.fields x.kind)))) uses own (windows_bytes w block).fresh
      (λ k x q. subst (IsFresh (kinds.fields x.kind)) (sym (window_block bytes block x.offset (length (kinds.fields x.kind)) (o.begins k x q))) (o.fresh k x q));
  apart = λ j k u v ne hj hk. grind (arith, locate uses own j u hj, locate uses own k v hk, w.apart j k u v, o.apart, w.inside j u, w.inside k v, o.begins);
  veneers = λ j u at h e. both_lists (λ x. (to : ℕ) → x.veneer ≡ Some to → to + 8 ≤ length (bytes ++ block)) uses own
      (λ k x q to v. let i = w.veneers k x to q v in omega (arith, length-append bytes block)) (λ k x q to v. let bare = o.bare k x q in absurd (cc)) j u h at e;
  clear = λ j k u v at hj e hk. grind (arith, locate uses own j u hj, locate uses own k v hk, w.clear j k u v at, w.veneers j u at, o.begins, o.bare);
}

-- with one use
pub windows_use : {L : Type 0} {kinds : Kinds L} {bytes : List ℕ} {uses : List (Use L)} → AreWindows kinds bytes uses → (block : List ℕ) (u : Use L) (from : ℕ) → u.veneer ≡ None → u.offset % 2 ≡ 0 → u.offset ≡ length bytes + from → from + length (kinds.fields u.kind) ≤ length block →
    IsFresh (kinds.fields u.kind) (window block from (length (kinds.fields u.kind))) → AreWindows kinds (bytes ++ block) (uses ++ u ∷ [])
windows_use {L} {kinds} {bytes} w block u from bare even at ends fresh =
    let start : u.offset - length bytes ≡ from = omega arith in
    let there : IsFresh (kinds.fields u.kind) (window block (u.offset - length bytes) (length (kinds.fields u.kind))) = rw start fresh in
    let alone = only_one (λ x. IsFresh (kinds.fields x.kind) (window block (x.offset - length bytes) (length (kinds.fields x.kind)))) u there in
    windows_block w block (u ∷ []) (grind (arith, one_there u))

-- ---- a veneer

-- a use gets a veneer that stands
windows_set : {L : Type 0} {kinds : Kinds L} {bytes : List ℕ} {uses : List (Use L)} → HasLaw kinds → IsLinked kinds bytes uses → (i : ℕ) (u : Use L) → slice_get uses i ≡ Some u → kinds.has_veneer u.kind ≡ true → (at : ℕ) → at + 8 ≤ length bytes → AreWindows kinds bytes uses →
    ((k : ℕ) (y : Use L) → slice_get uses k ≡ Some y → (y ≡ veneer_use (kinds.veneer u.kind) at u.label) ⊎ IsApart y.offset (length (kinds.fields y.kind)) at 8) → AreWindows kinds bytes (set uses i (record u { veneer = Some at }))
windows_set {L} {kinds} {bytes} {uses} law l i u there supported at within w fits =
    let v : Use L = record u { veneer = Some at } in
    let was = changed uses i v in
    -- a use in a veneer supports none
    let final : (j : ℕ) (x : Use L) (to : ℕ) → slice_get uses j ≡ Some x → x.veneer ≡ Some to → kinds.has_veneer (kinds.veneer x.kind).kind ≡ false = λ j x to h e. (law x.kind (l.each j x to h e).supported).final in
    record {
      even = set_each (λ x. x.offset % 2 ≡ 0) uses i v (w.even i u there) w.even;
      inside = set_each (λ x. x.offset + length (kinds.fields x.kind) ≤ length bytes) uses i v (w.inside i u there) w.inside;
      fresh = set_each (λ x. IsFresh (kinds.fields x.kind) (window bytes x.offset (length (kinds.fields x.kind)))) uses i v (w.fresh i u there) w.fresh;
      apart = λ j k x y ne hj hk. grind (arith, was j x hj, was k y hk, w.apart j k x y ne, w.apart j k u y ne, w.apart j k x u ne);
      veneers = λ j x to h e. grind (arith, was j x h, w.veneers j x to, within);
      clear = λ j k x y to hj e hk. grind (arith, was j x hj, was k y hk, w.clear j k x y to, w.clear j k x u to, fits k y, fits k u, final j x to, (law u.kind supported).final);
    }

-- a use gets its veneer: what is linked stays so, and so do the windows
pub veneer_put : {L : Type 0} {kinds : Kinds L} {bytes : List ℕ} {uses : List (Use L)} → HasLaw kinds → IsLinked kinds bytes uses → (i : ℕ) (u : Use L) → slice_get uses i ≡ Some u → length bytes ≤ deadline kinds u → kinds.has_veneer u.kind ≡ true → length bytes % 2 ≡ 0 →
    let new_bytes = bytes ++ (kinds.veneer u.kind).bytes in let new_uses = set uses i (record u { veneer = Some (length bytes) }) ++ veneer_use (kinds.veneer u.kind) (length bytes) u.label ∷ [] in IsLinked kinds new_bytes new_uses × (AreWindows kinds bytes uses → AreWindows kinds new_bytes new_uses)
veneer_put {L} {kinds} {bytes} {uses} law l i u there near supported even =
    let V = kinds.veneer u.kind in
    let ok : IsVeneer kinds V = law u.kind supported in
    let own : Use L = veneer_use V (length bytes) u.label in
    let long : length (bytes ++ V.bytes) ≡ length bytes + 8 = length-append bytes V.bytes ∙ ap (λ n. length bytes + n) ok.eight in
    let more = linked_use (linked_bytes l V.bytes) own refl (omega (arith, long, ok.inside)) in
    let still = slice_get-append uses (own ∷ []) i u there in
    let code = ap (window (bytes ++ V.bytes) (length bytes)) (sym ok.eight) ∙ window_last bytes V.bytes in
    let has : HasVeneer kinds (bytes ++ V.bytes) (uses ++ own ∷ []) u (length bytes) = grind (arith, slice_get-append_last uses own, l.before i u there) in
    let rest = drop V.place V.bytes in
    let fresh = fresh_in_prefix (kinds.fields V.kind) 0 (length rest) (length (kinds.fields V.kind)) rest (omega (arith, length-drop V.place V.bytes, ok.eight, ok.inside)) (omega arith) (subst (IsFresh (kinds.fields V.kind)) (sym (take_all (length rest) rest (omega arith))) ok.fresh) in
    rw (← set-append_left uses (own ∷ []) i (record u { veneer = Some (length bytes) }) (below uses i u there)) (
      linked_set law more i u still (length bytes) has,
      λ w. windows_set law more i u still supported (length bytes) has.inside (windows_use w V.bytes own V.place refl (omega (arith, even, ok.place_even)) refl (omega (arith, ok.eight, ok.inside)) fresh)
          (append_each (λ y. (y ≡ own) ⊎ IsApart y.offset (length (kinds.fields y.kind)) (length bytes) 8) uses own (inl refl) (λ k y h. inr (inl (w.inside k y h)))),
    )

-- the uses after a veneer is put: the one that goes by it, and the veneer's own
pub uses_veneered : {L : Type 0} {old now new : List (Use L)} {at end : ℕ} {u changed own : Use L} (V : Veneer L) (index : ℕ) → now ≡ old → changed ≡ u → at ≡ end → own ≡ veneer_use V at u.label → new ≡ set now index (record changed { veneer = Some at }) ++ own ∷ [] →
    new ≡ set old index (record u { veneer = Some end }) ++ veneer_use V end u.label ∷ []
uses_veneered {L} {old} {now} {new} {at} {end} {u} V index kept same there mine put = put ∙ (λ i. set (kept i) index (record (same i) { veneer = Some (there i) }) ++ mine i ∷ []) ∙ (λ i. set old index (record u { veneer = Some end }) ++ veneer_use V (there i) u.label ∷ [])
