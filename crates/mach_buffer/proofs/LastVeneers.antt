-- The last veneers: that they can be put, what stands after them, and where each use goes once it is patched.
use Rattle.std.proofs.Common.{[], ◌≡◌, ◌≢◌, ℕ, zero, suc, ◌+◌, ◌-◌, ◌*◌, ◌%◌, ◌<◌, ◌≤◌, inl, inr, ⊎_elim, true, false, List, ◌++◌, length, map, take, drop, Option, Some, None, unwrap_or, refl, ap, sym, ◌∙◌, arith, pos, ◌-ℤ◌}
use Rattle.mach_buffer.proofs.Words.{nat_tests, take-take, drop-drop, drop-take, length-drop, take_all, true≢false, cases_Bool, false_from_ne_true, slice_get, is_some, code_limit, Kinds, IsVeneer, Patch, Use, first_constant, ConstPlace, Shape, with_bytes, veneer_use, core, unplaced_of, IsLinked, end_after, offset_in, AllStand, is_reached, is_pending, is_other, Grows, window, AreWindows, CanPatch, CanPatchAll, IsApart, AllAim, AllKept, KeepsOthers, or_place, patch_of, patches_of, put_all, IsOrder, aligned, padding, is_far, before_last, padded, padded_for, pending_in, last_end, CanFinish, Finishes, Arrives, AllArrive, CanPutAll, IsWhole, MachLabel, length-append, LastPut, CanPut}
use Rattle.mach_buffer.proofs.Links.{HasLaw, linked_bytes}
use Rattle.mach_uses.proofs.Lists.{append_none, comes_from, map_each, mapped}
use Rattle.mach_buffer.proofs.Lasting.{veneers_last}
use Rattle.mach_buffer.proofs.ConstantOrder.{all_listed, bound_or_named, place_offset}
use Rattle.mach_buffer.proofs.ConstantsPut.{ends_is, uses_stay}
use Rattle.mach_uses.proofs.OrderOfVeneers.{order_none, order_has, order_long, can_order, not_pending}
use Rattle.mach_buffer.proofs.VeneersAndConstants.{recorded_at, own_labels, length_padded, padding_even, grown_pending, Extended, extended}
use Rattle.mach_uses.proofs.Slack.{reaches_from_each}

-- all that is pending names another label than none
pub other_none : {L : Type 0} (kinds : Kinds L) (place : ℕ → Option ℕ) → is_other kinds place None ≡ is_pending kinds place
other_none kinds place = let same : (u : _) → is_other kinds place None u ≡ is_pending kinds place u = λ u. grind (arith, nat_tests) in λ i. λ u. same u i

-- at most three bytes of padding stand before the last veneers
pub last_near : (bytes : List ℕ) (count : ℕ) → length (before_last bytes count) ≤ length bytes + 3
last_near bytes count = grind (arith, nat_tests, length_padded bytes)

pub padding_for : {L : Type 0} (n : ℕ) (s : Shape L) → (pad : List ℕ) × (padded_for n s ≡ with_bytes pad s) × (s.bytes ++ pad ≡ before_last s.bytes n) × (length s.bytes % 2 ≡ 0 → length pad % 2 ≡ 0)
padding_for zero s = ([], λ i. record s { bytes = sym (append_none s.bytes) i }, append_none s.bytes, λ e. refl)
padding_for (suc n) s = (padding (length s.bytes), refl, grind (arith, nat_tests), padding_even (length s.bytes))

pub padded_some : {L : Type 0} (n : ℕ) (s : Shape L) → (n ≡ 0 → ⊥) → padded_for n s ≡ padded s
padded_some zero s some = absurd (some refl)
padded_some (suc n) s some = refl

-- ---- the veneers can be put in their order

module _ {L : Type 0} (kinds : Kinds L) (s : Shape L) (order : List ℕ) where
  last_start : IsOrder kinds (is_pending kinds s.place) s.uses order → length (s.bytes ++ (padding_for (length order) s).0) ≡ length (before_last s.bytes (length (pending_in kinds s)))
  last_start o = ap (length {A = ℕ}) (padding_for (length order) s).2 ∙ ap (λ n. length (before_last s.bytes n)) (order_long o)

  pub padded_can : IsWhole kinds s → CanFinish kinds s → IsOrder kinds (is_pending kinds s.place) s.uses order → CanPutAll kinds (with_bytes (padding_for (length order) s).0 s) order
  padded_can sound can o =
      let d = padding_for (length order) s in
      let linked = linked_bytes sound.linked d.0 in
      let even : length (s.bytes ++ d.0) % 2 ≡ 0 = omega (arith, d.3 sound.even, length-append s.bytes d.0, sound.even) in
      let put : CanPut kinds s.uses (length (s.bytes ++ d.0)) order = can_order (length (s.bytes ++ d.0)) o (λ u h. grind (arith, nat_tests)) (rw (last_start o) (reaches_from_each _ _ can.reach)) in
      let room : end_after s (length (s.bytes ++ d.0) + 8 * length order) < code_limit = rw (last_start o, order_long o) can.short in
      assumption

  pub last_room : CanFinish kinds s → IsOrder kinds (is_pending kinds s.place) s.uses order → (count : ℕ) → count ≡ length order → count ≢ 0 → aligned (length s.bytes) < code_limit
  last_room can o count e ne = grind (arith, nat_tests, can.short, (ends_is s.registered (unplaced_of s) (last_end kinds s)).0, order_long o, length_padded s.bytes)

-- ---- what stands after the last veneers and the constants

pub some_place : (o : Option ℕ) → is_some o ≡ true → (to : ℕ) × (o ≡ Some to)
some_place None e = absurd (true≢false (sym e))
some_place (Some to) e = (to, refl)

pub record LastDone {L : Type 0} (kinds : Kinds L) (s put : Shape L) : Type 0 where
  pub same : put ≡ record s { bytes = put.bytes; uses = put.uses; place = put.place; constants = put.constants }
  pub linked : IsLinked kinds put.bytes put.uses
  pub places : (label at : ℕ) → put.place label ≡ Some at → (at ≤ length put.bytes) × (at % 2 ≡ 0)
  pub windows : AreWindows kinds put.bytes put.uses
  pub idle : (j : ℕ) (u : Use L) → slice_get put.uses j ≡ Some u → is_pending kinds put.place u ≡ false
  pub direct : (j : ℕ) (u : Use L) → slice_get put.uses j ≡ Some u → kinds.has_veneer u.kind ≡ false → is_reached kinds (put.place u.label.number) u ≡ true
  pub grows : Grows s.bytes s.uses s.place put.bytes put.uses put.place
  pub long : length put.bytes ≡ end_after s (last_end kinds s)
  pub bound : (j : ℕ) (u : Use L) → slice_get put.uses j ≡ Some u → is_some (put.place u.label.number) ≡ true
  pub stand : AllStand kinds put
  pub listed : map (λ (c : ConstPlace). c.constant) put.constants ≡ s.named
  pub offsets : (number : ℕ) → put.place (first_constant + number) ≡ offset_in put.constants number

pub last_done : {L : Type 0} {kinds : Kinds L} {s put : Shape L} → HasLaw kinds → IsWhole kinds s → CanFinish kinds s → LastPut kinds s put → LastDone kinds s put
last_done {L} {kinds} {s} law sound can e =
    let order = e.order in
    let o = e.in_order in
    let d = padding_for (length order) s in
    let x : Extended kinds d.0 order s = extended law d.0 order s sound (d.3 sound.even) (padded_can kinds s order sound can o) in
    let m : Shape L = record s { bytes = x.bytes; uses = x.uses; place = x.place; constants = x.constants } in
    let long : length x.bytes ≡ end_after s (last_end kinds s) = x.long ∙ (λ i. end_after s (last_start kinds s order o i + 8 * order_long o i)) in
    let Bound : MachLabel → Type 0 = λ l. is_some (x.place l.number) ≡ true in
    let bound : (j : ℕ) (u : Use L) → slice_get x.uses j ≡ Some u → Bound u.label = own_labels x.own Bound (λ j u h. bound_or_named m x.ordered x.unplaced u.label.number (⊎_elim
    (λ a. inl (let to = some_place (s.place u.label.number) a in ap is_some (x.grows.places u.label.number to.0 to.1)))
    (λ a. inr a)
    (can.bound j u h))) in
    -- a use with no veneer reaches all code, or is one that was there and reaches its label
    let direct : (j : ℕ) (u : Use L) → slice_get x.uses j ≡ Some u → kinds.has_veneer u.kind ≡ false → is_reached kinds (x.place u.label.number) u ≡ true = λ j u h none. ⊎_elim
    (λ far. let to = some_place (x.place u.label.number) (bound j u h) in grind (arith, nat_tests, to.1, x.places u.label.number to.0 to.1, x.linked.before j u h, can.short))
    (λ near. ⊎_elim
    (λ w. grind (arith, nat_tests, can.direct j w.was w.there, x.grows.places w.was.label.number, ap (λ (y : Use L). y.offset) w.alike, ap (λ (y : Use L). y.kind) w.alike, ap (λ (y : Use L). y.label) w.alike))
    (λ r. absurd (true≢false (sym (x.own.own r.0 (core u) r.2).far ∙ near)))
    (recorded_at x.uses s.uses x.own.more x.own.grown j u h))
    (cases_Bool (is_far kinds u)) in
    let places : (label at : ℕ) → x.place label ≡ Some at → (at ≤ length x.bytes) × (at % 2 ≡ 0) = λ label at h. let q = x.places label at h in (q.0, q.1) in
    let windows = x.windows can.windows in
    let idle = x.idle x.place (λ j u there before none. false_from_ne_true (is_pending kinds x.place u) (λ w. order_has o j u there (grown_pending kinds s.place x.place u x.grows.places w) none)) in
    let stand = x.stand (λ j u h reached. order_none o j u h (not_pending kinds s.place u reached)) can.windows can.constants in
    let listed = all_listed m x.ordered x.unplaced in
    let offsets = place_offset m x.ordered x.unplaced (λ label at h. (x.places label at h).2) in
    rw (e.whole, d.1, x.is) assumption

-- a use that isn't pending stays as it is before the patches
pub finish_keeps : {L : Type 0} {kinds : Kinds L} {s : Shape L} {bytes : List ℕ} (f : Finishes kinds s bytes) (j : ℕ) (u : Use L) → slice_get s.uses j ≡ Some u → is_pending kinds s.place u ≡ false → slice_get f.put.uses j ≡ Some u
finish_keeps {L} {kinds} {s} f j u h idle =
    let t = put_all kinds f.order (padded_for (length f.order) s) in
    let kept = (veneers_last kinds f.order (with_bytes (padding_for (length f.order) s).0 s)).keeps j u (order_none f.in_order j u h (λ w. true≢false (sym w ∙ idle))) h in
    ap (λ (x : Shape L). slice_get x.uses j) f.whole ∙ ap (λ (us : List (Use L)). slice_get us j) (uses_stay (unplaced_of t) t) ∙ (rw (padding_for (length f.order) s).1 kept)

-- ---- from there to where each use goes

-- a window in a window
window_within : (bytes : List ℕ) (at n from size : ℕ) → from + size ≤ n → window bytes (at + from) size ≡ window (window bytes at n) from size
window_within bytes at n from size le =
    let split : from + (n - from) ≡ n = omega arith in
    sym (take-take size (n - from) (drop (at + from) bytes) (omega arith))
    ∙ ap (take size) (ap (take (n - from)) (sym (drop-drop from at bytes)) ∙ sym (drop-take from (n - from) (drop at bytes)) ∙ ap (λ k. drop from (take k (drop at bytes))) split)

module _ {L : Type 0} {kinds : Kinds L} {s put : Shape L} where
  -- where a use is to go is in reach, and even: its veneer, or else its label's place
  bounds : LastDone kinds s put → (j : ℕ) (u : Use L) → slice_get put.uses j ≡ Some u → (v o : Option ℕ) → u.veneer ≡ v → put.place u.label.number ≡ o →
      (unwrap_or (or_place v o) 0 ≤ u.offset + kinds.forward u.kind) × (u.offset ≤ unwrap_or (or_place v o) 0 + kinds.backward u.kind) × (unwrap_or (or_place v o) 0 % 2 ≡ 0)
  bounds f j u h (Some at) o hv ho = grind (arith, f.linked.each j u at h hv)
  bounds f j u h None o hv ho = grind (arith, nat_tests, f.idle j u h, f.direct j u h, f.places u.label.number)

  pub can_patch_all : LastDone kinds s put → CanPatchAll kinds put.bytes (patches_of put.place put.uses)
  can_patch_all f = record {
    each = map_each (CanPatch kinds put.bytes) (patch_of put.place) put.uses (λ j u h. let b = bounds f j u h u.veneer (put.place u.label.number) refl refl in let w = f.windows in grind arith);
    apart = λ j k p q ne hj hk. let a = comes_from (patch_of put.place) put.uses j p hj in let b = comes_from (patch_of put.place) put.uses k q hk in grind (arith, f.windows.apart);
  }

  -- a piece of a veneer beside its own use's window shares no byte with any window
  piece_apart : (f : LastDone kinds s put) (j : ℕ) (u : Use L) (at : ℕ) → slice_get put.uses j ≡ Some u → u.veneer ≡ Some at → (p m : ℕ) → at ≤ p → p + m ≤ at + 8 → IsApart p m (at + (kinds.veneer u.kind).place) (length (kinds.fields (kinds.veneer u.kind).kind)) →
      (i : ℕ) (q : Patch L) → slice_get (patches_of put.place put.uses) i ≡ Some q → IsApart p m q.offset (length (kinds.fields q.kind))
  piece_apart f j u at h e p m lo hi apart = map_each (λ x. IsApart p m x.offset (length (kinds.fields x.kind))) (patch_of put.place) put.uses (λ i w hw. grind (arith, f.windows.clear j i u w at h e hw))

  pub all_arrive : HasLaw kinds → LastDone kinds s put → (new_bytes : List ℕ) → length new_bytes ≡ length put.bytes →
      AllAim kinds new_bytes (patches_of put.place put.uses) → AllKept kinds put.bytes new_bytes (patches_of put.place put.uses) → KeepsOthers kinds put.bytes new_bytes (patches_of put.place put.uses) → AllArrive kinds new_bytes put.place put.uses
  all_arrive law f new_bytes long aim kept others j u to h e = on u.veneer refl
    where
      -- a window aims where its use is to go
      aimed : (i : ℕ) (w : Use L) (t : ℕ) → slice_get put.uses i ≡ Some w → (patch_of put.place w).target ≡ t → kinds.aims w.kind (window new_bytes w.offset (length (kinds.fields w.kind))) (pos t -ℤ pos w.offset)
      aimed i w t g q = rw q at (aim i (patch_of put.place w) (mapped (patch_of put.place) put.uses i w g))

      on : (o : Option ℕ) → u.veneer ≡ o → Arrives kinds new_bytes u to o
      on None v = aimed j u to h (ap (λ o. unwrap_or (or_place o (put.place u.label.number)) 0) v ∙ ap (λ o. unwrap_or o 0) e)
      on (Some at) v =
          let has = f.linked.each j u at h v in
          let V = kinds.veneer u.kind in
          let ok : IsVeneer kinds V = law u.kind has.supported in
          let size = length (kinds.fields V.kind) in
          let end = V.place + size in
          let w : Use L = veneer_use V at u.label in
          let same = window_within put.bytes at 8 V.place size ok.inside ∙ ap (λ v. window v V.place size) has.code in
          let after = window_within put.bytes at 8 end (8 - end) (omega (arith, ok.inside)) ∙ ap (λ v. window v end (8 - end)) has.code ∙ take_all (8 - end) (drop end V.bytes) (omega (arith, ok.eight, length-drop end V.bytes)) in (
            record {
              at = at;
              there = aimed j u at h (ap (λ o. unwrap_or (or_place o (put.place u.label.number)) 0) v);
              even = has.even;
              inside = omega (arith, has.inside, long);
              front = others at V.place (piece_apart f j u at h v at V.place (omega arith) (omega (arith, ok.inside)) (inl (omega arith))) ∙ sym (take-take V.place 8 (drop at put.bytes) (omega (arith, ok.inside))) ∙ ap (take V.place) has.code;
              own = rw same at (kept has.index (patch_of put.place w) (mapped (patch_of put.place) put.uses has.index w has.own));
              back = others (at + end) (8 - end) (piece_apart f j u at h v (at + end) (8 - end) (omega arith) (omega (arith, ok.inside)) (inr (omega arith))) ∙ after;
              on = aimed has.index w to has.own (ap (λ o. unwrap_or o 0) e);
            },
            refl,
          )
