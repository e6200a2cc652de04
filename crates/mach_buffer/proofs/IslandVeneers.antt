-- An island: that its veneers can be put, and what it brings.
use Rattle.std.proofs.Common.{[], ◌≡◌, ◌≢◌, ℕ, ◌+◌, ◌-◌, ◌*◌, ◌%◌, ◌<◌, ◌≤◌, ⊎_elim, Bool, true, false, List, ◌∷◌, length, Option, Some, None, refl, ap, sym, ◌∙◌, subst, arith}
use Rattle.mach_buffer.proofs.Words.{nat_tests, true≢false, cases_eq, and_parts, length-append, slice_get, first_inner, first_constant, MachLabel, code_limit, Kinds, Use, Shape, with_label, placed, unplaced_of, deadline, is_reached, is_pending, is_other, AreWindows, put_all, IsOrder, aligned, padding, padded, needs_own, first_of, with_own, island_veneers, IsJumpOver, CanIsland, Islanded, others_of, Grows, Lasts, IsNone, CanPut, CanPutAll, AddsOwn, Inside, AreSound, HoldNone, IsWhole, island_front, end_after, put_constants, IsOrdered, AllStand, IsUsable, CanPutAt}
use Rattle.mach_uses.proofs.QueueContents.{kept_none}
use Rattle.mach_buffer.proofs.Links.{HasLaw, linked_bytes, windows_bytes}
use Rattle.mach_buffer.proofs.Lasting.{veneers_last, lasts_bytes, lasts_label, lasts_more, lasts_veneers}
use Rattle.mach_uses.proofs.Lists.{slice_get-append_last, pushed}
use Rattle.mach_uses.proofs.OrderOfVeneers.{order_none, order_has, order_long, can_order, not_pending}
use Rattle.mach_buffer.proofs.VeneersAndConstants.{length_padded, padding_even, aligned_near, grown_pending, Extended, extended}
use Rattle.mach_uses.proofs.Slack.{slack_from_reach, reaches_from_slack, none_from}
use Rattle.mach_buffer.proofs.ConstantOrder.{placed_same}
use Rattle.mach_buffer.proofs.ConstantsPut.{ends_is, each_done, stands_last}
use Rattle.mach_buffer.proofs.Sound.{whole_label}

-- a use of the label is no other use
pub own_idle : {L : Type 0} (kinds : Kinds L) (place : ℕ → Option ℕ) (after_island : MachLabel) (u : Use L) → u.label.number ≡ after_island.number → is_other kinds place (Some after_island) u ≡ false
own_idle kinds place after_island u e = grind (arith, nat_tests)

module _ {L : Type 0} {kinds : Kinds L} {bytes : List ℕ} {uses : List (Use L)} {after_island : ℕ} where
  pub jump_there : (r : IsJumpOver kinds bytes uses after_island) → slice_get uses (length uses - 1) ≡ Some r.jump
  jump_there r = rw r.stands (grind (arith, slice_get-append_last r.before r.jump, length-append r.before (r.jump ∷ [])))

  -- it is the only use of its label
  jump_only : (r : IsJumpOver kinds bytes uses after_island) → (j : ℕ) (u : Use L) → slice_get uses j ≡ Some u → u.label.number ≡ after_island → (j ≡ length uses - 1) × (r.jump ≡ u)
  jump_only r j u h e =
      let there = pushed r.before r.jump j u (ap (λ us. slice_get us j) (sym r.stands) ∙ h) in
      grind (arith, r.only j u, ap (length {A = Use L}) r.stands, length-append r.before (r.jump ∷ []))

-- ---- what an island asks is enough

-- there is room for the veneers and the constants
pub before_room : {L : Type 0} {kinds : Kinds L} {s : Shape L} {after_island : MachLabel} → CanIsland kinds s after_island → (count : ℕ) → count ≡ length (others_of kinds s after_island) → end_after s (aligned (length s.bytes) + 8 * count) < code_limit
before_room {s = s} can count e = grind (arith, nat_tests, ends_is s.registered (unplaced_of s), can.room)

pub pad_room : {L : Type 0} {kinds : Kinds L} {s : Shape L} {after_island : MachLabel} → CanIsland kinds s after_island → aligned (length s.bytes) < code_limit
pad_room {s = s} can = grind (arith, nat_tests, ends_is s.registered (unplaced_of s), can.room)

-- an island's veneers in their order, with the jump's own one where it is needed
pub record IsReady {L : Type 0} (kinds : Kinds L) (s : Shape L) (p : Inside) (after_island : MachLabel) (order : List ℕ) (needed : Bool) : Type 0 where
  pub sound : AreSound kinds s p
  pub can : CanIsland kinds s after_island
  pub in_order : IsOrder kinds (is_other kinds s.place (Some after_island)) s.uses order
  pub test : needed ≡ needs_own (end_after s) (aligned (length s.bytes)) (length order) (deadline kinds can.jump.jump)

-- no veneer is that of a use in reach of its label
none_reached : {L : Type 0} {kinds : Kinds L} {s : Shape L} {label : MachLabel} → CanIsland kinds s label → (needed : Bool) (order : List ℕ) → IsOrder kinds (is_other kinds s.place (Some label)) s.uses order →
    (j : ℕ) (u : Use L) → slice_get s.uses j ≡ Some u → is_reached kinds (s.place u.label.number) u ≡ true → IsNone j (with_own needed (length s.uses - 1) order)
none_reached {L} {kinds} {s} {label} can needed order o j u h reached =
    let none = order_none o j u h (λ w. not_pending kinds s.place u reached (and_parts (is_pending kinds s.place u) _ w).0) in
    -- the jump's label is not bound
    let other : length s.uses - 1 ≢ j = λ e. grind (arith, nat_tests, jump_there can.jump, can.jump.names, can.unbound) in
    grind arith

module _ {L : Type 0} {kinds : Kinds L} {s : Shape L} {p : Inside} {after_island : MachLabel} {order : List ℕ} {needed : Bool} where
  -- where the veneers end
  own_end : (r : IsReady kinds s p after_island order needed) → let start = aligned (length s.bytes) in let n = length (others_of kinds s after_island) in
      start + 8 * length (with_own needed (length s.uses - 1) order) ≡ first_of (end_after s) start n (deadline kinds r.can.jump.jump) + 8 * n
  own_end r = grind (arith, nat_tests, order_long r.in_order, r.test)

  pub island_can : IsReady kinds s p after_island order needed → CanPutAll kinds (padded s) (with_own needed (length s.uses - 1) order)
  island_can r =
      let start = length_padded s.bytes in
      let near = aligned_near (length s.bytes) r.sound.whole.even in
      let jump = r.can.jump in
      let J = length s.uses - 1 in
      let first : CanPutAt kinds s.uses (aligned (length s.bytes)) J = record { user = jump.jump; there = jump_there jump; supported = jump.supported; near = omega (arith, jump.last, jump.reach) } in
      let none = order_none r.in_order J jump.jump (jump_there jump) (λ h. true≢false (sym h ∙ own_idle kinds s.place after_island jump.jump jump.names)) in
      let slack = slack_from_reach (length s.bytes - 4) (others_of kinds s after_island) r.can.reach in
      let others : (cur : ℕ) → cur ≤ length s.bytes + 10 → CanPut kinds s.uses cur order =
      λ cur le. let four = r.can.four in can_order cur r.in_order (λ u h. grind (arith, nat_tests)) (reaches_from_slack (length s.bytes - 4) island_front cur _ (omega arith) slack) in
      let all : CanPut kinds s.uses (aligned (length s.bytes)) (with_own needed J order) = elim needed as (λ b. CanPut kinds s.uses (aligned (length s.bytes)) (with_own b J order)) [
        | true ↦ (first, none, others (aligned (length s.bytes) + 8) (omega arith))
        | false ↦ others (aligned (length s.bytes)) (omega arith)
      ] in
      let linked = linked_bytes r.sound.whole.linked (padding (length s.bytes)) in
      let room : end_after s (length (padded s).bytes + 8 * length (with_own needed J order)) < code_limit = rw (start, own_end r) (omega (arith, r.can.room)) in
      let put : CanPut kinds s.uses (length (padded s).bytes) (with_own needed J order) = rw start all in
      grind arith

  -- what stands after them and the constants
  island_extended : HasLaw kinds → IsReady kinds s p after_island order needed → Extended kinds (padding (length s.bytes)) (with_own needed (length s.uses - 1) order) s
  island_extended law r = extended law (padding (length s.bytes)) (with_own needed (length s.uses - 1) order) s r.sound.whole (padding_even (length s.bytes) r.sound.whole.even) (island_can r)

  -- there is room for zero bytes after the constants
  pub end_room : HasLaw kinds → IsReady kinds s p after_island order needed → aligned (length (put_constants (put_all kinds (with_own needed (length s.uses - 1) order) (padded s))).bytes) < code_limit
  end_room law r = let x = island_extended law r in rw (x.is, x.long, length_padded s.bytes, own_end r) (let room = r.can.room in omega arith)

-- ---- what it brings, once it is put

module _ {L : Type 0} {kinds : Kinds L} {after_island : MachLabel} {old new : Shape L} where
  abbrev pub veneered : Islanded kinds after_island old new → Shape L
  veneered i = let v = put_all kinds (island_veneers kinds old i.jump i.order) (padded old) in record old { bytes = v.bytes; uses = v.uses }

  -- the constants are put after the veneers, then zero bytes, and the label is bound
  pub island_is : (i : Islanded kinds after_island old new) → new ≡ with_label after_island (padded (put_constants (veneered i)))
  island_is i = i.whole ∙ ap (λ (x : Shape L). with_label after_island (padded (put_constants x))) (veneers_last kinds (island_veneers kinds old i.jump i.order) (padded old)).same

pub lasts_island : {L : Type 0} {kinds : Kinds L} {label : MachLabel} {s t : Shape L} → IsOrdered s → CanIsland kinds s label → Islanded kinds label s t → Lasts kinds s t
lasts_island {L} {kinds} {label} {s} ordered can i =
    let c = each_done {kinds = kinds} (unplaced_of (veneered i)) (veneered i) refl ordered in
    let m = put_constants (veneered i) in
    let veneers = lasts_more (lasts_bytes kinds (padding (length s.bytes)) s) (lasts_veneers kinds (island_veneers kinds s i.jump i.order) (padded s) (none_reached can _ i.order i.in_order)) in
    let same = (veneers_last kinds (island_veneers kinds s i.jump i.order) (padded s)).same in
    let unbound = c.others label.number (let known = can.known in let few = ordered.few in omega arith) ∙ can.unbound in
    rw (island_is i) (lasts_more (subst (Lasts kinds s) same veneers) (lasts_more c.lasts (lasts_more (lasts_bytes kinds (padding (length m.bytes)) m) (lasts_label kinds label (padded m) unbound))))

-- an island's label is bound at its end; no other label is but those of constants; and all else but bytes, uses and constants stays
pub record IslandRest {L : Type 0} (after_island : MachLabel) (old new : Shape L) : Type 0 where
  pub bound : new.place after_island.number ≡ Some (length new.bytes)
  pub places : (label : ℕ) → label < first_constant → label ≢ after_island.number → new.place label ≡ old.place label
  pub labels : first_inner ≤ after_island.number → new.labels ≡ old.labels
  pub allocated : new.allocated ≡ old.allocated
  pub records : new.records ≡ old.records
  pub registered : new.registered ≡ old.registered
  pub named : new.named ≡ old.named

-- what an island brings
pub island_done : {L : Type 0} {kinds : Kinds L} → HasLaw kinds → (s : Shape L) (p new_p : Inside) (after_island : MachLabel) (order : List ℕ) (needed : Bool) → IsReady kinds s p after_island order needed →
    HoldNone new_p.pending → new_p.seen ≡ p.seen → (t : Shape L) → t ≡ with_label after_island (padded (put_constants (put_all kinds (with_own needed (length s.uses - 1) order) (padded s)))) →
    Islanded kinds after_island s t × Grows s.bytes s.uses s.place t.bytes t.uses t.place × AddsOwn kinds (length s.bytes) s.uses t.uses × (AreWindows kinds s.bytes s.uses → AreWindows kinds t.bytes t.uses) × (AreWindows kinds s.bytes s.uses → AllStand kinds s → AllStand kinds t) × AreSound kinds t new_p
island_done {L} {kinds} law s p new_p after_island order needed r none seen t e =
    let can = r.can in
    let O = with_own needed (length s.uses - 1) order in
    let x = island_extended law r in
    let m : Shape L = record s { bytes = x.bytes; uses = x.uses; place = x.place; constants = x.constants } in
    let pad = padding (length x.bytes) in
    let last = length (padded m).bytes in
    let long = length_padded x.bytes in
    let place : ℕ → Option ℕ = placed x.place after_island.number last in
    let end : last ≡ aligned (end_after s (aligned (length s.bytes) + 8 * length O)) = long ∙ ap aligned (rw (length_padded s.bytes) at x.long) in
    let unbound : x.place after_island.number ≡ None = x.others after_island.number (omega (arith, can.known, r.sound.whole.ordered.few)) ∙ can.unbound in
    let stays : (label to : ℕ) → s.place label ≡ Some to → place label ≡ Some to = λ label to h. grind (arith, nat_tests, x.grows.places label to h) in
    -- the jump is in reach of the end, where it has no veneer; any other use was not pending, or has its veneer
    let idle : (j : ℕ) (u : Use L) → slice_get x.uses j ≡ Some u → is_pending kinds place u ≡ false = x.idle place (λ j u there before none. ⊎_elim
    (λ same. let q = jump_only can.jump j u there same in grind (arith, nat_tests, r.test, placed_same x.place after_island.number last, ap (deadline kinds) q.1))
    (λ ne. grind (arith, nat_tests, order_has r.in_order j u there, grown_pending kinds s.place place u stays))
    (cases_eq u.label.number after_island.number)) in
    let island : Islanded kinds after_island s (with_label after_island (padded m)) = record {
      jump = can.jump.jump;
      last = jump_there can.jump;
      order = order;
      in_order = r.in_order;
      whole = ap (λ (y : Shape L). with_label after_island (padded y)) (sym x.is) ∙ ap (λ b. with_label after_island (padded (put_constants (put_all kinds (with_own b (length s.uses - 1) order) (padded s))))) r.test;
      end = end ∙ ap (λ n. aligned (end_after s n)) (own_end r);
      settled = none_from (is_pending kinds place) kinds x.uses idle;
    } in
    let places : (label at : ℕ) → x.place label ≡ Some at → (at ≤ last) × (at % 2 ≡ 0) × IsUsable s label = λ label at h. let q = x.places label at h in (omega arith, q.1, q.2) in
    let whole : IsWhole kinds (padded m) = record { linked = linked_bytes x.linked pad; even = omega arith; places = places; known = x.known; ordered = x.ordered } in
    let grows = (lasts_island r.sound.whole.ordered can island).grows in
    let windows : AreWindows kinds s.bytes s.uses → AreWindows kinds (padded m).bytes x.uses = λ w. windows_bytes (x.windows w) pad in
    let lasts = lasts_more (lasts_bytes kinds pad m) (lasts_label kinds after_island (padded m) unbound) in
    let constants : AreWindows kinds s.bytes s.uses → AllStand kinds s → AllStand kinds (with_label after_island (padded m)) = λ w stand. stands_last lasts refl (x.stand (none_reached can needed order r.in_order) w stand) in
    let sound : AreSound kinds (with_label after_island (padded m)) new_p = record { whole = whole_label whole after_island can.known; kept = kept_none kinds place x.uses new_p.pending none idle; noted = rw seen r.sound.noted } in
    rw (e, x.is) (island, grows, x.own, windows, constants, sound)
