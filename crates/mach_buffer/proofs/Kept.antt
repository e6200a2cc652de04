-- What a caller keeps of a buffer, through each call.
use Rattle.std.proofs.Common.{◌≡◌, ◌≢◌, ℕ, zero, suc, ◌+◌, ◌-◌, ◌*◌, ◌%◌, ◌<◌, ◌≤◌, Bool, true, false, cond, List, [], ◌∷◌, ◌++◌, ◌⊎◌, length, take, Option, Some, None, refl, ap, sym, ◌∙◌, subst, arith, inl, inr, ⊎_elim}
use Rattle.std.specs.Prelude.{slice_get, nat_eq, is_some}
use Rattle.std.proofs.lemmas.Bool.{true≢false, and_parts}
use Rattle.std.proofs.lemmas.List.{length-append}
use Rattle.rv_base.specs.declared.label.MachLabel.{MachLabel}
use Rattle.rv_base.specs.LabelUse.{code_limit, Kinds, IsFresh}
use Rattle.mach_labels.specs.Table.{first_inner, first_constant}
use Rattle.mach_uses.specs.declared.uses.Use.{Use}
use Rattle.mach_buffer.specs.declared.buffer.MachBuffer.{MachBuffer}
use Rattle.rv_base.specs.declared.constant.VCodeConstant.{VCodeConstant}
use Rattle.mach_records.specs.declared.records.ConstPlace.{ConstPlace}
use Rattle.mach_records.specs.declared.records.Event.{Event}
use Rattle.mach_buffer.specs.Constants.{end_after, reserve_of, AllStand}
use Rattle.mach_buffer.specs.Growth.{Lasts}
use Rattle.mach_buffer.specs.Windows.{AreWindows}
use Rattle.mach_uses.specs.Windows.{window, IsApart}
use Rattle.mach_uses.specs.Reach.{deadline, deadlines, due_by, is_pending, is_other, HasSlack}
use Rattle.mach_buffer.specs.Buffer.{shape_of, bytes_of, uses_of, place_of, allocated_of, constants_of, pending_of, IsSound}
use Rattle.mach_buffer.specs.Shape.{Shape, with_bytes, with_use, with_label, with_allocated, with_record, with_named, core, recorded, IsKnown, IsUsable}
use Rattle.mach_uses.specs.Labels.{constant_label, placed}
use Rattle.mach_buffer.specs.Islands.{aligned, padding, needs_own, first_of, others_of, is_far, IsJumpOver, CanIsland, Islanded, AddsOwn}
use Rattle.mach_buffer.specs.Finish.{before_last, last_end, CanFinish}
use Rattle.mach_buffer.specs.Kept.{IsMet, IsKept}
use Rattle.mach_buffer.proofs.Laws.{even_length, few_allocated, append_none, windows_bytes, OwnWindows, windows_block, windows_none, aligned_near, length_padded, Was, recorded_at, append_each, own_idle, due_fewer, deadlines_append, reaches_from_slack, veneers_reach, reach_from_slack, slack_less, slack_none, slack_same, slack_use, placed_same, IslandRest, island_rest, island_reserve, lasts_island, lasts_more, lasts_bytes, lasts_use, lasts_allocated, lasts_record, lasts_named, lasts_label, stands_last, ends_within}

take_short : (n : ℕ) (xs : List ℕ) → length (take n xs) ≤ n
take_short zero xs = omega arith
take_short (suc n) [] = omega arith
take_short (suc n) (x ∷ xs) = let le = take_short n xs in omega arith

pub same_pending : {L : Type 0} (kinds : Kinds L) (b new : MachBuffer L) → uses_of new ≡ uses_of b → place_of new ≡ place_of b → pending_of kinds new ≡ pending_of kinds b
same_pending kinds b new eu ep = ap (λ us. deadlines (is_pending kinds (place_of new)) kinds us) eu ∙ ap (λ p. deadlines (is_pending kinds p) kinds (uses_of b)) ep

-- what is bound stays so
pub still_bound : {L : Type 0} {kinds : Kinds L} {s t : Shape L} → Lasts kinds s t → (label : ℕ) → is_some (s.place label) ≡ true → is_some (t.place label) ≡ true
still_bound {s = s} {t = t} l label h = on (s.place label) (λ to e. l.grows.places label to e) h
  where
    on : (o : Option ℕ) → ((to : ℕ) → o ≡ Some to → t.place label ≡ Some to) → is_some o ≡ true → is_some (t.place label) ≡ true
    on None f h = absurd (true≢false (sym h))
    on (Some to) f h = ap is_some (f to refl)

-- and a label that may be named still may
pub still_met : {L : Type 0} {kinds : Kinds L} {s t : Shape L} {labels : ℕ} → Lasts kinds s t → (label : ℕ) → IsMet labels s label → IsMet labels t label
still_met l label (inl low) = inl low
still_met l label (inr (inl bound)) = inr (inl (still_bound l label bound))
still_met l label (inr (inr c)) = inr (inr (record { index = c.index; constant = c.constant; there = l.named c.index c.constant c.there; is = c.is }))

-- what stands does too
pub still_stand : {L : Type 0} {kinds : Kinds L} {s t v : Shape L} → Lasts kinds s t → t.constants ≡ s.constants → v ≡ t → AllStand kinds s → AllStand kinds v
still_stand {kinds = kinds} l e same stand = subst (AllStand kinds) (sym same) (stands_last l e stand)

length_fewer : {L : Type 0} (kinds : Kinds L) (test new_test : Use L → Bool) (uses : List (Use L)) → ((u : Use L) → new_test u ≡ true → test u ≡ true) → length (deadlines new_test kinds uses) ≤ length (deadlines test kinds uses)
length_fewer kinds test new_test [] h = omega arith
length_fewer {L} kinds test new_test (u ∷ uses) h = on (new_test u) (test u) (h u) (length_fewer kinds test new_test uses h)
  where
    on : (a b : Bool) → (a ≡ true → b ≡ true) → length (deadlines new_test kinds uses) ≤ length (deadlines test kinds uses) → length (cond a (deadline kinds u ∷ deadlines new_test kinds uses) (deadlines new_test kinds uses)) ≤ length (cond b (deadline kinds u ∷ deadlines test kinds uses) (deadlines test kinds uses))
    on true true i le = omega arith
    on true false i le = absurd (true≢false (sym (i refl)))
    on false true i le = omega arith
    on false false i le = le

-- what is pending beside one label is pending
other_pending : {L : Type 0} (kinds : Kinds L) (place : ℕ → Option ℕ) (after_island : Option MachLabel) (u : Use L) → is_other kinds place after_island u ≡ true → is_pending kinds place u ≡ true
other_pending kinds place after_island u h = (and_parts (is_pending kinds place u) _ h).0

-- what binding a label keeps
pub record BoundToo {L : Type 0} (kinds : Kinds L) (labels label : ℕ) (b new : MachBuffer L) : Type 0 where
  pub kept : IsKept kinds labels new
  pub bound : is_some (place_of new label) ≡ true
  pub still : (other : ℕ) → is_some (place_of b other) ≡ true → is_some (place_of new other) ≡ true

first_near : (c : Bool) (n : ℕ) → cond c (n + 8) n ≤ n + 8
first_near true n = omega arith
first_near false n = omega arith

aligned_up : (n : ℕ) → aligned n ≤ n + 3
aligned_up n = omega arith

-- the pending uses of other labels, once the jump is recorded
others_after : {L : Type 0} (kinds : Kinds L) (b mid : MachBuffer L) (u : Use L) (after_island : MachLabel) → u.label ≡ after_island → uses_of mid ≡ uses_of b ++ u ∷ [] → place_of mid ≡ place_of b → others_of kinds (shape_of mid) after_island ≡ deadlines (is_other kinds (place_of b) (Some after_island)) kinds (uses_of b)
others_after {L} kinds b mid u after_island el eu ep =
    let test = is_other kinds (place_of b) (Some after_island) in
    ap (λ us. deadlines (is_other kinds (place_of mid) (Some after_island)) kinds us) eu
    ∙ ap (λ p. deadlines (is_other kinds p (Some after_island)) kinds (uses_of b ++ u ∷ [])) ep
    ∙ deadlines_append test kinds (uses_of b) (u ∷ [])
    ∙ ap (λ c. deadlines test kinds (uses_of b) ++ cond c (deadline kinds u ∷ []) []) (own_idle kinds (place_of b) after_island u (ap (λ (l : MachLabel). l.number) el))
    ∙ append_none (deadlines test kinds (uses_of b))

-- an island, with room for the constants that don't stand yet, ends near its jump and its veneers
pub island_near : {L : Type 0} (kinds : Kinds L) (b mid new : MachBuffer L) {after_island : MachLabel} (u : Use L) (code : List ℕ) → length code ≡ 4 → u.label ≡ after_island → shape_of mid ≡ with_bytes code (with_use u (shape_of b)) → IsSound kinds mid → after_island.number < first_constant → Islanded kinds after_island (shape_of mid) (shape_of new) →
    length (bytes_of new) + reserve_of (shape_of new) ≤ length (bytes_of b) + 17 + 8 * length (pending_of kinds b) + reserve_of (shape_of b)
island_near {L} kinds b mid new {after_island} u code four el same_shape sound low i =
    let eb : bytes_of mid ≡ bytes_of b ++ code = ap (λ (x : Shape L). x.bytes) same_shape in
    let eu : uses_of mid ≡ uses_of b ++ u ∷ [] = ap (λ (x : Shape L). x.uses) same_shape in
    let ep : place_of mid ≡ place_of b = ap (λ (x : Shape L). x.place) same_shape in
    let long : length (bytes_of mid) ≡ length (bytes_of b) + 4 = ap (length {A = ℕ}) eb ∙ length-append (bytes_of b) code ∙ ap (λ n. length (bytes_of b) + n) four in
    let kept : reserve_of (shape_of mid) ≡ reserve_of (shape_of b) = ap reserve_of same_shape in
    let room = island_reserve kinds mid sound low i in
    let few = length_fewer kinds (is_pending kinds (place_of b)) (is_other kinds (place_of b) (Some after_island)) (uses_of b) (other_pending kinds (place_of b) (Some after_island)) in
    let same : length (others_of kinds (shape_of mid) after_island) ≡ length (deadlines (is_other kinds (place_of b) (Some after_island)) kinds (uses_of b)) = ap (length {A = ℕ}) (others_after kinds b mid u after_island el eu ep) in
    omega (arith, long, kept, room, few, same)

before_near : (bytes : List ℕ) (n : ℕ) → length bytes % 2 ≡ 0 → length (before_last bytes n) ≤ length bytes + 2
before_near bytes n even = on (nat_eq n 0)
  where
    on : (c : Bool) → length (cond c bytes (bytes ++ padding (length bytes))) ≤ length bytes + 2
    on true = omega arith
    on false = let p = length_padded bytes in let near = aligned_near (length bytes) even in omega arith

-- the windows of the same bytes and uses
pub windows_as : {L : Type 0} {kinds : Kinds L} {bytes new_bytes : List ℕ} {uses new_uses : List (Use L)} → AreWindows kinds bytes uses → new_bytes ≡ bytes → new_uses ≡ uses → AreWindows kinds new_bytes new_uses
windows_as {L} {kinds} {bytes} {new_bytes} {uses} {new_uses} w eb eu = subst (λ bs. AreWindows kinds bs new_uses) (sym eb) (subst (λ us. AreWindows kinds bytes us) (sym eu) w)

-- what slack there is stays when a constant is named
pub slack_named : {L : Type 0} (kinds : Kinds L) (b new : MachBuffer L) (constant : VCodeConstant) (more slack : ℕ) → shape_of new ≡ with_named constant (shape_of b) → HasSlack (length (bytes_of b) + more) slack (pending_of kinds b) → HasSlack (length (bytes_of new) + more) slack (pending_of kinds new)
slack_named {L} kinds b new constant more slack same h = subst (λ (x : Shape L). HasSlack (length x.bytes + more) slack (deadlines (is_pending kinds x.place) kinds x.uses)) (sym same) h

-- the label of a constant that may be used is that of one that was named
pub named_met : {L : Type 0} {labels : ℕ} (kinds : Kinds L) (new : MachBuffer L) (label : MachLabel) (constant : VCodeConstant) → IsSound kinds new → label ≡ constant_label constant → IsUsable (shape_of new) label.number → IsMet labels (shape_of new) label.number
named_met kinds new label constant sound is (inl known) = let few = few_allocated kinds new sound in let e : label.number ≡ first_constant + constant.number = ap (λ (l : MachLabel). l.number) is in absurd (omega arith)
named_met kinds new label constant sound is (inr c) = inr (inr c)

module _ {L : Type 0} {kinds : Kinds L} where
  -- nothing yet
  pub kept_none : (labels : ℕ) (b : MachBuffer L) → IsSound kinds b → bytes_of b ≡ [] → uses_of b ≡ [] → constants_of b ≡ [] → IsKept kinds labels b
  kept_none labels b sound eb eu ec = record {
    sound = sound;
    windows = windows_as windows_none eb eu;
    slack = subst (HasSlack (length (bytes_of b)) 14) (sym (ap (deadlines (is_pending kinds (place_of b)) kinds) eu)) (slack_none (length (bytes_of b)) 14);
    supported = λ j u h. absurd (no_use (uses_of b) eu j u h);
    named = λ j u h. absurd (no_use (uses_of b) eu j u h);
    stand = λ j c h. absurd (no_constant (constants_of b) ec j c h);
  }
    where
      no_use : (us : List (Use L)) → us ≡ [] → (j : ℕ) (u : Use L) → slice_get us j ≡ Some u → ⊥
      no_use [] e j u h = absurd (cc)
      no_use (x ∷ us) e j u h = absurd (cc)

      no_constant : (cs : List ConstPlace) → cs ≡ [] → (j : ℕ) (c : ConstPlace) → slice_get cs j ≡ Some c → ⊥
      no_constant [] e j c h = absurd (cc)
      no_constant (x ∷ cs) e j c h = absurd (cc)

  -- bytes
  pub kept_bytes : {labels : ℕ} {b : MachBuffer L} → IsKept kinds labels b → (new : MachBuffer L) (more : List ℕ) → IsSound kinds new → shape_of new ≡ with_bytes more (shape_of b) → HasSlack (length (bytes_of b) + length more) 14 (pending_of kinds b) → IsKept kinds labels new
  kept_bytes {labels} {b} k new more sound same slack =
      let eb : bytes_of new ≡ bytes_of b ++ more = ap (λ (x : Shape L). x.bytes) same in
      let eu : uses_of new ≡ uses_of b = ap (λ (x : Shape L). x.uses) same in
      let ep : place_of new ≡ place_of b = ap (λ (x : Shape L). x.place) same in
      record {
        sound = sound;
        windows = windows_as (windows_bytes k.windows more) eb eu;
        slack = let long : length (bytes_of new) ≡ length (bytes_of b) + length more = ap (length {A = ℕ}) eb ∙ length-append (bytes_of b) more in
            subst (λ n. HasSlack n 14 (pending_of kinds new)) (sym long) (subst (HasSlack (length (bytes_of b) + length more) 14) (sym (same_pending kinds b new eu ep)) slack);
        supported = λ j u h. k.supported j u (ap (λ us. slice_get us j) (sym eu) ∙ h);
        named = λ j u h. subst (λ (x : Shape L). IsMet labels x u.label.number) (sym same) (still_met (lasts_bytes kinds more (shape_of b)) u.label.number (k.named j u (ap (λ us. slice_get us j) (sym eu) ∙ h)));
        stand = still_stand (lasts_bytes kinds more (shape_of b)) refl same k.stand;
      }

  -- so many bytes at most
  pub kept_front : {labels : ℕ} {b : MachBuffer L} → IsKept kinds labels b → (new : MachBuffer L) (n : ℕ) (code : List ℕ) → IsSound kinds new → shape_of new ≡ with_bytes (take n code) (shape_of b) → HasSlack (length (bytes_of b) + n) 30 (pending_of kinds b) → IsKept kinds labels new
  kept_front {labels} {b} k new n code sound same slack =
      kept_bytes k new (take n code) sound same
      (slack_less (length (bytes_of b) + n) 30 (length (bytes_of b) + length (take n code)) 14 (pending_of kinds b) (let le = take_short n code in omega arith) slack)

  -- a label is allocated
  pub kept_allocated : {labels : ℕ} {b : MachBuffer L} → IsKept kinds labels b → (new : MachBuffer L) → IsSound kinds new → shape_of new ≡ with_allocated (shape_of b) → IsKept kinds labels new
  kept_allocated {labels} {b} k new sound same =
      let eb : bytes_of new ≡ bytes_of b = ap (λ (x : Shape L). x.bytes) same in
      let eu : uses_of new ≡ uses_of b = ap (λ (x : Shape L). x.uses) same in
      let ep : place_of new ≡ place_of b = ap (λ (x : Shape L). x.place) same in
      record {
        sound = sound;
        windows = windows_as k.windows eb eu;
        slack = subst (λ s. HasSlack (length s) 14 (pending_of kinds new)) (sym eb) (subst (HasSlack (length (bytes_of b)) 14) (sym (same_pending kinds b new eu ep)) k.slack);
        supported = λ j u h. k.supported j u (ap (λ us. slice_get us j) (sym eu) ∙ h);
        named = λ j u h. subst (λ (x : Shape L). IsMet labels x u.label.number) (sym same) (still_met (lasts_allocated kinds (shape_of b)) u.label.number (k.named j u (ap (λ us. slice_get us j) (sym eu) ∙ h)));
        stand = still_stand (lasts_allocated kinds (shape_of b)) refl same k.stand;
      }

  -- a record is made
  pub kept_recorded : {labels : ℕ} {b : MachBuffer L} → IsKept kinds labels b → (new : MachBuffer L) (event : Event) → IsSound kinds new → shape_of new ≡ with_record event (shape_of b) → IsKept kinds labels new
  kept_recorded {labels} {b} k new event sound same =
      let eb : bytes_of new ≡ bytes_of b = ap (λ (x : Shape L). x.bytes) same in
      let eu : uses_of new ≡ uses_of b = ap (λ (x : Shape L). x.uses) same in
      let ep : place_of new ≡ place_of b = ap (λ (x : Shape L). x.place) same in
      record {
        sound = sound;
        windows = windows_as k.windows eb eu;
        slack = subst (λ s. HasSlack (length s) 14 (pending_of kinds new)) (sym eb) (subst (HasSlack (length (bytes_of b)) 14) (sym (same_pending kinds b new eu ep)) k.slack);
        supported = λ j u h. k.supported j u (ap (λ us. slice_get us j) (sym eu) ∙ h);
        named = λ j u h. subst (λ (x : Shape L). IsMet labels x u.label.number) (sym same) (still_met (lasts_record kinds event (shape_of b)) u.label.number (k.named j u (ap (λ us. slice_get us j) (sym eu) ∙ h)));
        stand = still_stand (lasts_record kinds event (shape_of b)) refl same k.stand;
      }

  -- a constant is named
  pub kept_named : {labels : ℕ} {b : MachBuffer L} → IsKept kinds labels b → (new : MachBuffer L) (constant : VCodeConstant) → IsSound kinds new → shape_of new ≡ with_named constant (shape_of b) → IsKept kinds labels new
  kept_named {labels} {b} k new constant sound same =
      let eb : bytes_of new ≡ bytes_of b = ap (λ (x : Shape L). x.bytes) same in
      let eu : uses_of new ≡ uses_of b = ap (λ (x : Shape L). x.uses) same in
      let ep : place_of new ≡ place_of b = ap (λ (x : Shape L). x.place) same in
      record {
        sound = sound;
        windows = windows_as k.windows eb eu;
        slack = subst (λ s. HasSlack (length s) 14 (pending_of kinds new)) (sym eb) (subst (HasSlack (length (bytes_of b)) 14) (sym (same_pending kinds b new eu ep)) k.slack);
        supported = λ j u h. k.supported j u (ap (λ us. slice_get us j) (sym eu) ∙ h);
        named = λ j u h. subst (λ (x : Shape L). IsMet labels x u.label.number) (sym same) (still_met (lasts_named kinds constant (shape_of b)) u.label.number (k.named j u (ap (λ us. slice_get us j) (sym eu) ∙ h)));
        stand = still_stand (lasts_named kinds constant (shape_of b)) refl same k.stand;
      }

  -- the windows with those of a use of one byte, whose bytes are put after it
  pub windows_one : (b : MachBuffer L) → AreWindows kinds (bytes_of b) (uses_of b) → IsSound kinds b → (u : Use L) (rest : List ℕ) → u.offset ≡ length (bytes_of b) → u.veneer ≡ None → kinds.fields u.kind ≡ 255 ∷ [] → AreWindows kinds (bytes_of b ++ 0 ∷ rest) (uses_of b ++ u ∷ [])
  windows_one b w s u rest at bare one = windows_block w (0 ∷ rest) (u ∷ []) own
    where
      long : length (kinds.fields u.kind) ≡ 1
      long = ap (length {A = ℕ}) one

      each : (P : Use L → Type 0) → P u → (k : ℕ) (v : Use L) → slice_get (u ∷ []) k ≡ Some v → P v
      each P p k v h = append_each P [] u p (λ j x q. absurd (cc)) k v h

      none_before : u.offset - length (bytes_of b) ≡ 0
      none_before = omega (arith, at)

      fresh : IsFresh (kinds.fields u.kind) (window (0 ∷ rest) (u.offset - length (bytes_of b)) (length (kinds.fields u.kind)))
      fresh = subst (λ n. IsFresh (kinds.fields u.kind) (window (0 ∷ rest) n (length (kinds.fields u.kind)))) (sym none_before) (subst (λ ms. IsFresh ms (window (0 ∷ rest) 0 (length ms))) (sym one) (refl, tt))

      alone : (j k : ℕ) (v w : Use L) → j ≢ k → slice_get (u ∷ []) j ≡ Some v → slice_get (u ∷ []) k ≡ Some w → IsApart v.offset (length (kinds.fields v.kind)) w.offset (length (kinds.fields w.kind))
      alone zero zero v w ne hv hw = absurd (ne refl)
      alone zero (suc k) v w ne hv hw = absurd (cc)
      alone (suc j) k v w ne hv hw = absurd (cc)

      own : OwnWindows kinds (length (bytes_of b)) (0 ∷ rest) (u ∷ [])
      own = record {
        bare = each (λ v. v.veneer ≡ None) bare;
        even = each (λ v. v.offset % 2 ≡ 0) (let e = even_length kinds b s in omega (arith, e, at));
        begins = each (λ v. length (bytes_of b) ≤ v.offset) (omega (arith, at));
        ends = each (λ v. v.offset + length (kinds.fields v.kind) ≤ length (bytes_of b) + length (0 ∷ rest)) (omega (arith, at, long));
        fresh = each (λ v. IsFresh (kinds.fields v.kind) (window (0 ∷ rest) (v.offset - length (bytes_of b)) (length (kinds.fields v.kind)))) fresh;
        apart = alone;
      }

  -- a use of one of the labels, and its bytes
  pub kept_use : {labels : ℕ} {b : MachBuffer L} → IsKept kinds labels b → (new : MachBuffer L) → IsSound kinds new →
      (u : Use L) (rest : List ℕ) → u.offset ≡ length (bytes_of b) → u.veneer ≡ None → kinds.fields u.kind ≡ 255 ∷ [] → kinds.has_veneer u.kind ≡ true → IsMet labels (shape_of b) u.label.number → length rest + 23 ≤ kinds.forward u.kind → shape_of new ≡ with_bytes (0 ∷ rest) (with_use u (shape_of b)) →
      HasSlack (length (bytes_of b) + length (0 ∷ rest)) 22 (pending_of kinds b) → IsKept kinds labels new
  kept_use {labels} {b} k new sound u rest at bare one supported low far same slack =
      let eb : bytes_of new ≡ bytes_of b ++ 0 ∷ rest = ap (λ (x : Shape L). x.bytes) same in
      let eu : uses_of new ≡ uses_of b ++ u ∷ [] = ap (λ (x : Shape L). x.uses) same in
      let ep : place_of new ≡ place_of b = ap (λ (x : Shape L). x.place) same in
      record {
        sound = sound;
        windows = windows_as (windows_one b k.windows k.sound u rest at bare one) eb eu;
        slack =
            let long : length (bytes_of new) ≡ length (bytes_of b) + length (0 ∷ rest) = ap (length {A = ℕ}) eb ∙ length-append (bytes_of b) (0 ∷ rest) in
            let test = is_pending kinds (place_of b) in
            let pending : pending_of kinds new ≡ deadlines test kinds (uses_of b ++ u ∷ []) = ap (λ us. deadlines (is_pending kinds (place_of new)) kinds us) eu ∙ ap (λ p. deadlines (is_pending kinds p) kinds (uses_of b ++ u ∷ [])) ep in
            subst (λ n. HasSlack n 14 (pending_of kinds new)) (sym long) (subst (HasSlack (length (bytes_of b) + length (0 ∷ rest)) 14) (sym pending)
            (slack_use test kinds (length (bytes_of b) + length (0 ∷ rest)) 14 (uses_of b) u (omega (arith, at, far)) slack));
        supported = λ j v h. append_each (λ x. (kinds.has_veneer x.kind ≡ true) ⊎ (is_far kinds x ≡ true)) (uses_of b) u (inl supported) k.supported j v (ap (λ us. slice_get us j) (sym eu) ∙ h);
        named = λ j v h. append_each (λ x. IsMet labels (shape_of new) x.label.number) (uses_of b) u (met u.label.number low)
            (λ i x q. met x.label.number (k.named i x q)) j v (ap (λ us. slice_get us j) (sym eu) ∙ h);
        stand = still_stand last refl same k.stand;
      }
    where
      last : Lasts kinds (shape_of b) (with_bytes (0 ∷ rest) (with_use u (shape_of b)))
      last = lasts_more (lasts_use kinds u (shape_of b) (omega (arith, at))) (lasts_bytes kinds (0 ∷ rest) (with_use u (shape_of b)))

      met : (label : ℕ) → IsMet labels (shape_of b) label → IsMet labels (shape_of new) label
      met label h = subst (λ (x : Shape L). IsMet labels x label) (sym same) (still_met last label h)

  -- a label is bound
  pub kept_bound : {labels : ℕ} {b : MachBuffer L} → IsKept kinds labels b → (new : MachBuffer L) → IsSound kinds new → (label : MachLabel) → place_of b label.number ≡ None → shape_of new ≡ with_label label (shape_of b) → ((end : ℕ) → due_by end (pending_of kinds new) ≤ due_by end (pending_of kinds b)) → BoundToo kinds labels label.number b new
  kept_bound {labels} {b} k new sound label none same fewer =
      let eb : bytes_of new ≡ bytes_of b = ap (λ (x : Shape L). x.bytes) same in
      let eu : uses_of new ≡ uses_of b = ap (λ (x : Shape L). x.uses) same in
      let ep : place_of new ≡ placed (place_of b) label.number (length (bytes_of b)) = ap (λ (x : Shape L). x.place) same in
      let last = lasts_label kinds label (shape_of b) none in
      record {
        kept = record {
          sound = sound;
          windows = windows_as k.windows eb eu;
          slack = subst (λ s. HasSlack (length s) 14 (pending_of kinds new)) (sym eb) (slack_same (length (bytes_of b)) 14 (pending_of kinds b) (pending_of kinds new) fewer k.slack);
          supported = λ j u h. k.supported j u (ap (λ us. slice_get us j) (sym eu) ∙ h);
          named = λ j u h. subst (λ (x : Shape L). IsMet labels x u.label.number) (sym same) (still_met last u.label.number (k.named j u (ap (λ us. slice_get us j) (sym eu) ∙ h)));
          stand = still_stand last refl same k.stand;
        };
        bound = ap (λ (p : ℕ → Option ℕ). is_some (p label.number)) ep ∙ ap is_some (placed_same (place_of b) label.number (length (bytes_of b)));
        still = λ other h. ap (λ (p : ℕ → Option ℕ). is_some (p other)) ep ∙ still_bound last other h;
      }

  -- ---- the jump over an island

  -- the jump's four bytes stand last: an island may be made
  pub can_island : {labels : ℕ} {b : MachBuffer L} → IsKept kinds labels b → (mid : MachBuffer L) → IsSound kinds mid → (u : Use L) (code : List ℕ) → length code ≡ 4 → u.offset ≡ length (bytes_of b) → kinds.has_veneer u.kind ≡ true → u.veneer ≡ None → 6 ≤ kinds.forward u.kind →
      (after_island : MachLabel) → u.label ≡ after_island → first_inner ≤ after_island.number → IsKnown after_island.number (allocated_of mid) → place_of b after_island.number ≡ None → ((j : ℕ) (w : Use L) → slice_get (uses_of b) j ≡ Some w → w.label.number ≢ after_island.number) →
      shape_of mid ≡ with_bytes code (with_use u (shape_of b)) → length (bytes_of b) + 8 * length (pending_of kinds b) + reserve_of (shape_of b) + 17 < code_limit → CanIsland kinds (shape_of mid) after_island
  can_island {labels} {b} k mid sound u code four at supported bare far after_island el inner known none unnamed same_shape room = record {
    inner = inner;
    known = known;
    unbound = ap (λ p. p after_island.number) ep ∙ none;
    four = omega (arith, long);
    jump = jump;
    reach = reach_from_slack (length (bytes_of mid) - 4) (others_of kinds (shape_of mid) after_island)
        (subst (λ n. HasSlack n 14 (others_of kinds (shape_of mid) after_island)) start (subst (HasSlack (length (bytes_of b)) 14) (sym others)
        (slack_same (length (bytes_of b)) 14 (pending_of kinds b) _ (λ end. due_fewer (is_pending kinds (place_of b)) (is_other kinds (place_of b) (Some after_island)) kinds end (uses_of b) (other_pending kinds (place_of b) (Some after_island))) k.slack)));
    room =
        let near = aligned_near (length (bytes_of mid)) (even_length kinds mid sound) in
        let few = length_fewer kinds (is_pending kinds (place_of b)) (is_other kinds (place_of b) (Some after_island)) (uses_of b) (other_pending kinds (place_of b) (Some after_island)) in
        let same : length (others_of kinds (shape_of mid) after_island) ≡ length (deadlines (is_other kinds (place_of b) (Some after_island)) kinds (uses_of b)) = ap (length {A = ℕ}) others in
        let count = length (others_of kinds (shape_of mid) after_island) in
        let first = first_near (needs_own (end_after (shape_of mid)) (aligned (length (bytes_of mid))) count (deadline kinds u)) (aligned (length (bytes_of mid))) in
        let n = first_of (end_after (shape_of mid)) (aligned (length (bytes_of mid))) count (deadline kinds u) + 8 * count in
        let ends = ends_within kinds mid sound n in
        let kept : reserve_of (shape_of mid) ≡ reserve_of (shape_of b) = ap reserve_of same_shape in
        let up = aligned_up (end_after (shape_of mid) n) in
        omega (arith, near, few, same, first, ends, kept, up, long, room);
  }
    where
      eb : bytes_of mid ≡ bytes_of b ++ code
      eb = ap (λ (x : Shape L). x.bytes) same_shape

      eu : uses_of mid ≡ uses_of b ++ u ∷ []
      eu = ap (λ (x : Shape L). x.uses) same_shape

      ep : place_of mid ≡ place_of b
      ep = ap (λ (x : Shape L). x.place) same_shape

      long : length (bytes_of mid) ≡ length (bytes_of b) + 4
      long = ap (length {A = ℕ}) eb ∙ length-append (bytes_of b) code ∙ ap (λ n. length (bytes_of b) + n) four

      start : length (bytes_of b) ≡ length (bytes_of mid) - 4
      start = omega (arith, long)

      others : others_of kinds (shape_of mid) after_island ≡ deadlines (is_other kinds (place_of b) (Some after_island)) kinds (uses_of b)
      others = others_after kinds b mid u after_island el eu ep

      jump : IsJumpOver kinds (bytes_of mid) (uses_of mid) after_island.number
      jump = record {
        before = uses_of b;
        jump = u;
        stands = eu;
        names = ap (λ (l : MachLabel). l.number) el;
        bare = bare;
        last = omega (arith, long, at);
        supported = supported;
        reach = far;
        only = unnamed;
      }

  -- and after the island
  pub kept_island : {labels : ℕ} {b : MachBuffer L} (mid new : MachBuffer L) {after_island : MachLabel} → IsKept kinds labels b → (u : Use L) (code : List ℕ) → kinds.has_veneer u.kind ≡ true → u.label ≡ after_island → u.offset ≡ length (bytes_of b) → shape_of mid ≡ with_bytes code (with_use u (shape_of b)) → IsSound kinds mid → CanIsland kinds (shape_of mid) after_island →
      IsSound kinds new → AreWindows kinds (bytes_of new) (uses_of new) → AddsOwn kinds (length (bytes_of mid)) (uses_of mid) (uses_of new) → (AllStand kinds (shape_of mid) → AllStand kinds (shape_of new)) → Islanded kinds after_island (shape_of mid) (shape_of new) → IsKept kinds labels new
  kept_island {labels} {b} mid new {after_island} k u code supported el at same was can sound windows own stand i = record {
    sound = sound;
    windows = windows;
    slack = subst (HasSlack (length (bytes_of new)) 14) (sym i.settled) (slack_none (length (bytes_of new)) 14);
    supported = λ j v h. ⊎_elim
        (λ (w : Was (uses_of mid) j v). subst Goes w.alike (first_goes j w.was w.there))
        (λ w. inr ((own.own w.0 (core v) w.2).far))
        (recorded_at (uses_of new) (uses_of mid) own.more own.grown j v h);
    named = λ j v h. ⊎_elim
        (λ (w : Was (uses_of mid) j v). subst (λ (x : Use L). IsNamed x.label) w.alike (first_named j w.was w.there))
        (λ w. let x = own.own w.0 (core v) w.2 in subst IsNamed x.names (first_named x.user x.used x.there))
        (recorded_at (uses_of new) (uses_of mid) own.more own.grown j v h);
    stand = stand (still_stand put refl same k.stand);
  }
    where
      rest : IslandRest after_island (shape_of mid) (shape_of new)
      rest = island_rest kinds mid was i

      put : Lasts kinds (shape_of b) (with_bytes code (with_use u (shape_of b)))
      put = lasts_more (lasts_use kinds u (shape_of b) (omega (arith, at))) (lasts_bytes kinds code (with_use u (shape_of b)))

      last : Lasts kinds (shape_of b) (shape_of new)
      last = lasts_more (subst (Lasts kinds (shape_of b)) (sym same) put) (lasts_island kinds mid was can i)

      eu : uses_of mid ≡ uses_of b ++ u ∷ []
      eu = ap (λ (x : Shape L). x.uses) same

      Goes : Use L → Type 0
      Goes x = (kinds.has_veneer x.kind ≡ true) ⊎ (is_far kinds x ≡ true)

      IsNamed : MachLabel → Type 0
      IsNamed l = IsMet labels (shape_of new) l.number

      first_goes : (j : ℕ) (x : Use L) → slice_get (uses_of mid) j ≡ Some x → Goes x
      first_goes j x h = append_each Goes (uses_of b) u (inl supported) k.supported j x (ap (λ us. slice_get us j) (sym eu) ∙ h)

      first_named : (j : ℕ) (x : Use L) → slice_get (uses_of mid) j ≡ Some x → IsNamed x.label
      first_named j x h = append_each (λ (y : Use L). IsNamed y.label) (uses_of b) u (inr (inl (ap (λ (l : MachLabel). is_some (place_of new l.number)) el ∙ ap is_some rest.bound)))
          (λ n y q. still_met last y.label.number (k.named n y q)) j x (ap (λ us. slice_get us j) (sym eu) ∙ h)

  -- ---- the end

  -- once all labels are bound the buffer can be finished
  pub can_finish : {labels : ℕ} {b : MachBuffer L} → IsKept kinds labels b → ((label : ℕ) → label < labels → is_some (place_of b label) ≡ true) → length (bytes_of b) + 8 * length (pending_of kinds b) + reserve_of (shape_of b) + 2 < code_limit → CanFinish kinds (shape_of b)
  can_finish {labels} {b} k all room =
      let pending = pending_of kinds b in
      let near = before_near (bytes_of b) (length pending) (even_length kinds b k.sound) in
      record {
        windows = k.windows;
        bound = λ j u h. ⊎_elim (λ lt. inl (all u.label.number lt)) (λ s. s) (k.named j u h);
        direct = λ j u h no_veneer short. absurd (⊎_elim (λ yes. true≢false (sym yes ∙ no_veneer)) (λ far. true≢false (sym far ∙ short)) (k.supported j u h));
        reach = veneers_reach (length (before_last (bytes_of b) (length pending))) pending (reaches_from_slack (length (bytes_of b)) 14 (length (before_last (bytes_of b) (length pending))) pending (omega (arith, near)) k.slack);
        short = let ends = ends_within kinds b k.sound (last_end kinds (shape_of b)) in omega (arith, near, ends, room);
        constants = k.stand;
      }

-- each of four
pub each_of_four : (P : ℕ → Type 0) → P 0 → P 1 → P 2 → P 3 → (n : ℕ) → n < 4 → P n
each_of_four P a b c d zero lt = a
each_of_four P a b c d (suc zero) lt = b
each_of_four P a b c d (suc (suc zero)) lt = c
each_of_four P a b c d (suc (suc (suc zero))) lt = d
each_of_four P a b c d (suc (suc (suc (suc n)))) lt = absurd (omega arith)
