-- An island: what it asks once its jump is put, and the jump and the island as the buffer's calls put them.
use Rattle.rv_emit.proofs.NewConstants.{adds_both, adds_none, adds_island}
use Rattle.rv_emit.proofs.Terms.{◌≡◌, ◌≢◌, inl, inr, ℕ, suc, ◌+◌, ◌-◌, ◌*◌, ◌<◌, ◌≤◌, Bool, true, false, cond, not, ◌&&◌, List, [], ◌∷◌, ◌++◌, length, Option, Some, None, refl, ap, sym, ◌∙◌, subst, arith, ◌%◌, take, drop, slice_get, ne_eqb, length-append, append-nil, MachLabel, first_inner}
use Rattle.rv_emit.proofs.Terms.{LabelUse, Jal20, label_kinds, word_bytes, code_limit, Kinds, Use, CanReach, deadline, deadlines, is_pending, is_other, shape_of, bytes_of, uses_of, place_of, allocated_of, registered_of, labels_of, records_of, IsUsable, with_allocated, with_bytes, with_use}
use Rattle.rv_emit.proofs.Terms.{end_after, reserve_from, reserve_of, constants_end, AllStand, CanIsland, IsJumpOver, aligned, island_end, first_of, needs_own, others_of, Islanded, AddsOwn, deadlines_append, own_idle, aligned_near, ends_within, even_length, few_allocated, use_usable, bound_usable}
use Rattle.rv_emit.proofs.Terms.{slice_get-append_last, island_rest, island_takes, island_reserve, lasts_more, lasts_allocated, lasts_island, stands_last, windows_with_use, Buffer, IsSoundBuffer, pending, HasWindows, AppendsCode, AppendsIsland, ⊎_elim, named_of, IslandAsked, IslandIfNeeded}
use Rattle.rv_emit.proofs.Terms.{jump_word, use_at, same_Some, AreWindows, Grows, IsaFlags, Label, Puts, wide_jump_to, lasts_after_slots, puts_named, puts_constants, no_flags}

-- ---- what an island asks

-- tests that agree on each use have the same deadlines
pub deadlines_as : {L : Type 0} (test other : Use L → Bool) (kinds : Kinds L) (uses : List (Use L)) → ((j : ℕ) (u : Use L) → slice_get uses j ≡ Some u → test u ≡ other u) → deadlines test kinds uses ≡ deadlines other kinds uses
deadlines_as test other kinds [] same = refl
deadlines_as test other kinds (u ∷ uses) same = let rest = deadlines_as test other kinds uses (λ j v e. same (suc j) v e) in λ i. cond (same 0 u refl i) (deadline kinds u ∷ rest i) (rest i)

-- a use of another label
other_label : (place : ℕ → Option ℕ) (after_island : MachLabel) (u : Use LabelUse) → u.label.number ≢ after_island.number → is_other label_kinds place (Some after_island) u ≡ is_pending label_kinds place u
other_label place after_island u n = ap (λ b. is_pending label_kinds place u && not b) (ne_eqb u.label.number after_island.number n) ∙ (elim (is_pending label_kinds place u) as (λ b. (b && true) ≡ b) [ true ↦ refl | false ↦ refl ])

-- a jump to a fresh label was put, after what a buffer has
pub record JumpPut (old new : Buffer) (after_island : MachLabel) : Type 0 where
  pub fresh : after_island.number ≡ first_inner + allocated_of old
  pub allocated : allocated_of new ≡ allocated_of old + 1
  pub bytes : bytes_of new ≡ bytes_of old ++ word_bytes jump_word
  pub uses : uses_of new ≡ uses_of old ++ use_at (length (bytes_of old)) after_island Jal20 ∷ []
  pub places : place_of new ≡ place_of old
  pub registered : registered_of new ≡ registered_of old
  pub before : IsSoundBuffer old
  pub sound : IsSoundBuffer new

-- no use could name the label before
not_usable : (old new : Buffer) (after_island : MachLabel) → JumpPut old new after_island → (label : ℕ) → IsUsable (shape_of old) label → label ≢ after_island.number
not_usable old new after_island p label (inl known) e = let at = p.fresh in absurd (omega arith)
not_usable old new after_island p label (inr c) e =
    absurd (omega (arith, few_allocated label_kinds new p.sound))

not_named : (old new : Buffer) (after_island : MachLabel) → JumpPut old new after_island → (j : ℕ) (u : Use LabelUse) → slice_get (uses_of old) j ≡ Some u → u.label.number ≢ after_island.number
not_named old new after_island p j u h = not_usable old new after_island p u.label.number (use_usable label_kinds old p.before j u h)

-- what is pending beside the jump is what was pending before it
pub others_pending : (old new : Buffer) (after_island : MachLabel) → JumpPut old new after_island → others_of label_kinds (shape_of new) after_island ≡ pending old
others_pending old new after_island p =
    let test = is_other label_kinds (place_of old) (Some after_island) in
    let jump = use_at (length (bytes_of old)) after_island Jal20 in
    let first : others_of label_kinds (shape_of new) after_island ≡ deadlines test label_kinds (uses_of old ++ jump ∷ []) =
    λ i. deadlines (is_other label_kinds (p.places i) (Some after_island)) label_kinds (p.uses i) in
    let idle : test jump ≡ false = own_idle label_kinds (place_of old) after_island jump refl in
    let last : deadlines test label_kinds (jump ∷ []) ≡ [] = ap (λ b. cond b (deadline label_kinds jump ∷ []) []) idle in
    let same : deadlines test label_kinds (uses_of old) ≡ pending old = deadlines_as test _ label_kinds (uses_of old) (λ j u h. other_label (place_of old) after_island u (not_named old new after_island p j u h)) in
    first ∙ deadlines_append test label_kinds (uses_of old) (jump ∷ []) ∙ ap (λ ds. deadlines test label_kinds (uses_of old) ++ ds) last ∙ append-nil _ ∙ same

pub jumps_over : (old new : Buffer) (after_island : MachLabel) → JumpPut old new after_island → IsJumpOver label_kinds (bytes_of new) (uses_of new) after_island.number
jumps_over old new after_island p = record {
  before = uses_of old;
  jump = use_at (length (bytes_of old)) after_island Jal20;
  stands = p.uses;
  names = refl;
  bare = refl;
  last = let long : length (bytes_of new) ≡ length (bytes_of old) + 4 = ap length p.bytes ∙ length-append (bytes_of old) (word_bytes jump_word) in omega arith;
  supported = refl;
  reach = omega arith;
  only = not_named old new after_island p;
}

-- the jump takes no room from constants
pub same_reserve : {old new : Buffer} {after_island : MachLabel} → JumpPut old new after_island → reserve_of (shape_of new) ≡ reserve_of (shape_of old)
same_reserve p = λ i. reserve_from (p.places i) 0 (p.registered i)

-- how far an island reaches: its own veneer, the others, the constants, and zero bytes to a multiple of four
pub end_near : (b : Buffer) (start count last : ℕ) → IsSoundBuffer b → island_end (end_after (shape_of b)) start count last ≤ start + 8 + 8 * count + reserve_of (shape_of b) + 3
end_near b start count last sound =
    let own : cond (needs_own (end_after (shape_of b)) start count last) (start + 8) start ≤ start + 8 = elim (needs_own (end_after (shape_of b)) start count last) as (λ c. cond c (start + 8) start ≤ start + 8) [ true ↦ omega arith | false ↦ omega arith ] in
    omega (arith, ends_within label_kinds b sound (first_of (end_after (shape_of b)) start count last + 8 * count))

unbound_fresh : (old new : Buffer) (after_island : MachLabel) → JumpPut old new after_island → place_of new after_island.number ≡ None
unbound_fresh old new after_island p = ap (λ (place : ℕ → Option ℕ). place after_island.number) p.places ∙ on (place_of old after_island.number) refl
  where
    on : (o : Option ℕ) → place_of old after_island.number ≡ o → o ≡ None
    on None e = refl
    on (Some at) e = absurd (not_usable old new after_island p after_island.number (bound_usable label_kinds old p.before after_island.number at e) refl)

pub can_island : (old new : Buffer) (after_island : MachLabel) → JumpPut old new after_island → CanReach (length (bytes_of old)) (pending old) → length (bytes_of old) + reserve_of (shape_of old) + 8 * length (pending old) + 32 < code_limit → CanIsland label_kinds (shape_of new) after_island
unfolding jumps_over
can_island old new after_island p reach room =
    let others = others_pending old new after_island p in
    let long : length (bytes_of new) ≡ length (bytes_of old) + 4 = ap length p.bytes ∙ length-append (bytes_of old) (word_bytes jump_word) in
    let less : length (bytes_of old) ≡ length (bytes_of new) - 4 = omega arith in
    let near : aligned (length (bytes_of new)) ≤ length (bytes_of new) + 2 = aligned_near (length (bytes_of new)) (even_length label_kinds new p.sound) in
    let last = length (bytes_of old) + 1048574 in
    let end : island_end (end_after (shape_of new)) (aligned (length (bytes_of new))) (length (pending old)) last < code_limit = let e = end_near new (aligned (length (bytes_of new))) (length (pending old)) last p.sound in omega (arith, e, near, long, room, same_reserve p) in
    record {
      inner = omega arith;
      known = omega arith;
      unbound = unbound_fresh old new after_island p;
      four = omega arith;
      jump = jumps_over old new after_island p;
      reach = subst (λ (ds : List ℕ). CanReach (length (bytes_of new) - 4) ds) (sym others) (subst (λ n. CanReach n (pending old)) less reach);
      room = subst (λ (ds : List ℕ). island_end (end_after (shape_of new)) (aligned (length (bytes_of new))) (length ds) last < code_limit) (sym others) end;
    }

-- ---- a jump and an island after it

-- a label was allocated, and a jump to it put
pub jump_put : (old mid new : Buffer) (after_island : MachLabel) → IsSoundBuffer old → after_island.number ≡ first_inner + allocated_of old → allocated_of mid ≡ allocated_of old + 1 → bytes_of mid ≡ bytes_of old → uses_of mid ≡ uses_of old → place_of mid ≡ place_of old → registered_of mid ≡ registered_of old →
    AppendsCode (word_bytes jump_word) (use_at (length (bytes_of mid)) after_island Jal20 ∷ []) mid new → JumpPut old new after_island
jump_put old mid new after_island sound fresh allocated bytes uses places registered a = record {
  fresh = fresh;
  allocated = a.allocated ∙ allocated;
  bytes = a.bytes ∙ ap (λ b. b ++ word_bytes jump_word) bytes;
  uses = a.uses ∙ (λ i. uses i ++ use_at (length (bytes i)) after_island Jal20 ∷ []);
  places = a.places ∙ places;
  registered = a.registered ∙ registered;
  before = sound;
  sound = a.sound;
}

-- where bytes and uses are the same, so are the windows
pub same_windows : (old new : Buffer) → bytes_of new ≡ bytes_of old → uses_of new ≡ uses_of old → HasWindows old → HasWindows new
same_windows old new bytes uses w =
    subst (λ (bs : List ℕ). AreWindows label_kinds bs (uses_of new)) (sym bytes)
    (subst (λ (us : List (Use LabelUse)). AreWindows label_kinds (bytes_of old) us) (sym uses) w)

-- the jump's window stands fresh
jump_windows : (old new : Buffer) (after_island : MachLabel) → IsSoundBuffer old → AppendsCode (word_bytes jump_word) (use_at (length (bytes_of old)) after_island Jal20 ∷ []) old new → HasWindows old → HasWindows new
jump_windows old new after_island s a w =
    subst (λ (bs : List ℕ). AreWindows label_kinds bs (uses_of new)) (sym a.bytes)
    (subst (λ (us : List (Use LabelUse)). AreWindows label_kinds (bytes_of old ++ word_bytes jump_word) us) (sym a.uses)
    (windows_with_use (shape_of old) w (even_length label_kinds old s) (word_bytes jump_word) (use_at (length (bytes_of old)) after_island Jal20) (record { at = refl; bare = refl; long = refl }) (refl, (refl, (refl, (refl, tt))))))

-- an island's end is a multiple of four
end_whole : (n : ℕ) → aligned n % 4 ≡ 0
end_whole n = omega arith

-- the jump over an island is the use that was recorded last
jump_is : (old mid new : Buffer) (after_island : MachLabel) → JumpPut old mid after_island → (i : Islanded label_kinds after_island (shape_of mid) (shape_of new)) → use_at (length (bytes_of old)) after_island Jal20 ≡ i.jump
jump_is old mid new after_island p i =
    let us = uses_of old in
    let u = use_at (length (bytes_of old)) after_island Jal20 in
    let last : length us ≡ length (us ++ u ∷ []) - 1 = omega (arith, length-append us (u ∷ [])) in
    same_Some u i.jump (sym (slice_get-append_last us u) ∙ ap (slice_get (us ++ u ∷ [])) last ∙ ap (λ (vs : List (Use LabelUse)). slice_get vs (length vs - 1)) (sym p.uses) ∙ i.last)

-- a jump was put, and the island after it
pub puts_island : (old allocated mid new : Buffer) (after_island : MachLabel) → JumpPut old mid after_island → labels_of allocated ≡ labels_of old → IsSoundBuffer allocated → bytes_of allocated ≡ bytes_of old → (HasWindows old → HasWindows allocated) →
    AppendsCode (word_bytes jump_word) (use_at (length (bytes_of allocated)) after_island Jal20 ∷ []) allocated mid →
    Islanded label_kinds after_island (shape_of mid) (shape_of new) → Grows (bytes_of mid) (uses_of mid) (place_of mid) (bytes_of new) (uses_of new) (place_of new) → AddsOwn label_kinds (length (bytes_of mid)) (uses_of mid) (uses_of new) → (HasWindows mid → HasWindows new) → (HasWindows mid → AllStand label_kinds (shape_of mid) → AllStand label_kinds (shape_of new)) → IsSoundBuffer new → ((flags : IsaFlags) → Puts flags (allocated_of old + 1) (wide_jump_to (Label after_island) ∷ []) (with_allocated (shape_of old)) (shape_of mid)) → CanIsland label_kinds (shape_of mid) after_island → records_of mid ≡ records_of old → AppendsIsland old new
puts_island old allocated mid new after_island p labels sound same_bytes windows a i grows own kept stand now puts can records =
    let rest = island_rest label_kinds mid p.sound i in
    let long : length (bytes_of mid) ≡ length (bytes_of old) + 4 = ap (length {A = ℕ}) p.bytes ∙ length-append (bytes_of old) (word_bytes jump_word) in
    let count = length (others_of label_kinds (shape_of mid) after_island) in
    let counted : count ≡ length (pending old) = ap (length {A = ℕ}) (others_pending old mid after_island p) in
    let last = deadline label_kinds i.jump in
    let end : length (bytes_of new) ≡ island_end (end_after (shape_of mid)) (aligned (length (bytes_of mid))) count last = i.end in
    let near = island_reserve label_kinds mid p.sound (omega (arith, p.fresh, few_allocated label_kinds mid p.sound)) i in
    -- what the jump leaves as it was
    let jump = wide_jump_to (Label after_island) ∷ [] in
    let before = lasts_more (lasts_allocated label_kinds (shape_of old)) (lasts_after_slots no_flags (allocated_of old + 1) jump (with_allocated (shape_of old)) (shape_of mid) (puts no_flags)) in
    let named = puts_named no_flags (allocated_of old + 1) jump (with_allocated (shape_of old)) (shape_of mid) (puts no_flags) in
    let constants = puts_constants no_flags (allocated_of old + 1) jump (with_allocated (shape_of old)) (shape_of mid) (puts no_flags) in
    record {
      after_island = after_island;
      allocated_label = p.fresh;
      jumped = shape_of mid;
      puts = puts;
      lasts = lasts_island label_kinds mid p.sound can i;
      allocated = rest.allocated ∙ p.allocated;
      jump = ap (λ n. take n (bytes_of new)) (sym long) ∙ grows.before ∙ p.bytes;
      longer = omega (arith, long, grows.longer);
      own = subst (λ (n : ℕ). AddsOwn label_kinds n (uses_of old ++ use_at (length (bytes_of old)) after_island Jal20 ∷ []) (uses_of new)) long (subst (λ (us : List (Use LabelUse)). AddsOwn label_kinds (length (bytes_of mid)) us (uses_of new)) p.uses own);
      bound = rest.bound;
      places = λ label low ne. rest.places label low ne ∙ ap (λ (place : ℕ → Option ℕ). place label) p.places;
      labels = rest.labels (omega (arith, p.fresh)) ∙ a.labels ∙ labels;
      records = rest.records ∙ records;
      registered = rest.registered ∙ p.registered;
      named = rest.named ∙ named;
      settled = i.settled;
      end = end ∙ (λ j. island_end (λ n. constants_end (p.registered j) (drop (length (constants j)) (named j)) n) (aligned (long j)) (counted j) (deadline label_kinds (sym (jump_is old mid new after_island p i) j)));
      taken = island_takes label_kinds mid p.sound i;
      whole = ap (λ n. n % 4) end ∙ end_whole _;
      short = omega (arith, long, near, counted, same_reserve p);
      adds = adds_both (adds_none (omega (arith, long)) constants p.registered) (adds_island label_kinds after_island (shape_of mid) (shape_of new) i);
      windows = λ w. kept (jump_windows allocated mid after_island sound a (windows w));
      constants = λ w all. stand (jump_windows allocated mid after_island sound a (windows w)) (stands_last before constants all);
      sound = now;
    }

-- what one use and its word add
pub appends : (old new : Buffer) (code : List ℕ) (u : Use LabelUse) → shape_of new ≡ with_bytes code (with_use u (shape_of old)) → IsSoundBuffer new → AppendsCode code (u ∷ []) old new
appends old new code u e sound = record {
  bytes = ap (λ s. s.bytes) e;
  uses = ap (λ s. s.uses) e;
  places = ap (λ s. s.place) e;
  labels = ap (λ s. s.labels) e;
  allocated = ap (λ s. s.allocated) e;
  registered = ap (λ s. s.registered) e;
  constants = ap (λ s. s.constants) e;
  sound = sound;
}

-- ---- an island where one is needed

-- what is so of a buffer before it, and after one, is so after it
pub room_by : (P : Buffer → Type 0) (distance : ℕ) (old new : Buffer) (made : Bool) → IslandIfNeeded distance old new made → P old → (AppendsIsland old new → P new) → P new
room_by P distance old new made m h one = ⊎_elim (λ same. subst P (sym same.1) h) (λ put. one put.1) m.put

pub room_sound : (distance : ℕ) (old new : Buffer) (made : Bool) → IslandIfNeeded distance old new made → IsSoundBuffer old → IsSoundBuffer new
room_sound distance old new made m sound = room_by (λ b. IsSoundBuffer b) distance old new made m sound (λ put. put.sound)

-- it makes no buffer shorter, records nothing and names nothing
pub room_longer : (distance : ℕ) (old new : Buffer) (made : Bool) → IslandIfNeeded distance old new made → length (bytes_of old) ≤ length (bytes_of new)
room_longer distance old new made m = room_by (λ b. length (bytes_of old) ≤ length (bytes_of b)) distance old new made m (omega arith) (λ put. omega (arith, put.longer))

pub room_records : (distance : ℕ) (old new : Buffer) (made : Bool) → IslandIfNeeded distance old new made → (shape_of new).records ≡ (shape_of old).records
room_records distance old new made m = room_by (λ b. (shape_of b).records ≡ (shape_of old).records) distance old new made m refl (λ put. put.records)

pub room_named : (distance : ℕ) (old new : Buffer) (made : Bool) → IslandIfNeeded distance old new made → named_of new ≡ named_of old
room_named distance old new made m = room_by (λ b. named_of b ≡ named_of old) distance old new made m refl (λ put. put.named)

-- room is left after it for as many bytes as were counted
pub room_left : (distance more : ℕ) (old new : Buffer) (made : Bool) → length (bytes_of old) + more + reserve_of (shape_of old) + 8 * length (pending old) + 64 < code_limit → IslandIfNeeded distance old new made → length (bytes_of new) + more + 47 < code_limit
room_left distance more old new made room m = room_by (λ b. length (bytes_of b) + more + 47 < code_limit) distance old new made m (omega arith) (λ put. omega (arith, put.short, room))

-- labels of lines stay as they are
abbrev pub KeepsLow : Buffer → Buffer → Type 0
KeepsLow old new = (labels_of new ≡ labels_of old) × ((label : ℕ) → label < first_inner → place_of new label ≡ place_of old label)

pub room_keeps : (distance : ℕ) (old new : Buffer) (made : Bool) → IslandIfNeeded distance old new made → KeepsLow old new
room_keeps distance old new made m =
    room_by (λ b. KeepsLow old b) distance old new made m (refl, λ label low. refl) (λ put. (put.labels, λ label low. put.places label (omega arith) (λ e. let at = put.allocated_label in absurd (omega arith))))

-- where one may be asked for
pub asked_by : (P : Buffer → Type 0) (space : Option ℕ) (old new : Buffer) → IslandAsked space old new → P old → (AppendsIsland old new → P new) → P new
asked_by P None old new same h one = subst P (sym same) h
asked_by P (Some space) old new (made, room) h one = room_by P space old new made room h one

pub asked_keeps : (space : Option ℕ) (old new : Buffer) → IslandAsked space old new → KeepsLow old new
asked_keeps None old new same = subst (KeepsLow old) (sym same) (refl, λ label low. refl)
asked_keeps (Some space) old new (made, room) = room_keeps space old new made room
