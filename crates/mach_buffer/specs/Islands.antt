-- For callers: what an island asks, and what it brings.
use Rattle.std.specs.Prelude.{◌≡◌, ◌≢◌, ℕ, ◌+◌, ◌-◌, ◌*◌, ◌/◌, ◌<◌, ◌≤◌, Bool, true, false, cond, nat_le, nat_lt, ◌&&◌, List, [], ◌∷◌, ◌++◌, length, Some, None, slice_get}
use Rattle.rv_base.specs.declared.label.MachLabel.{MachLabel}
use Rattle.rv_base.specs.LabelUse.{code_limit, Kinds}
use Rattle.mach_labels.specs.Table.{first_inner}
use Rattle.mach_uses.specs.declared.uses.Use.{Use}
use Rattle.mach_buffer.specs.Shape.{Shape, with_bytes, with_label, IsKnown, recorded}
use Rattle.mach_uses.specs.Reach.{deadline, is_pending, is_other, deadlines, CanReach}
use Rattle.mach_buffer.specs.Veneers.{put_all}
use Rattle.mach_uses.specs.Order.{IsOrder}
use Rattle.mach_buffer.specs.Constants.{zeros, end_after, put_constants}

-- the next multiple of four
abbrev pub aligned : ℕ → ℕ
aligned n = (n + 3) / 4 * 4

-- zero bytes to a multiple of four
abbrev pub padding : ℕ → List ℕ
padding n = zeros (aligned n - n)

abbrev pub padded : {L : Type 0} → Shape L → Shape L
padded s = with_bytes (padding (length s.bytes)) s

-- whether the jump over an island needs a veneer of its own: the island's end, without that veneer, is out of its reach. What
-- comes after the veneers ends where `ends` says.
abbrev pub needs_own : (ℕ → ℕ) → ℕ → ℕ → ℕ → Bool
needs_own ends start count last = nat_lt last (aligned (ends (start + 8 * count)))

-- where the other veneers begin
abbrev pub first_of : (ℕ → ℕ) → ℕ → ℕ → ℕ → ℕ
first_of ends start count last = cond (needs_own ends start count last) (start + 8) start

-- where an island ends
abbrev pub island_end : (ℕ → ℕ) → ℕ → ℕ → ℕ → ℕ
island_end ends start count last = aligned (ends (first_of ends start count last + 8 * count))

-- the jump's use before the others, where the jump needs a veneer
abbrev pub with_own : Bool → ℕ → List ℕ → List ℕ
with_own true jump order = jump ∷ order
with_own false jump order = order

-- the jump over an island, which begins at most four bytes before the end: its use is the last one, and the only one of its
-- label
pub record IsJumpOver {L : Type 0} (kinds : Kinds L) (bytes : List ℕ) (uses : List (Use L)) (after_island : ℕ) : Type 0 where
  pub before : List (Use L)
  pub jump : Use L
  pub stands : uses ≡ before ++ jump ∷ []
  pub names : jump.label.number ≡ after_island
  pub bare : jump.veneer ≡ None
  pub last : length bytes ≤ jump.offset + 4
  pub supported : kinds.has_veneer jump.kind ≡ true
  pub reach : 6 ≤ kinds.forward jump.kind
  pub only : (j : ℕ) (u : Use L) → slice_get before j ≡ Some u → u.label.number ≢ after_island

-- the deadlines of the pending uses of other labels
abbrev pub others_of : {L : Type 0} → Kinds L → Shape L → MachLabel → List ℕ
others_of kinds s after_island = deadlines (is_other kinds s.place (Some after_island)) kinds s.uses

-- what an island asks: its jump's four bytes stand last, Reach held before them, and there is room
pub record CanIsland {L : Type 0} (kinds : Kinds L) (s : Shape L) (after_island : MachLabel) : Type 0 where
  pub inner : first_inner ≤ after_island.number
  pub known : IsKnown after_island.number s.allocated
  pub unbound : s.place after_island.number ≡ None
  pub four : 4 ≤ length s.bytes
  pub jump : IsJumpOver kinds s.bytes s.uses after_island.number
  pub reach : CanReach (length s.bytes - 4) (others_of kinds s after_island)
  pub room : island_end (end_after s) (aligned (length s.bytes)) (length (others_of kinds s after_island)) (deadline kinds jump.jump) < code_limit

-- a kind of use that reaches all code
abbrev pub is_far : {L : Type 0} → Kinds L → Use L → Bool
is_far kinds u = nat_le (code_limit - 1) (kinds.forward u.kind) && nat_le (code_limit - 1) (kinds.backward u.kind)

-- the own use of a veneer that was put at or after an offset: it needs none itself, reaches all code, and names the label of
-- a use that was there
pub record IsOwn {L : Type 0} (kinds : Kinds L) (uses : List (Use L)) (from : ℕ) (own : Use L) : Type 0 where
  pub after : from ≤ own.offset
  pub bare : own.veneer ≡ None
  pub final : kinds.has_veneer own.kind ≡ false
  pub far : is_far kinds own ≡ true
  pub user : ℕ
  pub used : Use L
  pub there : slice_get uses user ≡ Some used
  pub names : used.label ≡ own.label

-- uses in veneers were added
pub record AddsOwn {L : Type 0} (kinds : Kinds L) (from : ℕ) (uses new_uses : List (Use L)) : Type 0 where
  pub more : List (Use L)
  pub grown : recorded new_uses ≡ recorded uses ++ more
  pub own : (k : ℕ) (u : Use L) → slice_get more k ≡ Some u → IsOwn kinds uses from u

-- the veneers of an island: the jump's own one, where it needs one, and one for each other pending use, in order
abbrev pub island_veneers : {L : Type 0} → Kinds L → Shape L → Use L → List ℕ → List ℕ
island_veneers kinds s jump order = with_own (needs_own (end_after s) (aligned (length s.bytes)) (length order) (deadline kinds jump)) (length s.uses - 1) order

-- what an island brings: zero bytes to a multiple of four; its veneers; the constants that don't stand yet; zero bytes to a
-- multiple of four; and its label bound at the end. So it ends where is said, and no use is pending
pub record Islanded {L : Type 0} (kinds : Kinds L) (after_island : MachLabel) (old new : Shape L) : Type 0 where
  pub jump : Use L
  pub last : slice_get old.uses (length old.uses - 1) ≡ Some jump
  pub order : List ℕ
  pub in_order : IsOrder kinds (is_other kinds old.place (Some after_island)) old.uses order
  pub whole : new ≡ with_label after_island (padded (put_constants (put_all kinds (island_veneers kinds old jump order) (padded old))))
  pub end : length new.bytes ≡ island_end (end_after old) (aligned (length old.bytes)) (length (others_of kinds old after_island)) (deadline kinds jump)
  pub settled : deadlines (is_pending kinds new.place) kinds new.uses ≡ []
