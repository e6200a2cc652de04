-- For callers: which uses are pending, by which offset each must have its veneer, and how far code may go before that.
use Rattle.std.specs.Prelude.{ℕ, suc, ◌+◌, ◌*◌, ◌≤◌, Bool, false, not, ◌&&◌, ◌||◌, cond, nat_eq, nat_le, nat_lt, List, [], ◌∷◌, Option, Some, None, is_none}
use Rattle.rv_base.specs.declared.label.MachLabel.{MachLabel}
use Rattle.rv_base.specs.LabelUse.{Kinds}
use Rattle.mach_uses.specs.declared.uses.Use.{Use}

-- the last offset that a use reaches
abbrev pub deadline : {L : Type 0} → Kinds L → Use L → ℕ
deadline kinds u = u.offset + kinds.forward u.kind

-- whether a label that stands there is in reach
abbrev pub is_reached : {L : Type 0} → Kinds L → Option ℕ → Use L → Bool
is_reached kinds None u = false
is_reached kinds (Some at) u = nat_le at (u.offset + kinds.forward u.kind) && nat_le u.offset (at + kinds.backward u.kind)

-- a use that supports a veneer, has none, and whose label is not bound within its reach
abbrev pub is_pending : {L : Type 0} → Kinds L → (ℕ → Option ℕ) → Use L → Bool
is_pending kinds place u = kinds.has_veneer u.kind && (is_none u.veneer && not (is_reached kinds (place u.label.number) u))

-- whether a use names this label
abbrev pub names : {L : Type 0} → Option MachLabel → Use L → Bool
names None u = false
names (Some label) u = nat_eq u.label.number label.number

-- a pending use that does not name this label
abbrev pub is_other : {L : Type 0} → Kinds L → (ℕ → Option ℕ) → Option MachLabel → Use L → Bool
is_other kinds place after_island u = is_pending kinds place u && not (names after_island u)

-- the deadlines of those uses for which a test holds
abbrev pub deadlines : {L : Type 0} → (Use L → Bool) → Kinds L → List (Use L) → List ℕ
deadlines test kinds [] = []
deadlines test kinds (u ∷ uses) = cond (test u) (deadline kinds u ∷ deadlines test kinds uses) (deadlines test kinds uses)

-- how many of these deadlines are not later than an offset
abbrev pub due_by : ℕ → List ℕ → ℕ
due_by end [] = 0
due_by end (d ∷ ds) = cond (nat_le d end) (suc (due_by end ds)) (due_by end ds)

-- each of these
abbrev pub AllOf : (ℕ → Type 0) → List ℕ → Type 0
AllOf P [] = Unit {0}
AllOf P (d ∷ ds) = P d × AllOf P ds

-- what stands in an island before the veneers of pending uses: its jump, at most two bytes of padding, and the jump's own
-- veneer
abbrev pub island_front : ℕ
island_front = 14

-- what is kept free for an island: its front, and the veneers of two uses more
abbrev pub island_margin : ℕ
island_margin = island_front + 8 * 2

-- Reach. For each pending use, an island's front and the veneers of all that are due with it end by its deadline.
abbrev pub CanReach : ℕ → List ℕ → Type 0
CanReach cur ds = AllOf (λ d. cur + island_front + 8 * due_by d ds ≤ d) ds

-- each pending use reaches its veneer, where the veneers of all that are due are put from here on
abbrev pub VeneersReach : ℕ → List ℕ → Type 0
VeneersReach start ds = AllOf (λ d. start + 8 * due_by d ds ≤ d + 8) ds

-- the veneers of all that is due by an offset, put from here on, begin by then
pub record StillReaches (cur : ℕ) (ds : List ℕ) : Type 0 where
  pub each : (end : ℕ) → 1 ≤ due_by end ds → cur + 8 * due_by end ds ≤ end + 8

-- with so many bytes more, the veneers of all that is due by an offset still end by it
pub record HasSlack (cur slack : ℕ) (ds : List ℕ) : Type 0 where
  pub each : (end : ℕ) → 1 ≤ due_by end ds → cur + slack + 8 * due_by end ds ≤ end

-- whether some deadline might be missed after so many bytes, two more uses and an island's jump
abbrev pub is_needed_from : ℕ → List ℕ → List ℕ → Bool
is_needed_from cur all [] = false
is_needed_from cur all (d ∷ ds) = nat_lt d (cur + island_front + 8 * (due_by d all + 2)) || is_needed_from cur all ds

abbrev pub is_needed : ℕ → ℕ → List ℕ → Bool
is_needed cur distance ds = is_needed_from (cur + distance) ds ds
