-- The queues of pending uses: numbers of uses, among them all that are pending, and how much room there is before their deadlines.
-- Callers hand `AreKept` on from call to call.
use Rattle.std.specs.Prelude.{◌≡◌, ℕ, ◌+◌, ◌-◌, ◌*◌, ◌^◌, ◌<◌, ◌≤◌, Bool, false, not, ◌&&◌, nat_eq, nat_le, nat_lt, cond, if◌then◌else◌, min, max, List, [], filter, length, Option, Some, None, slice_get}
use Rattle.std.specs.List.{filter_map}
use Rattle.rv_base.specs.declared.label.MachLabel.{MachLabel}
use Rattle.rv_base.specs.LabelUse.{Kinds}
use Rattle.mach_uses.specs.declared.uses.Use.{Use}
use Rattle.mach_uses.specs.declared.uses.PendingKey.{PendingKey}
use Rattle.mach_uses.specs.declared.pending.Pending.{Pending}
use Rattle.mach_uses.specs.Reach.{deadline, is_pending, names, deadlines, due_by, HasSlack}
use Rattle.mach_uses.specs.Order.{numbers_of}

-- ---- uses by number

abbrev pub passes : {L : Type 0} → (Use L → Bool) → Option (Use L) → Bool
passes test None = false
passes test (Some u) = test u

-- whether a test holds of the use of a number
abbrev pub test_at : {L : Type 0} → (Use L → Bool) → List (Use L) → ℕ → Bool
test_at test uses number = passes test (slice_get uses number)

abbrev pub where_it : {L : Type 0} → (Use L → Bool) → Option (Use L) → Option (Use L)
where_it test None = None
where_it test (Some u) = cond (test u) (Some u) None

-- the use of a number, where a test holds of it
abbrev pub use_where : {L : Type 0} → (Use L → Bool) → List (Use L) → ℕ → Option (Use L)
use_where test uses number = where_it test (slice_get uses number)

abbrev pub is_due_in : {L : Type 0} → Kinds L → ℕ → Option (Use L) → Bool
is_due_in kinds end None = false
is_due_in kinds end (Some u) = nat_le (deadline kinds u) end

-- whether the use of a number passes a test and is due by an offset
abbrev pub is_due_at : {L : Type 0} → Kinds L → (Use L → Bool) → List (Use L) → ℕ → ℕ → Bool
is_due_at kinds test uses end number = is_due_in kinds end (use_where test uses number)

-- the key of a use, by its number
abbrev pub key_at : {L : Type 0} → Kinds L → ℕ → Use L → PendingKey
key_at kinds number u = record { deadline = deadline kinds u; offset = u.offset; index = number }

abbrev pub key_if : {L : Type 0} → Kinds L → ℕ → Option (Use L) → Option PendingKey
key_if kinds number None = None
key_if kinds number (Some u) = Some (key_at kinds number u)

abbrev pub deadline_in : {L : Type 0} → Kinds L → Option (Use L) → ℕ
deadline_in kinds None = 0
deadline_in kinds (Some u) = deadline kinds u

-- its deadline
abbrev pub deadline_at : {L : Type 0} → Kinds L → List (Use L) → ℕ → ℕ
deadline_at kinds uses number = deadline_in kinds (slice_get uses number)

-- ---- three queues

-- the reach, in bytes, from which on a use belongs to the second queue, and to the third. So of the kinds of RISC-V each has a
-- queue of its own: compressed jumps reach 2046 bytes, branches 4094, and jumps 1048574
abbrev pub near_reach : ℕ
near_reach = 2 ^ 11

abbrev pub far_reach : ℕ
far_reach = 2 ^ 16

-- the number of the queue of uses that reach so far
abbrev pub queue_for : ℕ → ℕ
queue_for reach = if nat_lt reach near_reach then 0 else (if nat_lt reach far_reach then 1 else 2)

abbrev pub queue_of : {L : Type 0} → Kinds L → Use L → ℕ
queue_of kinds u = queue_for (kinds.forward u.kind)

-- a use is pending and belongs to the queue of that number
abbrev pub is_queued : {L : Type 0} → Kinds L → (ℕ → Option ℕ) → ℕ → Use L → Bool
is_queued kinds place queue u = is_pending kinds place u && nat_eq (queue_of kinds u) queue

-- a use is in a queue, and names another label than this one
abbrev pub is_other_queued : {L : Type 0} → Kinds L → (ℕ → Option ℕ) → ℕ → Option MachLabel → Use L → Bool
is_other_queued kinds place queue after_island u = is_queued kinds place queue u && not (names after_island u)

-- the keys of those uses, by their numbers, for which a test holds
abbrev pub keys_where : {L : Type 0} → Kinds L → (Use L → Bool) → List (Use L) → List ℕ → List PendingKey
keys_where kinds test uses numbers = filter_map (λ number. key_if kinds number (use_where test uses number)) numbers

-- the slack after a use with a deadline, the n-th of its queue
abbrev pub slack_after : ℕ → ℕ → ℕ → ℕ
slack_after slack deadline n = max (min (slack - 8) (deadline - 8)) (min slack (deadline - 8 * n))

-- a queue keeps the numbers of exactly those uses for which a test holds, and maybe others; and its slack, where it isn't 0,
-- is room before the deadlines of all of them
pub record Keeps {L : Type 0} (kinds : Kinds L) (test : Use L → Bool) (uses : List (Use L)) (numbers : List ℕ) (slack : ℕ) : Type 0 where
  pub low : (k i : ℕ) → slice_get numbers k ≡ Some i → i < length uses
  pub same : filter (test_at test uses) numbers ≡ numbers_of test uses
  pub room : 1 ≤ slack → HasSlack slack 0 (deadlines test kinds uses)

-- all queues do
pub record AreKept {L : Type 0} (kinds : Kinds L) (place : ℕ → Option ℕ) (uses : List (Use L)) (p : Pending) : Type 0 where
  pub short : Keeps kinds (is_queued kinds place 0) uses p.short.numbers.items p.short.slack
  pub near : Keeps kinds (is_queued kinds place 1) uses p.near.numbers.items p.near.slack
  pub far : Keeps kinds (is_queued kinds place 2) uses p.far.numbers.items p.far.slack

-- no queue has any
pub record HoldNone (p : Pending) : Type 0 where
  pub short : p.short.numbers.items ≡ []
  pub near : p.near.numbers.items ≡ []
  pub far : p.far.numbers.items ≡ []

-- how many pending uses are due by an offset
abbrev pub due_in : {L : Type 0} → Kinds L → (ℕ → Option ℕ) → List (Use L) → ℕ → ℕ
due_in kinds place uses end = due_by end (deadlines (is_pending kinds place) kinds uses)

abbrev pub key_number : PendingKey → ℕ
key_number t = t.index

-- whether the slack of all queues shows that all veneers, put from an offset on, end by their deadlines: those of the uses in the
-- queues before it may all come before one of a queue
abbrev pub shows_slack : Pending → ℕ → Bool
shows_slack p start =
    nat_le start p.short.slack &&
    (nat_le (start + 8 * length p.short.numbers.items) p.near.slack && nat_le (start + 8 * (length p.short.numbers.items + length p.near.numbers.items)) p.far.slack)
