-- For callers: how a buffer grows, and what lasts in it.
use Rattle.std.specs.Prelude.{◌≡◌, ℕ, ◌≤◌, ◌⊎◌, true, List, ◌++◌, length, take, Option, Some, None, slice_get}
use Rattle.rv_base.specs.LabelUse.{Kinds}
use Rattle.mach_uses.specs.declared.uses.Use.{Use}
use Rattle.rv_base.specs.declared.constant.VCodeConstant.{VCodeConstant}
use Rattle.mach_records.specs.declared.records.ConstPlace.{ConstPlace}
use Rattle.mach_records.specs.declared.records.MachRecord.{MachRecord}
use Rattle.mach_buffer.specs.Shape.{Shape, recorded}
use Rattle.mach_uses.specs.Reach.{is_reached}

-- what a buffer has stays as it grows, and what is added stands after it
pub record Grows {L : Type 0} (bytes : List ℕ) (uses : List (Use L)) (place : ℕ → Option ℕ) (new_bytes : List ℕ) (new_uses : List (Use L)) (new_place : ℕ → Option ℕ) : Type 0 where
  pub before : take (length bytes) new_bytes ≡ bytes
  pub longer : length bytes ≤ length new_bytes
  pub more : List (Use L)
  pub grown : recorded new_uses ≡ recorded uses ++ more
  pub after : (k : ℕ) (u : Use L) → slice_get more k ≡ Some u → length bytes ≤ u.offset
  pub places : (label to : ℕ) → place label ≡ Some to → new_place label ≡ Some to

-- records stay, and a new one is at the end of the bytes or after it
pub record RecordsLast {L : Type 0} (s t : Shape L) : Type 0 where
  pub stay : (k : ℕ) (r : MachRecord) → slice_get s.records k ≡ Some r → slice_get t.records k ≡ Some r
  pub later : (k : ℕ) (r : MachRecord) → slice_get t.records k ≡ Some r → (slice_get s.records k ≡ Some r) ⊎ (length s.bytes ≤ r.offset)

-- what a buffer has lasts: it only grows; a use without a veneer whose label is bound within its reach stays without one; an
-- inner label that was allocated stays so; records stay, and a new one is not before the end; and constants that were registered
-- or named, or stand, stay so
pub record Lasts {L : Type 0} (kinds : Kinds L) (s t : Shape L) : Type 0 where
  pub grows : Grows s.bytes s.uses s.place t.bytes t.uses t.place
  pub straight :
      (j : ℕ) (u : Use L) →
      slice_get s.uses j ≡ Some u →
      u.veneer ≡ None →
      is_reached kinds (s.place u.label.number) u ≡ true →
      slice_get t.uses j ≡ Some u
  pub allocated : s.allocated ≤ t.allocated
  pub records : RecordsLast s t
  pub registered : t.registered ≡ s.registered
  pub named : (i : ℕ) (k : VCodeConstant) → slice_get s.named i ≡ Some k → slice_get t.named i ≡ Some k
  pub constants : (j : ℕ) (c : ConstPlace) → slice_get s.constants j ≡ Some c → slice_get t.constants j ≡ Some c
