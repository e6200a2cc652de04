-- For callers: what a buffer of code shows, and what its calls make of it.
use Rattle.std.specs.Prelude.{◌≡◌, ◌⊎◌, ℕ, ◌+◌, ◌<◌, List, [], ◌∷◌, ◌++◌, length, map, drop, Option, Some, None, slice_get}
use Rattle.rv_base.specs.declared.label.MachLabel.{MachLabel}
use Rattle.rv_base.specs.LabelUse.{Veneer}
use Rattle.rv_base.specs.declared.constant.Constant.{Constant}
use Rattle.rv_base.specs.declared.constant.VCodeConstant.{VCodeConstant}
use Rattle.mach_labels.specs.Table.{first_inner}
use Rattle.mach_uses.specs.Labels.{placed, listed, constant_label, name_more}
use Rattle.mach_uses.specs.declared.uses.Use.{Use}
use Rattle.mach_uses.specs.declared.uses.LabelPlace.{LabelPlace}
use Rattle.mach_records.specs.declared.records.ConstPlace.{ConstPlace}
use Rattle.mach_records.specs.declared.records.Event.{Event}
use Rattle.mach_records.specs.declared.records.MachRecord.{MachRecord}

-- its bytes; its uses in the order in which they were recorded, each with its veneer's place where it has one; the places of
-- labels; the labels below 2^30 that are bound, in order of binding; how many inner labels were allocated; the records, in the
-- order in which they were recorded; the constants that code may name; those that were named, in order of their first use; and
-- those that stand, which are the first of these, with their offsets
pub record Shape (L : Type 0) : Type 0 where
  pub bytes : List ℕ
  pub uses : List (Use L)
  pub place : ℕ → Option ℕ
  pub labels : List LabelPlace
  pub allocated : ℕ
  pub records : List MachRecord
  pub registered : List Constant
  pub named : List VCodeConstant
  pub constants : List ConstPlace

-- bytes more
abbrev pub with_bytes : {L : Type 0} → List ℕ → Shape L → Shape L
with_bytes more s = record s { bytes = s.bytes ++ more }

-- a use more
abbrev pub with_use : {L : Type 0} → Use L → Shape L → Shape L
with_use u s = record s { uses = s.uses ++ u ∷ [] }

-- a label bound at the end of the bytes
abbrev pub with_label : {L : Type 0} → MachLabel → Shape L → Shape L
with_label label s = record s { place = placed s.place label.number (length s.bytes); labels = s.labels ++ listed label (length s.bytes) }

-- an inner label more
abbrev pub with_allocated : {L : Type 0} → Shape L → Shape L
with_allocated s = record s { allocated = s.allocated + 1 }

-- a record more, at the end of the bytes
abbrev pub with_record : {L : Type 0} → Event → Shape L → Shape L
with_record event s = record s { records = s.records ++ record { offset = length s.bytes; event = event } ∷ [] }

-- constants become known
abbrev pub with_registered : {L : Type 0} → List Constant → Shape L → Shape L
with_registered constants s = record s { registered = constants }

-- a constant is named
abbrev pub with_named : {L : Type 0} → VCodeConstant → Shape L → Shape L
with_named k s = record s { named = name_more k s.named }

-- the constants that were named and don't stand yet
abbrev pub unplaced_of : {L : Type 0} → Shape L → List VCodeConstant
unplaced_of s = drop (length s.constants) s.named

-- a label that a listing may name, or that the buffer gave out
abbrev pub IsKnown : ℕ → ℕ → Type 0
IsKnown label allocated = label < first_inner + allocated

-- the label of a constant that was named
pub record IsConstantLabel (named : List VCodeConstant) (label : ℕ) : Type 0 where
  pub index : ℕ
  pub constant : VCodeConstant
  pub there : slice_get named index ≡ Some constant
  pub is : label ≡ (constant_label constant).number

-- a label that a use may name
abbrev pub IsUsable : {L : Type 0} → Shape L → ℕ → Type 0
IsUsable s label = IsKnown label s.allocated ⊎ IsConstantLabel s.named label

-- a use without its veneer
abbrev pub core : {L : Type 0} → Use L → Use L
core u = record { offset = u.offset; label = u.label; kind = u.kind; veneer = None }

-- the uses as they were recorded
abbrev pub recorded : {L : Type 0} → List (Use L) → List (Use L)
recorded uses = map core uses

-- the use in a veneer that stands at `at`
abbrev pub veneer_use : {L : Type 0} → Veneer L → ℕ → MachLabel → Use L
veneer_use v at label = record { offset = at + v.place; label = label; kind = v.kind; veneer = None }
