-- For callers: a buffer, by what it shows; and what a call changes.
use Rattle.std.specs.Prelude.{◌≡◌, ℕ, List, Option, Result, Ok, Err, Bool, true, false}
use Rattle.rv_base.specs.LabelUse.{Kinds}
use Rattle.mach_uses.specs.declared.uses.Use.{Use}
use Rattle.mach_uses.specs.declared.uses.LabelPlace.{LabelPlace}
use Rattle.rv_base.specs.declared.constant.Constant.{Constant}
use Rattle.rv_base.specs.declared.constant.VCodeConstant.{VCodeConstant}
use Rattle.mach_records.specs.declared.records.ConstPlace.{ConstPlace}
use Rattle.mach_records.specs.declared.records.MachRecord.{MachRecord}
use Rattle.mach_buffer.specs.declared.buffer.MachBuffer.{MachBuffer}
use Rattle.mach_buffer.specs.Shape.{Shape}
use Rattle.mach_buffer.specs.Finish.{pending_in}
use Rattle.mach_uses.specs.Places.{place_in}
use Rattle.mach_buffer.specs.Inside.{AreSound, inside_of}

abbrev pub shape_of : {L : Type 0} → MachBuffer L → Shape L
shape_of b = record {
  bytes = b.code.bytes.items;
  uses = b.code.uses.items;
  place = place_in b.labels;
  labels = b.labels.bound.items;
  allocated = b.labels.allocated;
  records = b.records.items;
  registered = b.constants.registered.items;
  named = b.constants.named.items;
  constants = b.constants.placed.items;
}

-- the bytes so far
abbrev pub bytes_of : {L : Type 0} → MachBuffer L → List ℕ
bytes_of b = (shape_of b).bytes

-- the uses, in the order in which they were recorded, each with its veneer's place where it has one
abbrev pub uses_of : {L : Type 0} → MachBuffer L → List (Use L)
uses_of b = (shape_of b).uses

-- the place of a label, once it is bound
abbrev pub place_of : {L : Type 0} → MachBuffer L → ℕ → Option ℕ
place_of b = (shape_of b).place

-- the labels below 2^30 that are bound, in order of binding
abbrev pub labels_of : {L : Type 0} → MachBuffer L → List LabelPlace
labels_of b = (shape_of b).labels

-- how many inner labels were allocated
abbrev pub allocated_of : {L : Type 0} → MachBuffer L → ℕ
allocated_of b = (shape_of b).allocated

-- the records, in the order in which they were recorded
abbrev pub records_of : {L : Type 0} → MachBuffer L → List MachRecord
records_of b = (shape_of b).records

-- the constants that code may name
abbrev pub registered_of : {L : Type 0} → MachBuffer L → List Constant
registered_of b = (shape_of b).registered

-- those that were named, in order of their first use
abbrev pub named_of : {L : Type 0} → MachBuffer L → List VCodeConstant
named_of b = (shape_of b).named

-- those that stand, with their offsets
abbrev pub constants_of : {L : Type 0} → MachBuffer L → List ConstPlace
constants_of b = (shape_of b).constants

-- the deadlines of the pending uses
abbrev pub pending_of : {L : Type 0} → Kinds L → MachBuffer L → List ℕ
pending_of kinds b = pending_in kinds (shape_of b)

-- ---- out of memory

-- whether a call ran out of memory, or the buffer was spoiled
abbrev pub spoiled_of : {L : Type 0} → MachBuffer L → Bool
spoiled_of b = b.spoiled

-- what a call asks of a buffer that isn't spoiled
abbrev pub Unless : Bool → Type 0 → Type 0
Unless spoiled P = spoiled ≡ false → P

-- a call that allocates: it is refused where the buffer is spoiled, and spoils it where memory runs out; else what the buffer
-- shows is changed so
abbrev pub TakesAs : {L A E : Type 0} → Result A E → (Shape L → Shape L → Type 0) → MachBuffer L → MachBuffer L → Type 0
TakesAs (Ok value) Change old new = (spoiled_of old ≡ false) × (spoiled_of new ≡ false) × Change (shape_of old) (shape_of new)
TakesAs (Err error) Change old new = spoiled_of new ≡ true

abbrev pub Takes : {L A E : Type 0} → Result A E → (Shape L → Shape L) → MachBuffer L → MachBuffer L → Type 0
Takes {L} result change old new = TakesAs result (λ (s t : Shape L). t ≡ change s) old new

-- ---- a sound buffer

-- what holds of every buffer that was made by its calls and isn't spoiled. Callers hand it on from call to call, and know of it
-- what the laws say (proofs/Laws); what it is made of is the inside of this crate
unfoldable pub IsSound : {L : Type 0} → Kinds L → MachBuffer L → Type 0
IsSound kinds b = AreSound kinds (shape_of b) (inside_of b)
