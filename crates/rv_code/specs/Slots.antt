-- The parts of an instruction's code: asks for an island, and slots, which are pieces of code one after the other.
use Rattle.std.specs.Prelude.{◌≡◌, ℕ, ◌+◌, ◌%◌, ◌≤◌, nat_eq, if◌then◌else◌, List, [], ◌∷◌, length, Option, Some, None, ℤ, pos, ◌-ℤ◌}
use Rattle.rv_base.specs.declared.label.MachLabel.{MachLabel}
use Rattle.rv_base.specs.declared.external_name.ExternalName.{ExternalName}
use Rattle.rv_base.specs.declared.reloc.Reloc.TheVariants.{RiscvCallPlt, RiscvGotHi20, RiscvPCRelHi20, RiscvPCRelLo12I, Abs8}
use Rattle.rv_base.specs.declared.constant.VCodeConstant.{VCodeConstant}
use Rattle.mach_labels.specs.Table.{first_inner}
use Rattle.rv_machine.specs.declared.decoding.Decoded.{Decoded}
use Rattle.rv_inst.specs.declared.label_use.LabelUse.{LabelUse}
use Rattle.rv_inst.specs.LabelUse.{marks_of, forward_of, backward_of}
use Rattle.rv_inst.specs.Uses.{use_at}
use Rattle.mach_uses.specs.declared.uses.Use.{Use}
use Rattle.mach_records.specs.declared.records.Event.{Event}
use Rattle.mach_records.specs.declared.records.Event.TheVariants as event
use Rattle.mach_records.specs.declared.records.FinalizedRelocTarget.TheVariants as target
use Rattle.mach_records.specs.declared.records.MachRecord.{MachRecord}
use Rattle.mach_uses.specs.Labels.{name_more}

-- a label that may stand far away, or one of the instruction's own, by its number among those
pub data Target : Type 0 where
  Label : MachLabel → Target
  Own : ℕ → Target

-- what a linker tells the address of: a symbol, to which a number is added; or the slot that holds a symbol's address
pub data Symbol : Type 0 where
  AddressOf : ExternalName → ℤ → Symbol
  SlotOf : ExternalName → Symbol

-- an operation of the machine; the window of a use of a label, with its operations by the distance that it holds; bytes that
-- are no code; the record of an event here; a constant that is named; an own label that is allocated; one that is bound here; two
-- words that a linker fills with the upper and the lower part of the distance to a symbol, each with its operations by the
-- distance from its own place; eight bytes that it fills with a symbol's address plus a number; or eight bytes, of two instructions that go
-- to a symbol, that it fills with the distance to the symbol, with its operations by that distance
pub data Slot : Type 0 where
  Op : Decoded → Slot
  Fixup : LabelUse → Target → (ℤ → List Decoded) → Slot
  Data : List ℕ → Slot
  Records : Event → Slot
  Names : VCodeConstant → Slot
  Allocate : Slot
  Here : ℕ → Slot
  RelocPair : Symbol → (ℤ → List Decoded) → (ℤ → List Decoded) → Slot
  Address : ExternalName → ℤ → Slot
  CallTo : ExternalName → (ℤ → List Decoded) → Slot

-- an island where one is needed before so many bytes, or slots
pub data Part : Type 0 where
  Ask : ℕ → Part
  Slots : List Slot → Part

-- ---- lengths

abbrev pub slot_size : Slot → ℕ
slot_size (Op d) = d.len
slot_size (Fixup kind target ops) = length (marks_of kind)
slot_size (Data bytes) = length bytes
slot_size (Records event) = 0
slot_size (Names k) = 0
slot_size Allocate = 0
slot_size (Here k) = 0
slot_size (RelocPair symbol upper lower) = 8
slot_size (Address name addend) = 8
slot_size (CallTo name ops) = 8

abbrev pub size_of : List Slot → ℕ
size_of [] = 0
size_of (slot ∷ slots) = slot_size slot + size_of slots

-- how many bytes parts put, islands apart
abbrev pub parts_size : List Part → ℕ
parts_size [] = 0
parts_size (Ask space ∷ parts) = parts_size parts
parts_size (Slots slots ∷ parts) = size_of slots + parts_size parts

-- ---- labels

-- the label that an instruction allocates as its k-th, where so many were allocated before it
abbrev pub own_label : ℕ → ℕ → MachLabel
own_label allocated k = record { number = first_inner + (allocated + k) }

abbrev pub label_of : ℕ → Target → MachLabel
label_of allocated (Label label) = label
label_of allocated (Own k) = own_label allocated k

-- the uses of slots that begin at an offset
abbrev pub uses_of : ℕ → ℕ → List Slot → List (Use LabelUse)
uses_of allocated at [] = []
uses_of allocated at (Op d ∷ slots) = uses_of allocated (at + d.len) slots
uses_of allocated at (Fixup kind target ops ∷ slots) = use_at at (label_of allocated target) kind ∷ uses_of allocated (at + length (marks_of kind)) slots
uses_of allocated at (Data bytes ∷ slots) = uses_of allocated (at + length bytes) slots
uses_of allocated at (Records event ∷ slots) = uses_of allocated at slots
uses_of allocated at (Names k ∷ slots) = uses_of allocated at slots
uses_of allocated at (Allocate ∷ slots) = uses_of allocated at slots
uses_of allocated at (Here k ∷ slots) = uses_of allocated at slots
uses_of allocated at (RelocPair symbol upper lower ∷ slots) = uses_of allocated (at + 8) slots
uses_of allocated at (Address name addend ∷ slots) = uses_of allocated (at + 8) slots
uses_of allocated at (CallTo name ops ∷ slots) = uses_of allocated (at + 8) slots

-- the relocations of two words that hold the distance to a symbol: of its upper part, and of its lower part, which names the place of
-- the first word; of eight bytes that hold an address; and of two words that hold the distance to a symbol as one
abbrev pub upper_event : Symbol → Event
upper_event (AddressOf name addend) = event.Reloc RiscvPCRelHi20 (target.ExternalName name) addend
upper_event (SlotOf name) = event.Reloc RiscvGotHi20 (target.ExternalName name) (pos 0)

abbrev pub lower_event : ℕ → Event
lower_event at = event.Reloc RiscvPCRelLo12I (target.Func at) (pos 0)

abbrev pub address_event : ExternalName → ℤ → Event
address_event name addend = event.Reloc Abs8 (target.ExternalName name) addend

abbrev pub call_event : ExternalName → Event
call_event name = event.Reloc RiscvCallPlt (target.ExternalName name) (pos 0)

-- the records of slots that begin at an offset
abbrev pub records_of : ℕ → List Slot → List MachRecord
records_of at [] = []
records_of at (Op d ∷ slots) = records_of (at + d.len) slots
records_of at (Fixup kind target ops ∷ slots) = records_of (at + length (marks_of kind)) slots
records_of at (Data bytes ∷ slots) = records_of (at + length bytes) slots
records_of at (Records event ∷ slots) = record { offset = at; event = event } ∷ records_of at slots
records_of at (Names k ∷ slots) = records_of at slots
records_of at (Allocate ∷ slots) = records_of at slots
records_of at (Here k ∷ slots) = records_of at slots
records_of at (RelocPair symbol upper lower ∷ slots) = record { offset = at; event = upper_event symbol } ∷ record { offset = at + 4; event = lower_event at } ∷ records_of (at + 8) slots
records_of at (Address name addend ∷ slots) = record { offset = at; event = address_event name addend } ∷ records_of (at + 8) slots
records_of at (CallTo name ops ∷ slots) = record { offset = at; event = call_event name } ∷ records_of (at + 8) slots

-- the constants that are named, once slots name theirs
abbrev pub names_of : List Slot → List VCodeConstant → List VCodeConstant
names_of [] named = named
names_of (Op d ∷ slots) named = names_of slots named
names_of (Fixup kind target ops ∷ slots) named = names_of slots named
names_of (Data bytes ∷ slots) named = names_of slots named
names_of (Records event ∷ slots) named = names_of slots named
names_of (Names k ∷ slots) named = names_of slots (name_more k named)
names_of (Allocate ∷ slots) named = names_of slots named
names_of (Here k ∷ slots) named = names_of slots named
names_of (RelocPair symbol upper lower ∷ slots) named = names_of slots named
names_of (Address name addend ∷ slots) named = names_of slots named
names_of (CallTo name ops ∷ slots) named = names_of slots named

-- ---- distances

-- how far it is from one offset to another
abbrev pub between : ℕ → ℕ → ℤ
between from to = pos to -ℤ pos from

-- ---- own labels

-- where an own label is bound among slots that begin at an offset
abbrev pub here_at : ℕ → ℕ → List Slot → Option ℕ
here_at k at [] = None
here_at k at (Op d ∷ slots) = here_at k (at + d.len) slots
here_at k at (Fixup kind target ops ∷ slots) = here_at k (at + length (marks_of kind)) slots
here_at k at (Data bytes ∷ slots) = here_at k (at + length bytes) slots
here_at k at (Records event ∷ slots) = here_at k at slots
here_at k at (Names constant ∷ slots) = here_at k at slots
here_at k at (Allocate ∷ slots) = here_at k at slots
here_at k at (Here j ∷ slots) = if nat_eq j k then Some at else here_at k at slots
here_at k at (RelocPair symbol upper lower ∷ slots) = here_at k (at + 8) slots
here_at k at (Address name addend ∷ slots) = here_at k (at + 8) slots
here_at k at (CallTo name ops ∷ slots) = here_at k (at + 8) slots

-- a use at an offset reaches where an own label is bound
pub record IsBoundNear (bound : Option ℕ) (kind : LabelUse) (at : ℕ) : Type 0 where
  pub to : ℕ
  pub there : bound ≡ Some to
  pub forward : to ≤ at + forward_of kind
  pub backward : at ≤ to + backward_of kind

abbrev pub IsClosed : (ℕ → Option ℕ) → LabelUse → Target → ℕ → Type 0
IsClosed here kind (Label label) at = Unit {0}
IsClosed here kind (Own k) at = IsBoundNear (here k) kind at

-- each own label that slots use is bound among them, in reach; and each piece of them has an even length
abbrev pub AreClosed : (ℕ → Option ℕ) → ℕ → List Slot → Type 0
AreClosed here at [] = Unit {0}
AreClosed here at (Op d ∷ slots) = (d.len % 2 ≡ 0) × AreClosed here (at + d.len) slots
AreClosed here at (Fixup kind target ops ∷ slots) = IsClosed here kind target at × AreClosed here (at + length (marks_of kind)) slots
AreClosed here at (Data bytes ∷ slots) = (length bytes % 2 ≡ 0) × AreClosed here (at + length bytes) slots
AreClosed here at (Records event ∷ slots) = AreClosed here at slots
AreClosed here at (Names k ∷ slots) = AreClosed here at slots
AreClosed here at (Allocate ∷ slots) = AreClosed here at slots
AreClosed here at (Here k ∷ slots) = AreClosed here at slots
AreClosed here at (RelocPair symbol upper lower ∷ slots) = AreClosed here (at + 8) slots
AreClosed here at (Address name addend ∷ slots) = AreClosed here (at + 8) slots
AreClosed here at (CallTo name ops ∷ slots) = AreClosed here (at + 8) slots

-- slots that use no own label but theirs
abbrev pub AreSelfContained : List Slot → Type 0
AreSelfContained slots = AreClosed (λ k. here_at k 0 slots) 0 slots

abbrev pub PartsAreSelfContained : List Part → Type 0
PartsAreSelfContained [] = Unit {0}
PartsAreSelfContained (Ask space ∷ parts) = PartsAreSelfContained parts
PartsAreSelfContained (Slots slots ∷ parts) = AreSelfContained slots × PartsAreSelfContained parts
