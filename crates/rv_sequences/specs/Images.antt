-- Finished code as it stands in the memory, where a linker filled what relocations ask: links of the proof.
use Rattle.std.specs.Prelude.{◌≡◌, ℕ, ◌+◌, ◌≤◌, List, length, Some, true, ℤ, pos, ◌-ℤ◌, slice_get}
use Rattle.std.specs.Int.{to_le_bytes, w64}
use Rattle.rv_base.specs.declared.external_name.ExternalName.{ExternalName}
use Rattle.rv_base.specs.LabelUse.{SameOutside}
use Rattle.mach_records.specs.declared.records.Event.{Event}
use Rattle.mach_records.specs.declared.records.Event.TheVariants.{Trap, Reloc, Unwind, CallSite, TryCallSite, PatchableCallSite, StackMap}
use Rattle.mach_records.specs.declared.records.MachRecord.{MachRecord}
use Rattle.mach_uses.specs.declared.uses.Use.{Use}
use Rattle.mach_buffer.specs.Shape.{Shape}
use Rattle.mach_uses.specs.Windows.{window, IsApart}
use Rattle.rv_machine.specs.State.{wrap, low64}
use Rattle.rv_inst.specs.Addresses.{is_splittable}
use Rattle.rv_inst.specs.Relocations.{field_size}
use Rattle.rv_inst.specs.declared.label_use.LabelUse.{LabelUse}
use Rattle.rv_inst.specs.declared.label_use.LabelUse.TheVariants.{PCRel32, PCRelHi20, PCRelLo12I}
use Rattle.rv_inst.specs.LabelUse.{Aims, marks_of}
use Rattle.rv_code.specs.Slots.{Symbol, AddressOf, upper_event, lower_event, address_event, call_event}
use Rattle.rv_sequences.specs.Puts.{AllBytes}
use Rattle.rv_code.specs.Sites.{Site, symbol_address}

-- ---- what relocations fill

-- the bytes that the relocation of an event at an offset fills end within so many; and share none with so many from another offset on
abbrev pub EndsWithin : ℕ → ℕ → Event → Type 0
EndsWithin size offset (Trap code) = Unit {0}
EndsWithin size offset (Reloc kind target addend) = offset + field_size kind ≤ size
EndsWithin size offset (Unwind inst) = Unit {0}
EndsWithin size offset CallSite = Unit {0}
EndsWithin size offset (TryCallSite to_fp handlers) = Unit {0}
EndsWithin size offset (PatchableCallSite len) = Unit {0}
EndsWithin size offset (StackMap span entries) = Unit {0}

abbrev pub IsClear : ℕ → ℕ → ℕ → Event → Type 0
IsClear from size offset (Trap code) = Unit {0}
IsClear from size offset (Reloc kind target addend) = IsApart from size offset (field_size kind)
IsClear from size offset (Unwind inst) = Unit {0}
IsClear from size offset CallSite = Unit {0}
IsClear from size offset (TryCallSite to_fp handlers) = Unit {0}
IsClear from size offset (PatchableCallSite len) = Unit {0}
IsClear from size offset (StackMap span entries) = Unit {0}

-- those of all records do
abbrev pub AllClear : List MachRecord → ℕ → ℕ → Type 0
AllClear records from size = (k : ℕ) (r : MachRecord) → slice_get records k ≡ Some r → IsClear from size r.offset r.event

abbrev pub FieldsEnd : Shape LabelUse → Type 0
FieldsEnd s = (k : ℕ) (r : MachRecord) → slice_get s.records k ≡ Some r → EndsWithin (length s.bytes) r.offset r.event

-- what relocations fill stands in the bytes, and shares none with the window of a use
pub record FieldsStand (s : Shape LabelUse) : Type 0 where
  pub ends : FieldsEnd s
  pub clear : (j : ℕ) (u : Use LabelUse) → slice_get s.uses j ≡ Some u → AllClear s.records u.offset (length (marks_of u.kind))

-- ---- images

-- The bytes of a site are finished code's wherever no relocation fills them.
pub record KeepsOutside (site : Site) (final : List ℕ) : Type 0 where
  pub long : length site.bytes ≡ length final
  pub bytes : AllBytes site.bytes
  pub same : (from size : ℕ) → from + size ≤ length final → AllClear site.records from size → window site.bytes from size ≡ window final from size

-- the two words at an offset hold the upper and the lower part of a distance, and all other bits are as they were
pub record HoldsDistance (site : Site) (final : List ℕ) (at : ℕ) (d : ℤ) : Type 0 where
  pub upper : Aims PCRelHi20 (window site.bytes at 4) d
  pub upper_kept : SameOutside (marks_of PCRelHi20) (window final at 4) (window site.bytes at 4)
  pub lower : Aims PCRelLo12I (window site.bytes (at + 4) 4) (d -ℤ pos 4)
  pub lower_kept : SameOutside (marks_of PCRelLo12I) (window final (at + 4) 4) (window site.bytes (at + 4) 4)

-- the distance to a symbol is filled in at an offset, and is one that two words can hold
pub record IsFilledWith (site : Site) (final : List ℕ) (at : ℕ) (symbol : Symbol) : Type 0 where
  pub distance : ℤ
  pub near : is_splittable distance ≡ true
  pub leads : wrap (site.base + at + low64 distance) ≡ symbol_address site symbol
  pub holds : HoldsDistance site final at distance

-- the distance to a symbol is filled into the two words at an offset as one, and all other bits are as they were
pub record IsLinkedWith (site : Site) (final : List ℕ) (at : ℕ) (name : ExternalName) : Type 0 where
  pub distance : ℤ
  pub near : is_splittable distance ≡ true
  pub leads : wrap (site.base + at + low64 distance) ≡ symbol_address site (AddressOf name (pos 0))
  pub aims : Aims PCRel32 (window site.bytes at 8) distance
  pub kept : SameOutside (marks_of PCRel32) (window final at 8) (window site.bytes at 8)

-- What relocations ask is filled: where two relocations of one distance follow each other, the distance to the symbol; an address;
-- and the distance of a call.
pub record IsFilled (site : Site) (final : List ℕ) : Type 0 where
  pub distances :
      (j k at : ℕ) (symbol : Symbol) →
      slice_get site.records j ≡ Some (record { offset = at; event = upper_event symbol }) →
      slice_get site.records k ≡ Some (record { offset = at + 4; event = lower_event at }) →
      IsFilledWith site final at symbol
  pub addresses :
      (k at : ℕ) (name : ExternalName) (addend : ℤ) →
      slice_get site.records k ≡ Some (record { offset = at; event = address_event name addend }) →
      window site.bytes at 8 ≡ to_le_bytes w64 (symbol_address site (AddressOf name addend))
  pub calls :
      (k at : ℕ) (name : ExternalName) →
      slice_get site.records k ≡ Some (record { offset = at; event = call_event name }) →
      IsLinkedWith site final at name
