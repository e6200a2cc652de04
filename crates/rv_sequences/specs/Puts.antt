-- How the parts of an instruction are put into a buffer: links of the proof.
use Rattle.std.specs.Prelude.{◌≡◌, ℕ, ◌<◌, List, [], ◌∷◌, length, None, ℤ, slice_index}
use Rattle.rv_base.specs.declared.flags.IsaFlags.{IsaFlags}
use Rattle.rv_base.specs.LabelUse.{IsFresh, SameOutside}
use Rattle.rv_machine.specs.declared.decoding.Decoded.{Decoded}
use Rattle.rv_machine.specs.State.{Memory}
use Rattle.rv_inst.specs.declared.label_use.LabelUse.{LabelUse}
use Rattle.rv_inst.specs.declared.label_use.LabelUse.TheVariants.{PCRel32, PCRelHi20, PCRelLo12I}
use Rattle.mach_records.specs.declared.records.Event.{Event}
use Rattle.mach_records.specs.declared.records.Event.TheVariants as event
use Rattle.rv_inst.specs.Forms.{IsOwnForm}
use Rattle.rv_inst.specs.LabelUse.{Aims, marks_of}
use Rattle.rv_inst.specs.LabelUseWords.{half_at}
use Rattle.rv_inst.specs.Uses.{use_at}
use Rattle.mach_buffer.specs.Shape.{Shape, with_bytes, with_use, with_label, with_allocated, with_record, with_named}
use Rattle.rv_code.specs.Slots.{Slot, Op, Fixup, Data, Records, Names, Allocate, Here, RelocPair, Address, CallTo, own_label, label_of, upper_event, lower_event, address_event, call_event}
use Rattle.rv_code.specs.Sites.{BytesAt, HasOps}

-- all are bytes
abbrev pub AllBytes : List ℕ → Type 0
AllBytes bytes = (k : ℕ) → k < length bytes → slice_index bytes k < 256

-- wherever these bytes stand, these operations do
abbrev pub Encodes : IsaFlags → List ℕ → List Decoded → Type 0
Encodes flags bytes ops = (mem : Memory) (a : ℕ) → BytesAt mem a bytes → HasOps flags mem a ops

-- a window of a use, with no distance in it yet: whatever distance is patched in, it encodes the operations by that distance
pub record IsPatchable (flags : IsaFlags) (kind : LabelUse) (window : List ℕ) (ops : ℤ → List Decoded) : Type 0 where
  pub long : length window ≡ length (marks_of kind)
  pub fresh : IsFresh (marks_of kind) window
  pub patched :
      (new : List ℕ) (d : ℤ) →
      length new ≡ length (marks_of kind) →
      AllBytes new →
      SameOutside (marks_of kind) window new →
      Aims kind new d →
      Encodes flags new (ops d)

-- an event that asks nothing of the bytes at its offset
abbrev pub AsksNothing : Event → Type 0
AsksNothing (event.Trap code) = Unit {0}
AsksNothing (event.Reloc kind target addend) = ⊥
AsksNothing (event.Unwind inst) = Unit {0}
AsksNothing event.CallSite = Unit {0}
AsksNothing (event.TryCallSite to_fp handlers) = Unit {0}
AsksNothing (event.PatchableCallSite len) = Unit {0}
AsksNothing (event.StackMap span entries) = Unit {0}

-- eight bytes that aren't filled yet
abbrev pub eight_zeros : List ℕ
eight_zeros = 0 ∷ 0 ∷ 0 ∷ 0 ∷ 0 ∷ 0 ∷ 0 ∷ 0 ∷ []

-- a slot was put
abbrev pub PutsSlot : IsaFlags → ℕ → Slot → Shape LabelUse → Shape LabelUse → Type 0
PutsSlot flags allocated (Op d) s t =
    (bytes : List ℕ) × (length bytes ≡ d.len) × Encodes flags bytes (d ∷ []) × (t ≡ with_bytes bytes s) × IsOwnForm d (half_at bytes)
PutsSlot flags allocated (Fixup kind target ops) s t =
    (window : List ℕ) ×
    IsPatchable flags kind window ops ×
    (t ≡ with_bytes window (with_use (use_at (length s.bytes) (label_of allocated target) kind) s))
PutsSlot flags allocated (Data bytes) s t = t ≡ with_bytes bytes s
PutsSlot flags allocated (Records e) s t = AsksNothing e × (t ≡ with_record e s)
PutsSlot flags allocated (Names k) s t = t ≡ with_named k s
PutsSlot flags allocated Allocate s t = t ≡ with_allocated s
PutsSlot flags allocated (Here k) s t = (s.place (own_label allocated k).number ≡ None) × (t ≡ with_label (own_label allocated k) s)
PutsSlot flags allocated (RelocPair symbol upper lower) s t =
    (first : List ℕ) ×
    (second : List ℕ) ×
    IsPatchable flags PCRelHi20 first upper ×
    IsPatchable flags PCRelLo12I second lower ×
    (t ≡ with_bytes second (with_record (lower_event (length s.bytes)) (with_bytes first (with_record (upper_event symbol) s))))
PutsSlot flags allocated (Address name addend) s t = t ≡ with_bytes eight_zeros (with_record (address_event name addend) s)
PutsSlot flags allocated (CallTo name ops) s t = (code : List ℕ) × IsPatchable flags PCRel32 code ops × (t ≡ with_bytes code (with_record (call_event name) s))

-- slots were put one after the other
abbrev pub Puts : IsaFlags → ℕ → List Slot → Shape LabelUse → Shape LabelUse → Type 0
Puts flags allocated [] s t = t ≡ s
Puts flags allocated (slot ∷ slots) s t = (mid : Shape LabelUse) × PutsSlot flags allocated slot s mid × Puts flags allocated slots mid t
