-- Finished code that stands in the memory, and an instruction's parts in it.
use Rattle.std.specs.Prelude.{◌≡◌, ℕ, ◌+◌, ◌%◌, ◌^◌, ◌<◌, ◌≤◌, Bool, true, false, List, [], ◌∷◌, length, Option, Some, ℤ, pos, ◌-ℤ◌, slice_index}
use Rattle.rv_base.specs.declared.flags.IsaFlags.{IsaFlags}
use Rattle.rv_base.specs.declared.external_name.ExternalName.{ExternalName}
use Rattle.rv_base.specs.declared.label.MachLabel.{MachLabel}
use Rattle.mach_records.specs.declared.records.MachRecord.{MachRecord}
use Rattle.rv_machine.specs.declared.decoding.Decoded.{Decoded}
use Rattle.rv_machine.specs.Decode.{decode}
use Rattle.std.specs.Int.{to_le_bytes, w64}
use Rattle.rv_machine.specs.State.{State, IsState, Values, AreValues, Memory, byte, reg, wrap, low64}
use Rattle.rv_machine.specs.Steps.{fetch, iter}
use Rattle.rv_inst.specs.Context.{Context}
use Rattle.rv_inst.specs.Records.{IsRecorded}
use Rattle.rv_code.specs.Slots.{Symbol, AddressOf, SlotOf, Target, Label, Own, Slot, Op, Fixup, Data, Records, Names, Allocate, Here, RelocPair, Address, CallTo, Part, Ask, Slots, size_of, own_label, between}
use Rattle.rv_inst.specs.declared.label_use.LabelUse.{LabelUse}
use Rattle.rv_inst.specs.LabelUse.{marks_of, has_veneer_of}
use Rattle.rv_inst.specs.Addresses.{is_splittable}
use Rattle.rv_inst.specs.SameValues.{Same}

-- ---- code in the memory

-- these bytes stand in the memory from an address on
pub record BytesAt (mem : Memory) (a : ℕ) (bytes : List ℕ) : Type 0 where
  pub room : a + length bytes ≤ 2 ^ 64
  pub there : (k : ℕ) → k < length bytes → byte mem (a + k) ≡ slice_index bytes k

-- these operations stand in the memory from an address on
abbrev pub HasOps : IsaFlags → Memory → ℕ → List Decoded → Type 0
HasOps flags mem a [] = Unit {0}
HasOps flags mem a (d ∷ ops) = (decode flags (fetch mem a) ≡ Some d) × HasOps flags mem (a + d.len) ops

-- finished code: its job's context, the address from which it stands, its bytes there, filled by a linker; the offsets of its
-- labels in the end, those of constants among them; its records; and the addresses of symbols and of the slots that hold them,
-- by the numbers of their names
pub record Site : Type 0 where
  pub context : Context
  pub base : ℕ
  pub bytes : List ℕ
  pub place : ℕ → Option ℕ
  pub records : List MachRecord
  pub symbol : ℕ → ℕ
  pub slot : ℕ → ℕ

-- it stands in the memory
pub record IsPlacedAt (site : Site) (mem : Memory) : Type 0 where
  pub aligned : site.base % 4 ≡ 0
  pub bytes : BytesAt mem site.base site.bytes

-- these operations stand at an offset, in whatever memory the code stands
abbrev pub CodeHas : Site → ℕ → List Decoded → Type 0
CodeHas site at ops = (mem : Memory) → IsPlacedAt site mem → HasOps site.context.flags mem (site.base + at) ops

-- ---- ways on

-- in some steps, at least so many, the machine comes to an address with values that are the same as these, and x30 and the memory
-- as they were
pub record ComesTo (flags : IsaFlags) (least address : ℕ) (v : Values) (s : State) : Type 0 where
  pub steps : ℕ
  pub state : State
  pub moved : least ≤ steps
  pub ran : iter flags steps s ≡ Some state
  pub pc : state.pc ≡ address
  pub same : Same v state.values
  pub is_state : IsState state
  pub are_values : AreValues v
  pub spare : reg state.values 30 ≡ reg s.values 30
  pub kept : state.values.mem ≡ s.values.mem

-- from one offset the machine comes to another, and changes at most x31
pub record LeadsOn (site : Site) (from to : ℕ) : Type 0 where
  pub run :
      (s : State) (v : Values) →
      IsPlacedAt site s.values.mem →
      s.pc ≡ wrap (site.base + from) →
      IsState s →
      AreValues v →
      Same v s.values →
      ComesTo site.context.flags 0 (wrap (site.base + to)) v s

-- where a use may aim whose label may stand far away: where a veneer is supported, at what leads to the label's place; else at the
-- place itself, which is even
abbrev pub Leads : Site → Bool → MachLabel → ℕ → Type 0
Leads site true label to = (at : ℕ) × (site.place label.number ≡ Some at) × LeadsOn site to at
Leads site false label to = (site.place label.number ≡ Some to) × (to % 2 ≡ 0)

-- where a use may aim; one of an own label aims straight at its place
abbrev pub Reaches : Site → ℕ → LabelUse → Target → ℕ → Type 0
Reaches site allocated kind (Label label) to = Leads site (has_veneer_of kind) label to
Reaches site allocated kind (Own k) to = site.place (own_label allocated k).number ≡ Some to

-- ---- parts in the code

-- the window of a use stands at an offset: its operations, by the distance to where it aims
pub record AimsFrom (site : Site) (allocated at : ℕ) (kind : LabelUse) (target : Target) (ops : ℤ → List Decoded) : Type 0 where
  pub to : ℕ
  pub reaches : Reaches site allocated kind target to
  pub has : CodeHas site at (ops (between at to))

-- the address of a symbol plus a number, or of the slot that holds it
abbrev pub symbol_address : Site → Symbol → ℕ
symbol_address site (AddressOf name addend) = wrap (site.symbol name.number + low64 addend)
symbol_address site (SlotOf name) = site.slot name.number

-- two words hold the distance from the first to a symbol, which both together reach
pub record FillsFrom (site : Site) (at : ℕ) (symbol : Symbol) (upper lower : ℤ → List Decoded) : Type 0 where
  pub distance : ℤ
  pub near : is_splittable distance ≡ true
  pub leads : wrap (site.base + at + low64 distance) ≡ symbol_address site symbol
  pub has_upper : CodeHas site at (upper distance)
  pub has_lower : CodeHas site (at + 4) (lower (distance -ℤ pos 4))

-- two words go by the distance from the first to a symbol
pub record LinksFrom (site : Site) (at : ℕ) (name : ExternalName) (ops : ℤ → List Decoded) : Type 0 where
  pub distance : ℤ
  pub near : is_splittable distance ≡ true
  pub leads : wrap (site.base + at + low64 distance) ≡ symbol_address site (AddressOf name (pos 0))
  pub has : CodeHas site at (ops distance)

-- slots stand in the code from an offset on, where so many labels were allocated before them
abbrev pub StandsIn : Site → ℕ → ℕ → List Slot → Type 0
StandsIn site allocated at [] = Unit {0}
StandsIn site allocated at (Op d ∷ slots) = CodeHas site at (d ∷ []) × StandsIn site allocated (at + d.len) slots
StandsIn site allocated at (Fixup kind target ops ∷ slots) =
    AimsFrom site allocated at kind target ops × StandsIn site allocated (at + length (marks_of kind)) slots
StandsIn site allocated at (Data bytes ∷ slots) =
    ((mem : Memory) → IsPlacedAt site mem → BytesAt mem (site.base + at) bytes) × StandsIn site allocated (at + length bytes) slots
StandsIn site allocated at (Records event ∷ slots) = IsRecorded site.records at event × StandsIn site allocated at slots
StandsIn site allocated at (Names k ∷ slots) = StandsIn site allocated at slots
StandsIn site allocated at (Allocate ∷ slots) = StandsIn site allocated at slots
StandsIn site allocated at (Here k ∷ slots) = (site.place (own_label allocated k).number ≡ Some at) × StandsIn site allocated at slots
StandsIn site allocated at (RelocPair symbol upper lower ∷ slots) = FillsFrom site at symbol upper lower × StandsIn site allocated (at + 8) slots
StandsIn site allocated at (Address name addend ∷ slots) =
    ((mem : Memory) → IsPlacedAt site mem → BytesAt mem (site.base + at) (to_le_bytes w64 (symbol_address site (AddressOf name addend)))) ×
    StandsIn site allocated (at + 8) slots
StandsIn site allocated at (CallTo name ops ∷ slots) = LinksFrom site at name ops × StandsIn site allocated (at + 8) slots

-- nothing stands between two offsets, or what leads on
pub record GapIn (site : Site) (from to : ℕ) : Type 0 where
  pub leads : LeadsOn site from to
  pub even : from % 2 ≡ 0 → to % 2 ≡ 0
  pub within : from ≤ to

-- parts stand in the code between two offsets
abbrev pub PartsStand : Site → ℕ → ℕ → List Part → Type 0
PartsStand site start after [] = start ≡ after
PartsStand site start after (Ask space ∷ parts) = (mid : ℕ) × GapIn site start mid × PartsStand site mid after parts
PartsStand site start after (Slots slots ∷ parts) = (allocated : ℕ) × StandsIn site allocated start slots × PartsStand site (start + size_of slots) after parts
