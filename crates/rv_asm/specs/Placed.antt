-- What it is for code to stand in the memory, where a linker filled what relocations ask.
use Rattle.std.specs.Prelude.{◌≡◌, ℕ, zero, suc, ◌+◌, ◌-◌, ◌%◌, ◌^◌, ◌<◌, ◌≤◌, List, [], ◌∷◌, length, slice_get, slice_index, Option, Some, None, true, ℤ, pos, ◌-ℤ◌}
use Rattle.std.specs.FinMap.{FinMap, get}
use Rattle.std.specs.Int.{cast_signed, to_le_bytes, w64}
use Rattle.std.specs.Option.{option_map}
use Rattle.std.specs.Ordering.{nat_cmp}
use Rattle.rv_base.specs.LabelUse.{SameOutside}
use Rattle.rv_base.specs.declared.reloc.Reloc.{Reloc}
use Rattle.rv_base.specs.declared.reloc.Reloc.TheVariants.{RiscvCallPlt, RiscvGotHi20, RiscvPCRelHi20, RiscvPCRelLo12I, Abs8}
use Rattle.mach_records.specs.declared.records.FinalizedRelocTarget.{FinalizedRelocTarget}
use Rattle.mach_records.specs.declared.records.FinalizedRelocTarget.TheVariants.{ExternalName, Func}
use Rattle.mach_records.specs.declared.records.MachReloc.{MachReloc}
use Rattle.mach_uses.specs.Windows.{window}
use Rattle.rv_machine.specs.State.{Memory, byte, wrap, low64}
use Rattle.rv_inst.specs.Addresses.{is_splittable}
use Rattle.rv_inst.specs.declared.code.Code.{Code}
use Rattle.rv_inst.specs.declared.label_use.LabelUse.{LabelUse}
use Rattle.rv_inst.specs.declared.label_use.LabelUse.TheVariants.{PCRel32, PCRelHi20, PCRelLo12I}
use Rattle.rv_inst.specs.LabelUse.{Aims, marks_of}
use Rattle.rv_inst.specs.Relocations.{field_size, IsOutside}

-- addresses of symbols, or of the slots that hold them, by the number of a name
abbrev pub Addresses : Type 0
Addresses = FinMap nat_cmp ℕ

-- the address of a name, where it has one
abbrev pub address_of_name : Addresses → ℕ → Option ℕ
address_of_name addresses number = option_map wrap (get addresses number)

-- so many bytes of a memory, from an address on
abbrev pub bytes_from : Memory → ℕ → ℕ → List ℕ
bytes_from mem a zero = []
bytes_from mem a (suc n) = byte mem a ∷ bytes_from mem (a + 1) n

-- how far it is from one address to another, read as a signed number of 64 bits
abbrev pub distance_to : ℕ → ℕ → ℤ
distance_to from to = cast_signed w64 (wrap (to + (2 ^ 64 - from)))

-- where a relocation leads: to the slot of a symbol, or to a symbol's address plus the addend
abbrev pub goal_of : Addresses → Addresses → Reloc → FinalizedRelocTarget → ℤ → Option ℕ
goal_of symbols slots RiscvCallPlt (ExternalName name) addend = option_map (λ a. wrap (a + low64 addend)) (address_of_name symbols name.number)
goal_of symbols slots RiscvGotHi20 (ExternalName name) addend = address_of_name slots name.number
goal_of symbols slots RiscvPCRelHi20 (ExternalName name) addend = option_map (λ a. wrap (a + low64 addend)) (address_of_name symbols name.number)
goal_of symbols slots RiscvPCRelLo12I (ExternalName name) addend = option_map (λ a. wrap (a + low64 addend)) (address_of_name symbols name.number)
goal_of symbols slots Abs8 (ExternalName name) addend = option_map (λ a. wrap (a + low64 addend)) (address_of_name symbols name.number)
goal_of symbols slots kind (Func offset) addend = None

-- bytes hold a distance in the fields of a kind of use, and are else as they were in the code
pub record Holds (kind : LabelUse) (d : ℤ) (old new : List ℕ) : Type 0 where
  pub aims : Aims kind new d
  pub kept : SameOutside (marks_of kind) old new

-- what a relocation at an address makes of bytes, by where it leads: a distance, whole or its upper part, which two words can hold;
-- or the address itself. A lower part leads to no symbol of its own.
abbrev pub FilledBy : Reloc → ℕ → ℕ → List ℕ → List ℕ → Type 0
FilledBy RiscvCallPlt at to old new = (is_splittable (distance_to at to) ≡ true) × Holds PCRel32 (distance_to at to) old new
FilledBy RiscvGotHi20 at to old new = (is_splittable (distance_to at to) ≡ true) × Holds PCRelHi20 (distance_to at to) old new
FilledBy RiscvPCRelHi20 at to old new = (is_splittable (distance_to at to) ≡ true) × Holds PCRelHi20 (distance_to at to) old new
FilledBy RiscvPCRelLo12I at to old new = Unit {0}
FilledBy Abs8 at to old new = new ≡ to_le_bytes w64 to

-- The bytes of a relocation are filled: by where its symbol is, or, where it names a place in the code, with the lower part of the
-- distance whose upper part stands there.
abbrev pub IsFilledAt : Code → ℕ → Addresses → Addresses → MachReloc → FinalizedRelocTarget → List ℕ → List ℕ → Type 0
IsFilledAt code base symbols slots r (ExternalName name) old new =
    (to : ℕ) × (goal_of symbols slots r.kind (ExternalName name) r.addend ≡ Some to) × FilledBy r.kind (wrap (base + r.offset)) to old new
IsFilledAt code base symbols slots r (Func at) old new =
    (j : ℕ) (upper : MachReloc) (to : ℕ) →
    slice_get code.relocs j ≡ Some upper →
    upper.offset ≡ at →
    goal_of symbols slots upper.kind upper.target upper.addend ≡ Some to →
    Holds PCRelLo12I (distance_to (wrap (base + at)) to -ℤ pos 4) old new

-- The code's bytes stand in the memory from base on, but for those of relocations, which are filled.
pub record IsPlaced (code : Code) (base : ℕ) (symbols slots : Addresses) (mem : Memory) : Type 0 where
  pub aligned : base % 4 ≡ 0
  pub room : base + length code.bytes ≤ 2 ^ 64
  pub bytes : (k : ℕ) → k < length code.bytes → byte mem (base + k) < 256
  pub there : (k : ℕ) → k < length code.bytes → IsOutside code.relocs k 1 → byte mem (base + k) ≡ slice_index code.bytes k
  pub filled :
      (j : ℕ) (r : MachReloc) →
      slice_get code.relocs j ≡ Some r →
      IsFilledAt code base symbols slots r r.target (window code.bytes r.offset (field_size r.kind)) (bytes_from mem (base + r.offset) (field_size r.kind))
