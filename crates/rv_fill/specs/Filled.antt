-- Code as a linker fills it, by the section "Relocations" of the RISC-V ELF psABI. There S is the address of a symbol, A the addend,
-- P the place of the relocation, and G the address of the slot in which a symbol's address stands.
use Rattle.std.specs.Prelude.{◌≡◌, ℕ, ◌+◌, ◌-◌, ◌*◌, ◌/◌, ◌%◌, ◌^◌, ◌<◌, ◌==◌, Bool, true, false, ◌&&◌, List, [], ◌++◌, length, map, drop, slice_get, slice_index, Option, Some, None, ℤ, find}
use Rattle.std.specs.FinMap.{FinMap, get, from_entries}
use Rattle.std.specs.Int.{cast_signed, to_le_bytes, w64}
use Rattle.std.specs.Option.{option_map}
use Rattle.std.specs.Ordering.{nat_cmp}
use Rattle.rv_base.specs.declared.external_name.ExternalName.{ExternalName}
use Rattle.rv_base.specs.declared.reloc.Reloc.{Reloc}
use Rattle.rv_base.specs.declared.reloc.Reloc.TheVariants.{RiscvCallPlt, RiscvGotHi20, RiscvPCRelHi20, RiscvPCRelLo12I, Abs8}
use Rattle.mach_records.specs.declared.records.FinalizedRelocTarget.{FinalizedRelocTarget}
use Rattle.mach_records.specs.declared.records.FinalizedRelocTarget.TheVariants.{ExternalName as Named, Func}
use Rattle.mach_records.specs.declared.records.MachReloc.{MachReloc}
use Rattle.mach_uses.specs.Windows.{window}
use Rattle.rv_machine.specs.State.{wrap, low64}
use Rattle.rv_inst.specs.LabelUse.{low32, upper_part}
use Rattle.rv_inst.specs.LabelUseWords.{word_at, word_bytes}
use Rattle.rv_inst.specs.Relocations.{field_size, IsOutside}

-- ---- addresses

-- addresses by the number of a name
abbrev pub Table : Type 0
Table = FinMap nat_cmp ℕ

-- those of a list, in which the first counts where a name stands twice
abbrev pub table_of : List (ExternalName × ℕ) → Table
table_of pairs = from_entries (map (λ p. (p.0.number, p.1)) pairs)

abbrev pub address_in : Table → ℕ → Option ℕ
address_in table number = option_map wrap (get table number)

-- S + A
abbrev pub sum_in : Table → ℕ → ℤ → Option ℕ
sum_in symbols number addend = option_map (λ s. wrap (s + low64 addend)) (address_in symbols number)

-- where a relocation of a name leads: to G, or to S + A
abbrev pub goal_in : Table → Table → Reloc → ℕ → ℤ → Option ℕ
goal_in symbols slots RiscvCallPlt number addend = sum_in symbols number addend
goal_in symbols slots RiscvGotHi20 number addend = address_in slots number
goal_in symbols slots RiscvPCRelHi20 number addend = sum_in symbols number addend
goal_in symbols slots RiscvPCRelLo12I number addend = sum_in symbols number addend
goal_in symbols slots Abs8 number addend = sum_in symbols number addend

-- ---- distances

-- how far an address is from P, read as a signed number of 64 bits
abbrev pub distance : ℕ → ℕ → ℤ
distance p to = cast_signed w64 (wrap (to + (2 ^ 64 - p)))

-- an upper part, which a lower part of the same distance names by its place
abbrev pub is_upper : Reloc → Bool
is_upper RiscvCallPlt = false
is_upper RiscvGotHi20 = true
is_upper RiscvPCRelHi20 = true
is_upper RiscvPCRelLo12I = false
is_upper Abs8 = false

abbrev pub is_upper_at : ℕ → MachReloc → Bool
is_upper_at at r = is_upper r.kind && r.offset == at

-- the offset from which a relocation's distance counts, and where that leads
abbrev pub course_to : Table → Table → MachReloc → FinalizedRelocTarget → Option (ℕ × ℕ)
course_to symbols slots r (Named name) = option_map (λ to. (r.offset, to)) (goal_in symbols slots r.kind name.number r.addend)
course_to symbols slots r (Func at) = None

abbrev pub course_of_upper : Table → Table → Option MachReloc → Option (ℕ × ℕ)
course_of_upper symbols slots None = None
course_of_upper symbols slots (Some upper) = course_to symbols slots upper upper.target

-- the same, where a relocation may name the place of an upper part, whose distance it has too
abbrev pub course_by : List MachReloc → Table → Table → MachReloc → FinalizedRelocTarget → Option (ℕ × ℕ)
course_by relocs symbols slots r (Named name) = course_to symbols slots r (Named name)
course_by relocs symbols slots r (Func at) = course_of_upper symbols slots (find (is_upper_at at) relocs)

abbrev pub course_of : List MachReloc → Table → Table → MachReloc → Option (ℕ × ℕ)
course_of relocs symbols slots r = course_by relocs symbols slots r r.target

-- ---- fields

-- bits 31:12 of a word of layout U hold the upper part of a distance: what is left once the lower twelve bits count as a signed number
abbrev pub with_upper : ℤ → ℕ → ℕ
with_upper d word = word % 2 ^ 12 + upper_part d * 2 ^ 12

-- bits 31:20 of a word of layout I hold the lower twelve bits
abbrev pub with_lower : ℤ → ℕ → ℕ
with_lower d word = word % 2 ^ 20 + low32 d % 2 ^ 12 * 2 ^ 20

-- what a relocation makes of the bytes of its field, by the distance and by where that leads
abbrev pub filled_field : Reloc → ℤ → ℕ → List ℕ → List ℕ
filled_field RiscvCallPlt d to old = word_bytes (with_upper d (word_at old)) ++ word_bytes (with_lower d (word_at (drop 4 old)))
filled_field RiscvGotHi20 d to old = word_bytes (with_upper d (word_at old))
filled_field RiscvPCRelHi20 d to old = word_bytes (with_upper d (word_at old))
filled_field RiscvPCRelLo12I d to old = word_bytes (with_lower d (word_at old))
filled_field Abs8 d to old = to_le_bytes w64 to

-- a field of code that stands at a base
pub record IsFieldOf (relocs : List MachReloc) (base : ℕ) (symbols slots : Table) (r : MachReloc) (old new : List ℕ) : Type 0 where
  pub from : ℕ
  pub to : ℕ
  pub course : course_of relocs symbols slots r ≡ Some (from, to)
  pub field : new ≡ filled_field r.kind (distance (wrap (base + from)) to) to old

-- The image of code that stands at a base: its bytes, with the field of each relocation filled.
pub record IsFilled (bytes : List ℕ) (relocs : List MachReloc) (base : ℕ) (symbols slots : Table) (image : List ℕ) : Type 0 where
  pub long : length image ≡ length bytes
  pub kept : (k : ℕ) → k < length bytes → IsOutside relocs k 1 → slice_index image k ≡ slice_index bytes k
  pub filled :
      (j : ℕ) (r : MachReloc) →
      slice_get relocs j ≡ Some r →
      IsFieldOf relocs base symbols slots r (window bytes r.offset (field_size r.kind)) (window image r.offset (field_size r.kind))
