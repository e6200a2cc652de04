-- Why code can't be placed.
use Rattle.std.specs.Prelude.{◌≡◌, ℕ, suc, ◌+◌, ◌%◌, ◌^◌, ◌==◌, Bool, true, false, not, ◌&&◌, ◌||◌, nat_le, nat_lt, if◌then◌else◌, List, [], ◌∷◌, length, take, Option, Some, None, Result, Ok, Err}
use Rattle.std.specs.List.{list_any}
use Rattle.rv_base.specs.declared.reloc.Reloc.{Reloc}
use Rattle.rv_base.specs.declared.reloc.Reloc.TheVariants.{RiscvCallPlt, RiscvGotHi20, RiscvPCRelHi20, RiscvPCRelLo12I, Abs8}
use Rattle.mach_records.specs.declared.records.FinalizedRelocTarget.{FinalizedRelocTarget}
use Rattle.mach_records.specs.declared.records.FinalizedRelocTarget.TheVariants.{ExternalName as Named, Func}
use Rattle.mach_records.specs.declared.records.MachReloc.{MachReloc}
use Rattle.rv_machine.specs.State.{wrap}
use Rattle.rv_inst.specs.Addresses.{is_splittable}
use Rattle.rv_inst.specs.Relocations.{field_size}
use Rattle.rv_fill.specs.Filled.{Table, goal_in, distance, is_upper_at}
use Rattle.rv_fill.specs.declared.error.PlaceError.{PlaceError}
use Rattle.rv_fill.specs.declared.error.PlaceError.TheVariants.{BadBase, BadRecord, NoSymbol, OutOfReach, OutOfMemory}

-- the base is no multiple of four, or the code of so many bytes ends above 2^64
abbrev pub is_bad_base : ℕ → ℕ → Bool
is_bad_base base count = not (base % 4 == 0) || nat_lt (2 ^ 64) (base + count)

-- the fields of two relocations share a byte
abbrev pub meets : MachReloc → MachReloc → Bool
meets r other = nat_lt r.offset (other.offset + field_size other.kind) && nat_lt other.offset (r.offset + field_size r.kind)

-- a lower part names the place of no upper part, or a name; or another kind names a place
abbrev pub is_bad_target : List MachReloc → Reloc → FinalizedRelocTarget → Bool
is_bad_target relocs RiscvCallPlt (Named name) = false
is_bad_target relocs RiscvCallPlt (Func at) = true
is_bad_target relocs RiscvGotHi20 (Named name) = false
is_bad_target relocs RiscvGotHi20 (Func at) = true
is_bad_target relocs RiscvPCRelHi20 (Named name) = false
is_bad_target relocs RiscvPCRelHi20 (Func at) = true
is_bad_target relocs RiscvPCRelLo12I (Named name) = true
is_bad_target relocs RiscvPCRelLo12I (Func at) = not (list_any (is_upper_at at) relocs)
is_bad_target relocs Abs8 (Named name) = false
is_bad_target relocs Abs8 (Func at) = true

-- a relocation whose field isn't within so many bytes, or meets an earlier one's, or whose target is none
abbrev pub is_bad_record : ℕ → List MachReloc → ℕ → MachReloc → Bool
is_bad_record count relocs index r =
    nat_lt count (r.offset + field_size r.kind) || list_any (meets r) (take index relocs) || is_bad_target relocs r.kind r.target

-- whether so far is too far for an upper and a lower part
abbrev pub is_far : Reloc → ℕ → ℕ → Bool
is_far RiscvCallPlt p to = not (is_splittable (distance p to))
is_far RiscvGotHi20 p to = not (is_splittable (distance p to))
is_far RiscvPCRelHi20 p to = not (is_splittable (distance p to))
is_far RiscvPCRelLo12I p to = false
is_far Abs8 p to = false

-- the refusal of a relocation of a name, by where it leads
abbrev pub refusal_to : ℕ → ℕ → MachReloc → Option ℕ → Option PlaceError
refusal_to base index r None = Some (NoSymbol index)
refusal_to base index r (Some to) = if is_far r.kind (wrap (base + r.offset)) to then Some (OutOfReach index) else None

abbrev pub target_refusal : ℕ → Table → Table → ℕ → MachReloc → FinalizedRelocTarget → Option PlaceError
target_refusal base symbols slots index r (Named name) = refusal_to base index r (goal_in symbols slots r.kind name.number r.addend)
target_refusal base symbols slots index r (Func at) = None

abbrev pub record_refusal : ℕ → List MachReloc → ℕ → Table → Table → ℕ → MachReloc → Option PlaceError
record_refusal count relocs base symbols slots index r = if is_bad_record count relocs index r then Some (BadRecord index) else target_refusal base symbols slots index r r.target

abbrev pub first_of : Option PlaceError → Option PlaceError → Option PlaceError
first_of None next = next
first_of (Some error) next = Some error

-- the first refusal of relocations, the first of which has this index
abbrev pub records_refusal : ℕ → List MachReloc → ℕ → Table → Table → ℕ → List MachReloc → Option PlaceError
records_refusal count relocs base symbols slots index [] = None
records_refusal count relocs base symbols slots index (r ∷ rs) = first_of (record_refusal count relocs base symbols slots index r) (records_refusal count relocs base symbols slots (suc index) rs)

-- why code of so many bytes, with these relocations, can't stand at a base, if it can't
unfoldable pub refusal : ℕ → List MachReloc → ℕ → Table → Table → Option PlaceError
refusal count relocs base symbols slots = if is_bad_base base count then Some BadBase else records_refusal count relocs base symbols slots 0 relocs

-- what a look for a refusal returns; out of memory may come at any time
abbrev pub Finds : {X : Type 0} → Option PlaceError → Result X PlaceError → Type 0
Finds found (Ok x) = found ≡ None
Finds found (Err BadBase) = found ≡ Some BadBase
Finds found (Err (BadRecord index)) = found ≡ Some (BadRecord index)
Finds found (Err (NoSymbol index)) = found ≡ Some (NoSymbol index)
Finds found (Err (OutOfReach index)) = found ≡ Some (OutOfReach index)
Finds found (Err OutOfMemory) = Unit {0}
