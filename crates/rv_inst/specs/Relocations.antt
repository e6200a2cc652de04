-- The bytes that a linker fills by a relocation: which they are, and what code they leave as it is.
use Rattle.std.specs.Prelude.{◌≡◌, ℕ, List, slice_get, Some}
use Rattle.rv_base.specs.declared.reloc.Reloc.{Reloc}
use Rattle.rv_base.specs.declared.reloc.Reloc.TheVariants.{RiscvCallPlt, RiscvGotHi20, RiscvPCRelHi20, RiscvPCRelLo12I, Abs8}
use Rattle.mach_records.specs.declared.records.MachReloc.{MachReloc}
use Rattle.mach_uses.specs.Windows.{IsApart}

-- how many bytes it fills, from its offset on: those of one instruction, of the two of a call, or of an address
abbrev pub field_size : Reloc → ℕ
field_size RiscvCallPlt = 8
field_size RiscvGotHi20 = 4
field_size RiscvPCRelHi20 = 4
field_size RiscvPCRelLo12I = 4
field_size Abs8 = 8

-- no relocation fills one of so many bytes from an offset on: a linker leaves them as they are
abbrev pub IsOutside : List MachReloc → ℕ → ℕ → Type 0
IsOutside relocs from size = (j : ℕ) (r : MachReloc) → slice_get relocs j ≡ Some r → IsApart from size r.offset (field_size r.kind)
