-- The symbols and the relocations of an object, by those of a code.
use Rattle.std.specs.Prelude.{ℕ, true, false, ◌+◌, ◌%◌, ◌^◌, ◌==◌, List, [], ◌∷◌, ◌++◌, length, find, map, codes, if◌then◌else◌, Some, None}
use Rattle.std.specs.Fmt.{decimal}
use Rattle.std.specs.List.{list_any, position_or_len}
use Rattle.std.specs.Option.{option_map_or}
use Rattle.mach_records.specs.declared.records.FinalizedRelocTarget.{FinalizedRelocTarget}
use Rattle.mach_records.specs.declared.records.FinalizedRelocTarget.TheVariants.{ExternalName as Named, Func}
use Rattle.mach_records.specs.declared.records.MachReloc.{MachReloc}
use Rattle.rv_base.specs.declared.reloc.Reloc.{Reloc}
use Rattle.rv_base.specs.declared.reloc.Reloc.TheVariants.{RiscvCallPlt, RiscvGotHi20, RiscvPCRelHi20, RiscvPCRelLo12I, Abs8}
use Rattle.rv_obj.specs.declared.elf.Symbol.{Symbol}
use Rattle.rv_obj.specs.declared.elf.Rela.{Rela}
use Rattle.rv_obj.specs.declared.elf.Object.{Object}
use Rattle.rv_obj.specs.declared.symbols.Import.{Import}
use Rattle.rv_obj.specs.Numbers.{R_RISCV_64, R_RISCV_CALL_PLT, R_RISCV_GOT_HI20, R_RISCV_PCREL_HI20, R_RISCV_PCREL_LO12_I}

-- the psABI's number of a kind
abbrev pub kind_number : Reloc → ℕ
kind_number RiscvCallPlt = R_RISCV_CALL_PLT
kind_number RiscvGotHi20 = R_RISCV_GOT_HI20
kind_number RiscvPCRelHi20 = R_RISCV_PCREL_HI20
kind_number RiscvPCRelLo12I = R_RISCV_PCREL_LO12_I
kind_number Abs8 = R_RISCV_64

-- a relocation that names a place has a local label there; they are numbered in their order
abbrev pub local_of : ℕ → FinalizedRelocTarget → List Symbol
local_of k (Named name) = []
local_of k (Func at) = record { name = codes ".Lpcrel_hi" ++ decimal k; place = Some at; is_global = false } ∷ []

abbrev pub locals_from : ℕ → List MachReloc → List Symbol
locals_from k [] = []
locals_from k (r ∷ rs) = local_of k r.target ++ locals_from (k + length (local_of k r.target)) rs

-- the names of relocations, each once, in the order of their first use
abbrev pub with_number : ℕ → List ℕ → List ℕ
with_number number names = if list_any (λ n. n == number) names then names else names ++ number ∷ []

abbrev pub with_name : FinalizedRelocTarget → List ℕ → List ℕ
with_name (Func at) names = names
with_name (Named name) names = with_number name.number names

abbrev pub names_after : List ℕ → List MachReloc → List ℕ
names_after names [] = names
names_after names (r ∷ rs) = names_after (with_name r.target names) rs

-- the name that is given for a symbol that is elsewhere, or else the one that the report has
abbrev pub name_in : List Import → ℕ → List ℕ
name_in imports number = option_map_or (λ i. i.name) (find (λ i. i.number == number) imports) (codes "userextname" ++ decimal number)

abbrev pub undefined : List Import → ℕ → Symbol
undefined imports number = record { name = name_in imports number; place = None; is_global = true }

-- the number of a relocation's symbol: of a place, that of its label, after the empty entry; of a name, after those that are defined
abbrev pub symbol_number : ℕ → List ℕ → ℕ → FinalizedRelocTarget → ℕ
symbol_number defined names k (Func at) = 1 + k
symbol_number defined names k (Named name) = defined + position_or_len (λ n. n == name.number) names

abbrev pub rela_of : ℕ → List ℕ → ℕ → MachReloc → Rela
rela_of defined names k r = record { offset = r.offset; kind = kind_number r.kind; symbol = symbol_number defined names k r.target % 2 ^ 32; addend = r.addend }

-- relocations, before the first of which so many name places
abbrev pub relas_from : ℕ → List ℕ → ℕ → List MachReloc → List Rela
relas_from defined names k [] = []
relas_from defined names k (r ∷ rs) = rela_of defined names k r ∷ relas_from defined names (k + length (local_of k r.target)) rs

-- the object of a code with its relocations, under these names of symbols that are elsewhere, that defines these global symbols besides
abbrev pub object_of : List ℕ → List MachReloc → List Import → List Symbol → ℕ → Object
object_of text relocs imports exports flags = record {
  text = text;
  relas = relas_from (1 + length (locals_from 0 relocs) + length exports) (names_after [] relocs) 0 relocs;
  symbols = locals_from 0 relocs ++ exports ++ map (undefined imports) (names_after [] relocs);
  locals = (1 + length (locals_from 0 relocs)) % 2 ^ 32;
  flags = flags;
}
