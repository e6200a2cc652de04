-- Relocations: the names of their kinds, and what they refer to.
use Rattle.std.specs.Prelude.{ℕ, List, [], ◌∷◌, ◌++◌, Option, codes}
use Rattle.std.specs.Fmt.{decimal}
use Rattle.std.specs.List.{find}
use Rattle.std.specs.Str.{bytes_eq}
use Rattle.rv_base.specs.declared.reloc.Reloc.{Reloc}
use Rattle.rv_base.specs.declared.reloc.Reloc.TheVariants.{RiscvCallPlt, RiscvGotHi20, RiscvPCRelHi20, RiscvPCRelLo12I, Abs8}
use Rattle.mach_records.specs.declared.records.FinalizedRelocTarget.{FinalizedRelocTarget}
use Rattle.mach_records.specs.declared.records.FinalizedRelocTarget.TheVariants as targets

abbrev pub kind_name : Reloc → List ℕ
kind_name RiscvCallPlt = codes "RiscvCallPlt"
kind_name RiscvGotHi20 = codes "RiscvGotHi20"
kind_name RiscvPCRelHi20 = codes "RiscvPCRelHi20"
kind_name RiscvPCRelLo12I = codes "RiscvPCRelLo12I"
kind_name Abs8 = codes "Abs8"

-- the kind that has this name
unfoldable pub kind_named : List ℕ → Option Reloc
kind_named w = find (λ kind. bytes_eq w (kind_name kind)) (RiscvCallPlt ∷ RiscvGotHi20 ∷ RiscvPCRelHi20 ∷ RiscvPCRelLo12I ∷ Abs8 ∷ [])

-- a symbol, or a place in the code
abbrev pub target_text : FinalizedRelocTarget → List ℕ
target_text (targets.ExternalName name) = codes "userextname" ++ decimal name.number
target_text (targets.Func offset) = codes "@" ++ decimal offset
