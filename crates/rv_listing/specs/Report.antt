-- The report of a code.
use Rattle.std.specs.Prelude.{ℕ, zero, suc, ◌+◌, ◌/◌, List, [], ◌∷◌, ◌++◌, length, take, drop, Option, Some, None, codes}
use Rattle.std.specs.List.{flat_map}
use Rattle.std.specs.Fmt.{decimal, signed_decimal}
use Rattle.std.specs.Int.{w32, to_be_bytes}
use Rattle.hex.specs.Hex.{encode_lower}
use Rattle.rv_inst.specs.declared.code.LineSpan.{LineSpan}
use Rattle.rv_inst.specs.declared.code.CallReturn.{CallReturn}
use Rattle.mach_uses.specs.declared.uses.LabelPlace.{LabelPlace}
use Rattle.mach_records.specs.declared.records.ConstPlace.{ConstPlace}
use Rattle.mach_records.specs.declared.records.MachReloc.{MachReloc}
use Rattle.mach_records.specs.declared.records.MachTrap.{MachTrap}
use Rattle.mach_records.specs.declared.records.MachPatchable.{MachPatchable}
use Rattle.mach_records.specs.declared.records.MachUnwind.{MachUnwind}
use Rattle.mach_records.specs.declared.records.FinalizedMachExceptionHandler.{FinalizedMachExceptionHandler}
use Rattle.mach_records.specs.declared.records.FinalizedMachExceptionHandler.TheVariants.{Tag, Default}
use Rattle.mach_records.specs.declared.records.MachTryCallSite.{MachTryCallSite}
use Rattle.mach_records.specs.declared.records.MachStackMap.{MachStackMap}
use Rattle.rv_base.specs.declared.ir_type.IrType.{IrType}
use Rattle.rv_base.specs.IrType.{name_of as type_name}
use Rattle.rv_base.specs.Trap.{name_of}
use Rattle.rv_inst.specs.declared.code.Code.{Code}
use Rattle.rv_listing.specs.Relocations.{kind_name, target_text}
use Rattle.rv_listing.specs.UnwindSteps.{step_text}

abbrev pub lf : List ℕ
lf = 10 ∷ []

abbrev pub sp : List ℕ
sp = 32 ∷ []

-- eight hex digits of the offset, then the bytes
abbrev pub hex_line : ℕ → List ℕ → List ℕ
hex_line at bytes = encode_lower (to_be_bytes w32 at) ++ sp ++ encode_lower bytes ++ lf

-- n lines of 16 bytes or the rest, from offset `at`
abbrev pub hex_lines : ℕ → ℕ → List ℕ → List ℕ
hex_lines zero at bytes = []
hex_lines (suc n) at bytes = hex_line at (take 16 bytes) ++ hex_lines n (at + 16) (drop 16 bytes)

abbrev pub all_hex_lines : List ℕ → List ℕ
all_hex_lines bytes = hex_lines ((length bytes + 15) / 16) 0 bytes

abbrev pub span_line : LineSpan → List ℕ
span_line l = codes "line " ++ decimal l.index ++ sp ++ decimal l.start ++ sp ++ decimal l.end ++ lf

abbrev pub return_line : CallReturn → List ℕ
return_line r = codes "return " ++ decimal r.index ++ sp ++ decimal r.offset ++ lf

abbrev pub label_line : LabelPlace → List ℕ
label_line l = codes "label L" ++ decimal l.label.number ++ sp ++ decimal l.offset ++ lf

abbrev pub const_line : ConstPlace → List ℕ
const_line c = codes "const " ++ decimal c.constant.number ++ sp ++ decimal c.offset ++ lf

abbrev pub reloc_line : MachReloc → List ℕ
reloc_line r = codes "reloc " ++ decimal r.offset ++ sp ++ kind_name r.kind ++ sp ++ target_text r.target ++ sp ++ signed_decimal r.addend ++ lf

abbrev pub trap_line : MachTrap → List ℕ
trap_line t = codes "trap " ++ decimal t.offset ++ sp ++ name_of t.code ++ lf

abbrev pub call_line : ℕ → List ℕ
call_line offset = codes "call " ++ decimal offset ++ lf

-- how far the frame pointer is above the stack pointer, or - where that isn't known
abbrev pub frame_text : Option ℕ → List ℕ
frame_text None = codes "-"
frame_text (Some offset) = decimal offset

abbrev pub handler_text : FinalizedMachExceptionHandler → List ℕ
handler_text (Tag tag offset) = codes " tag" ++ decimal tag ++ 58 ∷ [] ++ decimal offset
handler_text (Default offset) = codes " default:" ++ decimal offset

abbrev pub try_line : MachTryCallSite → List ℕ
try_line t = codes "try " ++ decimal t.offset ++ sp ++ frame_text t.frame_offset ++ flat_map handler_text t.handlers ++ lf

abbrev pub patch_line : MachPatchable → List ℕ
patch_line p = codes "patch " ++ decimal p.offset ++ sp ++ decimal p.len ++ lf

-- a type, @, and an offset
abbrev pub entry_text : IrType × ℕ → List ℕ
entry_text e = sp ++ type_name e.0 ++ 64 ∷ [] ++ decimal e.1

abbrev pub map_line : MachStackMap → List ℕ
map_line m = codes "map " ++ decimal m.offset ++ sp ++ decimal m.span ++ flat_map entry_text m.map.entries ++ lf

abbrev pub unwind_line : MachUnwind → List ℕ
unwind_line u = codes "unwind " ++ decimal u.offset ++ sp ++ step_text u.inst ++ lf

-- the lines of a code's report, with these texts before its last line
abbrev pub report_with : List ℕ → Code → List ℕ
report_with texts c =
    codes "code " ++ decimal (length c.bytes) ++ lf
    ++ all_hex_lines c.bytes
    ++ flat_map span_line c.lines
    ++ flat_map return_line c.returns
    ++ flat_map label_line c.labels
    ++ flat_map const_line c.constants
    ++ flat_map reloc_line c.relocs
    ++ flat_map trap_line c.traps
    ++ flat_map call_line c.call_sites
    ++ flat_map try_line c.try_call_sites
    ++ flat_map patch_line c.patchable_call_sites
    ++ flat_map map_line c.stack_maps
    ++ flat_map unwind_line c.unwinds
    ++ (texts ++ codes "end ") ++ decimal c.end ++ lf

abbrev pub report : Code → List ℕ
report c = report_with [] c
