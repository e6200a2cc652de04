-- How the operands of instructions are written.
use Rattle.std.specs.Prelude.{ℕ, ◌-◌, ◌==◌, length, slice_get, if◌then◌else◌, Bool, true, false, List, [], ◌∷◌, ◌++◌, codes, Option, Some, None}
use Rattle.std.specs.List.{flat_map}
use Rattle.std.specs.Fmt.{decimal, digits}
use Rattle.rv_base.specs.declared.regs.Reg.{Reg}
use Rattle.rv_base.specs.declared.regs.Writable.{Writable}
use Rattle.rv_base.specs.declared.label.MachLabel.{MachLabel}
use Rattle.rv_base.specs.declared.value_regs.ValueRegs.{ValueRegs}
use Rattle.rv_base.specs.declared.value_regs.ValueRegs.TheVariants.{One, Two}
use Rattle.rv_base.specs.declared.call.ArgPair.{ArgPair}
use Rattle.rv_base.specs.declared.call.RetPair.{RetPair}
use Rattle.rv_base.specs.declared.call.CallArgPair.{CallArgPair}
use Rattle.rv_base.specs.declared.call.TryCallHandler.{TryCallHandler}
use Rattle.rv_base.specs.declared.call.TryCallHandler.TheVariants.{Tag, Default}
use Rattle.rv_base.specs.declared.call.TryCallInfo.{TryCallInfo}
use Rattle.rv_base.specs.declared.unwind.UnwindInst.{UnwindInst}
use Rattle.rv_base.specs.declared.unwind.UnwindInst.TheVariants.{PushFrameRegs, DefineNewFrame, StackAlloc, SaveReg}
use Rattle.rv_base.specs.RegNames.{name_of}
use Rattle.rv_base.specs.CondCodes.{name_of as cc_name}
use Rattle.rv_ops.specs.declared.compare.IntegerCompare.{IntegerCompare}
use Rattle.rv_inst.specs.Rules.{same_register}

-- a name, and two, three or four operands
abbrev pub two : List ℕ → List ℕ → List ℕ → List ℕ
two name a b = name ++ codes " " ++ a ++ codes "," ++ b

abbrev pub three : List ℕ → List ℕ → List ℕ → List ℕ → List ℕ
three name a b c = name ++ codes " " ++ a ++ codes "," ++ b ++ codes "," ++ c

abbrev pub four : List ℕ → List ℕ → List ℕ → List ℕ → List ℕ → List ℕ
four name a b c d = three name a b c ++ codes "," ++ d

-- 0x and hexadecimal digits, without leading zeros
abbrev pub hex : ℕ → List ℕ
hex n = codes "0x" ++ digits 16 false n

-- a label by its number
abbrev pub label_text : MachLabel → List ℕ
label_text label = codes "MachLabel(" ++ decimal label.number ++ codes ")"

-- elements with ", " between them
abbrev pub after_comma : {T : Type 0} → (T → List ℕ) → T → List ℕ
after_comma text x = codes ", " ++ text x

abbrev pub listed : {T : Type 0} → (T → List ℕ) → List T → List ℕ
listed text [] = []
listed text (x ∷ xs) = text x ++ flat_map (after_comma text) xs

-- a comparison, with the registers round its condition
abbrev pub compare_text : IntegerCompare → List ℕ
compare_text c = codes "(" ++ name_of c.rs1 ++ codes " " ++ cc_name c.kind ++ codes " " ++ name_of c.rs2 ++ codes ")"

-- the registers of a value: one alone, or two in brackets; equal ones have no comma between them
abbrev pub comma_unless : Bool → List ℕ
comma_unless true = []
comma_unless false = codes ","

abbrev pub value_text : ValueRegs Reg → List ℕ
value_text (One r) = name_of r
value_text (Two r s) = codes "[" ++ name_of r ++ comma_unless (same_register r s) ++ name_of s ++ codes "]"

abbrev pub written : ValueRegs (Writable Reg) → ValueRegs Reg
written (One r) = One r.reg
written (Two r s) = Two r.reg s.reg

-- the labels of a table in brackets; no comma stands after one that is the same as the last
abbrev pub table_label : ℕ → MachLabel → List ℕ
table_label last label = label_text label ++ comma_unless (label.number == last)

abbrev pub table_up_to : Option MachLabel → List MachLabel → List ℕ
table_up_to None labels = codes "[_]"
table_up_to (Some last) labels = codes "[" ++ flat_map (table_label last.number) labels ++ codes "]"

abbrev pub table_text : List MachLabel → List ℕ
table_text labels = table_up_to (slice_get labels (length labels - 1)) labels

-- a virtual register and the machine's register that stands for it
abbrev pub pair_text : Reg → Reg → List ℕ
pair_text vreg preg = codes " " ++ name_of vreg ++ codes "=" ++ name_of preg

abbrev pub arg_text : ArgPair → List ℕ
arg_text p = pair_text p.vreg.reg p.preg

abbrev pub ret_text : RetPair → List ℕ
ret_text p = pair_text p.vreg p.preg

abbrev pub use_text : CallArgPair → List ℕ
use_text p = pair_text p.vreg p.preg

-- a step in the making of a frame
abbrev pub unwind_text : UnwindInst → List ℕ
unwind_text (PushFrameRegs to_caller) = codes "PushFrameRegs { offset_upward_to_caller_sp: " ++ decimal to_caller ++ codes " }"
unwind_text (DefineNewFrame to_caller to_saved) =
    codes "DefineNewFrame { offset_upward_to_caller_sp: " ++ decimal to_caller ++ codes ", offset_downward_to_clobbers: " ++ decimal to_saved ++ codes " }"
unwind_text (StackAlloc size) = codes "StackAlloc { size: " ++ decimal size ++ codes " }"
unwind_text (SaveReg above reg) = codes "SaveReg { clobber_offset: " ++ decimal above ++ codes ", reg: " ++ name_of reg ++ codes " }"

-- where a call goes on, and where it throws to
abbrev pub handler_text : TryCallHandler → List ℕ
handler_text (Tag tag label) = codes "tag" ++ decimal tag ++ codes ": " ++ label_text label
handler_text (Default label) = codes "default: " ++ label_text label

abbrev pub try_text : Option TryCallInfo → List ℕ
try_text None = []
try_text (Some info) = codes "; j " ++ label_text info.continuation ++ codes "; catch [" ++ listed handler_text info.handlers ++ codes "]"
