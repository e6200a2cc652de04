-- The registers, labels and constants that a line names, in the order of its fields, and where its call returns.
use Rattle.std.specs.Prelude.{ℕ, Bool, true, false, List, [], ◌∷◌, ◌++◌, map, Option, Some, None, pos}
use Rattle.std.specs.List.{list_any}
use Rattle.std.proofs.Common.{refl}
use Rattle.rv_base.specs.declared.amode.AMode.{AMode}
use Rattle.rv_base.specs.AMode.{registers_of}
use Rattle.rv_base.specs.declared.amode.AMode.TheVariants.{RegOffset, SPOffset, FPOffset, SlotOffset, IncomingArg, Const, Label as LabelAt}
use Rattle.rv_base.specs.declared.constant.VCodeConstant.{VCodeConstant}
use Rattle.rv_base.specs.declared.call.ArgPair.{ArgPair}
use Rattle.rv_base.specs.declared.call.RetPair.{RetPair}
use Rattle.rv_base.specs.declared.call.CallArgPair.{CallArgPair}
use Rattle.rv_base.specs.declared.call.CallRetPair.{CallRetPair}
use Rattle.rv_base.specs.declared.call.RetLocation.{RetLocation}
use Rattle.rv_base.specs.declared.call.RetLocation.TheVariants.{Reg as InReg, Stack as OnStack}
use Rattle.rv_base.specs.declared.call.TryCallHandler.{TryCallHandler}
use Rattle.rv_base.specs.declared.call.TryCallHandler.TheVariants.{Tag, Default}
use Rattle.rv_base.specs.declared.call.TryCallInfo.{TryCallInfo}
use Rattle.rv_base.specs.declared.flags.IsaFlags.{IsaFlags}
use Rattle.rv_base.specs.declared.label.MachLabel.{MachLabel}
use Rattle.rv_base.specs.declared.regs.Reg.{Reg}
use Rattle.rv_base.specs.declared.regs.Reg.TheVariants.{Real}
use Rattle.rv_base.specs.declared.regs.Writable.{Writable}
use Rattle.rv_base.specs.Regs.{class_of, number_of}
use Rattle.rv_base.specs.declared.unwind.UnwindInst.{UnwindInst}
use Rattle.rv_base.specs.declared.unwind.UnwindInst.TheVariants.{PushFrameRegs, DefineNewFrame, StackAlloc, SaveReg}
use Rattle.rv_base.specs.declared.value_regs.ValueRegs.{ValueRegs}
use Rattle.rv_base.specs.declared.value_regs.ValueRegs.TheVariants.{One, Two}
use Rattle.rv_ops.specs.Memory.{load_size, is_float_load, is_float_store}
use Rattle.rv_ops.specs.Operations.{is_carry_line, is_carry_unary}
use Rattle.mach_uses.specs.Labels.{name_more}
pub use Rattle.rv_inst.specs.Classes.{is_float_class}
use Rattle.rv_inst.specs.Forms.{short_jalr}
use Rattle.rv_inst.specs.Returns.{StackLoad, result_loads, loads_unless}
use Rattle.rv_inst.specs.declared.inst.Line.{Line}
use Rattle.rv_inst.specs.declared.inst.Line.TheVariants.{Inst as Put, Bind}
use Rattle.rv_inst.specs.declared.inst.Family.{Family}
use Rattle.rv_inst.specs.declared.inst.Family.TheVariants.{Pseudo, Integer, Memory, Control, Loop, Calls}
use Rattle.rv_inst.specs.declared.inst.Inst.{Inst}
use Rattle.rv_inst.specs.declared.inst.Inst.TheVariants.{Nop0, Nop4, EBreak, SequencePoint, Args, Rets, DummyUse, Unwind, EmitIsland, RawData, Lui, AluRRR, AluRRImm12, Mov, MovFromPReg, Select, Load, Store, LoadAddr, Ret, Jal, CondBr, BrTable, Udf, Jalr, Call, CallInd, ReturnCall, ReturnCallInd}
use Rattle.rv_inst.specs.Descriptions.{Description, Word, Computes, Gives, description_of, facts_registers, registers_in, result_in, sequence_registers, temporaries_in}
use Rattle.rv_inst.specs.declared.tail_calls.TailCall.{TailCall}
use Rattle.rv_inst.specs.declared.targets.Targets.{Targets}
use Rattle.rv_inst.specs.declared.targets.Targets.TheVariants.{Nowhere, Jumps, Branches, Refers, RefersConstant}
use Rattle.rv_inst.specs.declared.inst.CondBrTarget.{CondBrTarget}
use Rattle.rv_inst.specs.declared.inst.CondBrTarget.TheVariants.{Label, Fallthrough}

abbrev pub arg_registers : List ArgPair → List Reg
arg_registers [] = []
arg_registers (p ∷ pairs) = p.vreg.reg ∷ p.preg ∷ arg_registers pairs

abbrev pub ret_registers : List RetPair → List Reg
ret_registers [] = []
ret_registers (p ∷ pairs) = p.vreg ∷ p.preg ∷ ret_registers pairs

abbrev pub use_registers : List CallArgPair → List Reg
use_registers [] = []
use_registers (p ∷ pairs) = p.vreg ∷ p.preg ∷ use_registers pairs

abbrev pub location_registers : RetLocation → List Reg
location_registers (InReg r) = r ∷ []
location_registers (OnStack offset type) = []

-- the registers of a result
abbrev pub result_registers : CallRetPair → List Reg
result_registers d = d.vreg.reg ∷ location_registers d.location

abbrev pub def_registers : List CallRetPair → List Reg
def_registers [] = []
def_registers (d ∷ defs) = d.vreg.reg ∷ location_registers d.location ++ def_registers defs

-- the registers of a value
abbrev pub all_of : {R : Type 0} → ValueRegs R → List R
all_of (One r) = r ∷ []
all_of (Two r s) = r ∷ s ∷ []

-- those that are written
abbrev pub written_in : ValueRegs (Writable Reg) → List Reg
written_in (One r) = r.reg ∷ []
written_in (Two r s) = r.reg ∷ s.reg ∷ []

-- the register that a step in the making of a frame saves
abbrev pub unwind_registers : UnwindInst → List Reg
unwind_registers (PushFrameRegs to_caller) = []
unwind_registers (DefineNewFrame to_caller to_clobbers) = []
unwind_registers (StackAlloc size) = []
unwind_registers (SaveReg offset reg) = reg ∷ []

abbrev pub target_labels : CondBrTarget → List MachLabel
target_labels (Label label) = label ∷ []
target_labels Fallthrough = []

-- the label of an address, or the constant and how many bytes of it are read, where it has one
abbrev pub address_targets : ℕ → AMode → Targets
address_targets read (RegOffset r o) = Nowhere
address_targets read (SPOffset o) = Nowhere
address_targets read (FPOffset o) = Nowhere
address_targets read (SlotOffset o) = Nowhere
address_targets read (IncomingArg o) = Nowhere
address_targets read (Const k) = RefersConstant k read
address_targets read (LabelAt l) = Refers l

-- whether a register is one of f0 to f31
abbrev pub is_float : Reg → Bool
is_float r = is_float_class (class_of r)

-- so many bytes after the start of its line a call returns; then the stack pointer falls by so many, and results are loaded
pub record Return : Type 0 where
  pub offset : ℕ
  pub popped : ℕ
  pub loads : List StackLoad

abbrev pub returns_at : ℕ → ℕ → List StackLoad → Option Return
returns_at offset popped loads = Some (record { offset = offset; popped = popped; loads = loads })

-- whether one of these is of a floating-point register
abbrev pub loads_float : List StackLoad → Bool
loads_float loads = list_any (λ (l : StackLoad). is_float_load l.op) loads

-- What an instruction names: its family; its registers; the labels, or the constant, by what it does with them; the labels of its table, the default
-- first; and the numbers of its temporaries, beside x30 and x31, which may hold anything after it. Of a call: its results, where control
-- goes after one that ends its block, where one returns, by the flags, and the tail call that it is. Of an instruction of a
-- family of integers: whether it leaves these, as one that moves a value of a floating-point register, or a call that loads one as a result,
-- or an operation of Zbc or Zbkb.
pub record Operands : Type 0 where
  pub family : Family
  pub registers : List Reg
  pub targets : Targets
  pub table : List MachLabel
  pub temporaries : List ℕ
  pub leaves_integers : Bool
  pub results : List CallRetPair
  pub try_call : Option TryCallInfo
  pub returns : IsaFlags → Option Return
  pub tail_call : Option TailCall

-- these registers, and nothing else
abbrev pub only : Family → List Reg → Operands
only family registers = record {
  family = family;
  registers = registers;
  targets = Nowhere;
  table = [];
  temporaries = [];
  leaves_integers = false;
  results = [];
  try_call = None;
  returns = λ flags. None;
  tail_call = None;
}

-- those of a sequence are asked for in the order of its source, its temporaries and its result
abbrev pub described_operands : Description → Operands
described_operands (Word w) = only w.family (registers_in w.places)
described_operands (Computes s with) = record (only Loop (sequence_registers s)) { temporaries = map number_of (temporaries_in s) }
described_operands (Gives g) =
    record (only g.family (facts_registers g.facts)) { targets = g.facts.targets; temporaries = map number_of (result_in g.facts.scratch) }

-- a call returns after an auipc and a jalr, or after a jalr alone
abbrev pub operands_of : Inst → Operands
operands_of Nop0 = only Pseudo []
operands_of Nop4 = only Pseudo []
operands_of EBreak = only Pseudo []
operands_of SequencePoint = only Pseudo []
operands_of (Args args) = only Pseudo (arg_registers args)
operands_of (Rets rets) = only Pseudo (ret_registers rets)
operands_of (DummyUse reg) = only Pseudo (reg ∷ [])
operands_of (Unwind inst) = only Pseudo (unwind_registers inst)
operands_of (EmitIsland needed_space) = only Pseudo []
operands_of (RawData bytes) = only Pseudo []
operands_of (Lui rd imm) = only Integer (rd.reg ∷ [])
operands_of (AluRRR op rd rs1 rs2) = record (only Integer (rd.reg ∷ rs1 ∷ rs2 ∷ [])) { leaves_integers = is_carry_line op (number_of rs2) }
operands_of (AluRRImm12 op rd rs imm) = record (only Integer (rd.reg ∷ rs ∷ [])) { leaves_integers = is_carry_unary op }
operands_of (Mov rd rm type) = record (only Integer (rd.reg ∷ rm ∷ [])) { leaves_integers = is_float rd.reg }
operands_of (MovFromPReg rd rm) = only Integer (rd.reg ∷ Real rm ∷ [])
operands_of (Select info) = record (only Integer (written_in info.dst ++ info.condition.rs1 ∷ info.condition.rs2 ∷ all_of info.x ++ all_of info.y)) {
  leaves_integers = list_any is_float (written_in info.dst ++ all_of info.x ++ all_of info.y);
}
operands_of (Load rd op flags from) =
    record (only Memory (rd.reg ∷ registers_of from)) { targets = address_targets (load_size op) from; leaves_integers = is_float_load op }
operands_of (Store src op flags to) = record (only Memory (src ∷ registers_of to)) { targets = address_targets 0 to; leaves_integers = is_float_store op }
operands_of (LoadAddr rd mem) = record (only Memory (rd.reg ∷ registers_of mem)) { targets = address_targets 0 mem }
operands_of Ret = only Control []
operands_of (Jal label) = record (only Control []) { targets = Jumps label }
operands_of (CondBr taken not_taken kind) = record (only Control (kind.rs1 ∷ kind.rs2 ∷ [])) { targets = Branches taken not_taken }
operands_of (BrTable index tmp1 tmp2 targets) =
    record (only Control (index ∷ tmp1.reg ∷ tmp2.reg ∷ [])) { table = targets; temporaries = number_of tmp1.reg ∷ number_of tmp2.reg ∷ [] }
operands_of (Udf code) = only Control []
operands_of (Jalr rd base offset) = only Control (rd.reg ∷ base ∷ [])
operands_of (Call info) = record (only Calls (use_registers info.uses ++ def_registers info.defs)) {
  leaves_integers = loads_float (loads_unless info.patchable info.defs);
  results = info.defs;
  try_call = info.try_call_info;
  returns = λ flags. returns_at 8 info.callee_pop_size (loads_unless info.patchable info.defs);
}
operands_of (CallInd info) = record (only Calls (info.dest ∷ use_registers info.uses ++ def_registers info.defs)) {
  leaves_integers = loads_float (result_loads info.defs);
  results = info.defs;
  try_call = info.try_call_info;
  returns = λ flags. returns_at (short_jalr flags 1 (number_of info.dest) (pos 0)).len info.callee_pop_size (result_loads info.defs);
}
operands_of (ReturnCall info) = record (only Calls (use_registers info.uses)) {
  tail_call = Some (record { stack_arg_size = info.new_stack_arg_size; by_register = false });
}
operands_of (ReturnCallInd info) = record (only Calls (info.dest ∷ use_registers info.uses)) {
  tail_call = Some (record { stack_arg_size = info.new_stack_arg_size; by_register = true });
}
operands_of inst = described_operands (description_of inst refl)

abbrev pub family_of : Inst → Family
family_of inst = (operands_of inst).family

abbrev pub inst_registers : Inst → List Reg
inst_registers inst = (operands_of inst).registers

abbrev pub targets_of : Inst → Targets
targets_of inst = (operands_of inst).targets

abbrev pub table_of : Inst → List MachLabel
table_of inst = (operands_of inst).table

abbrev pub inst_temporaries : Inst → List ℕ
inst_temporaries inst = (operands_of inst).temporaries

abbrev pub results_of : Inst → List CallRetPair
results_of inst = (operands_of inst).results

abbrev pub try_call_of : Inst → Option TryCallInfo
try_call_of inst = (operands_of inst).try_call

abbrev pub return_of : IsaFlags → Inst → Option Return
return_of flags inst = (operands_of inst).returns flags

abbrev pub tail_call_of : Inst → Option TailCall
tail_call_of inst = (operands_of inst).tail_call

abbrev pub handler_label : TryCallHandler → MachLabel
handler_label (Tag tag label) = label
handler_label (Default label) = label

-- where a call goes on, and those of its handlers
abbrev pub try_labels : Option TryCallInfo → List MachLabel
try_labels None = []
try_labels (Some t) = t.continuation ∷ map handler_label t.handlers

abbrev pub labels_of : Targets → List MachLabel
labels_of Nowhere = []
labels_of (Jumps label) = label ∷ []
labels_of (Branches taken not_taken) = target_labels taken ++ target_labels not_taken
labels_of (Refers label) = label ∷ []
labels_of (RefersConstant constant read) = []

-- those to which it goes, maybe by a veneer
abbrev pub ways_of : Targets → List MachLabel
ways_of Nowhere = []
ways_of (Jumps label) = label ∷ []
ways_of (Branches taken not_taken) = target_labels taken ++ target_labels not_taken
ways_of (Refers label) = []
ways_of (RefersConstant constant read) = []

-- the constant whose address is taken
abbrev pub constant_named : Targets → Option VCodeConstant
constant_named Nowhere = None
constant_named (Jumps label) = None
constant_named (Branches taken not_taken) = None
constant_named (Refers label) = None
constant_named (RefersConstant constant read) = Some constant

-- the constant that an instruction names
abbrev pub inst_constant : Inst → Option VCodeConstant
inst_constant inst = constant_named (targets_of inst)

-- a constant that is named comes after those that were, unless it is one of them
abbrev pub named_by : Option VCodeConstant → List VCodeConstant → List VCodeConstant
named_by None named = named
named_by (Some k) named = name_more k named

-- the labels that an instruction names
abbrev pub inst_labels : Inst → List MachLabel
inst_labels inst = try_labels (try_call_of inst) ++ labels_of (targets_of inst) ++ table_of inst

abbrev pub ways_by : Option TryCallInfo → Targets → List MachLabel
ways_by None targets = ways_of targets
ways_by (Some t) targets = t.continuation ∷ []

-- the labels to which an instruction goes, maybe by a veneer
abbrev pub inst_ways : Inst → List MachLabel
inst_ways inst = ways_by (try_call_of inst) (targets_of inst)

-- the labels to which a line goes, maybe by a veneer
abbrev pub line_ways : Line → List MachLabel
line_ways (Put inst) = inst_ways inst
line_ways (Bind label) = []

-- the labels that a line names; a bind names none
abbrev pub named_labels : Line → List MachLabel
named_labels (Put inst) = inst_labels inst
named_labels (Bind label) = []
