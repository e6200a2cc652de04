-- The rules of a line, in their order. Each is a test of what a line breaks.
use Rattle.std.specs.Prelude.{ℕ, Bool, true, false, not, ◌&&◌, ◌||◌, ◌==◌, ◌^◌, nat_le, nat_lt, is_none, is_some, slice_get, if◌then◌else◌, List, [], ◌∷◌, ◌++◌, length, Option, Some, None, ℤ, pos, negsuc}
use Rattle.std.specs.List.{list_any, find}
use Rattle.std.proofs.Common.{refl}
use Rattle.rv_base.specs.declared.call.ArgPair.{ArgPair}
use Rattle.rv_base.specs.declared.call.RetPair.{RetPair}
use Rattle.rv_base.specs.declared.call.CallArgPair.{CallArgPair}
use Rattle.rv_base.specs.declared.call.CallRetPair.{CallRetPair}
use Rattle.rv_base.specs.declared.call.RetLocation.{RetLocation}
use Rattle.rv_base.specs.declared.call.RetLocation.TheVariants.{Reg as InReg, Stack as OnStack}
use Rattle.rv_base.specs.declared.frame.FrameLayout.{FrameLayout}
use Rattle.rv_base.specs.declared.ir_type.IrType.{IrType}
use Rattle.rv_base.specs.declared.label.MachLabel.{MachLabel}
use Rattle.rv_base.specs.declared.regs.PReg.{PReg}
use Rattle.rv_base.specs.declared.regs.Reg.{Reg}
use Rattle.rv_base.specs.declared.regs.Reg.TheVariants.{Real, Virtual as AVirtual}
use Rattle.rv_base.specs.declared.regs.RegClass.{RegClass}
use Rattle.rv_base.specs.declared.regs.RegClass.TheVariants.{Int, Float, Vector}
use Rattle.rv_base.specs.declared.regs.Writable.{Writable}
use Rattle.rv_base.specs.declared.value_regs.ValueRegs.{ValueRegs}
use Rattle.rv_base.specs.declared.value_regs.ValueRegs.TheVariants.{One, Two}
use Rattle.rv_base.specs.ValueRegs.{count_of}
use Rattle.rv_base.specs.declared.constant.Constant.{Constant}
use Rattle.rv_base.specs.AMode.{registers_of, own_offset, base_of}
use Rattle.rv_base.specs.Regs.{class_of}
use Rattle.mach_labels.specs.Table.{first_inner}
use Rattle.rv_ops.specs.Memory.{load_class, store_class}
use Rattle.rv_ops.specs.Operations.{immediate_of, shift_limit}
use Rattle.rv_inst.specs.declared.inst.Line.{Line}
use Rattle.rv_inst.specs.declared.inst.Line.TheVariants.{Inst as Put, Bind}
use Rattle.rv_inst.specs.declared.inst.Inst.{Inst}
use Rattle.rv_inst.specs.declared.inst.Inst.TheVariants.{Nop0, Nop4, EBreak, SequencePoint, Args, Rets, DummyUse, Unwind, EmitIsland, RawData, Lui, AluRRR, AluRRImm12, Mov, MovFromPReg, Select, Load, Store, LoadAddr, Ret, Jal, CondBr, BrTable, Udf, Jalr, Call, CallInd, ReturnCall, ReturnCallInd}
use Rattle.rv_inst.specs.declared.inst.CondBrTarget.{CondBrTarget}
use Rattle.rv_inst.specs.declared.inst.CondBrTarget.TheVariants.{Label as ToLabel, Fallthrough}
use Rattle.rv_inst.specs.declared.error.Rule.{Rule}
use Rattle.rv_inst.specs.declared.error.Rule.TheVariants.{Virtual, Class, Reserved, Zero, Clash, BadType, Range, Rounding, Width, Constant as ConstantRule, EmptyTable, NoTarget, Label, TailArgs, DataSize}
use Rattle.rv_inst.specs.Addresses.{is_distant}
use Rattle.rv_inst.specs.Context.{Context}
use Rattle.rv_inst.specs.Operands.{all_of, written_in, result_registers, inst_registers, inst_labels, tail_call_of, targets_of}
use Rattle.rv_inst.specs.Returns.{result_load}
pub use Rattle.rv_inst.specs.Classes.{is_int_class, is_vector_class, same_class, class_for, has_class, is_int_type, is_word_type}
use Rattle.rv_inst.specs.Descriptions.{Description, UnitWord, Word, Computes, Gives, changed_by, description_of, facts_registers, result_in, sequence_registers}
use Rattle.rv_inst.specs.declared.sequence.Sequence.{Sequence}
use Rattle.rv_inst.specs.declared.units.Facts.{Facts}
use Rattle.rv_inst.specs.declared.units.PlacedReg.{PlacedReg}
use Rattle.rv_inst.specs.declared.tail_calls.TailCall.{TailCall}
use Rattle.rv_inst.specs.declared.targets.Targets.{Targets}
use Rattle.rv_inst.specs.declared.targets.Targets.TheVariants.{Nowhere, Jumps, Branches, Refers, RefersConstant}

-- ---- registers

abbrev pub is_virtual : Reg → Bool
is_virtual (Real p) = false
is_virtual (AVirtual class index) = true

abbrev pub is_other_class : Reg → Bool
is_other_class r = not (is_int_class (class_of r))

-- x30 or x31, which veneers and expansions change
abbrev pub is_reserved_x : PReg → Bool
is_reserved_x p = is_int_class p.class && nat_le 30 p.number

abbrev pub is_reserved : Reg → Bool
is_reserved (Real p) = is_reserved_x p
is_reserved (AVirtual class index) = false

-- whether a register is of another class than this
abbrev pub is_not_of : RegClass → Reg → Bool
is_not_of class r = not (same_class (class_of r) class)

abbrev pub is_out_of_place : PlacedReg → Bool
is_out_of_place p = is_not_of p.class p.reg

abbrev pub differ_in_class : Reg → Reg → Bool
differ_in_class r s = not (same_class (class_of r) (class_of s))

-- whether a register is the integer register of a number
abbrev pub is_x : ℕ → PReg → Bool
is_x number p = is_int_class p.class && p.number == number

abbrev pub is_real_x : ℕ → Reg → Bool
is_real_x number (Real p) = is_x number p
is_real_x number (AVirtual class index) = false

-- x0
abbrev pub is_zero : Reg → Bool
is_zero r = is_real_x 0 r

abbrev pub same_register : Reg → Reg → Bool
same_register (Real p) (Real q) = same_class p.class q.class && p.number == q.number
same_register (Real p) (AVirtual class index) = false
same_register (AVirtual class index) (Real q) = false
same_register (AVirtual c i) (AVirtual d j) = same_class c d && i.value == j.value

-- whether a register is among these
abbrev pub is_one_of : Reg → List Reg → Bool
is_one_of r rs = list_any (same_register r) rs

-- whether two of the registers that are written are the same, or one of them is read too
abbrev pub clash : List Reg → List Reg → Bool
clash [] inputs = false
clash (r ∷ outputs) inputs = is_one_of r (outputs ++ inputs) || clash outputs inputs

-- whether a register is the one that an address counts from
abbrev pub is_base : Reg → Option Reg → Bool
is_base r None = false
is_base r (Some base) = same_register r base

-- whether values are held in other numbers of registers
abbrev pub is_uneven : ValueRegs (Writable Reg) → ValueRegs Reg → ValueRegs Reg → Bool
is_uneven dst x y = not (count_of dst == count_of x && count_of dst == count_of y)

-- whether a result that is chosen is one of the registers that are compared; of two results, whether they are the same, or one of
-- them is any input
abbrev pub select_clash : ValueRegs (Writable Reg) → List Reg → List Reg → Bool
select_clash (One r) compared values = is_one_of r.reg compared
select_clash (Two r s) compared values = clash (r.reg ∷ s.reg ∷ []) (compared ++ values)

-- whether registers at one place differ in class, of the places that both values have
abbrev pub differ_at_places : List Reg → List Reg → Bool
differ_at_places [] ss = false
differ_at_places (r ∷ rs) [] = false
differ_at_places (r ∷ rs) (s ∷ ss) = differ_in_class r s || differ_at_places rs ss

abbrev pub is_vector : Reg → Bool
is_vector r = is_vector_class (class_of r)

-- whether values of which one is chosen differ in class at a place, or have a vector register
abbrev pub values_differ : List Reg → List Reg → List Reg → Bool
values_differ results xs ys =
    differ_at_places results xs || (differ_at_places results ys || (differ_at_places xs ys || list_any is_vector (results ++ xs ++ ys)))

-- sp
abbrev pub is_stack : Reg → Bool
is_stack r = is_real_x 2 r

-- sp or fp
abbrev pub is_stack_or_frame : PReg → Bool
is_stack_or_frame p = is_x 2 p || is_x 8 p

abbrev pub is_outside : Option RegClass → RegClass → Bool
is_outside None class = false
is_outside (Some asked) class = not (same_class class asked)

-- whether a register is of another class than that in which a callee leaves a result, or than that of the type of one on the stack
abbrev pub location_differs : Reg → RetLocation → Bool
location_differs r (InReg s) = differ_in_class r s
location_differs r (OnStack offset type) = is_outside (class_for type) (class_of r)

-- whether a result is left on the stack
abbrev pub is_on_stack : RetLocation → Bool
is_on_stack (InReg s) = false
is_on_stack (OnStack offset type) = true

abbrev pub is_stacked : CallRetPair → Bool
is_stacked d = is_on_stack d.location

-- whether a result that is on the stack is loaded into sp, or into a register of another result
abbrev pub is_into_stack : CallRetPair → Bool
is_into_stack d = is_stacked d && is_stack d.vreg.reg

abbrev pub is_into_result : CallRetPair → CallRetPair → Bool
is_into_result d other = is_stacked d && is_one_of d.vreg.reg (result_registers other)

abbrev pub either_into : CallRetPair → CallRetPair → Bool
either_into d other = is_into_result d other || is_into_result other d

abbrev pub results_clash : List CallRetPair → Bool
results_clash [] = false
results_clash (d ∷ defs) = is_into_stack d || (list_any (either_into d) defs || results_clash defs)

-- whether a result is further above the stack pointer than 2^30 bytes
abbrev pub is_high_at : RetLocation → Bool
is_high_at (InReg s) = false
is_high_at (OnStack offset type) = nat_lt (2 ^ 30) offset

abbrev pub is_high : CallRetPair → Bool
is_high d = is_high_at d.location

-- whether the two registers of an argument or of a result are of different classes
abbrev pub call_differs : List CallArgPair → List CallRetPair → Bool
call_differs uses defs =
    list_any (λ (p : CallArgPair). differ_in_class p.vreg p.preg) uses ||
    list_any (λ (d : CallRetPair). location_differs d.vreg.reg d.location) defs

-- t0, which is x5
abbrev pub is_fifth : Reg → Bool
is_fifth r = is_real_x 5 r

-- ---- types and numbers

-- a floating-point number of at most 64 bits
abbrev pub is_float_type : IrType → Bool
is_float_type type = has_class (class_for type) Float

-- whether a register of a class is moved as one of a type; vectors are moved by none
abbrev pub is_movable : RegClass → IrType → Bool
is_movable Int type = is_int_type type
is_movable Float type = is_float_type type
is_movable Vector type = false

-- whether a result is on the stack, and of a type that is loaded from there: an integer of at most 64 bits, f16, f32 or f64
abbrev pub is_loaded_from : RetLocation → Bool
is_loaded_from (InReg s) = false
is_loaded_from (OnStack offset type) = is_some (result_load type)

abbrev pub is_loaded : CallRetPair → Bool
is_loaded d = is_loaded_from d.location

-- whether it is on the stack, and of another type
abbrev pub is_unloadable : CallRetPair → Bool
is_unloadable d = is_stacked d && not (is_loaded d)

abbrev pub is_beyond : Option ℕ → ℤ → Bool
is_beyond None n = false
is_beyond (Some limit) (pos n) = nat_le limit n
is_beyond (Some limit) (negsuc n) = true

-- ---- labels

abbrev pub is_fallthrough : CondBrTarget → Bool
is_fallthrough (ToLabel label) = false
is_fallthrough Fallthrough = true

-- the labels from the first inner one on are a buffer's own
abbrev pub is_buffer_label : MachLabel → Bool
is_buffer_label label = nat_le first_inner label.number

-- ---- what an instruction's own fields break

-- which of these rules are broken: some register has another class than its place asks; x0 stands where a result is computed in
-- steps; a register that is written before all are read is another's too; a type isn't taken; a shift amount or a bit's index is
-- beyond the register's width, or a number beyond its range; a rounding mode is named that the operation doesn't take; the format is one
-- of which no operation is; a table has no label; a branch has nowhere to go where its comparison holds; data has a length that isn't taken
pub record Faults : Type 0 where
  pub class : Bool
  pub zeroed : Bool
  pub clashing : Bool
  pub type : Bool
  pub range : Bool
  pub rounding : Bool
  pub width : Bool
  pub table : Bool
  pub target : Bool
  pub size : Bool

abbrev pub has_other_class : Bool → Faults
has_other_class class = record {
  class = class;
  zeroed = false;
  clashing = false;
  type = false;
  range = false;
  rounding = false;
  width = false;
  table = false;
  target = false;
  size = false;
}

-- of a sequence: its temporaries and its result are written while its source is still read
abbrev pub sequence_faults : Sequence → Faults
sequence_faults s = record (has_other_class (list_any is_other_class (sequence_registers s))) {
  zeroed = list_any is_zero (changed_by s);
  clashing = clash (changed_by s) (s.rs ∷ []);
  type = not (is_int_type s.ty);
}

-- of a unit's word: its places ask classes of their own, and a place that isn't read asks x0
abbrev pub unit_faults : UnitWord → Faults
unit_faults w = record (has_other_class (list_any is_out_of_place w.places || not w.aside)) { rounding = not w.rounding; width = not w.width }

-- of one whose description gives it: its registers are integer ones; a result that is computed in steps isn't x0, nor is a temporary, which
-- isn't sp either
abbrev pub facts_faults : Facts → Faults
facts_faults f = record (has_other_class (list_any is_other_class (facts_registers f))) {
  zeroed = list_any is_zero (result_in f.scratch) || (f.in_steps && list_any is_zero (result_in f.regs.rd));
  clashing = list_any is_stack (result_in f.scratch);
  type = f.mistyped;
  range = f.beyond;
}

abbrev pub described_faults : Description → Faults
described_faults (Word w) = unit_faults w
described_faults (Computes s with) = sequence_faults s
described_faults (Gives g) = facts_faults g.facts

-- A register's place asks the class Int, but those of a unit's word, and what a load or a store of a floating-point register moves; the two
-- of a pair or of a move have one class, those at one place of the values of a choice one that is no vector's, and a result on the stack that
-- of its type. A move has a type of its registers' class: integers of at most 64 bits, or floating-point numbers of at most 64; a result on
-- the stack has a type that is loaded from there. Of others none is built. Data has four or eight bytes.
abbrev pub faults_of : Inst → Faults
faults_of Nop0 = has_other_class false
faults_of Nop4 = has_other_class false
faults_of EBreak = has_other_class false
faults_of SequencePoint = has_other_class false
faults_of (Args args) = has_other_class (list_any (λ (p : ArgPair). differ_in_class p.vreg.reg p.preg) args)
faults_of (Rets rets) = has_other_class (list_any (λ (p : RetPair). differ_in_class p.vreg p.preg) rets)
faults_of (DummyUse reg) = has_other_class false
faults_of (Unwind inst) = has_other_class false
faults_of (EmitIsland needed_space) = has_other_class false
faults_of (RawData bytes) = record (has_other_class false) { size = not (length bytes == 4 || length bytes == 8) }
faults_of (Lui rd imm) = has_other_class (list_any is_other_class (rd.reg ∷ []))
faults_of (AluRRR op rd rs1 rs2) = has_other_class (list_any is_other_class (rd.reg ∷ rs1 ∷ rs2 ∷ []))
faults_of (AluRRImm12 op rd rs imm) =
    record (has_other_class (list_any is_other_class (rd.reg ∷ rs ∷ []))) { range = is_beyond (shift_limit (immediate_of op)) imm.value }
faults_of (Mov rd rm type) = record (has_other_class (differ_in_class rd.reg rm)) { type = not (is_movable (class_of rm) type) }
faults_of (MovFromPReg rd rm) = has_other_class (is_other_class rd.reg || not (is_stack_or_frame rm))
faults_of (Select info) =
    record (has_other_class (
    list_any is_other_class (info.condition.rs1 ∷ info.condition.rs2 ∷ []) ||
    values_differ (written_in info.dst) (all_of info.x) (all_of info.y))) {
      clashing =
          is_uneven info.dst info.x info.y ||
          select_clash info.dst (info.condition.rs1 ∷ info.condition.rs2 ∷ []) (all_of info.x ++ all_of info.y);
    }
faults_of (Load rd op flags from) = record (has_other_class (is_not_of (load_class op) rd.reg || list_any is_other_class (registers_of from))) {
  zeroed = is_none (base_of from) && is_zero rd.reg;
  range = is_distant (own_offset from);
}
faults_of (Store src op flags to) = record (has_other_class (is_not_of (store_class op) src || list_any is_other_class (registers_of to))) {
  range = is_distant (own_offset to);
}
faults_of (LoadAddr rd mem) = record (has_other_class (list_any is_other_class (rd.reg ∷ registers_of mem))) {
  zeroed = is_zero rd.reg;
  clashing = is_base rd.reg (base_of mem);
  range = is_distant (own_offset mem);
}
faults_of Ret = has_other_class false
faults_of (Jal label) = has_other_class false
faults_of (CondBr taken not_taken kind) = record (has_other_class (list_any is_other_class (kind.rs1 ∷ kind.rs2 ∷ []))) { target = is_fallthrough taken }
faults_of (BrTable index tmp1 tmp2 targets) = record (has_other_class (list_any is_other_class (index ∷ tmp1.reg ∷ tmp2.reg ∷ []))) {
  zeroed = list_any is_zero (tmp1.reg ∷ tmp2.reg ∷ []);
  clashing = clash (tmp1.reg ∷ tmp2.reg ∷ []) (index ∷ []);
  table = length targets == 0;
}
faults_of (Udf code) = has_other_class false
faults_of (Jalr rd base offset) = has_other_class (list_any is_other_class (rd.reg ∷ base ∷ []))
faults_of (Call info) = record (has_other_class (call_differs info.uses info.defs)) {
  clashing = results_clash info.defs;
  type = list_any is_unloadable info.defs;
  range = nat_le (2 ^ 31) info.callee_pop_size || list_any is_high info.defs;
}
faults_of (CallInd info) = record (has_other_class (is_other_class info.dest || call_differs info.uses info.defs)) {
  clashing = results_clash info.defs;
  type = list_any is_unloadable info.defs;
  range = nat_le (2 ^ 31) info.callee_pop_size || list_any is_high info.defs;
}
faults_of (ReturnCall info) = has_other_class (list_any (λ (p : CallArgPair). differ_in_class p.vreg p.preg) info.uses)
faults_of (ReturnCallInd info) = has_other_class (not (is_fifth info.dest) || list_any (λ (p : CallArgPair). differ_in_class p.vreg p.preg) info.uses)
faults_of inst = described_faults (description_of inst refl)

-- ---- constants

-- whether a constant isn't among these, or has fewer bytes than so many
abbrev pub is_shorter : Option Constant → ℕ → Bool
is_shorter None size = true
is_shorter (Some constant) size = nat_lt (length constant.bytes) size

-- whether a constant that is named isn't there, or has fewer bytes than are read of it
abbrev pub lacks_named : List Constant → Targets → Bool
lacks_named constants Nowhere = false
lacks_named constants (Jumps label) = false
lacks_named constants (Branches taken not_taken) = false
lacks_named constants (Refers label) = false
lacks_named constants (RefersConstant constant read) = is_shorter (slice_get constants constant.number) read

-- ---- frames

-- whether a tail call's arguments on the stack take more bytes than the frame has for them
abbrev pub exceeds_arguments : FrameLayout → Option TailCall → Bool
exceeds_arguments frame None = false
exceeds_arguments frame (Some tail) = nat_lt frame.tail_args_size tail.stack_arg_size

-- ---- the rules in their order

unfoldable pub every_rule : List Rule
every_rule =
    Virtual ∷
    Class ∷
    Reserved ∷
    Zero ∷
    Clash ∷
    BadType ∷
    Range ∷
    Rounding ∷
    Width ∷
    ConstantRule ∷
    EmptyTable ∷
    NoTarget ∷
    Label ∷
    TailArgs ∷
    DataSize ∷
    []

-- whether an instruction breaks a rule, in its context
abbrev pub breaks : Context → Inst → Rule → Bool
breaks context inst Virtual = list_any is_virtual (inst_registers inst)
breaks context inst Class = (faults_of inst).class
breaks context inst Reserved = list_any is_reserved (inst_registers inst)
breaks context inst Zero = (faults_of inst).zeroed
breaks context inst Clash = (faults_of inst).clashing
breaks context inst BadType = (faults_of inst).type
breaks context inst Range = (faults_of inst).range
breaks context inst Rounding = (faults_of inst).rounding
breaks context inst Width = (faults_of inst).width
breaks context inst ConstantRule = lacks_named context.constants (targets_of inst)
breaks context inst EmptyTable = (faults_of inst).table
breaks context inst NoTarget = (faults_of inst).target
breaks context inst Label = list_any is_buffer_label (inst_labels inst)
breaks context inst TailArgs = exceeds_arguments context.frame (tail_call_of inst)
breaks context inst DataSize = (faults_of inst).size

-- ---- the first rule that is broken

-- the first of two that is there
abbrev pub first_of : {X : Type 0} → Option X → Option X → Option X
first_of None b = b
first_of (Some x) b = Some x

-- the first rule that an instruction breaks
abbrev pub inst_rule : Context → Inst → Option Rule
inst_rule context inst = find (breaks context inst) every_rule

-- the first rule that a line breaks
abbrev pub broken_rule : Context → Line → Option Rule
broken_rule context (Put inst) = inst_rule context inst
broken_rule context (Bind label) = if is_buffer_label label then Some Label else None
