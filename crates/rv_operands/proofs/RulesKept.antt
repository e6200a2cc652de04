-- What registers that are chosen as they are asked for do for each kind of instruction.
use Rattle.std.specs.Prelude.{◌++◌, ◌&&◌, ◌||◌, not, Bool, false, List, [], ◌∷◌, map, Option, None, Some}
use Rattle.std.specs.List.{list_any}
use Rattle.std.proofs.Common.{◌≡◌, refl, ap, ◌∙◌, subst}
use Rattle.rv_base.specs.declared.amode.AMode.{AMode}
use Rattle.rv_base.specs.declared.amode.AMode.TheVariants.{RegOffset, SPOffset, FPOffset, SlotOffset, IncomingArg, Const, Label}
use Rattle.rv_base.specs.declared.call.CallInfo.{CallInfo}
use Rattle.rv_base.specs.declared.call.ReturnCallInfo.{ReturnCallInfo}
use Rattle.rv_base.specs.declared.call.CallArgPair.{CallArgPair}
use Rattle.rv_base.specs.declared.call.CallRetPair.{CallRetPair}
use Rattle.rv_base.specs.declared.constraint.Constraint.{Constraint}
use Rattle.rv_base.specs.declared.constraint.Constraint.TheVariants.{RegClobbers}
use Rattle.rv_base.specs.declared.mem_flags.MemFlagsData.{MemFlagsData}
use Rattle.rv_base.specs.declared.regs.Reg.{Reg}
use Rattle.rv_base.specs.declared.regs.Writable.{Writable}
use Rattle.rv_base.specs.declared.value_regs.ValueRegs.{ValueRegs}
use Rattle.rv_base.specs.declared.value_regs.ValueRegs.TheVariants.{One, Two}
use Rattle.rv_base.specs.Regs.{class_of}
use Rattle.rv_ops.specs.declared.compare.IntegerCompare.{IntegerCompare}
use Rattle.rv_ops.specs.declared.memory.LoadOP.{LoadOP}
use Rattle.rv_ops.specs.declared.memory.StoreOP.{StoreOP}
use Rattle.rv_ops.specs.Memory.{load_class, store_class}
use Rattle.rv_inst.specs.declared.inst.SelectInfo.{SelectInfo}
use Rattle.rv_inst.specs.declared.inst.Inst.{Inst}
use Rattle.rv_inst.specs.declared.inst.Inst.TheVariants.{Nop0, Nop4, EBreak, SequencePoint, Args, Rets, DummyUse, Unwind, EmitIsland, RawData, Lui, AluRRR, AluRRImm12, Mov, MovFromPReg, Select, Load, Store, LoadAddr, Ret, Jal, CondBr, BrTable, Udf, Jalr, Call, CallInd, ReturnCall, ReturnCallInd}
use Rattle.rv_inst.specs.Operands.{all_of, written_in}
use Rattle.rv_inst.specs.Faults.{is_misplaced, has_zero, has_clash}
use Rattle.rv_inst.specs.Rules.{is_virtual, is_reserved, is_out_of_place, is_uneven, values_differ, select_clash, clash, is_fifth, is_other_class, is_stack, is_stack_or_frame, is_zero, described_faults, results_clash}
use Rattle.rv_inst.specs.Descriptions.{Description, Word, Computes, Gives, all_in, description_of, result_in, sources_in, third}
use Rattle.rv_inst.specs.declared.sequence.Sequence.{Sequence}
use Rattle.rv_inst.specs.declared.units.PlacedReg.{PlacedReg}
use Rattle.rv_operands.specs.Operand.{Operand, reads, reads_at, scratches, writes, writes_at, writes_early, constraint_of}
use Rattle.rv_operands.specs.Operands.{row_of, operands_of, constraints_of, described_misnamed, described_operands, own_operands, result_operand, scratch_operand, unit_operands, use_operand, def_operand, select_operands}
use Rattle.rv_operands.specs.Meeting.{chosen, definitions, AreDistinct, AreMet, AreFree, ArePlaced, AreOfClasses, HasClasses, HasFree, KeepsRules}
use Rattle.rv_operands.proofs.ClearRegisters.{quiet, virtual_clear, reserved_clear}
use Rattle.rv_operands.proofs.Keeping.{either, and_none, or_none, apart, absent, no_clash, same_stack, same_frame, not_other, alike, pairs_alike, args_alike, rets_alike, uses_alike, defs_alike, both_classes, into, call_written, results_placed, no_results_clash}

-- the rules on classes, on x0 and on clashes
record KeepsThree (inst : Inst) : Type 0 where
  pub class : HasClasses inst → is_misplaced inst ≡ (row_of inst).misnamed
  pub zero : HasFree inst → has_zero inst ≡ false
  pub clash : HasFree inst → has_clash inst ≡ (row_of inst).uneven

-- ---- choices

select_apart : (dst : ValueRegs (Writable Reg)) (c : IntegerCompare) (x y : ValueRegs Reg) → AreMet (map constraint_of (select_operands (record { dst = dst; condition = c; x = x; y = y })) ++ []) → select_clash dst (c.rs1 ∷ c.rs2 ∷ []) (all_of x ++ all_of y) ≡ false
select_apart (One w) c (One a) (One b) m = absent w.reg (c.rs1 ∷ c.rs2 ∷ []) m.late.0
select_apart (One w) c (One a) (Two b b2) m = absent w.reg (c.rs1 ∷ c.rs2 ∷ []) m.late.0
select_apart (One w) c (Two a a2) (One b) m = absent w.reg (c.rs1 ∷ c.rs2 ∷ []) m.late.0
select_apart (One w) c (Two a a2) (Two b b2) m = absent w.reg (c.rs1 ∷ c.rs2 ∷ []) m.late.0
select_apart (Two v w) c (One a) (One b) m = no_clash (v.reg ∷ w.reg ∷ []) (c.rs1 ∷ c.rs2 ∷ a ∷ b ∷ []) m.distinct m.early
select_apart (Two v w) c (One a) (Two b b2) m = no_clash (v.reg ∷ w.reg ∷ []) (c.rs1 ∷ c.rs2 ∷ a ∷ b ∷ b2 ∷ []) m.distinct m.early
select_apart (Two v w) c (Two a a2) (One b) m = no_clash (v.reg ∷ w.reg ∷ []) (c.rs1 ∷ c.rs2 ∷ a ∷ a2 ∷ b ∷ []) m.distinct m.early
select_apart (Two v w) c (Two a a2) (Two b b2) m = no_clash (v.reg ∷ w.reg ∷ []) (c.rs1 ∷ c.rs2 ∷ a ∷ a2 ∷ b ∷ b2 ∷ []) m.distinct m.early

select_keeps : (info : SelectInfo) → AreMet (constraints_of (Select info)) → KeepsThree (Select info)
select_keeps info met = record {
  class = λ c. (let first = not_other info.condition.rs1 c.operands.0 in let second = not_other info.condition.rs2 c.operands.1.0 in λ i. (first i || (second i || false)) || values_differ (written_in info.dst) (all_of info.x) (all_of info.y));
  zero = λ f. refl;
  clash = λ f. ap (λ b. is_uneven info.dst info.x info.y || b) (select_apart info.dst info.condition info.x info.y met) ∙ or_none (is_uneven info.dst info.x info.y);
}

-- ---- addresses

load_keeps : (rd : Writable Reg) (op : LoadOP) (flags : MemFlagsData) (from : AMode) → AreMet (constraints_of (Load rd op flags from)) → KeepsThree (Load rd op flags from)
load_keeps rd op flags (RegOffset r o) met = record { class = λ c. either (alike (class_of rd.reg) (load_class op) c.operands.1.0) (either (not_other r c.operands.0) refl); zero = λ f. refl; clash = λ f. refl }
load_keeps rd op flags (SPOffset o) met = record { class = λ c. either (alike (class_of rd.reg) (load_class op) c.operands.0) refl; zero = λ f. refl; clash = λ f. refl }
load_keeps rd op flags (FPOffset o) met = record { class = λ c. either (alike (class_of rd.reg) (load_class op) c.operands.0) refl; zero = λ f. refl; clash = λ f. refl }
load_keeps rd op flags (SlotOffset o) met = record { class = λ c. either (alike (class_of rd.reg) (load_class op) c.operands.0) refl; zero = λ f. refl; clash = λ f. refl }
load_keeps rd op flags (IncomingArg o) met = record { class = λ c. either (alike (class_of rd.reg) (load_class op) c.operands.0) refl; zero = λ f. refl; clash = λ f. refl }
load_keeps rd op flags (Const k) met = record { class = λ c. either (alike (class_of rd.reg) (load_class op) c.operands.0) refl; zero = λ f. f.written.0.not_zero; clash = λ f. refl }
load_keeps rd op flags (Label l) met = record { class = λ c. either (alike (class_of rd.reg) (load_class op) c.operands.0) refl; zero = λ f. f.written.0.not_zero; clash = λ f. refl }

store_keeps : (src : Reg) (op : StoreOP) (flags : MemFlagsData) (to : AMode) → AreMet (constraints_of (Store src op flags to)) → KeepsThree (Store src op flags to)
store_keeps src op flags (RegOffset r o) met = record { class = λ c. either (alike (class_of src) (store_class op) c.operands.1.0) (either (not_other r c.operands.0) refl); zero = λ f. refl; clash = λ f. refl }
store_keeps src op flags (SPOffset o) met = record { class = λ c. either (alike (class_of src) (store_class op) c.operands.0) refl; zero = λ f. refl; clash = λ f. refl }
store_keeps src op flags (FPOffset o) met = record { class = λ c. either (alike (class_of src) (store_class op) c.operands.0) refl; zero = λ f. refl; clash = λ f. refl }
store_keeps src op flags (SlotOffset o) met = record { class = λ c. either (alike (class_of src) (store_class op) c.operands.0) refl; zero = λ f. refl; clash = λ f. refl }
store_keeps src op flags (IncomingArg o) met = record { class = λ c. either (alike (class_of src) (store_class op) c.operands.0) refl; zero = λ f. refl; clash = λ f. refl }
store_keeps src op flags (Const k) met = record { class = λ c. either (alike (class_of src) (store_class op) c.operands.0) refl; zero = λ f. refl; clash = λ f. refl }
store_keeps src op flags (Label l) met = record { class = λ c. either (alike (class_of src) (store_class op) c.operands.0) refl; zero = λ f. refl; clash = λ f. refl }

load_addr_keeps : (rd : Writable Reg) (mem : AMode) → AreMet (constraints_of (LoadAddr rd mem)) → KeepsThree (LoadAddr rd mem)
load_addr_keeps rd (RegOffset r o) met = record { class = λ c. either (not_other rd.reg c.operands.1.0) (either (not_other r c.operands.0) refl); zero = λ f. f.written.0.not_zero; clash = λ f. apart rd.reg r met.early.0.0 }
load_addr_keeps rd (SPOffset o) met = record { class = λ c. either (not_other rd.reg c.operands.0) refl; zero = λ f. f.written.0.not_zero; clash = λ f. same_stack rd.reg ∙ f.written.0.not_stack }
load_addr_keeps rd (FPOffset o) met = record { class = λ c. either (not_other rd.reg c.operands.0) refl; zero = λ f. f.written.0.not_zero; clash = λ f. same_frame rd.reg ∙ f.written.0.not_frame }
load_addr_keeps rd (SlotOffset o) met = record { class = λ c. either (not_other rd.reg c.operands.0) refl; zero = λ f. f.written.0.not_zero; clash = λ f. same_stack rd.reg ∙ f.written.0.not_stack }
load_addr_keeps rd (IncomingArg o) met = record { class = λ c. either (not_other rd.reg c.operands.0) refl; zero = λ f. f.written.0.not_zero; clash = λ f. same_stack rd.reg ∙ f.written.0.not_stack }
load_addr_keeps rd (Const k) met = record { class = λ c. either (not_other rd.reg c.operands.0) refl; zero = λ f. f.written.0.not_zero; clash = λ f. refl }
load_addr_keeps rd (Label l) met = record { class = λ c. either (not_other rd.reg c.operands.0) refl; zero = λ f. f.written.0.not_zero; clash = λ f. refl }

-- ---- calls

-- of a call's requests, after others that write nothing
call_apart : (before : List Constraint) (uses : List CallArgPair) (defs : List CallRetPair) (after : List Constraint) → definitions after ≡ [] → (all : List Constraint) → definitions all ≡ definitions (map constraint_of (map use_operand uses ++ map def_operand defs) ++ after) → AreMet all → ArePlaced all (map constraint_of (map use_operand uses ++ map def_operand defs) ++ after) → AreFree (definitions all) → results_clash defs ≡ false
call_apart before uses defs after none all same met placed free =
    let written : definitions all ≡ map into defs = same ∙ call_written uses defs after none in
    no_results_clash all defs (subst AreDistinct written met.distinct) (subst AreFree written free) (results_placed all uses defs after placed)

call_keeps : (info : CallInfo _) → AreMet (constraints_of (Call info)) → KeepsThree (Call info)
call_keeps info met =
    record {
      class = λ c. (let classes = both_classes (map use_operand info.uses) (map def_operand info.defs) c.operands in either (uses_alike info.uses classes.0) (defs_alike info.defs classes.1));
      zero = λ f. refl;
      clash = λ f. call_apart [] info.uses info.defs (RegClobbers info.clobbers ∷ []) refl _ refl met met.placed f.written;
    }

call_through_keeps : (info : CallInfo Reg) → AreMet (constraints_of (CallInd info)) → KeepsThree (CallInd info)
call_through_keeps info met =
    record {
      class = λ c. (let classes = both_classes (map use_operand info.uses) (map def_operand info.defs) c.operands.1 in either (not_other info.dest c.operands.0) (either (uses_alike info.uses classes.0) (defs_alike info.defs classes.1)));
      zero = λ f. refl;
      clash = λ f. call_apart [] info.uses info.defs (RegClobbers info.clobbers ∷ []) refl _ refl met met.placed.1 f.written;
    }

tail_call_through_keeps : (info : ReturnCallInfo Reg) → AreMet (constraints_of (ReturnCallInd info)) → KeepsThree (ReturnCallInd info)
tail_call_through_keeps info met = record {
  class = λ c. either (ap (λ r. not (is_fifth r)) met.placed.0) (uses_alike info.uses c.operands.1);
  zero = λ f. refl;
  clash = λ f. refl;
}

-- ---- words of units, whose result is asked for last

unit_class : (places : List PlacedReg) → AreOfClasses (unit_operands places) → list_any is_out_of_place places ≡ false
unit_class [] h = refl
unit_class (result ∷ sources) h =
    let parts = both_classes (map reads_at sources) (writes_at result ∷ []) h in
    either (alike (class_of result.reg) result.class parts.1.0) (pairs_alike reads_at is_out_of_place (λ p h. alike (class_of p.reg) p.class h) sources parts.0)

-- ---- sequences

third_class : (s : Sequence) (tmp3 : Option (Writable Reg)) → AreOfClasses (reads s.rs ∷ scratches s.tmp1 ∷ scratches s.tmp2 ∷ scratch_operand tmp3 ++ writes_early s.rd ∷ []) → list_any is_other_class (s.rs ∷ s.tmp1.reg ∷ s.tmp2.reg ∷ third tmp3 ++ s.rd.reg ∷ []) ≡ false
third_class s None h = either (not_other s.rs h.0) (either (not_other s.tmp1.reg h.1.0) (either (not_other s.tmp2.reg h.1.1.0) (either (not_other s.rd.reg h.1.1.1.0) refl)))
third_class s (Some w) h = either (not_other s.rs h.0) (either (not_other s.tmp1.reg h.1.0) (either (not_other s.tmp2.reg h.1.1.0) (either (not_other w.reg h.1.1.1.0) (either (not_other s.rd.reg h.1.1.1.1.0) refl))))

-- the requests of the rest of a sequence's registers
abbrev requests_with : Sequence → Option (Writable Reg) → List Constraint
requests_with s tmp3 = map constraint_of (reads s.rs ∷ scratches s.tmp1 ∷ scratches s.tmp2 ∷ scratch_operand tmp3 ++ writes_early s.rd ∷ []) ++ []

third_not_zero : (s : Sequence) (tmp3 : Option (Writable Reg)) → AreFree (definitions (requests_with s tmp3)) → list_any is_zero (s.tmp1.reg ∷ s.tmp2.reg ∷ third tmp3 ++ s.rd.reg ∷ []) ≡ false
third_not_zero s None h = either h.0.not_zero (either h.1.0.not_zero (either h.1.1.0.not_zero refl))
third_not_zero s (Some w) h = either h.0.not_zero (either h.1.0.not_zero (either h.1.1.0.not_zero (either h.1.1.1.0.not_zero refl)))

third_apart : (s : Sequence) (tmp3 : Option (Writable Reg)) → AreMet (requests_with s tmp3) → clash (s.tmp1.reg ∷ s.tmp2.reg ∷ third tmp3 ++ s.rd.reg ∷ []) (s.rs ∷ []) ≡ false
third_apart s None met = no_clash (s.tmp1.reg ∷ s.tmp2.reg ∷ s.rd.reg ∷ []) (s.rs ∷ []) met.distinct met.early
third_apart s (Some w) met = no_clash (s.tmp1.reg ∷ s.tmp2.reg ∷ w.reg ∷ s.rd.reg ∷ []) (s.rs ∷ []) met.distinct met.early

-- ---- those whose description gives their registers

regs_class : (rd : Option (Writable Reg)) (sources : List Reg) → AreOfClasses (map reads sources ++ result_operand rd) → list_any is_other_class (result_in rd ++ sources) ≡ false
regs_class None sources h = pairs_alike reads is_other_class not_other sources (both_classes (map reads sources) [] h).0
regs_class (Some w) sources h = let parts = both_classes (map reads sources) (writes w ∷ []) h in either (not_other w.reg parts.1.0) (pairs_alike reads is_other_class not_other sources parts.0)

-- what is read isn't written
none_read : (sources : List Reg) (rest : List Operand) → definitions (map constraint_of (map reads sources ++ rest) ++ []) ≡ definitions (map constraint_of rest ++ [])
none_read [] rest = refl
none_read (r ∷ sources) rest = none_read sources rest

regs_not_zero : (in_steps : Bool) (rd : Option (Writable Reg)) (sources : List Reg) → AreFree (definitions (map constraint_of (map reads sources ++ result_operand rd) ++ [])) → (in_steps && list_any is_zero (result_in rd)) ≡ false
regs_not_zero in_steps None sources h = and_none in_steps refl
regs_not_zero in_steps (Some w) sources h = and_none in_steps (either (subst AreFree (none_read sources (writes w ∷ [])) h).0.not_zero refl)

scratch_class : (scratch : Option (Writable Reg)) (others : List Reg) → AreOfClasses (scratch_operand scratch) → list_any is_other_class others ≡ false → list_any is_other_class (result_in scratch ++ others) ≡ false
scratch_class None others own alike = alike
scratch_class (Some w) others own alike = either (not_other w.reg own.0) alike

scratch_free : (scratch : Option (Writable Reg)) → AreFree (chosen (scratch_operand scratch)) → (list_any is_zero (result_in scratch) ≡ false) × (list_any is_stack (result_in scratch) ≡ false)
scratch_free None own = (refl, refl)
scratch_free (Some w) own = (either own.0.not_zero refl, either own.0.not_stack refl)

-- ---- each by its description

described_class : (d : Description) → AreOfClasses (described_operands d) → AreOfClasses (own_operands d) → (described_faults d).class ≡ described_misnamed d
described_class (Word w) h own = ap (λ c. c || not w.aside) (unit_class w.places h)
described_class (Computes s with) h own = third_class s s.tmp3 h
described_class (Gives g) h own = scratch_class g.facts.scratch (all_in g.facts.regs) own (regs_class g.facts.regs.rd (sources_in g.facts.regs) h)

described_not_zero : (d : Description) → AreFree (definitions (map constraint_of (described_operands d) ++ [])) → AreFree (chosen (own_operands d)) → (described_faults d).zeroed ≡ false
described_not_zero (Word w) h own = refl
described_not_zero (Computes s with) h own = third_not_zero s s.tmp3 h
described_not_zero (Gives g) h own = either (scratch_free g.facts.scratch own).0 (regs_not_zero g.facts.in_steps g.facts.regs.rd (sources_in g.facts.regs) h)

described_apart : (d : Description) → AreMet (map constraint_of (described_operands d) ++ []) → AreFree (chosen (own_operands d)) → (described_faults d).clashing ≡ false
described_apart (Word w) met own = refl
described_apart (Computes s with) met own = third_apart s s.tmp3 met
described_apart (Gives g) met own = (scratch_free g.facts.scratch own).1

-- ---- every kind

three : (inst : Inst) → AreMet (constraints_of inst) → KeepsThree inst
three Nop0 met = record { class = λ c. refl; zero = λ f. refl; clash = λ f. refl }
three Nop4 met = record { class = λ c. refl; zero = λ f. refl; clash = λ f. refl }
three EBreak met = record { class = λ c. refl; zero = λ f. refl; clash = λ f. refl }
three SequencePoint met = record { class = λ c. refl; zero = λ f. refl; clash = λ f. refl }
three (Args args) met = record { class = λ c. args_alike args c.operands; zero = λ f. refl; clash = λ f. refl }
three (Rets rets) met = record { class = λ c. rets_alike rets c.operands; zero = λ f. refl; clash = λ f. refl }
three (DummyUse reg) met = record { class = λ c. refl; zero = λ f. refl; clash = λ f. refl }
three (Unwind inst) met = record { class = λ c. refl; zero = λ f. refl; clash = λ f. refl }
three (EmitIsland needed_space) met = record { class = λ c. refl; zero = λ f. refl; clash = λ f. refl }
three (RawData bytes) met = record { class = λ c. refl; zero = λ f. refl; clash = λ f. refl }
three (Lui rd imm) met = record { class = λ c. either (not_other rd.reg c.operands.0) refl; zero = λ f. refl; clash = λ f. refl }
three (AluRRR op rd rs1 rs2) met = record { class = λ c. either (not_other rd.reg c.operands.1.1.0) (either (not_other rs1 c.operands.0) (either (not_other rs2 c.operands.1.0) refl)); zero = λ f. refl; clash = λ f. refl }
three (AluRRImm12 op rd rs imm) met = record { class = λ c. either (not_other rd.reg c.operands.1.0) (either (not_other rs c.operands.0) refl); zero = λ f. refl; clash = λ f. refl }
three (Mov rd rm type) met = record { class = λ c. alike (class_of rd.reg) (class_of rm) c.operands.1.0; zero = λ f. refl; clash = λ f. refl }
three (MovFromPReg rd rm) met = record { class = λ c. ap (λ b. b || not (is_stack_or_frame rm)) (not_other rd.reg c.operands.0); zero = λ f. refl; clash = λ f. refl }
three (Select info) met = select_keeps info met
three (Load rd op flags from) met = load_keeps rd op flags from met
three (Store src op flags to) met = store_keeps src op flags to met
three (LoadAddr rd mem) met = load_addr_keeps rd mem met
three Ret met = record { class = λ c. refl; zero = λ f. refl; clash = λ f. refl }
three (Jal label) met = record { class = λ c. refl; zero = λ f. refl; clash = λ f. refl }
three (CondBr taken not_taken kind) met = record { class = λ c. either (not_other kind.rs1 c.operands.0) (either (not_other kind.rs2 c.operands.1.0) refl); zero = λ f. refl; clash = λ f. refl }
three (BrTable index tmp1 tmp2 targets) met = record { class = λ c. either (not_other index c.operands.0) (either (not_other tmp1.reg c.operands.1.0) (either (not_other tmp2.reg c.operands.1.1.0) refl)); zero = λ f. either f.written.0.not_zero (either f.written.1.0.not_zero refl); clash = λ f. no_clash (tmp1.reg ∷ tmp2.reg ∷ []) (index ∷ []) met.distinct met.early }
three (Udf code) met = record { class = λ c. refl; zero = λ f. refl; clash = λ f. refl }
three (Jalr rd base offset) met = record { class = λ c. either (not_other rd.reg c.operands.1.0) (either (not_other base c.operands.0) refl); zero = λ f. refl; clash = λ f. refl }
three (Call info) met = call_keeps info met
three (CallInd info) met = call_through_keeps info met
three (ReturnCall info) met = record { class = λ c. uses_alike info.uses c.operands; zero = λ f. refl; clash = λ f. refl }
three (ReturnCallInd info) met = tail_call_through_keeps info met
three inst met = let d = description_of inst refl in record { class = λ c. described_class d c.operands c.own; zero = λ f. described_not_zero d f.written f.own; clash = λ f. described_apart d met f.own }

pub keeps : (inst : Inst) → AreMet (constraints_of inst) → KeepsRules inst
keeps inst met =
    let t = three inst met in
    record {
      virtual = λ u. quiet is_virtual inst met.placed (virtual_clear (chosen (operands_of inst)) u.operands) (virtual_clear (chosen (row_of inst).own) u.own);
      class = t.class;
      reserved = λ u. quiet is_reserved inst met.placed (reserved_clear (chosen (operands_of inst)) u.operands) (reserved_clear (chosen (row_of inst).own) u.own);
      zero = t.zero;
      clash = t.clash;
    }
