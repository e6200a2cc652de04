-- The registers of an instruction that is described by them, and of a sequence, taken out of it, handed over and put back.
use Rattle.std.specs.Prelude.{List, [], Option, Some, None, is_some, true, Result, option_map}
use Rattle.std.proofs.Common.{◌≡◌, refl, ap, sym, ◌∙◌, subst}
use Rattle.rv_base.specs.declared.constraint.Constraint.{Constraint}
use Rattle.rv_base.specs.declared.out_of_memory.OutOfMemory.{OutOfMemory}
use Rattle.rv_base.specs.declared.regs.Reg.{Reg}
use Rattle.rv_base.specs.declared.regs.Writable.{Writable}
use Rattle.rv_inst.proofs.Descriptions.{registers_after, sequence_after}
use Rattle.rv_inst.specs.Operands.{family_of}
use Rattle.rv_inst.specs.Descriptions.{all_replaced, described_regs, regs, replaced, replaced_by, sequence_of, with_registers, with_sequence}
use Rattle.rv_base.specs.declared.amode.AMode.{AMode}
use Rattle.rv_base.specs.declared.ir_type.IrType.{IrType}
use Rattle.rv_base.specs.declared.label.MachLabel.{MachLabel}
use Rattle.rv_base.specs.declared.mem_flags.MemFlagsData.{MemFlagsData}
use Rattle.rv_base.specs.declared.regs.PReg.{PReg}
use Rattle.rv_imms.specs.declared.imm12.Imm12.{Imm12}
use Rattle.rv_imms.specs.declared.imm20.Imm20.{Imm20}
use Rattle.rv_ops.specs.declared.alu.AluOPRRI.{AluOPRRI}
use Rattle.rv_ops.specs.declared.alu.AluOPRRR.{AluOPRRR}
use Rattle.rv_ops.specs.declared.compare.IntegerCompare.{IntegerCompare}
use Rattle.rv_ops.specs.declared.memory.LoadOP.{LoadOP}
use Rattle.rv_ops.specs.declared.memory.StoreOP.{StoreOP}
use Rattle.rv_inst.specs.declared.inst.CondBrTarget.{CondBrTarget}
use Rattle.rv_inst.specs.declared.inst.SelectInfo.{SelectInfo}
use Rattle.rv_inst.specs.declared.inst.Family.TheVariants.{Integer, Memory, Control, Symbols, Float}
use Rattle.rv_inst.specs.declared.inst.Inst.{Inst}
use Rattle.rv_inst.specs.declared.inst.Inst.TheVariants.{Nop0, Lui, AluRRR, AluRRImm12, Mov, MovFromPReg, Select, Load, Store, LoadAddr, CondBr, BrTable, Jalr}
use Rattle.rv_inst.specs.declared.sequence.Computation.{Computation}
use Rattle.rv_inst.specs.declared.sequence.Sequence.{Sequence}
use Rattle.rv_inst.specs.declared.units.InstRegs.{InstRegs}
use Rattle.rv_operands.specs.Operands.{constraints_of, sequence_requests, regs_requests}
use Rattle.rv_operands.specs.Shapes.{blank, blanked, blank_regs, sequence_shape, shape_of}
use Rattle.rv_operands.specs.Visits.{AreHandedOver}

-- where one is given exactly for each that there is, those given are all
given_all : {A : Type 0} (shape : A → A) (other own : Option A) → option_map shape other ≡ option_map shape own → replaced other own ≡ other
given_all shape None None e = refl
given_all shape (Some r) None e = absurd (cc)
given_all shape None (Some s) e = absurd (cc)
given_all shape (Some r) (Some s) e = refl

all_given : (other own : InstRegs) → blank_regs other ≡ blank_regs own → all_replaced other own ≡ other
all_given other own e =
    let rd = given_all blanked other.rd own.rd (ap (λ (r : InstRegs). r.rd) e) in
    let rs1 = given_all blank other.rs1 own.rs1 (ap (λ (r : InstRegs). r.rs1) e) in
    let rs2 = given_all blank other.rs2 own.rs2 (ap (λ (r : InstRegs). r.rs2) e) in
    let rs3 = given_all blank other.rs3 own.rs3 (ap (λ (r : InstRegs). r.rs3) e) in
    (λ i. regs (rd i) (rs1 i) (rs2 i) (rs3 i))

pub unit_asks : (inst : Inst) → family_of inst ≡ Float → constraints_of inst ≡ regs_requests (described_regs inst)
unit_asks Nop0 e = absurd (cc)
unit_asks inst e = cc

pub symbol_asks : (inst : Inst) → family_of inst ≡ Symbols → constraints_of inst ≡ regs_requests (described_regs inst)
symbol_asks Nop0 e = absurd (cc)
symbol_asks inst e = cc

-- of integer instructions, of those of memory and of those that go elsewhere all do so that aren't handed over each in its own way
pub integer_asks : (inst : Inst) → ((rd : Writable Reg) (imm : Imm20) → inst ≡ Lui rd imm → ⊥) →
    ((op : AluOPRRR) (rd : Writable Reg) (rs1 rs2 : Reg) → inst ≡ AluRRR op rd rs1 rs2 → ⊥) → ((op : AluOPRRI) (rd : Writable Reg) (rs : Reg) (imm : Imm12) → inst ≡ AluRRImm12 op rd rs imm → ⊥) → ((rd : Writable Reg) (rm : Reg) (type : IrType) → inst ≡ Mov rd rm type → ⊥) →
    ((rd : Writable Reg) (rm : PReg) → inst ≡ MovFromPReg rd rm → ⊥) → ((info : SelectInfo) → inst ≡ Select info → ⊥) → family_of inst ≡ Integer → constraints_of inst ≡ regs_requests (described_regs inst)
integer_asks (Lui rd imm) lui rrr rri mov preg select e = absurd (lui rd imm refl)
integer_asks (AluRRR op rd rs1 rs2) lui rrr rri mov preg select e = absurd (rrr op rd rs1 rs2 refl)
integer_asks (AluRRImm12 op rd rs imm) lui rrr rri mov preg select e = absurd (rri op rd rs imm refl)
integer_asks (Mov rd rm type) lui rrr rri mov preg select e = absurd (mov rd rm type refl)
integer_asks (MovFromPReg rd rm) lui rrr rri mov preg select e = absurd (preg rd rm refl)
integer_asks (Select info) lui rrr rri mov preg select e = absurd (select info refl)
integer_asks inst lui rrr rri mov preg select e = cc

pub memory_asks : (inst : Inst) → ((rd : Writable Reg) (op : LoadOP) (flags : MemFlagsData) (from : AMode) → inst ≡ Load rd op flags from → ⊥) → ((src : Reg) (op : StoreOP) (flags : MemFlagsData) (to : AMode) → inst ≡ Store src op flags to → ⊥) →
    ((rd : Writable Reg) (mem : AMode) → inst ≡ LoadAddr rd mem → ⊥) → family_of inst ≡ Memory → constraints_of inst ≡ regs_requests (described_regs inst)
memory_asks (Load rd op flags from) load store address e = absurd (load rd op flags from refl)
memory_asks (Store src op flags to) load store address e = absurd (store src op flags to refl)
memory_asks (LoadAddr rd mem) load store address e = absurd (address rd mem refl)
memory_asks inst load store address e = cc

pub control_asks : (inst : Inst) → ((taken not_taken : CondBrTarget) (kind : IntegerCompare) → inst ≡ CondBr taken not_taken kind → ⊥) → ((index : Reg) (tmp1 tmp2 : Writable Reg) (targets : List MachLabel) → inst ≡ BrTable index tmp1 tmp2 targets → ⊥) →
    ((rd : Writable Reg) (base : Reg) (offset : Imm12) → inst ≡ Jalr rd base offset → ⊥) → family_of inst ≡ Control → constraints_of inst ≡ regs_requests (described_regs inst)
control_asks (CondBr taken not_taken kind) branch table jump e = absurd (branch taken not_taken kind refl)
control_asks (BrTable index tmp1 tmp2 targets) branch table jump e = absurd (table index tmp1 tmp2 targets refl)
control_asks (Jalr rd base offset) branch table jump e = absurd (jump rd base offset refl)
control_asks inst branch table jump e = cc

asks_same : (inst : Inst) (other : InstRegs) → constraints_of inst ≡ regs_requests (described_regs inst) → constraints_of (with_registers inst other) ≡ regs_requests (described_regs (with_registers inst other))
asks_same Nop0 other e = e
asks_same inst other e = cc

asks_after : (inst : Inst) (other : InstRegs) → constraints_of inst ≡ regs_requests (described_regs inst) → blank_regs other ≡ blank_regs (described_regs inst) → constraints_of (with_registers inst other) ≡ regs_requests other
asks_after inst other asks same = asks_same inst other asks ∙ ap regs_requests (registers_after inst other ∙ all_given other (described_regs inst) same)

shape_same : (inst : Inst) (other : InstRegs) → blank_regs (described_regs (with_registers inst other)) ≡ blank_regs (described_regs inst) → shape_of (with_registers inst other) ≡ shape_of inst
shape_same Nop0 other e = refl
shape_same inst other e = cc

pub shape_kept : (inst : Inst) (other : InstRegs) → blank_regs other ≡ blank_regs (described_regs inst) → shape_of (with_registers inst other) ≡ shape_of inst
shape_kept inst other same = shape_same inst other (ap blank_regs (registers_after inst other ∙ all_given other (described_regs inst) same) ∙ same)

-- ---- sequences

abbrev requests_by : Option Sequence → List Constraint
requests_by None = []
requests_by (Some s) = sequence_requests s

abbrev replaced_in : Sequence → Option Sequence → Sequence
replaced_in other None = other
replaced_in other (Some own) = replaced_by other own

asks_by : (inst : Inst) → is_some (sequence_of inst) ≡ true → constraints_of inst ≡ requests_by (sequence_of inst)
asks_by Nop0 e = absurd (cc)
asks_by inst e = cc

some_asks : (inst : Inst) (own : Sequence) → sequence_of inst ≡ Some own → constraints_of inst ≡ sequence_requests own
some_asks inst own e = asks_by inst (ap is_some e) ∙ ap requests_by e

abbrev with_parts : Sequence → Computation → Option (Writable Reg) → Sequence
with_parts s computation tmp3 = record s { computation = computation; tmp3 = tmp3 }

sequence_given : (other own : Sequence) → sequence_shape other ≡ sequence_shape own → replaced_by other own ≡ other
sequence_given other own e =
    let same = ap (λ (s : Sequence). s.computation) e in
    let tmp3 = given_all blanked other.tmp3 own.tmp3 (ap (λ (s : Sequence). s.tmp3) e) in
    (λ i. with_parts other (sym same i) (tmp3 i))

shape_after : (inst : Inst) (other : Sequence) → is_some (sequence_of inst) ≡ true → shape_of (with_sequence inst other) ≡ with_sequence inst (sequence_shape (replaced_in other (sequence_of inst)))
shape_after Nop0 other e = absurd (cc)
shape_after inst other e = cc

abbrev shape_by : Inst → Option Sequence → Inst
shape_by inst None = inst
shape_by inst (Some s) = with_sequence inst (sequence_shape s)

own_shape : (inst : Inst) → is_some (sequence_of inst) ≡ true → shape_by inst (sequence_of inst) ≡ shape_of inst
own_shape Nop0 e = absurd (cc)
own_shape inst e = cc

pub sequence_shape_kept : (inst : Inst) (own other : Sequence) → sequence_of inst ≡ Some own → sequence_shape other ≡ sequence_shape own → shape_of (with_sequence inst other) ≡ shape_of inst
sequence_shape_kept inst own other e same =
    shape_after inst other (ap is_some e)
    ∙ ap (λ o. with_sequence inst (sequence_shape (replaced_in other o))) e
    ∙ ap (λ s. with_sequence inst (sequence_shape s)) (sequence_given other own same)
    ∙ ap (with_sequence inst) same
    ∙ ap (shape_by inst) (sym e)
    ∙ own_shape inst (ap is_some e)

module _ {S : Type 0} {recorded : S → List Constraint} {given : S → List Reg} where
  pub regs_handed : {result : Result (Unit {0}) OutOfMemory} {old new : S} (inst : Inst) (other : InstRegs) → constraints_of inst ≡ regs_requests (described_regs inst) → blank_regs other ≡ blank_regs (described_regs inst) → AreHandedOver recorded given result old new (regs_requests (described_regs inst)) (regs_requests other) → AreHandedOver recorded given result old new (constraints_of inst) (constraints_of (with_registers inst other))
  regs_handed {result} {old} {new} inst other asks same h =
      subst (λ l. AreHandedOver recorded given result old new l (constraints_of (with_registers inst other))) (sym asks)
      (subst (λ l. AreHandedOver recorded given result old new (regs_requests (described_regs inst)) l) (sym (asks_after inst other asks same)) h)

  pub sequence_handed : {result : Result (Unit {0}) OutOfMemory} {old new : S} (inst : Inst) (own other : Sequence) → sequence_of inst ≡ Some own → sequence_shape other ≡ sequence_shape own → AreHandedOver recorded given result old new (sequence_requests own) (sequence_requests other) → AreHandedOver recorded given result old new (constraints_of inst) (constraints_of (with_sequence inst other))
  sequence_handed {result} {old} {new} inst own other e same h =
      let answered = some_asks (with_sequence inst other) other (sequence_after inst other ∙ ap (option_map (replaced_by other)) e ∙ ap Some (sequence_given other own same)) in
      subst (λ l. AreHandedOver recorded given result old new l (constraints_of (with_sequence inst other))) (sym (some_asks inst own e))
      (subst (λ l. AreHandedOver recorded given result old new (sequence_requests own) l) (sym answered) h)
