-- The table of operands: the registers of an instruction that are chosen for it, in the order in which a register allocator is asked for
-- them, and what it is told beside.
use Rattle.std.specs.Prelude.{Bool, false, not, List, [], ◌∷◌, ◌++◌, map, Option, Some, None}
use Rattle.std.proofs.Common.{lit<, refl}
use Rattle.rv_base.specs.declared.amode.AMode.{AMode}
use Rattle.rv_base.specs.declared.amode.AMode.TheVariants.{RegOffset, SPOffset, FPOffset, SlotOffset, IncomingArg, Const, Label}
use Rattle.rv_base.specs.declared.call.ArgPair.{ArgPair}
use Rattle.rv_base.specs.declared.call.RetPair.{RetPair}
use Rattle.rv_base.specs.declared.call.CallArgPair.{CallArgPair}
use Rattle.rv_base.specs.declared.call.CallRetPair.{CallRetPair}
use Rattle.rv_base.specs.declared.call.RetLocation.{RetLocation}
use Rattle.rv_base.specs.declared.call.RetLocation.TheVariants.{Reg as InReg, Stack as OnStack}
use Rattle.rv_base.specs.declared.constraint.Constraint.{Constraint}
use Rattle.rv_base.specs.declared.constraint.Constraint.TheVariants.{RegClobbers, RegDef, RegEarlyDef, RegUse}
use Rattle.rv_base.specs.declared.regs.Reg.{Reg}
use Rattle.rv_base.specs.declared.regs.Reg.TheVariants.{Real}
use Rattle.rv_base.specs.declared.regs.Writable.{Writable}
use Rattle.rv_base.specs.declared.value_regs.ValueRegs.{ValueRegs}
use Rattle.rv_base.specs.declared.value_regs.ValueRegs.TheVariants.{One, Two}
use Rattle.rv_base.specs.Regs.{class_of, int_reg}
use Rattle.rv_ops.specs.Memory.{load_class, store_class}
use Rattle.rv_inst.specs.declared.inst.Inst.{Inst}
use Rattle.rv_inst.specs.declared.inst.Inst.TheVariants.{Nop0, Nop4, EBreak, SequencePoint, Args, Rets, DummyUse, Unwind, EmitIsland, RawData, Lui, AluRRR, AluRRImm12, Mov, MovFromPReg, Select, Load, Store, LoadAddr, Ret, Jal, CondBr, BrTable, Udf, Jalr, Call, CallInd, ReturnCall, ReturnCallInd}
use Rattle.rv_inst.specs.declared.inst.SelectInfo.{SelectInfo}
use Rattle.rv_inst.specs.declared.sequence.Sequence.{Sequence}
use Rattle.rv_inst.specs.declared.units.PlacedReg.{PlacedReg}
use Rattle.rv_inst.specs.declared.units.InstRegs.{InstRegs}
use Rattle.rv_inst.specs.Operands.{unwind_registers, all_of, written_in}
use Rattle.rv_inst.specs.Rules.{class_for, is_stack_or_frame, is_uneven, values_differ}
use Rattle.rv_inst.specs.Descriptions.{Description, Word, Computes, Gives, description_of, place, sources_in}
use Rattle.rv_operands.specs.Operand.{Operand, Reads, ReadsIn, Writes, WritesIn, WritesAnywhere, of_int, reads, reads_late, writes, writes_early, scratches, reads_at, writes_at, constraint_of, WritesEarly, of_any}

-- ---- parts of instructions

-- the register of an address
abbrev pub address_operands : AMode → List Operand
address_operands (RegOffset r o) = reads r ∷ []
address_operands (SPOffset o) = []
address_operands (FPOffset o) = []
address_operands (SlotOffset o) = []
address_operands (IncomingArg o) = []
address_operands (Const k) = []
address_operands (Label l) = []

-- the registers of a value that is read, of any class
abbrev pub read_operands : ValueRegs Reg → List Operand
read_operands (One r) = of_any r Reads ∷ []
read_operands (Two r s) = of_any r Reads ∷ of_any s Reads ∷ []

-- those of one that is written; of two the first is written before the value of the second is read
abbrev pub written_operands : ValueRegs (Writable Reg) → List Operand
written_operands (One w) = of_any w.reg Writes ∷ []
written_operands (Two v w) = of_any v.reg WritesEarly ∷ of_any w.reg WritesEarly ∷ []

-- those of a choice: the compared ones are read after a result may have been written
abbrev pub select_operands : SelectInfo → List Operand
select_operands info = reads_late info.condition.rs1 ∷ reads_late info.condition.rs2 ∷ read_operands info.x ++ read_operands info.y ++ written_operands info.dst

-- the two registers of a pair have one class
abbrev pub arg_operand : ArgPair → Operand
arg_operand p = record { register = p.vreg.reg; class = Some (class_of p.preg); access = WritesIn p.preg }

abbrev pub ret_operand : RetPair → Operand
ret_operand p = record { register = p.vreg; class = Some (class_of p.preg); access = ReadsIn p.preg }

abbrev pub use_operand : CallArgPair → Operand
use_operand p = record { register = p.vreg; class = Some (class_of p.preg); access = ReadsIn p.preg }

-- a result that is left on the stack has the class of its type
abbrev pub located_operand : Reg → RetLocation → Operand
located_operand r (InReg s) = record { register = r; class = Some (class_of s); access = WritesIn s }
located_operand r (OnStack offset type) = record { register = r; class = class_for type; access = WritesAnywhere }

abbrev pub def_operand : CallRetPair → Operand
def_operand d = located_operand d.vreg.reg d.location

-- the register that a tail call through a register goes through: x5
abbrev pub fifth : Reg
fifth = int_reg 5 (lit< tt)

-- Those of one word of a unit: the first of its places is the result's, and is asked for after the others, which are read.
abbrev pub unit_operands : List PlacedReg → List Operand
unit_operands [] = []
unit_operands (result ∷ sources) = map reads_at sources ++ writes_at result ∷ []

-- Those of an instruction whose description gives its registers: those that it reads, and then that of its result.
abbrev pub result_operand : Option (Writable Reg) → List Operand
result_operand None = []
result_operand (Some w) = writes w ∷ []

abbrev pub regs_operands : InstRegs → List Operand
regs_operands r = map reads (sources_in r) ++ result_operand r.rd

-- what is asked for the registers of an instruction, as they are taken out of it
abbrev pub read_request : Option Reg → List Constraint
read_request None = []
read_request (Some r) = RegUse r ∷ []

abbrev pub written_request : Option (Writable Reg) → List Constraint
written_request None = []
written_request (Some w) = RegDef w ∷ []

abbrev pub regs_requests : InstRegs → List Constraint
regs_requests r = read_request r.rs1 ++ (read_request r.rs2 ++ (read_request r.rs3 ++ written_request r.rd))

abbrev pub early_request : Option (Writable Reg) → List Constraint
early_request None = []
early_request (Some w) = RegEarlyDef w ∷ []

abbrev pub sequence_requests : Sequence → List Constraint
sequence_requests s = RegUse s.rs ∷ (RegEarlyDef s.tmp1 ∷ RegEarlyDef s.tmp2 ∷ []) ++ (early_request s.tmp3 ++ RegEarlyDef s.rd ∷ [])

-- a temporary, where there is one
abbrev pub scratch_operand : Option (Writable Reg) → List Operand
scratch_operand None = []
scratch_operand (Some w) = scratches w ∷ []

-- Those of a sequence: its temporaries and its result are written while its source is still read.
abbrev pub sequence_operands : Sequence → List Operand
sequence_operands s = reads s.rs ∷ scratches s.tmp1 ∷ scratches s.tmp2 ∷ scratch_operand s.tmp3 ++ writes_early s.rd ∷ []

-- the temporary of which its maker chooses the register
abbrev pub own_operands : Description → List Operand
own_operands (Word w) = []
own_operands (Computes s with) = []
own_operands (Gives g) = scratch_operand g.facts.scratch

abbrev pub described_operands : Description → List Operand
described_operands (Word w) = unit_operands w.places
described_operands (Computes s with) = sequence_operands s
described_operands (Gives g) = regs_operands g.facts.regs

-- ---- the table

-- The operands; the registers that the instruction overwrites beside; temporaries of its own that no allocator is asked for, since who
-- makes the instruction chooses them; registers that it names by itself, and whether one of these is another than its place asks, or values
-- of which one is chosen are of classes that no choice of registers mends, or what is not read is not x0; and whether lists of registers differ in length.
pub record Row : Type 0 where
  pub operands : List Operand
  pub clobbers : List Constraint
  pub own : List Operand
  pub named : List Reg
  pub misnamed : Bool
  pub uneven : Bool

abbrev pub row : List Operand → Row
row operands = record { operands = operands; clobbers = []; own = []; named = []; misnamed = false; uneven = false }

-- a register that a unit's operation doesn't read is x0
abbrev pub described_misnamed : Description → Bool
described_misnamed (Word w) = not w.aside
described_misnamed (Computes s with) = false
described_misnamed (Gives g) = false

abbrev pub described_row : Description → Row
described_row d = record (row (described_operands d)) { own = own_operands d; misnamed = described_misnamed d }

abbrev pub row_of : Inst → Row
row_of Nop0 = row []
row_of Nop4 = row []
row_of EBreak = row []
row_of SequencePoint = row []
row_of (Args args) = row (map arg_operand args)
row_of (Rets rets) = row (map ret_operand rets)
row_of (DummyUse reg) = row (record { register = reg; class = None; access = Reads } ∷ [])
row_of (Unwind inst) = record (row []) { named = unwind_registers inst }
row_of (EmitIsland needed_space) = row []
row_of (RawData bytes) = row []
row_of (Lui rd imm) = row (writes rd ∷ [])
row_of (AluRRR op rd rs1 rs2) = row (reads rs1 ∷ reads rs2 ∷ writes rd ∷ [])
row_of (AluRRImm12 op rd rs imm) = row (reads rs ∷ writes rd ∷ [])
row_of (Mov rd rm type) = row (record { register = rm; class = Some (class_of rd.reg); access = Reads } ∷ record { register = rd.reg; class = Some (class_of rm); access = Writes } ∷ [])
row_of (MovFromPReg rd rm) = record (row (writes rd ∷ [])) { named = Real rm ∷ []; misnamed = not (is_stack_or_frame rm) }
row_of (Select info) = record (row (select_operands info)) { misnamed = values_differ (written_in info.dst) (all_of info.x) (all_of info.y); uneven = is_uneven info.dst info.x info.y }
row_of (Load rd op flags from) = row (address_operands from ++ writes_at (place (load_class op) rd.reg) ∷ [])
row_of (Store src op flags to) = row (address_operands to ++ reads_at (place (store_class op) src) ∷ [])
row_of (LoadAddr rd mem) = row (address_operands mem ++ writes_early rd ∷ [])
row_of Ret = row []
row_of (Jal label) = row []
row_of (CondBr taken not_taken kind) = row (reads kind.rs1 ∷ reads kind.rs2 ∷ [])
row_of (BrTable index tmp1 tmp2 targets) = row (reads index ∷ scratches tmp1 ∷ scratches tmp2 ∷ [])
row_of (Udf code) = row []
row_of (Jalr rd base offset) = row (reads base ∷ writes rd ∷ [])
row_of (Call info) = record (row (map use_operand info.uses ++ map def_operand info.defs)) { clobbers = RegClobbers info.clobbers ∷ [] }
row_of (CallInd info) = record (row (reads info.dest ∷ map use_operand info.uses ++ map def_operand info.defs)) { clobbers = RegClobbers info.clobbers ∷ [] }
row_of (ReturnCall info) = row (map use_operand info.uses)
row_of (ReturnCallInd info) = row (of_int info.dest (ReadsIn fifth) ∷ map use_operand info.uses)
row_of inst = described_row (description_of inst refl)

abbrev pub operands_of : Inst → List Operand
operands_of inst = (row_of inst).operands

-- what a register allocator is asked: a constraint for each operand, and then the registers that are overwritten
abbrev pub constraints_of : Inst → List Constraint
constraints_of inst = map constraint_of (operands_of inst) ++ (row_of inst).clobbers
