-- What a register allocator leaves of an instruction: all but the registers of its operands, of which it keeps the class.
use Rattle.std.specs.Prelude.{map, option_map}
use Rattle.std.proofs.Common.{lit<, refl}
use Rattle.rv_base.specs.declared.amode.AMode.{AMode}
use Rattle.rv_base.specs.declared.amode.AMode.TheVariants.{RegOffset, SPOffset, FPOffset, SlotOffset, IncomingArg, Const, Label}
use Rattle.rv_base.specs.declared.call.ArgPair.{ArgPair}
use Rattle.rv_base.specs.declared.call.RetPair.{RetPair}
use Rattle.rv_base.specs.declared.call.CallArgPair.{CallArgPair}
use Rattle.rv_base.specs.declared.call.CallRetPair.{CallRetPair}
use Rattle.rv_base.specs.declared.call.CallInfo.{CallInfo}
use Rattle.rv_base.specs.declared.call.ReturnCallInfo.{ReturnCallInfo}
use Rattle.rv_base.specs.declared.regs.Reg.{Reg}
use Rattle.rv_base.specs.declared.regs.Reg.TheVariants.{Real}
use Rattle.rv_base.specs.declared.regs.RegClass.{RegClass}
use Rattle.rv_base.specs.declared.regs.Writable.{Writable}
use Rattle.rv_base.specs.declared.value_regs.ValueRegs.{ValueRegs}
use Rattle.rv_base.specs.declared.value_regs.ValueRegs.TheVariants.{One, Two}
use Rattle.rv_base.specs.Regs.{class_of}
use Rattle.rv_ops.specs.declared.compare.IntegerCompare.{IntegerCompare}
use Rattle.rv_inst.specs.declared.inst.SelectInfo.{SelectInfo}
use Rattle.rv_inst.specs.declared.inst.Inst.{Inst}
use Rattle.rv_inst.specs.declared.inst.Inst.TheVariants.{Nop0, Nop4, EBreak, SequencePoint, Args, Rets, DummyUse, Unwind, EmitIsland, RawData, Lui, AluRRR, AluRRImm12, Mov, MovFromPReg, Select, Load, Store, LoadAddr, Ret, Jal, CondBr, BrTable, Udf, Jalr, Call, CallInd, ReturnCall, ReturnCallInd}
use Rattle.rv_inst.specs.Descriptions.{Description, Given, UnitWord, Word, Computes, Gives, description_of, in_order, registers_in, regs}
use Rattle.rv_inst.specs.declared.sequence.Sequence.{Sequence}
use Rattle.rv_inst.specs.declared.units.InstRegs.{InstRegs}

-- ---- parts of instructions

-- the first register of a register's class
abbrev pub first_of_class : RegClass → Reg
first_of_class class = Real (record { class = class; number = 0; in_file = lit< tt })

abbrev pub blank : Reg → Reg
blank r = first_of_class (class_of r)

abbrev pub blanked : Writable Reg → Writable Reg
blanked w = record { reg = blank w.reg }

abbrev pub address_shape : AMode → AMode
address_shape (RegOffset r o) = RegOffset (blank r) o
address_shape (SPOffset o) = SPOffset o
address_shape (FPOffset o) = FPOffset o
address_shape (SlotOffset o) = SlotOffset o
address_shape (IncomingArg o) = IncomingArg o
address_shape (Const k) = Const k
address_shape (Label l) = Label l

abbrev pub read_shape : ValueRegs Reg → ValueRegs Reg
read_shape (One r) = One (blank r)
read_shape (Two r s) = Two (blank r) (blank s)

abbrev pub written_shape : ValueRegs (Writable Reg) → ValueRegs (Writable Reg)
written_shape (One w) = One (blanked w)
written_shape (Two v w) = Two (blanked v) (blanked w)

abbrev pub compare_shape : IntegerCompare → IntegerCompare
compare_shape c = record c { rs1 = blank c.rs1; rs2 = blank c.rs2 }

abbrev pub select_shape : SelectInfo → SelectInfo
select_shape info = record { dst = written_shape info.dst; condition = compare_shape info.condition; x = read_shape info.x; y = read_shape info.y }

abbrev pub arg_shape : ArgPair → ArgPair
arg_shape p = record p { vreg = blanked p.vreg }

abbrev pub ret_shape : RetPair → RetPair
ret_shape p = record p { vreg = blank p.vreg }

abbrev pub use_shape : CallArgPair → CallArgPair
use_shape p = record p { vreg = blank p.vreg }

abbrev pub def_shape : CallRetPair → CallRetPair
def_shape d = record d { vreg = blanked d.vreg }

-- of a call; of one through a register; and of a tail call
abbrev pub call_shape : {T : Type 0} → CallInfo T → CallInfo T
call_shape info = record info { uses = map use_shape info.uses; defs = map def_shape info.defs }

abbrev pub call_through_shape : CallInfo Reg → CallInfo Reg
call_through_shape info = record (call_shape info) { dest = blank info.dest }

abbrev pub tail_call_shape : {T : Type 0} → ReturnCallInfo T → ReturnCallInfo T
tail_call_shape info = record info { uses = map use_shape info.uses }

abbrev pub tail_call_through_shape : ReturnCallInfo Reg → ReturnCallInfo Reg
tail_call_through_shape info = record (tail_call_shape info) { dest = blank info.dest }

-- of the registers of an instruction, of a word of a unit, and of one whose description gives its registers
abbrev pub blank_regs : InstRegs → InstRegs
blank_regs r = regs (option_map blanked r.rd) (option_map blank r.rs1) (option_map blank r.rs2) (option_map blank r.rs3)

abbrev pub unit_shape : UnitWord → Inst
unit_shape w = w.with_registers (blank_regs (in_order (registers_in w.places)))

abbrev pub given_shape : Given → Inst
given_shape g = g.with_registers (blank_regs g.facts.regs)

-- and of a sequence
abbrev pub sequence_shape : Sequence → Sequence
sequence_shape s = record s { rs = blank s.rs; tmp1 = blanked s.tmp1; tmp2 = blanked s.tmp2; tmp3 = option_map blanked s.tmp3; rd = blanked s.rd }

abbrev pub described_shape : Description → Inst
described_shape (Word w) = unit_shape w
described_shape (Computes s with) = with (sequence_shape s)
described_shape (Gives g) = given_shape g

-- ---- instructions

abbrev pub shape_of : Inst → Inst
shape_of Nop0 = Nop0
shape_of Nop4 = Nop4
shape_of EBreak = EBreak
shape_of SequencePoint = SequencePoint
shape_of (Args args) = Args (map arg_shape args)
shape_of (Rets rets) = Rets (map ret_shape rets)
shape_of (DummyUse reg) = DummyUse (blank reg)
shape_of (Unwind inst) = Unwind inst
shape_of (EmitIsland needed_space) = EmitIsland needed_space
shape_of (RawData bytes) = RawData bytes
shape_of (Lui rd imm) = Lui (blanked rd) imm
shape_of (AluRRR op rd rs1 rs2) = AluRRR op (blanked rd) (blank rs1) (blank rs2)
shape_of (AluRRImm12 op rd rs imm) = AluRRImm12 op (blanked rd) (blank rs) imm
shape_of (Mov rd rm type) = Mov (blanked rd) (blank rm) type
shape_of (MovFromPReg rd rm) = MovFromPReg (blanked rd) rm
shape_of (Select info) = Select (select_shape info)
shape_of (Load rd op flags from) = Load (blanked rd) op flags (address_shape from)
shape_of (Store src op flags to) = Store (blank src) op flags (address_shape to)
shape_of (LoadAddr rd mem) = LoadAddr (blanked rd) (address_shape mem)
shape_of Ret = Ret
shape_of (Jal label) = Jal label
shape_of (CondBr taken not_taken kind) = CondBr taken not_taken (compare_shape kind)
shape_of (BrTable index tmp1 tmp2 targets) = BrTable (blank index) (blanked tmp1) (blanked tmp2) targets
shape_of (Udf code) = Udf code
shape_of (Jalr rd base offset) = Jalr (blanked rd) (blank base) offset
shape_of (Call info) = Call (call_shape info)
shape_of (CallInd info) = CallInd (call_through_shape info)
shape_of (ReturnCall info) = ReturnCall (tail_call_shape info)
shape_of (ReturnCallInd info) = ReturnCallInd (tail_call_through_shape info)
shape_of inst = described_shape (description_of inst refl)
