-- What an instruction is to a compiler's back end: the move, the call or the end of a block that it is.
use Rattle.std.specs.Prelude.{Bool, true, false, Option, Some, None}
use Rattle.std.proofs.Common.{refl}
use Rattle.rv_base.specs.declared.regs.Reg.{Reg}
use Rattle.rv_base.specs.declared.regs.Writable.{Writable}
use Rattle.rv_base.specs.declared.call.TryCallInfo.{TryCallInfo}
use Rattle.rv_inst.specs.Descriptions.{Description, description_of}
use Rattle.rv_inst.specs.declared.inst.Inst.{Inst}
use Rattle.rv_inst.specs.declared.inst.Inst.TheVariants.{Nop0, Nop4, EBreak, SequencePoint, Args, Rets, DummyUse, Unwind, EmitIsland, RawData, Lui, AluRRR, AluRRImm12, Mov, MovFromPReg, Select, Load, Store, LoadAddr, Ret, Jal, CondBr, BrTable, Udf, Jalr, Call, CallInd, ReturnCall, ReturnCallInd}
use Rattle.rv_operands.specs.declared.kinds.CallType.{CallType}
use Rattle.rv_operands.specs.declared.kinds.CallType.TheVariants.{None as NoCall, Regular, TailCall}
use Rattle.rv_operands.specs.declared.kinds.MachTerminator.{MachTerminator}
use Rattle.rv_operands.specs.declared.kinds.MachTerminator.TheVariants.{None as GoesOn, Branch, Ret as Returns, RetCall}

-- the register that it copies and the one that gets it, where it is a move; the call that it is, which may be none; how it ends its
-- block, if it does; whether it traps; and whether it stands for the function's arguments
pub record Roles : Type 0 where
  pub moved : Option (Writable Reg × Reg)
  pub call : CallType
  pub ends : MachTerminator
  pub traps : Bool
  pub arguments : Bool

abbrev pub plain : Roles
plain = record { moved = None; call = NoCall; ends = GoesOn; traps = false; arguments = false }

abbrev pub that_ends : MachTerminator → Roles
that_ends end = record plain { ends = end }

-- a call ends its block where it says where it goes on
abbrev pub end_by : Option TryCallInfo → MachTerminator
end_by None = GoesOn
end_by (Some info) = Branch

abbrev pub that_calls : Option TryCallInfo → Roles
that_calls info = record plain { call = Regular; ends = end_by info }

-- those that are described are none of these
abbrev pub described_roles : Description → Roles
described_roles d = plain

abbrev pub roles_of : Inst → Roles
roles_of Nop0 = plain
roles_of Nop4 = plain
roles_of EBreak = plain
roles_of SequencePoint = plain
roles_of (Args args) = record plain { arguments = true }
roles_of (Rets rets) = that_ends Returns
roles_of (DummyUse reg) = plain
roles_of (Unwind inst) = plain
roles_of (EmitIsland needed_space) = plain
roles_of (RawData bytes) = plain
roles_of (Lui rd imm) = plain
roles_of (AluRRR op rd rs1 rs2) = plain
roles_of (AluRRImm12 op rd rs imm) = plain
roles_of (Mov rd rm type) = record plain { moved = Some (rd, rm) }
roles_of (MovFromPReg rd rm) = plain
roles_of (Select info) = plain
roles_of (Load rd op flags from) = plain
roles_of (Store src op flags to) = plain
roles_of (LoadAddr rd mem) = plain
roles_of Ret = plain
roles_of (Jal label) = that_ends Branch
roles_of (CondBr taken not_taken kind) = that_ends Branch
roles_of (BrTable index tmp1 tmp2 targets) = that_ends Branch
roles_of (Udf code) = record plain { traps = true }
roles_of (Jalr rd base offset) = that_ends Branch
roles_of (Call info) = that_calls info.try_call_info
roles_of (CallInd info) = that_calls info.try_call_info
roles_of (ReturnCall info) = record (that_ends RetCall) { call = TailCall }
roles_of (ReturnCallInd info) = record (that_ends RetCall) { call = TailCall }
roles_of inst = described_roles (description_of inst refl)

-- a call that returns is a place where a collector may run
abbrev pub is_regular : CallType → Bool
is_regular NoCall = false
is_regular Regular = true
is_regular TailCall = false
