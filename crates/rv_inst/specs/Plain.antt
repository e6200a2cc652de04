-- Instructions of which one look at their fields tells that they break no rule.
use Rattle.std.specs.Prelude.{◌≡◌, Bool, false, not, ◌&&◌, [], ◌∷◌, ◌++◌, None}
use Rattle.std.specs.List.{list_all, list_any}
use Rattle.std.proofs.Common.{refl}
use Rattle.rv_base.specs.declared.amode.AMode.{AMode}
use Rattle.rv_base.specs.declared.amode.AMode.TheVariants.{RegOffset, SPOffset, FPOffset, SlotOffset, IncomingArg, Const, Label}
use Rattle.rv_base.specs.declared.regs.Reg.{Reg}
use Rattle.rv_ops.specs.Memory.{is_float_load, is_float_store}
use Rattle.rv_ops.specs.Operations.{immediate_of, shift_limit}
use Rattle.rv_inst.specs.declared.inst.Inst.{Inst}
use Rattle.rv_inst.specs.declared.inst.Inst.TheVariants.{Nop0, Nop4, EBreak, SequencePoint, Args, Rets, DummyUse, Unwind, EmitIsland, RawData, Lui, AluRRR, AluRRImm12, Mov, MovFromPReg, Select, Load, Store, LoadAddr, Ret, Jal, CondBr, BrTable, Udf, Jalr, Call, CallInd, ReturnCall, ReturnCallInd}
use Rattle.rv_inst.specs.Addresses.{is_distant}
use Rattle.rv_inst.specs.Context.{Context}
use Rattle.rv_inst.specs.Operands.{tail_call_of, target_labels}
use Rattle.rv_inst.specs.Rules.{is_virtual, is_other_class, is_reserved, is_int_type, is_beyond, is_fallthrough, is_buffer_label, inst_rule}
use Rattle.rv_inst.specs.Sizes.{inst_sum, line_size}
use Rattle.rv_inst.specs.Descriptions.{Description, description_of}

-- a register of which no rule is broken: an integer register of the machine other than x30 and x31
abbrev pub is_usable : Reg → Bool
is_usable r = not (is_virtual r) && (not (is_other_class r) && not (is_reserved r))

-- an address from a usable register or in the frame, whose offset isn't distant
abbrev pub is_plain_address : AMode → Bool
is_plain_address (RegOffset r o) = is_usable r && not (is_distant o)
is_plain_address (SPOffset o) = not (is_distant o)
is_plain_address (FPOffset o) = not (is_distant o)
is_plain_address (SlotOffset o) = not (is_distant o)
is_plain_address (IncomingArg o) = not (is_distant o)
is_plain_address (Const k) = false
is_plain_address (Label l) = false

-- those that are described are fewer, and so are loads and stores of floating-point registers
abbrev pub described_is_plain : Description → Bool
described_is_plain d = false

-- the most usual instructions, where they are so
abbrev pub is_plain : Inst → Bool
is_plain Nop0 = false
is_plain Nop4 = false
is_plain EBreak = false
is_plain SequencePoint = false
is_plain (Args args) = false
is_plain (Rets rets) = false
is_plain (DummyUse reg) = false
is_plain (Unwind inst) = false
is_plain (EmitIsland needed_space) = false
is_plain (RawData bytes) = false
is_plain (Lui rd imm) = is_usable rd.reg
is_plain (AluRRR op rd rs1 rs2) = list_all is_usable (rd.reg ∷ rs1 ∷ rs2 ∷ [])
is_plain (AluRRImm12 op rd rs imm) = list_all is_usable (rd.reg ∷ rs ∷ []) && not (is_beyond (shift_limit (immediate_of op)) imm.value)
is_plain (Mov rd rm type) = list_all is_usable (rd.reg ∷ rm ∷ []) && is_int_type type
is_plain (MovFromPReg rd rm) = false
is_plain (Select info) = false
is_plain (Load rd op access from) = not (is_float_load op) && (is_usable rd.reg && is_plain_address from)
is_plain (Store src op access to) = not (is_float_store op) && (is_usable src && is_plain_address to)
is_plain (LoadAddr rd mem) = false
is_plain Ret = false
is_plain (Jal label) = not (is_buffer_label label)
is_plain (CondBr taken not_taken kind) =
    list_all is_usable (kind.rs1 ∷ kind.rs2 ∷ []) &&
    (not (is_fallthrough taken) && not (list_any is_buffer_label (target_labels taken ++ target_labels not_taken)))
is_plain (BrTable index tmp1 tmp2 targets) = false
is_plain (Udf code) = false
is_plain (Jalr rd base offset) = false
is_plain (Call info) = false
is_plain (CallInd info) = false
is_plain (ReturnCall info) = false
is_plain (ReturnCallInd info) = false
is_plain inst = described_is_plain (description_of inst refl)

-- an instruction that breaks no rule in any context, counts for what each line does, and is no tail call
pub record IsPlain (inst : Inst) : Type 0 where
  pub rules : (context : Context) → inst_rule context inst ≡ None
  pub size : (context : Context) → inst_sum context inst ≡ line_size
  pub tail : tail_call_of inst ≡ None
