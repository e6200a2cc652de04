-- What a line means: what it makes of the values, and how it is left.
use Rattle.std.specs.Prelude.{◌⊎◌, ℕ, zero, suc, ◌+◌, ◌-◌, ◌*◌, ◌/◌, ◌^◌, ◌<◌, ◌≤◌, ◌==◌, if◌then◌else◌, List, [], ◌∷◌, length, slice_index, slice_get, unwrap_or, map, Option, Some, None, ℤ, pos}
use Rattle.std.proofs.Common.{refl}
use Rattle.rv_base.specs.declared.amode.AMode.{AMode}
use Rattle.rv_base.specs.declared.call.TryCallInfo.{TryCallInfo}
use Rattle.rv_base.specs.declared.frame.FrameLayout.{FrameLayout}
use Rattle.rv_base.specs.declared.label.MachLabel.{MachLabel}
use Rattle.rv_base.specs.IrType.{bits_of}
use Rattle.rv_base.specs.Regs.{number_of}
use Rattle.rv_base.specs.declared.regs.Reg.{Reg}
use Rattle.rv_ops.specs.declared.alu.AluOPRRR.{AluOPRRR}
use Rattle.rv_ops.specs.declared.alu.AluOPRRI.{AluOPRRI}
use Rattle.rv_ops.specs.declared.memory.LoadOP.{LoadOP}
use Rattle.rv_ops.specs.declared.memory.StoreOP.{StoreOP}
use Rattle.rv_ops.specs.Operations.{is_exchanged, rrr_op, rri_op}
use Rattle.rv_encode.specs.Operations.{load_op, store_op}
use Rattle.rv_inst.specs.Addresses.{Location, Based, AtLabel, AtConstant, location_of}
use Rattle.rv_ops.specs.Memory.{is_float_load, is_float_store, store_size}
use Rattle.rv_inst.specs.Bits.{computed}
pub use Rattle.rv_inst.specs.Effects.{addresses_from, constant_of, Environment, Exit, Next, To, Leave, Break, Trap, Data, Meaning, compares, goes, probes_from, probes_of, put_bytes, symbol_at, zero_bytes}
use Rattle.rv_inst.specs.Operands.{all_of, written_in, Return, inst_temporaries, try_call_of, return_of}
use Rattle.rv_inst.specs.Returns.{StackLoad, restores, frame_above}
use Rattle.rv_inst.specs.Descriptions.{Description, UnitWord, Word, Computes, Gives, description_of}
use Rattle.rv_inst.specs.declared.inst.Line.{Line}
use Rattle.rv_inst.specs.declared.inst.Line.TheVariants.{Inst as Put, Bind}
use Rattle.rv_inst.specs.declared.inst.Inst.{Inst}
use Rattle.rv_inst.specs.declared.inst.Inst.TheVariants.{Nop0, Nop4, EBreak, SequencePoint, Args, Rets, DummyUse, Unwind, EmitIsland, RawData, Lui, AluRRR, AluRRImm12, Mov, MovFromPReg, Select, Load, Store, LoadAddr, Ret, Jal, CondBr, BrTable, Udf, Jalr, Call, CallInd, ReturnCall, ReturnCallInd}
use Rattle.rv_inst.specs.declared.inst.CondBrTarget.{CondBrTarget}
use Rattle.rv_inst.specs.declared.inst.CondBrTarget.TheVariants.{Label, Fallthrough}
use Rattle.rv_machine.specs.State.{Values, reg, set_reg, wrap, low64}
use Rattle.rv_machine.specs.Memory.{load_result, store_bytes}
use Rattle.rv_machine.specs.Arithmetic.{low_word}
use Rattle.rv_machine.specs.Effects.{alu_result}

-- ---- values

-- an operation of two registers: the manual's operation of that name, of which sgt and sgtu exchange the sources; of Zbc and Zbkb packw of
-- x0 alone, and of others it means nothing
abbrev pub alu_rrr : AluOPRRR → ℕ → ℕ → ℕ
alu_rrr op x y = if is_exchanged op then alu_result (rrr_op op) y x 0 else alu_result (rrr_op op) x y 0

-- an operation of a register and an immediate: the manual's operation of that name; of Zbkb it means nothing
abbrev pub alu_rri : AluOPRRI → ℕ → ℤ → ℕ
alu_rri op x n = alu_result (rri_op op) x 0 (low64 n)

-- the address of a location
abbrev pub address_at : Environment → Values → Location → ℕ
address_at env v (Based r o) = wrap (reg v r + low64 o)
address_at env v (AtLabel l) = env.label l.number
address_at env v (AtConstant k) = env.constant k.number

-- the address of a load or a store
abbrev pub address_of : Environment → AMode → Values → ℕ
address_of env mode v = address_at env v (location_of env.frame mode)

-- registers, by their numbers, get values, each its own
abbrev pub set_regs : Values → List ℕ → List ℕ → Values
set_regs v [] xs = v
set_regs v (n ∷ ns) [] = v
set_regs v (n ∷ ns) (x ∷ xs) = set_regs (set_reg v n x) ns xs

-- A register is loaded from an address. A load of a floating-point register has no meaning on integers alone, and is said to leave them.
abbrev pub loaded : LoadOP → ℕ → ℕ → Values → Values
loaded op rd a v = if is_float_load op then v else set_reg v rd (load_result (load_op op) v.mem a)

-- registers are loaded, one after the other, each from so far above an address
abbrev pub stack_loaded : ℕ → List StackLoad → Values → Values
stack_loaded sp [] v = v
stack_loaded sp (l ∷ loads) v = stack_loaded sp loads (loaded l.op l.register (wrap (sp + low64 l.offset)) v)

-- a frame is taken away: what it saved is restored, and the stack pointer, which is x2, rises to the next function's arguments
abbrev pub frame_left : FrameLayout → ℕ → Values → Values
frame_left frame arguments v = set_reg (stack_loaded (reg v 2) (restores frame) v) 2 (wrap (reg v 2 + frame_above frame arguments))

-- a call leaves in ra, which is x1, where it returns to
abbrev pub linked : ℕ → Option Return → Values → Values
linked start None v = v
linked start (Some r) v = set_reg v 1 (wrap (start + r.offset))

-- ---- ways on

-- a table's labels are the default, and those of the indices from 0 on
abbrev pub table_exit : List MachLabel → ℕ → Exit
table_exit [] index = Next
table_exit (default ∷ labels) index = To (unwrap_or (slice_get labels index) default).number

abbrev pub target_exit : CondBrTarget → Exit
target_exit (Label label) = To label.number
target_exit Fallthrough = Next

-- ---- instructions

-- An operation of a unit has no meaning on integers alone, and is said to leave them; what it does is said of the machine with all units.
abbrev pub unit_meaning : UnitWord → Values → Meaning
unit_meaning w v = goes Next v

-- a sequence changes its result alone, its temporaries apart
abbrev pub described_meaning : Environment → Description → Values → Meaning
described_meaning env (Word w) v = unit_meaning w v
described_meaning env (Gives g) v = g.meaning env v
described_meaning env (Computes s with) v = goes Next (set_reg v (number_of s.rd.reg) (computed s.computation (bits_of s.ty) (reg v (number_of s.rs))))

-- Nor has a store of a floating-point register, which is said to leave them, too; yet the bytes that it writes are said.
abbrev pub stored : StoreOP → ℕ → ℕ → Values → Values
stored op src a v = if is_float_store op then v else put_bytes v a (store_bytes (store_op op) (reg v src))

-- What an instruction means from these values; a jump to a register links, as a call does; an address is even, and ra is x1. Of a move and a
-- choice of floating-point registers the machine with all units alone says it, and what stands here doesn't count.
abbrev pub inst_meaning : Environment → Inst → Values → Meaning
inst_meaning env Nop0 v = goes Next v
inst_meaning env Nop4 v = goes Next v
inst_meaning env EBreak v = goes Break v
inst_meaning env SequencePoint v = goes Next v
inst_meaning env (Args args) v = goes Next v
inst_meaning env (Rets rets) v = goes Next v
inst_meaning env (DummyUse reg) v = goes Next v
inst_meaning env (Unwind inst) v = goes Next v
inst_meaning env (EmitIsland needed_space) v = goes Next v
inst_meaning env (RawData bytes) v = goes Data v
inst_meaning env (Lui rd imm) v = goes Next (set_reg v (number_of rd.reg) (wrap (low64 imm.value * 2 ^ 12)))
inst_meaning env (AluRRR op rd rs1 rs2) v = goes Next (set_reg v (number_of rd.reg) (alu_rrr op (reg v (number_of rs1)) (reg v (number_of rs2))))
inst_meaning env (AluRRImm12 op rd rs imm) v = goes Next (set_reg v (number_of rd.reg) (alu_rri op (reg v (number_of rs)) imm.value))
inst_meaning env (Mov rd rm type) v = goes Next (set_reg v (number_of rd.reg) (reg v (number_of rm)))
inst_meaning env (MovFromPReg rd rm) v = goes Next (set_reg v (number_of rd.reg) (reg v rm.number))
inst_meaning env (Select info) v =
    goes Next (set_regs v (map number_of (written_in info.dst)) (map (λ (r : Reg). reg v (number_of r)) (if compares info.condition v then all_of info.x else all_of info.y)))
inst_meaning env (Load rd op flags from) v = goes Next (loaded op (number_of rd.reg) (address_of env from v) v)
inst_meaning env (Store src op flags to) v =
    record (goes Next (stored op (number_of src) (address_of env to v) v)) { writes = addresses_from (address_of env to v) (store_size op) }
inst_meaning env (LoadAddr rd mem) v = goes Next (set_reg v (number_of rd.reg) (address_of env mem v))
inst_meaning env Ret v = goes (Leave (reg v 1 / 2 * 2)) v
inst_meaning env (Jal label) v = goes (To label.number) v
inst_meaning env (CondBr taken not_taken kind) v = goes (if compares kind v then target_exit taken else target_exit not_taken) v
inst_meaning env (BrTable index tmp1 tmp2 targets) v = goes (table_exit targets (low_word (reg v (number_of index)))) v
inst_meaning env (Udf code) v = goes (Trap code) v
inst_meaning env (Jalr rd base offset) v = goes (Leave (wrap (reg v (number_of base) + low64 offset.value) / 2 * 2)) (set_reg v (number_of rd.reg) env.after)
inst_meaning env (Call info) v = goes (Leave (symbol_at env info.dest (pos 0) / 2 * 2)) (linked env.start (return_of env.flags (Call info)) v)
inst_meaning env (CallInd info) v = goes (Leave (reg v (number_of info.dest) / 2 * 2)) (linked env.start (return_of env.flags (CallInd info)) v)
inst_meaning env (ReturnCall info) v = goes (Leave (symbol_at env info.dest (pos 0) / 2 * 2)) (frame_left env.frame info.new_stack_arg_size v)
inst_meaning env (ReturnCallInd info) v = goes (Leave (reg v (number_of info.dest) / 2 * 2)) (frame_left env.frame info.new_stack_arg_size v)
inst_meaning env inst v = described_meaning env (description_of inst refl) v

abbrev pub inst_effect : Environment → Inst → Values → Values
inst_effect env inst v = (inst_meaning env inst v).effect

abbrev pub inst_writes : Environment → Inst → Values → List ℕ
inst_writes env inst v = (inst_meaning env inst v).writes

abbrev pub inst_exit : Environment → Inst → Values → Exit
inst_exit env inst v = (inst_meaning env inst v).exit

-- ---- lines

-- what a line makes of the values
abbrev pub effect_of : Environment → Line → Values → Values
effect_of env (Put inst) v = inst_effect env inst v
effect_of env (Bind label) v = v

abbrev pub writes_of : Environment → Line → Values → List ℕ
writes_of env (Put inst) v = inst_writes env inst v
writes_of env (Bind label) v = []

-- how a line is left from these values
abbrev pub exit_of : Environment → Line → Values → Exit
exit_of env (Put inst) v = inst_exit env inst v
exit_of env (Bind label) v = Next

-- none of these addresses is one of so many from another on
abbrev pub AreOutside : ℕ → ℕ → List ℕ → Type 0
AreOutside from size addresses = (k : ℕ) → k < length addresses → (slice_index addresses k < from) ⊎ (from + size ≤ slice_index addresses k)

abbrev pub temporaries_of : Line → List ℕ
temporaries_of (Put inst) = inst_temporaries inst
temporaries_of (Bind label) = []

-- the stack pointer falls
abbrev pub fallen : ℕ → Values → Values
fallen popped v = set_reg v 2 (wrap (reg v 2 + (2 ^ 64 - popped)))

-- what a call makes of the values that its callee returns with: the stack pointer falls, and results are loaded from above it
abbrev pub resumed : Return → Values → Values
resumed r v = stack_loaded (reg (fallen r.popped v) 2) r.loads (fallen r.popped v)

abbrev pub resumed_by : Option Return → Values → Values
resumed_by None v = v
resumed_by (Some r) v = resumed r v

-- what a line makes of the values with which it is returned to
abbrev pub return_effect : Environment → Line → Values → Values
return_effect env (Put inst) v = resumed_by (return_of env.flags inst) v
return_effect env (Bind label) v = v

-- where a call goes on once it has returned
abbrev pub try_exit : Option TryCallInfo → Exit
try_exit None = Next
try_exit (Some t) = To t.continuation.number

abbrev pub return_exit : Line → Exit
return_exit (Put inst) = try_exit (try_call_of inst)
return_exit (Bind label) = Next
