-- The parts of each instruction's code: links of the proof.
use Rattle.std.specs.Prelude.{ℕ, ◌≡◌, ◌+◌, ◌==◌, true, false, if◌then◌else◌, List, ◌∷◌, ◌++◌, length, Option, ℤ, pos}
use Rattle.std.proofs.Common.{refl, []}
use Rattle.rv_base.specs.declared.call.CallInfo.{CallInfo}
use Rattle.rv_base.specs.declared.call.TryCallInfo.{TryCallInfo}
use Rattle.rv_base.specs.declared.flags.IsaFlags.{IsaFlags}
use Rattle.rv_base.specs.declared.frame.FrameLayout.{FrameLayout}
use Rattle.rv_base.specs.declared.ir_type.IrType.{IrType}
use Rattle.rv_base.specs.declared.label.MachLabel.{MachLabel}
use Rattle.rv_base.specs.declared.external_name.ExternalName.{ExternalName}
use Rattle.rv_base.specs.declared.regs.Reg.{Reg}
use Rattle.rv_base.specs.declared.trap.TrapCode.{TrapCode}
use Rattle.rv_base.specs.IrType.{bits_of}
use Rattle.rv_base.specs.Regs.{class_of, number_of}
use Rattle.rv_base.specs.declared.ir_type.IrType.TheVariants.{I64}
use Rattle.rv_base.specs.declared.regs.RegClass.TheVariants.{Int}
use Rattle.rv_ops.specs.declared.memory.LoadOP.{LoadOP}
use Rattle.rv_ops.specs.declared.memory.StoreOP.{StoreOP}
use Rattle.rv_ops.specs.declared.float_fields.FpuOPWidth.TheVariants.{S}
use Rattle.rv_ops.specs.declared.float_fields.FRM.TheVariants.{RNE}
use Rattle.rv_ops.specs.declared.fpu_rr.FpuOPRR.TheVariants.{FmvXFmt, FmvFmtX}
use Rattle.rv_ops.specs.declared.compare.IntegerCompare.{IntegerCompare}
use Rattle.rv_inst.specs.Context.{Context}
use Rattle.rv_inst.specs.Returns.{StackLoad, result_loads, loads_unless}
use Rattle.rv_inst.specs.Limits.{table_space}
use Rattle.rv_inst.specs.Sizes.{fall, results_space}
use Rattle.rv_inst.specs.Descriptions.{Description, UnitWord, Word, Computes, Gives, description_of, is_made, none_is_some}
use Rattle.rv_inst.specs.declared.inst.Inst.{Inst}
use Rattle.rv_inst.specs.declared.inst.Inst.TheVariants.{Nop0, Nop4, EBreak, SequencePoint, Args, Rets, DummyUse, EmitIsland, RawData, Lui, Auipc, LoadInlineConst, AluRRR, AluRRImm12, Mov, MovFromPReg, Extend, Select, Load, Store, LoadAddr, LabelAddress, Ret, TrapIf, Jal, CondBr, BrTable, Udf, Jalr, StackProbeLoop, LoadExtNameGot, LoadExtNameNear, LoadExtNameFar, Call, CallInd, ReturnCall, ReturnCallInd, Unwind, Fence, AtomicLoad, AtomicStore}
use Rattle.rv_inst.specs.declared.inst.CondBrTarget.{CondBrTarget}
use Rattle.rv_inst.specs.declared.inst.CondBrTarget.TheVariants.{Label as ToLabel, Fallthrough}
use Rattle.rv_inst.specs.declared.label_use.LabelUse.TheVariants.{Jal20, B12}
use Rattle.rv_machine.specs.declared.decoding.Decoded.{Decoded}
use Rattle.rv_machine.specs.declared.ops.MOp.TheVariants.{Base}
use Rattle.rv_machine.specs.declared.ops.BaseOp.TheVariants as base
use Rattle.rv_encode.specs.Operations.{decoded, decoded_branch, decoded_fpu_rr}
use Rattle.rv_inst.specs.Forms.{jump_kind, short_ebreak}
use Rattle.rv_machine.specs.Arithmetic.{low_word}
use Rattle.mach_uses.specs.Labels.{constant_label}
use Rattle.rv_inst.specs.Addresses.{Location, Based, AtLabel, AtConstant, location_of}
use Rattle.mach_records.specs.declared.records.Event.TheVariants as event
use Rattle.rv_code.specs.declared.state.EmitVState.{EmitVState}
use Rattle.rv_code.specs.Operations.{decoded_addi, decoded_jump, short_jump}
use Rattle.rv_code.specs.Choices.{extend_pieces, move_pieces, select_pieces}
use Rattle.rv_code.specs.Sequences.{sequence_pieces}
use Rattle.rv_code.specs.Calls.{call_ind_pieces, call_pieces, t0_pieces, tail_pieces, try_pieces}
pub use Rattle.rv_code.specs.Pieces.{access_slots, call_to, label_base, label_load_slots, label_slots, literal_slots, load_over, symbol_slots, trap_bytes, trap_slots, upper_at}
use Rattle.rv_code.specs.Accesses.{address_pieces, atomic_load_pieces, atomic_store_pieces, boxing_pieces, far_pieces, load_pieces, far_step_pieces, return_pieces, stack_load_pieces, stack_step_pieces, store_access, store_pieces, half_load_pieces, half_store_pieces, load_line_pieces, store_line_pieces}
use Rattle.rv_code.specs.Pieces as piece
use Rattle.rv_code.specs.Pieces.{Do, Rrr, Rri, Go, Note, Trap, Literal, Word32, Word64, NameAddress, OfLabel, OfSymbol, Constant, Take, Piece}
use Rattle.rv_code.specs.Pieces.{immediate_pieces, lower_pieces, number_pieces, offset_pieces, slots_of}
use Rattle.rv_code.specs.Probes.{probe_pieces}
use Rattle.rv_code.specs.Traps.{trap_if_pieces}
use Rattle.rv_code.specs.Tables.{jump_slots}
use Rattle.rv_code.specs.Slots.{AddressOf, SlotOf, Target, Label, Slot, Op, Fixup, Data, Names, Part, Ask, Slots, size_of}

-- ---- jumps

-- a jump to a target in a word of four bytes, as an island's is whatever the flags are
abbrev pub wide_jump_to : Target → Slot
wide_jump_to target = Fixup Jal20 target (λ d. decoded_jump d ∷ [])

-- a jump to a target, in the shortest form
abbrev pub jump_to : IsaFlags → Target → Slot
jump_to flags target = Fixup (jump_kind flags) target (λ d. short_jump flags d ∷ [])

-- ---- pieces of sequences

-- a branch to a target where a comparison holds
abbrev pub branch_to : IntegerCompare → Target → Slot
branch_to kind target = Fixup B12 target (λ d. decoded_branch kind d ∷ [])

-- a branch, and a jump where the comparison doesn't hold
abbrev pub branch_slots : IsaFlags → IntegerCompare → CondBrTarget → CondBrTarget → List Slot
branch_slots flags kind Fallthrough not_taken = []
branch_slots flags kind (ToLabel t) Fallthrough = branch_to kind (Label t) ∷ []
branch_slots flags kind (ToLabel t) (ToLabel f) = branch_to kind (Label t) ∷ jump_to flags (Label f) ∷ []

-- a constant of a type
abbrev pub literal_of : IrType → ℕ → Literal
literal_of type imm = if bits_of type == 32 then Word32 imm else Word64 imm

-- an offset in a register
abbrev pub lower_slots : IsaFlags → ℕ → ℤ → List Slot
lower_slots flags rd lower = slots_of flags (lower_pieces rd lower)

abbrev pub immediate_slots : IsaFlags → ℕ → ℤ → ℤ → List Slot
immediate_slots flags rd upper lower = slots_of flags (immediate_pieces rd upper lower)

abbrev pub offset_slots : IsaFlags → ℕ → ℤ → List Slot
offset_slots flags rd o = slots_of flags (offset_pieces rd o)

-- a number of 64 bits
abbrev pub number_slots : IsaFlags → ℕ → ℤ → List Slot
number_slots flags rd z = slots_of flags (number_pieces rd z)

-- any address
abbrev pub address_slots : IsaFlags → ℕ → Location → List Slot
address_slots flags rd at = slots_of flags (address_pieces rd at)

-- loads and stores, those of halves by integer registers among them, and those of a line
abbrev pub load_slots : IsaFlags → ℕ → LoadOP → Option TrapCode → Location → List Slot
load_slots flags rd op trap at = slots_of flags (load_pieces op rd trap at)

abbrev pub store_slots : IsaFlags → StoreOP → ℕ → Option TrapCode → Location → List Slot
store_slots flags op src trap at = slots_of flags (store_pieces op src trap at)

abbrev pub far_store_slots : IsaFlags → StoreOP → ℕ → Option TrapCode → Location → List Slot
far_store_slots flags op src trap at = slots_of flags (far_pieces (store_access op src) trap at)

abbrev pub half_load_slots : IsaFlags → ℕ → Option TrapCode → Location → List Slot
half_load_slots flags rd trap at = slots_of flags (half_load_pieces rd trap at)

abbrev pub half_store_slots : IsaFlags → ℕ → Option TrapCode → Location → List Slot
half_store_slots flags src trap at = slots_of flags (half_store_pieces src trap at)

-- a number of four bytes is moved from an integer register to a floating-point one, and back
abbrev pub moved_to_float : ℕ → ℕ → Decoded
moved_to_float rd rs = decoded_fpu_rr FmvFmtX S RNE rd rs

abbrev pub moved_to_integer : ℕ → ℕ → Decoded
moved_to_integer rd rs = decoded_fpu_rr FmvXFmt S RNE rd rs

abbrev pub boxing_slots : IsaFlags → ℕ → List Slot
boxing_slots flags rd = slots_of flags (boxing_pieces rd)

abbrev pub load_line_slots : IsaFlags → ℕ → LoadOP → Option TrapCode → Location → List Slot
load_line_slots flags rd op trap at = slots_of flags (load_line_pieces flags op rd trap at)

abbrev pub store_line_slots : IsaFlags → StoreOP → ℕ → Option TrapCode → Location → List Slot
store_line_slots flags op src trap at = slots_of flags (store_line_pieces flags op src trap at)

-- ---- constants

-- the constant of an address is named before the code that takes the address
abbrev pub naming_slots : Location → List Slot
naming_slots (Based r o) = []
naming_slots (AtLabel l) = []
naming_slots (AtConstant k) = Names k ∷ []

-- that code takes the address of its label
abbrev pub labelled : Location → Location
labelled (Based r o) = Based r o
labelled (AtLabel l) = AtLabel l
labelled (AtConstant k) = AtLabel (constant_label k)

-- ---- a branch by a table

-- the low 32 bits of the index in x31, how many labels there are beside the default, and the jumps
abbrev pub table_slots : IsaFlags → ℕ → ℕ → ℕ → List MachLabel → List Slot
table_slots flags index tmp1 tmp2 [] = []
table_slots flags index tmp1 tmp2 (default ∷ labels) =
    slots_of flags (extend_pieces 31 index false 32) ++ number_slots flags tmp2 (pos (length labels)) ++ jump_slots tmp1 tmp2 default labels

-- ---- tail calls

-- loads from the stack, a step of the stack pointer, and a frame that is taken away by both
abbrev pub stack_load_slots : IsaFlags → List StackLoad → List Slot
stack_load_slots flags loads = slots_of flags (stack_load_pieces flags loads)

abbrev pub far_step_slots : IsaFlags → ℤ → List Slot
far_step_slots flags z = slots_of flags (far_step_pieces z)

abbrev pub stack_step_slots : IsaFlags → ℤ → List Slot
stack_step_slots flags z = slots_of flags (stack_step_pieces z)

abbrev pub return_slots : IsaFlags → FrameLayout → ℕ → List Slot
return_slots flags frame arguments = slots_of flags (return_pieces flags frame arguments)

-- in so many bytes
abbrev pub return_size : IsaFlags → FrameLayout → ℕ → ℕ
return_size flags frame arguments = size_of (return_slots flags frame arguments)

-- and then a jump goes on
abbrev pub tail_slots : IsaFlags → FrameLayout → ℕ → ExternalName → List Slot
tail_slots flags frame arguments name = slots_of flags (tail_pieces flags frame arguments name)

abbrev pub t0_slots : IsaFlags → FrameLayout → ℕ → List Slot
t0_slots flags frame arguments = slots_of flags (t0_pieces flags frame arguments)

-- ---- calls that return

-- the stack pointer falls by what the callee took away
abbrev pub after_call : IsaFlags → ℕ → List Slot
after_call flags popped = stack_step_slots flags (fall popped)

abbrev pub try_slots : IsaFlags → Option TryCallInfo → List Slot
try_slots flags t = slots_of flags (try_pieces t)

-- with these pieces after it
abbrev pub call_slots : IsaFlags → FrameLayout → CallInfo ExternalName → List Piece → List Slot
call_slots flags frame info last = slots_of flags (call_pieces flags frame info last)

abbrev pub call_ind_slots : IsaFlags → FrameLayout → CallInfo Reg → List Piece → List Slot
call_ind_slots flags frame info last = slots_of flags (call_ind_pieces frame info last)

-- slots alone
abbrev pub slots_alone : List Slot → List Part
slots_alone slots = Slots slots ∷ []

-- a call that loads results, after an island where one is needed before the loads and the jump that goes on
abbrev pub result_slots : IsaFlags → List StackLoad → Option TryCallInfo → List Slot
result_slots flags loads t = slots_of flags (stack_load_pieces flags loads ++ try_pieces t)

abbrev pub loading_parts : IsaFlags → (List Piece → List Piece) → List StackLoad → Option TryCallInfo → List Part
loading_parts flags call loads t = Slots (slots_of flags (call [])) ∷ Ask (results_space loads) ∷ Slots (result_slots flags loads t) ∷ []

-- a call, by what it loads
abbrev pub call_parts : IsaFlags → (List Piece → List Piece) → List StackLoad → Option TryCallInfo → List Part
call_parts flags call [] t = slots_alone (slots_of flags (call (try_pieces t)))
call_parts flags call (l ∷ loads) t = loading_parts flags call (l ∷ loads) t

-- a word of a unit, after the record of its trap where it may trap
abbrev pub unit_parts : UnitWord → List Part
unit_parts w = slots_alone (access_slots w.trap ++ Op w.operation ∷ [])

-- of either; all others have rows of their own
abbrev pub described_parts : IsaFlags → (d : Description) → is_made d ≡ true → List Part
described_parts flags (Word w) e = unit_parts w
described_parts flags (Computes s with) e = slots_alone (slots_of flags (sequence_pieces s))
described_parts flags (Gives g) e = absurd (none_is_some e)

-- by the context, and the vector unit's setting known before the instruction
abbrev pub parts_of : Context → EmitVState → Inst → List Part
parts_of context setting Nop0 = []
parts_of context setting Nop4 = slots_alone (Op (decoded_addi 0 0 (pos 0)) ∷ [])
parts_of context setting EBreak = slots_alone (Op (short_ebreak context.flags) ∷ [])
parts_of context setting SequencePoint = []
parts_of context setting (Args args) = []
parts_of context setting (Rets rets) = []
parts_of context setting (DummyUse reg) = []
parts_of context setting (EmitIsland needed_space) = Ask needed_space ∷ []
parts_of context setting (RawData bytes) = slots_alone (Data bytes ∷ [])
parts_of context setting (Lui rd imm) = slots_alone (slots_of context.flags (Do (piece.Lui (number_of rd.reg) imm.value) ∷ []))
parts_of context setting (Auipc rd imm) = slots_alone (Op (decoded (Base base.Auipc) (number_of rd.reg) 0 0 imm.value) ∷ [])
parts_of context setting (LoadInlineConst rd type imm) = slots_alone (slots_of context.flags (Constant (number_of rd.reg) (literal_of type imm) ∷ []))
parts_of context setting (AluRRR op rd rs1 rs2) = slots_alone (slots_of context.flags (Do (Rrr op (number_of rd.reg) (number_of rs1) (number_of rs2)) ∷ []))
parts_of context setting (AluRRImm12 op rd rs imm) = slots_alone (slots_of context.flags (Do (Rri op (number_of rd.reg) (number_of rs) imm.value) ∷ []))
parts_of context setting (Mov rd rm type) = slots_alone (slots_of context.flags (move_pieces (class_of rd.reg) type (number_of rd.reg) (number_of rm)))
parts_of context setting (MovFromPReg rd rm) = slots_alone (slots_of context.flags (move_pieces Int I64 (number_of rd.reg) rm.number))
parts_of context setting (Extend rd rn signed from_bits to_bits) =
    slots_alone (slots_of context.flags (extend_pieces (number_of rd.reg) (number_of rn) signed from_bits))
parts_of context setting (Select info) = slots_alone (slots_of context.flags (select_pieces info))
parts_of context setting (Load rd op flags from) = slots_alone (load_line_slots context.flags (number_of rd.reg) op flags.trap (location_of context.frame from))
parts_of context setting (Store src op flags to) = slots_alone (store_line_slots context.flags op (number_of src) flags.trap (location_of context.frame to))
parts_of context setting (LoadAddr rd mem) = slots_alone (address_slots context.flags (number_of rd.reg) (location_of context.frame mem))
parts_of context setting (LabelAddress dst label) = slots_alone (slots_of context.flags (Take (number_of dst.reg) (OfLabel label) ∷ []))
parts_of context setting Ret = slots_alone (slots_of context.flags (piece.Jalr 0 1 (pos 0) ∷ []))
parts_of context setting (TrapIf cmp code) = slots_alone (slots_of context.flags (trap_if_pieces cmp code))
parts_of context setting (Jal label) = slots_alone (slots_of context.flags (Go label ∷ []))
parts_of context setting (CondBr taken not_taken kind) = slots_alone (branch_slots context.flags kind taken not_taken)
parts_of context setting (BrTable index tmp1 tmp2 targets) =
    Ask (table_space (length targets)) ∷
    Slots (table_slots context.flags (number_of index) (number_of tmp1.reg) (number_of tmp2.reg) targets) ∷
    []
parts_of context setting (Udf code) = slots_alone (slots_of context.flags (Trap code ∷ []))
parts_of context setting (Jalr rd base offset) = slots_alone (slots_of context.flags (piece.Jalr (number_of rd.reg) (number_of base) offset.value ∷ []))
parts_of context setting (StackProbeLoop guard_size probe_count tmp) =
    slots_alone (slots_of context.flags (probe_pieces (number_of tmp.reg) (low_word guard_size) (low_word probe_count)))
parts_of context setting (LoadExtNameGot rd name) = slots_alone (slots_of context.flags (Take (number_of rd.reg) (OfSymbol (SlotOf name)) ∷ []))
parts_of context setting (LoadExtNameNear rd name offset) =
    slots_alone (slots_of context.flags (Take (number_of rd.reg) (OfSymbol (AddressOf name offset)) ∷ []))
parts_of context setting (LoadExtNameFar rd name offset) = slots_alone (slots_of context.flags (Constant (number_of rd.reg) (NameAddress name offset) ∷ []))
parts_of context setting (Call info) =
    call_parts context.flags (call_pieces context.flags context.frame info) (loads_unless info.patchable info.defs) info.try_call_info
parts_of context setting (CallInd info) = call_parts context.flags (call_ind_pieces context.frame info) (result_loads info.defs) info.try_call_info
parts_of context setting (ReturnCall info) =
    Ask (return_size context.flags context.frame info.new_stack_arg_size + 8) ∷
    Slots (tail_slots context.flags context.frame info.new_stack_arg_size info.dest) ∷
    []
parts_of context setting (ReturnCallInd info) =
    Ask (return_size context.flags context.frame info.new_stack_arg_size + 4) ∷
    Slots (t0_slots context.flags context.frame info.new_stack_arg_size) ∷
    []
parts_of context setting (Fence pred succ) = slots_alone (slots_of context.flags (Do (piece.Fence pred succ) ∷ []))
parts_of context setting (AtomicLoad rd type p) = slots_alone (slots_of context.flags (atomic_load_pieces type (number_of rd.reg) (number_of p)))
parts_of context setting (AtomicStore src type p) = slots_alone (slots_of context.flags (atomic_store_pieces type (number_of src) (number_of p)))
parts_of context setting (Unwind inst) = slots_alone (slots_of context.flags (Note (event.Unwind inst) ∷ []))
parts_of context setting inst = described_parts context.flags (description_of inst refl) refl
