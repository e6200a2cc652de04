-- How many bytes an instruction puts, which operation stands for one of one machine word, what it records, where it asks for an island,
-- and how many bytes it counts for.
use Rattle.std.specs.Prelude.{ℕ, ◌+◌, ◌-◌, ◌*◌, length, nat_eq, if◌then◌else◌, Option, Some, None, pos, Bool, true, false, List, [], ◌∷◌, count_by, ℤ, ◌-ℤ◌, ◌++◌, unwrap_or}
use Rattle.std.proofs.Common.{refl}
use Rattle.rv_base.specs.Regs.{class_of, number_of}
use Rattle.rv_base.specs.declared.call.TryCallInfo.{TryCallInfo}
use Rattle.rv_base.specs.declared.flags.IsaFlags.{IsaFlags}
use Rattle.rv_base.specs.declared.ir_type.IrType.{IrType}
use Rattle.rv_base.specs.declared.ir_type.IrType.TheVariants.{I64}
use Rattle.rv_base.specs.declared.regs.RegClass.{RegClass}
use Rattle.rv_base.specs.declared.regs.RegClass.TheVariants.{Int, Float, Vector}
use Rattle.rv_base.specs.declared.reloc.Reloc.TheVariants.{RiscvCallPlt}
use Rattle.rv_ops.specs.declared.alu.AluOPRRI.{AluOPRRI}
use Rattle.rv_ops.specs.declared.alu.AluOPRRI.TheVariants as rri
use Rattle.rv_ops.specs.declared.float_fields.FRM.TheVariants.{RNE}
use Rattle.rv_ops.specs.declared.float_fields.FpuOPWidth.TheVariants.{D}
use Rattle.rv_ops.specs.declared.fpu.FpuOPRRR.TheVariants.{Fsgnj}
use Rattle.rv_ops.specs.FloatFields.{width_of}
use Rattle.rv_ops.specs.declared.memory.LoadOP.{LoadOP}
use Rattle.rv_ops.specs.declared.memory.StoreOP.{StoreOP}
use Rattle.rv_machine.specs.declared.decoding.Decoded.{Decoded}
use Rattle.rv_encode.specs.Operations.{decoded_rri, has_load, has_store, decoded_fpu_rrr}
use Rattle.mach_records.specs.declared.records.Event.TheVariants as event
use Rattle.mach_records.specs.declared.records.FinalizedRelocTarget.TheVariants.{ExternalName as ToName}
use Rattle.mach_records.specs.declared.records.MachRecord.{MachRecord}
use Rattle.rv_inst.specs.Addresses.{Location, Based, AtLabel, AtConstant, location_of, is_near}
use Rattle.rv_inst.specs.Context.{Context}
use Rattle.rv_inst.specs.Forms.{short_rrr, short_rri, short_lui, short_jalr, short_ebreak, short_load, short_store, jump_size}
pub use Rattle.rv_inst.specs.InstCode.{Size, Exactly, AtMost, IsOfSize, most_of, Request, InstCode, words, one_word, trap_size, is_byte, extend_operation}
use Rattle.rv_inst.specs.Halves.{load_line_own_size, store_line_own_size, is_moved_first}
use Rattle.rv_inst.specs.Limits.{address_limit, load_limit, store_limit, step_limit, call_limit, return_limit, table_space}
use Rattle.rv_inst.specs.Operands.{results_of}
use Rattle.rv_inst.specs.Records.{noted, access_records, patch_records, recorded, return_records}
use Rattle.rv_inst.specs.Returns.{StackLoad, result_loads, loads_unless}
use Rattle.rv_inst.specs.Rules.{is_stacked}
use Rattle.rv_inst.specs.Descriptions.{Description, UnitWord, Word, Computes, Gives, description_of, most_words}
use Rattle.rv_inst.specs.declared.inst.Line.{Line}
use Rattle.rv_inst.specs.declared.inst.Line.TheVariants.{Inst as Put, Bind}
use Rattle.rv_inst.specs.declared.inst.Inst.{Inst}
use Rattle.rv_inst.specs.declared.inst.Inst.TheVariants.{Nop0, Nop4, EBreak, SequencePoint, Args, Rets, DummyUse, Unwind, EmitIsland, RawData, Lui, AluRRR, AluRRImm12, Mov, MovFromPReg, Select, Load, Store, LoadAddr, Ret, Jal, CondBr, BrTable, Udf, Jalr, Call, CallInd, ReturnCall, ReturnCallInd}
use Rattle.rv_inst.specs.declared.inst.CondBrTarget.{CondBrTarget}
use Rattle.rv_inst.specs.declared.inst.CondBrTarget.TheVariants.{Label, Fallthrough}

-- The operation that moves a register: addi of 0, or of floating-point numbers fsgnj of equal sources, which has no short form. No line
-- moves vectors, or floating-point registers of another type than theirs; these stand here as integers do, and as doubles.
abbrev pub move_op : IsaFlags → RegClass → IrType → ℕ → ℕ → Decoded
move_op flags Int type rd rs = short_rri flags rri.Addi rd rs (pos 0)
move_op flags Float type rd rs = decoded_fpu_rrr Fsgnj (unwrap_or (width_of type) D) RNE rd rs rs
move_op flags Vector type rd rs = short_rri flags rri.Addi rd rs (pos 0)

-- a move to the same register has none
abbrev pub move_size : ℕ → ℕ → Size
move_size rd rs = if nat_eq rd rs then Exactly 0 else AtMost 4

-- a branch, and a jump where the comparison doesn't hold
abbrev pub branch_size : IsaFlags → CondBrTarget → CondBrTarget → ℕ
branch_size flags Fallthrough not_taken = 0
branch_size flags (Label t) Fallthrough = 4
branch_size flags (Label t) (Label f) = 4 + jump_size flags

-- a shift to the right, arithmetic or logical
abbrev pub right_shift : Bool → AluOPRRI
right_shift true = rri.Srai
right_shift false = rri.Srli

-- the shift by which a bit moves on, to the one below or to the one above
abbrev pub bit_shift : Bool → AluOPRRI
bit_shift true = rri.Srli
bit_shift false = rri.Slli

-- the stack pointer falls by so many bytes
abbrev pub fall : ℕ → ℤ
fall popped = pos 0 -ℤ pos popped

-- where a call ends before the jump that goes on, if it has one
abbrev pub call_end : IsaFlags → Option TryCallInfo → ℕ → ℕ
call_end flags None end = end
call_end flags (Some t) end = end - jump_size flags

-- Results on the stack are loaded, and then a jump goes on; a load has at most 28 bytes, and the jump four.
abbrev pub results_space : List StackLoad → ℕ
results_space loads = 32 * length loads

-- where a call of so many bytes of its own loads results, an island is asked for before the loads
abbrev pub call_request : ℕ → List StackLoad → Option Request
call_request own [] = None
call_request own (l ∷ loads) = Some (record { first = AtMost (own + step_limit); space = λ rest. results_space (l ∷ loads); extra = 0 })

-- ---- the operation of one machine word

-- a move to the same register has none
abbrev pub move_operation : IsaFlags → RegClass → IrType → ℕ → ℕ → Option Decoded
move_operation flags class type rd rs = if nat_eq rd rs then None else Some (move_op flags class type rd rs)

-- an address, a load or a store whose offset is in its own instruction
abbrev pub address_operation : IsaFlags → ℕ → Location → Option Decoded
address_operation flags rd (Based r o) = if is_near o then Some (short_rri flags rri.Addi rd r o) else None
address_operation flags rd (AtLabel l) = None
address_operation flags rd (AtConstant k) = None

abbrev pub load_operation : IsaFlags → LoadOP → ℕ → Location → Option Decoded
load_operation flags op rd (Based r o) = if is_near o then Some (short_load flags op rd r o) else None
load_operation flags op rd (AtLabel l) = None
load_operation flags op rd (AtConstant k) = None

abbrev pub store_operation : IsaFlags → StoreOP → ℕ → Location → Option Decoded
store_operation flags op src (Based r o) = if is_near o then Some (short_store flags op r src o) else None
store_operation flags op src (AtLabel l) = None
store_operation flags op src (AtConstant k) = None

-- a half has one where the machine has its load or its store
abbrev pub load_line_operation : IsaFlags → LoadOP → ℕ → Location → Option Decoded
load_line_operation flags op rd at = if has_load flags op then load_operation flags op rd at else None

abbrev pub store_line_operation : IsaFlags → StoreOP → ℕ → Location → Option Decoded
store_line_operation flags op src at = if has_store flags op then store_operation flags op src at else None

-- ---- instructions

-- so many at most, after an island where one is needed before a space
abbrev pub after_island : ℕ → (ℕ → ℕ) → ℕ → InstCode
after_island most space extra = record (words (AtMost most)) { request = Some (record { first = Exactly 0; space = space; extra = extra }) }

-- a word of a unit records its trap where it may trap
abbrev pub unit_code : UnitWord → InstCode
unit_code w = record (one_word w.operation) { records = λ start end. access_records start w.trap }

abbrev pub described_code : Context → Description → InstCode
described_code context (Word w) = unit_code w
described_code context (Gives g) = record (g.code context) { records = recorded g.records }
described_code context (Computes s with) = words (AtMost (4 * most_words s.computation))

-- A trap where a comparison holds is a branch over a trap. What a label's or a constant's address is taken by, and auipc, have
-- no forms of sixteen bits. What goes to a label has its distance beside it, and is no operation of these. The instruction of an access
-- is the last of its sequence, but for the words that box a half, and so are the eight bytes with a symbol's address, and the two instructions that go to one.
abbrev pub inst_code : Context → Inst → InstCode
inst_code context Nop0 = words (Exactly 0)
inst_code context Nop4 = one_word (decoded_rri rri.Addi 0 0 (pos 0))
inst_code context EBreak = one_word (short_ebreak context.flags)
inst_code context SequencePoint = words (Exactly 0)
inst_code context (Args args) = words (Exactly 0)
inst_code context (Rets rets) = words (Exactly 0)
inst_code context (DummyUse reg) = words (Exactly 0)
inst_code context (Unwind inst) = record (words (Exactly 0)) { records = λ start end. noted start (event.Unwind inst) }
inst_code context (EmitIsland needed_space) = after_island 0 (λ rest. needed_space) needed_space
inst_code context (RawData bytes) = words (Exactly (length bytes))
inst_code context (Lui rd imm) = one_word (short_lui context.flags (number_of rd.reg) imm.value)
inst_code context (AluRRR op rd rs1 rs2) = one_word (short_rrr context.flags op (number_of rd.reg) (number_of rs1) (number_of rs2))
inst_code context (AluRRImm12 op rd rs imm) = one_word (short_rri context.flags op (number_of rd.reg) (number_of rs) imm.value)
inst_code context (Mov rd rm type) = record (words (move_size (number_of rd.reg) (number_of rm))) {
  operation = move_operation context.flags (class_of rd.reg) type (number_of rd.reg) (number_of rm);
}
inst_code context (MovFromPReg rd rm) =
    record (words (move_size (number_of rd.reg) rm.number)) {
      operation = move_operation context.flags Int I64 (number_of rd.reg) rm.number;
    }
inst_code context (Select info) = words (AtMost 24)
inst_code context (Load rd op flags from) = record (words (AtMost (load_limit context.flags op))) {
  operation = load_line_operation context.flags op (number_of rd.reg) (location_of context.frame from);
  records = λ start end. access_records (end - load_line_own_size context.flags op (number_of rd.reg) (location_of context.frame from)) flags.trap;
}
inst_code context (Store src op flags to) = record (words (AtMost (store_limit context.flags op))) {
  operation = store_line_operation context.flags op (number_of src) (location_of context.frame to);
  records = λ start end. access_records (end - store_line_own_size context.flags op (number_of src) (location_of context.frame to)) flags.trap;
  led = is_moved_first context.flags op;
}
inst_code context (LoadAddr rd mem) =
    record (words (AtMost address_limit)) { operation = address_operation context.flags (number_of rd.reg) (location_of context.frame mem) }
inst_code context Ret = one_word (short_jalr context.flags 0 1 (pos 0))
inst_code context (Jal label) = words (Exactly (jump_size context.flags))
inst_code context (CondBr taken not_taken kind) = words (Exactly (branch_size context.flags taken not_taken))
inst_code context (BrTable index tmp1 tmp2 targets) = after_island (table_space (length targets)) (λ rest. table_space (length targets)) (8 * length targets)
inst_code context (Udf code) = record (words (Exactly (trap_size context.flags))) { records = λ start end. noted start (event.Trap code) }
inst_code context (Jalr rd base offset) = one_word (short_jalr context.flags (number_of rd.reg) (number_of base) offset.value)
inst_code context (Call info) = record (words (AtMost (call_limit 8 (loads_unless info.patchable info.defs)))) {
  records =
      λ start end. noted start (event.Reloc RiscvCallPlt (ToName info.dest) (pos 0)) ++ return_records context.frame (start + 8) info.stack_map info.try_call_info ++ patch_records info.patchable (call_end context.flags info.try_call_info end) (call_end context.flags info.try_call_info end - start);
  request = call_request 8 (loads_unless info.patchable info.defs);
}
inst_code context (CallInd info) = record (words (AtMost (call_limit 4 (result_loads info.defs)))) {
  records =
      λ start end. return_records context.frame (start + (short_jalr context.flags 1 (number_of info.dest) (pos 0)).len) info.stack_map info.try_call_info;
  request = call_request 4 (result_loads info.defs);
}
inst_code context (ReturnCall info) = record (after_island (return_limit context.frame + 8) (λ rest. rest) (32 * length context.frame.clobbered_callee_saves)) {
  records = λ start end. noted (end - 8) event.CallSite ++ noted (end - 8) (event.Reloc RiscvCallPlt (ToName info.dest) (pos 0));
}
inst_code context (ReturnCallInd info) =
    after_island (return_limit context.frame + 4) (λ rest. rest + 4 - (short_jalr context.flags 0 5 (pos 0)).len) (32 * length context.frame.clobbered_callee_saves)
inst_code context inst = described_code context (description_of inst refl)

abbrev pub inst_size : Context → Inst → Size
inst_size context inst = (inst_code context inst).size

-- how many bytes an instruction puts at most, an island that it asks for apart
abbrev pub most_bytes : Context → Inst → ℕ
most_bytes context inst = most_of (inst_size context inst)

abbrev pub request_of : Context → Inst → Option Request
request_of context inst = (inst_code context inst).request

abbrev pub operation_of : Context → Inst → Option Decoded
operation_of context inst = (inst_code context inst).operation

abbrev pub inst_records : Context → ℕ → ℕ → Inst → List MachRecord
inst_records context start end inst = (inst_code context inst).records start end

-- how many bytes stand before the island that is asked for
abbrev pub first_in : Option Request → Size
first_in None = Exactly 0
first_in (Some r) = r.first

-- before how many bytes an island is asked for, by how many follow it
abbrev pub space_in : Option Request → ℕ → Option ℕ
space_in None rest = None
space_in (Some r) rest = Some (r.space rest)

-- what an instruction counts for beside what each line does
abbrev pub extra_in : Option Request → ℕ
extra_in None = 0
extra_in (Some r) = r.extra

-- Before each line an island is put where one is needed before so many bytes: but for a line that asks for an island itself, no
-- line's own code is longer than 84, and a jump over an island takes four.
abbrev pub line_space : ℕ
line_space = 88

-- What each line counts for, in bytes, whatever it counts for beside. The code of a line that asks for no island, and the veneers of its
-- labels, take at most 84 of them; an island before a line and one inside it take 17 each, the veneers of other lines apart.
abbrev pub line_size : ℕ
line_size = 128

-- what an instruction counts for, in bytes: what each line does; an island before so many bytes, those; a branch by a table, 8 for each
-- label; a tail call, 32 for each register that it restores; and a call, 32 for each result on the stack, loaded or not
abbrev pub inst_sum : Context → Inst → ℕ
inst_sum context inst = line_size + extra_in (request_of context inst) + 32 * count_by is_stacked (results_of inst)

-- what a line counts for; a bind like an instruction
abbrev pub line_sum : Context → Line → ℕ
line_sum context (Put inst) = inst_sum context inst
line_sum context (Bind label) = line_size
