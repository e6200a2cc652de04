-- The forms of lines: the word that begins one, and a token for each of its fields.
use Rattle.std.specs.Prelude.{ℕ, Bool, List, [], ◌∷◌, Option, Some, codes}
use Rattle.std.specs.List.{find}
use Rattle.std.specs.Str.{bytes_eq}
use Rattle.rv_base.specs.declared.call.CallArgPair.{CallArgPair}
use Rattle.rv_base.specs.declared.call.ReturnCallInfo.{ReturnCallInfo}
use Rattle.rv_base.specs.declared.amode.AMode.{AMode}
use Rattle.rv_base.specs.declared.ir_type.IrType.{IrType}
use Rattle.rv_base.specs.declared.mem_flags.MemFlagsData.{MemFlagsData}
use Rattle.rv_base.specs.declared.regs.Reg.{Reg}
use Rattle.rv_base.specs.declared.regs.Writable.{Writable}
use Rattle.rv_base.specs.declared.value_regs.ValueRegs.{ValueRegs}
use Rattle.rv_base.specs.declared.condcodes.IntCC.{IntCC}
use Rattle.rv_base.specs.declared.trap.TrapCode.{TrapCode}
use Rattle.rv_ops.specs.declared.memory.StoreOP.{StoreOP}
use Rattle.rv_inst.specs.declared.inst.CondBrTarget.{CondBrTarget}
use Rattle.rv_inst.specs.declared.inst.CountInfo.{CountInfo}
use Rattle.rv_inst.specs.declared.inst.Inst.{Inst}
use Rattle.rv_inst.specs.declared.inst.Inst.TheVariants as inst
use Rattle.rv_inst.specs.declared.inst.Line.{Line}
use Rattle.rv_inst.specs.declared.inst.Line.TheVariants as kinds
use Rattle.rv_listing.specs.declared.form_names.Form.{Form}
use Rattle.rv_listing.specs.declared.form_names.Form.TheVariants as forms
use Rattle.rv_listing.specs.declared.form_names.LoopForm.TheVariants as loops
use Rattle.rv_listing.specs.declared.form_names.FloatForm.TheVariants as floats
use Rattle.rv_listing.specs.declared.form_names.AtomicForm.TheVariants as atomics
use Rattle.rv_listing.specs.Atomics.{amo, atomic_op}
use Rattle.rv_listing.specs.Tokens.{◌>>=◌, natural}
use Rattle.rv_listing.specs.Fields.{done, ◌⊛◌, no_more, whole}
use Rattle.rv_listing.specs.Registers.{register}
use Rattle.rv_listing.specs.Operands.{writable, real_register, imm12, imm20, uimm5, natural_8, natural_32, label, symbol, offset, target, signedness, leading}
use Rattle.rv_listing.specs.Comparisons.{cond_code}
use Rattle.rv_listing.specs.Addresses.{amode}
use Rattle.rv_listing.specs.Operations.{alu_rri, alu_rrr, load_op, store_op}
use Rattle.rv_listing.specs.Csr.{csr, csr_imm, csr_reg}
use Rattle.rv_listing.specs.Floats.{fli_constant, fpu_rr, fpu_rrr, fpu_rrrr, fpu_width, rounding_mode}
use Rattle.rv_listing.specs.Types.{type_named}
use Rattle.rv_listing.specs.HexDigits.{some_bytes}
use Rattle.rv_listing.specs.Traps.{trap_named, access_flags}
use Rattle.rv_listing.specs.Pairs.{arg_pair, ret_pair, call_arg_pair, listed}
use Rattle.rv_listing.specs.ValueRegs.{value_regs}
use Rattle.rv_listing.specs.UnwindSteps.{step_of}
use Rattle.rv_listing.specs.Calls.{call_info}

-- ---- instructions whose fields stand in another order, or in records

abbrev pub selecting : ValueRegs (Writable Reg) → IntCC → Reg → Reg → ValueRegs Reg → ValueRegs Reg → Inst
selecting dst cc rs1 rs2 x y = inst.Select (record { dst = dst; condition = record { kind = cc; rs1 = rs1; rs2 = rs2 }; x = x; y = y })

abbrev pub storing : AMode → StoreOP → MemFlagsData → Reg → Inst
storing to op flags src = inst.Store src op flags to

abbrev pub trap_if : IntCC → Reg → Reg → TrapCode → Inst
trap_if cc rs1 rs2 code = inst.TrapIf (record { kind = cc; rs1 = rs1; rs2 = rs2 }) code

abbrev pub cond_br : IntCC → Reg → Reg → CondBrTarget → CondBrTarget → Inst
cond_br cc rs1 rs2 taken not_taken = inst.CondBr taken not_taken (record { kind = cc; rs1 = rs1; rs2 = rs2 })

abbrev pub counting : (CountInfo → Inst) → Writable Reg → Writable Reg → Writable Reg → Reg → IrType → Inst
counting made sum tmp step rs type = made (record { sum = sum; tmp = tmp; step = step; rs = rs; ty = type })

-- which zeros are counted stands between the registers and the type
abbrev pub counting_zeros : Writable Reg → Writable Reg → Writable Reg → Reg → Bool → IrType → Inst
counting_zeros sum tmp step rs leading type = counting (inst.Cltz leading) sum tmp step rs type

abbrev pub reversing : Reg → IrType → Writable Reg → Writable Reg → Writable Reg → Writable Reg → Inst
reversing rs type step tmp tmp2 rd = inst.Brev8 (record { rs = rs; ty = type; step = step; tmp = tmp; tmp2 = tmp2; rd = rd })

abbrev pub tail_call : {A : Type 0} → (ReturnCallInfo A → Inst) → A → List CallArgPair → ℕ → Inst
tail_call made dest uses size = made (record { dest = dest; uses = uses; new_stack_arg_size = size })

-- ---- lines

-- an instruction of these fields, where no word is left
abbrev pub put : (List (List ℕ) → Option (Inst × List (List ℕ))) → List (List ℕ) → Option Line
put fields ws = fields ws >>= λ made. no_more (kinds.Inst made.0, made.1)

-- an instruction of what these words say
abbrev pub making : {A : Type 0} → (A → Inst) → (List (List ℕ) → Option A) → List (List ℕ) → Option Line
making made said ws = said ws >>= λ x. Some (kinds.Inst (made x))

-- The word that begins a line of this form, and what the words after it make. First those that compute nothing.
unfoldable pub form_of : Form → List ℕ × (List (List ℕ) → Option Line)
form_of forms.Nop0 = (codes "Nop0", put (done inst.Nop0))
form_of forms.Nop4 = (codes "Nop4", put (done inst.Nop4))
form_of forms.EBreak = (codes "EBreak", put (done inst.EBreak))
form_of forms.SequencePoint = (codes "SequencePoint", put (done inst.SequencePoint))
form_of forms.DummyUse = (codes "DummyUse", put (done inst.DummyUse ⊛ register))
form_of forms.Unwind = (codes "Unwind", making inst.Unwind step_of)
form_of forms.EmitIsland = (codes "EmitIsland", put (done inst.EmitIsland ⊛ natural_32))
form_of forms.Args = (codes "Args", put (done inst.Args ⊛ listed arg_pair))
form_of forms.Rets = (codes "Rets", put (done inst.Rets ⊛ listed ret_pair))
form_of forms.RawData = (codes "RawData", put (done inst.RawData ⊛ some_bytes))
-- those that write registers, and go on
form_of forms.Lui = (codes "Lui", put (done inst.Lui ⊛ writable ⊛ imm20))
form_of forms.Auipc = (codes "Auipc", put (done inst.Auipc ⊛ writable ⊛ imm20))
form_of forms.LoadInlineConst = (codes "LoadInlineConst", put (done inst.LoadInlineConst ⊛ writable ⊛ type_named ⊛ natural))
form_of forms.AluRRR = (codes "AluRRR", put (done inst.AluRRR ⊛ alu_rrr ⊛ writable ⊛ register ⊛ register))
form_of forms.AluRRImm12 = (codes "AluRRImm12", put (done inst.AluRRImm12 ⊛ alu_rri ⊛ writable ⊛ register ⊛ imm12))
form_of forms.Mov = (codes "Mov", put (done inst.Mov ⊛ writable ⊛ register ⊛ type_named))
form_of forms.MovFromPReg = (codes "MovFromPReg", put (done inst.MovFromPReg ⊛ writable ⊛ real_register))
form_of forms.Extend = (codes "Extend", put (done inst.Extend ⊛ writable ⊛ register ⊛ signedness ⊛ natural_8 ⊛ natural_8))
form_of forms.Select =
    (codes "Select", put (done selecting ⊛ value_regs writable ⊛ cond_code ⊛ register ⊛ register ⊛ value_regs register ⊛ value_regs register))
-- those that read or write memory, or compute an address
form_of forms.Load = (codes "Load", put (done inst.Load ⊛ writable ⊛ load_op ⊛ access_flags ⊛ amode))
form_of forms.Store = (codes "Store", put (done storing ⊛ amode ⊛ store_op ⊛ access_flags ⊛ register))
form_of forms.LoadAddr = (codes "LoadAddr", put (done inst.LoadAddr ⊛ writable ⊛ amode))
form_of forms.LabelAddress = (codes "LabelAddress", put (done inst.LabelAddress ⊛ writable ⊛ label))
-- those that go elsewhere
form_of forms.Ret = (codes "Ret", put (done inst.Ret))
form_of forms.TrapIf = (codes "TrapIf", put (done trap_if ⊛ cond_code ⊛ register ⊛ register ⊛ trap_named))
form_of forms.Jal = (codes "Jal", put (done inst.Jal ⊛ label))
form_of forms.CondBr = (codes "CondBr", put (done cond_br ⊛ cond_code ⊛ register ⊛ register ⊛ target ⊛ target))
form_of forms.BrTable = (codes "BrTable", put (done inst.BrTable ⊛ register ⊛ writable ⊛ writable ⊛ listed label))
form_of forms.Udf = (codes "Udf", put (done inst.Udf ⊛ trap_named))
form_of forms.Jalr = (codes "Jalr", put (done inst.Jalr ⊛ writable ⊛ register ⊛ imm12))
-- those that compute by a loop
form_of (forms.Loop loops.Popcnt) = (codes "Popcnt", put (done (counting inst.Popcnt) ⊛ writable ⊛ writable ⊛ writable ⊛ register ⊛ type_named))
form_of (forms.Loop loops.Cltz) = (codes "Cltz", put (done counting_zeros ⊛ writable ⊛ writable ⊛ writable ⊛ register ⊛ leading ⊛ type_named))
form_of (forms.Loop loops.Brev8) = (codes "Brev8", put (done reversing ⊛ register ⊛ type_named ⊛ writable ⊛ writable ⊛ writable ⊛ writable))
form_of (forms.Loop loops.StackProbeLoop) = (codes "StackProbeLoop", put (done inst.StackProbeLoop ⊛ natural_32 ⊛ natural_32 ⊛ writable))
-- those that depend on a symbol
form_of forms.LoadExtNameGot = (codes "LoadExtNameGot", put (done inst.LoadExtNameGot ⊛ writable ⊛ symbol))
form_of forms.LoadExtNameNear = (codes "LoadExtNameNear", put (done inst.LoadExtNameNear ⊛ writable ⊛ symbol ⊛ offset))
form_of forms.LoadExtNameFar = (codes "LoadExtNameFar", put (done inst.LoadExtNameFar ⊛ writable ⊛ symbol ⊛ offset))
-- those that call a function, or give their own function's place to another
form_of forms.Call = (codes "Call", making inst.Call (call_info symbol))
form_of forms.CallInd = (codes "CallInd", making inst.CallInd (call_info register))
form_of forms.ReturnCall = (codes "ReturnCall", put (done (tail_call inst.ReturnCall) ⊛ symbol ⊛ listed call_arg_pair ⊛ natural_32))
form_of forms.ReturnCallInd = (codes "ReturnCallInd", put (done (tail_call inst.ReturnCallInd) ⊛ register ⊛ listed call_arg_pair ⊛ natural_32))
-- those that compute with floating-point numbers, or read and write their control register
form_of (forms.Float floats.Fli) = (codes "Fli", put (done inst.Fli ⊛ fpu_width ⊛ fli_constant ⊛ writable))
form_of (forms.Float floats.FpuRR) = (codes "FpuRR", put (done inst.FpuRR ⊛ fpu_rr ⊛ fpu_width ⊛ rounding_mode ⊛ writable ⊛ register))
form_of (forms.Float floats.FpuRRR) = (codes "FpuRRR", put (done inst.FpuRRR ⊛ fpu_rrr ⊛ fpu_width ⊛ rounding_mode ⊛ writable ⊛ register ⊛ register))
form_of (forms.Float floats.FpuRRRR) =
    (codes "FpuRRRR", put (done inst.FpuRRRR ⊛ fpu_rrrr ⊛ fpu_width ⊛ rounding_mode ⊛ writable ⊛ register ⊛ register ⊛ register))
form_of (forms.Float floats.CsrReg) = (codes "CsrReg", put (done inst.CsrReg ⊛ csr_reg ⊛ writable ⊛ register ⊛ csr))
form_of (forms.Float floats.CsrImm) = (codes "CsrImm", put (done inst.CsrImm ⊛ csr_imm ⊛ writable ⊛ csr ⊛ uimm5))
-- those that order what is read and written, or read and write memory atomically
form_of (forms.Atomic atomics.Fence) = (codes "Fence", put (done inst.Fence ⊛ natural_8 ⊛ natural_8))
form_of (forms.Atomic atomics.AtomicLoad) = (codes "AtomicLoad", put (done inst.AtomicLoad ⊛ writable ⊛ type_named ⊛ register))
form_of (forms.Atomic atomics.AtomicStore) = (codes "AtomicStore", put (done inst.AtomicStore ⊛ register ⊛ type_named ⊛ register))
form_of (forms.Atomic atomics.Atomic) = (codes "Atomic", put (done inst.Atomic ⊛ atomic_op ⊛ writable ⊛ register ⊛ register ⊛ amo))
-- a label
form_of forms.Bind = (codes "Bind", whole (done kinds.Bind ⊛ label))

abbrev pub form_name : Form → List ℕ
form_name form = (form_of form).0

abbrev pub by_form : Form → List (List ℕ) → Option Line
by_form form = (form_of form).1

-- each of these
unfoldable pub every_form : List Form
every_form =
    forms.Nop0 ∷ forms.Nop4 ∷ forms.EBreak ∷ forms.SequencePoint ∷ forms.DummyUse ∷ forms.Unwind ∷ forms.EmitIsland ∷ forms.Args ∷ forms.Rets ∷ forms.RawData ∷
    forms.Lui ∷ forms.Auipc ∷ forms.LoadInlineConst ∷ forms.AluRRR ∷ forms.AluRRImm12 ∷ forms.Mov ∷ forms.MovFromPReg ∷ forms.Extend ∷ forms.Select ∷
    forms.Load ∷ forms.Store ∷ forms.LoadAddr ∷ forms.LabelAddress ∷ forms.Ret ∷ forms.TrapIf ∷ forms.Jal ∷ forms.CondBr ∷ forms.BrTable ∷ forms.Udf ∷ forms.Jalr ∷
    forms.Loop loops.Popcnt ∷ forms.Loop loops.Cltz ∷ forms.Loop loops.Brev8 ∷ forms.Loop loops.StackProbeLoop ∷
    forms.LoadExtNameGot ∷ forms.LoadExtNameNear ∷ forms.LoadExtNameFar ∷ forms.Call ∷ forms.CallInd ∷ forms.ReturnCall ∷ forms.ReturnCallInd ∷
    forms.Float floats.Fli ∷ forms.Float floats.FpuRR ∷ forms.Float floats.FpuRRR ∷ forms.Float floats.FpuRRRR ∷
    forms.Float floats.CsrReg ∷ forms.Float floats.CsrImm ∷
    forms.Atomic atomics.Fence ∷ forms.Atomic atomics.AtomicLoad ∷ forms.Atomic atomics.AtomicStore ∷ forms.Atomic atomics.Atomic ∷ forms.Bind ∷ []

-- the form of the lines that begin with this word
unfoldable pub form_named : List ℕ → Option Form
form_named w = find (λ form. bytes_eq w (form_name form)) every_form

unfoldable pub line_form : List ℕ → List (List ℕ) → Option Line
line_form name ws = form_named name >>= λ form. by_form form ws
