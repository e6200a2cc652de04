-- The text of each instruction, as a person reads it: a mnemonic or the instruction's name, a space, and operands with commas
-- between them. What stands after "##" is no operand of an assembler's.
use Rattle.std.specs.Prelude.{ℕ, ◌+◌, ◌-◌, ◌%◌, ◌==◌, if◌then◌else◌, Bool, true, false, ℤ, pos, negsuc, List, [], ◌∷◌, ◌++◌, codes, Option, Some, None, length}
use Rattle.std.specs.List.{flat_map}
use Rattle.std.specs.Ordering.{int_eq}
use Rattle.std.specs.Int.{w32, w64, from_le_bytes}
use Rattle.std.specs.Fmt.{decimal, signed_decimal}
use Rattle.rv_base.specs.declared.regs.Reg.{Reg}
use Rattle.rv_base.specs.declared.regs.Reg.TheVariants.{Real}
use Rattle.rv_base.specs.declared.ir_type.IrType.{IrType}
use Rattle.rv_base.specs.declared.ir_type.IrType.TheVariants.{I8, I16, I32, I64, I128, F16, F32, F64, F128, Vector}
use Rattle.rv_base.specs.declared.external_name.ExternalName.{ExternalName}
use Rattle.rv_base.specs.declared.call.CallInfo.{CallInfo}
use Rattle.rv_base.specs.declared.call.ReturnCallInfo.{ReturnCallInfo}
use Rattle.rv_base.specs.RegNames.{name_of}
use Rattle.rv_base.specs.IrType.{name_of as type_name}
use Rattle.rv_base.specs.Trap.{name_of as trap_name}
use Rattle.rv_base.specs.AMode.{text_of as amode_text}
use Rattle.rv_imms.specs.declared.uimm5.UImm5.{UImm5}
use Rattle.rv_imms.specs.Bits.{text_with_sign}
use Rattle.rv_ops.specs.declared.alu.AluOPRRR.{AluOPRRR}
use Rattle.rv_ops.specs.declared.alu.AluOPRRR.TheVariants as rrr
use Rattle.rv_ops.specs.declared.alu.AluOPRRI.{AluOPRRI}
use Rattle.rv_ops.specs.declared.alu.AluOPRRI.TheVariants as rri
use Rattle.rv_ops.specs.declared.compare.IntegerCompare.{IntegerCompare}
use Rattle.rv_ops.specs.Alu.{rrr_name, rri_name, rri_numbers, funct12_of}
use Rattle.rv_ops.specs.declared.float_fields.FpuOPWidth.{FpuOPWidth}
use Rattle.rv_ops.specs.declared.float_fields.FRM.{FRM}
use Rattle.rv_ops.specs.declared.fpu.FpuOPRRR.{FpuOPRRR}
use Rattle.rv_ops.specs.declared.fpu.FpuOPRRR.TheVariants as fpu
use Rattle.rv_ops.specs.declared.fpu.FpuOPRRRR.{FpuOPRRRR}
use Rattle.rv_ops.specs.declared.fpu_rr.FpuOPRR.{FpuOPRR}
use Rattle.rv_ops.specs.declared.fli.FliConstant.{FliConstant}
use Rattle.rv_ops.specs.declared.csr.CsrRegOP.{CsrRegOP}
use Rattle.rv_ops.specs.declared.csr.CsrRegOP.TheVariants.{CsrRW}
use Rattle.rv_ops.specs.declared.csr.CsrImmOP.{CsrImmOP}
use Rattle.rv_ops.specs.declared.csr.CsrImmOP.TheVariants.{CsrRWI}
use Rattle.rv_ops.specs.declared.csr.CSR.{CSR}
use Rattle.rv_ops.specs.declared.csr.CSR.TheVariants.{Frm}
use Rattle.rv_ops.specs.Csr.{csr_reg_name, csr_imm_name, csr_name}
use Rattle.rv_inst.specs.Fences.{accesses_text}
use Rattle.rv_ops.specs.Atomic.{amo_suffix, atomic_name, is_load_reserved}
use Rattle.rv_ops.specs.declared.atomic.AMO.{AMO}
use Rattle.rv_ops.specs.declared.atomic.AtomicOP.{AtomicOP}
use Rattle.rv_ops.specs.FloatFields.{frm_name}
use Rattle.rv_ops.specs.Fli.{fli_text}
use Rattle.rv_ops.specs.Fpu.{name_with_width, fpu_rr_name, fpu_rr_shows_frm, fpu_rrr_stem, fpu_rrr_shows_frm, fpu_rrrr_stem}
use Rattle.rv_ops.specs.Memory.{load_name, store_name}
use Rattle.rv_ops.specs.Compare.{branch_name}
use Rattle.rv_inst.specs.declared.inst.CondBrTarget.{CondBrTarget}
use Rattle.rv_inst.specs.declared.inst.CondBrTarget.TheVariants.{Label, Fallthrough}
use Rattle.rv_inst.specs.CondBrTargets.{text_of as target_text}
use Rattle.rv_inst.specs.declared.inst.SelectInfo.{SelectInfo}
use Rattle.rv_inst.specs.declared.inst.CountInfo.{CountInfo}
use Rattle.rv_inst.specs.declared.inst.Brev8Info.{Brev8Info}
use Rattle.rv_inst.specs.Rules.{is_zero, same_register}
use Rattle.rv_inst.specs.declared.inst.Inst.{Inst}
use Rattle.rv_inst.specs.declared.inst.Inst.TheVariants.{Nop0, Nop4, EBreak, SequencePoint, Args, Rets, DummyUse, Unwind, EmitIsland, RawData, Lui, Auipc, LoadInlineConst, AluRRR, AluRRImm12, Mov, MovFromPReg, Extend, Select, Load, Store, LoadAddr, LabelAddress, Ret, TrapIf, Jal, CondBr, BrTable, Udf, Jalr, Popcnt, Cltz, Brev8, StackProbeLoop, LoadExtNameGot, LoadExtNameNear, LoadExtNameFar, Call, CallInd, ReturnCall, ReturnCallInd, Fli, FpuRR, FpuRRR, FpuRRRR, CsrReg, CsrImm, Fence, AtomicLoad, AtomicStore, Atomic}
use Rattle.rv_text.specs.Operands.{two, three, four, hex, label_text, listed, compare_text, value_text, written, table_text, arg_text, ret_text, use_text, unwind_text, try_text}

-- four bytes or eight as one number, the lowest byte first; others one by one
abbrev pub data_text : List ℕ → List ℕ
data_text bytes =
    if length bytes == 4 then codes ".4byte " ++ hex (from_le_bytes w32 bytes) else
    if length bytes == 8 then codes ".8byte " ++ hex (from_le_bytes w64 bytes) else
    codes ".data [" ++ listed decimal bytes ++ codes "]"

-- what the constant's instructions and data are
abbrev pub inline_text : Reg → ℕ → List ℕ
inline_text rd imm =
    codes "auipc " ++ name_of rd ++ codes ",0; ld " ++ name_of rd ++ codes ",12(" ++ name_of rd ++ codes "); j 12; .8byte " ++ hex imm

-- add.uw of x0 goes by its pseudo-instruction's name
abbrev pub rrr_text : AluOPRRR → Reg → Reg → Reg → List ℕ
rrr_text rrr.Adduw rd rs1 rs2 =
    if is_zero rs2 then two (codes "zext.w") (name_of rd) (name_of rs1) else three (codes "add.uw") (name_of rd) (name_of rs1) (name_of rs2)
rrr_text op rd rs1 rs2 = three (rrr_name op) (name_of rd) (name_of rs1) (name_of rs2)

-- an operation, with its immediate where it takes one
abbrev pub with_immediate : Option ℕ → List ℕ → Reg → Reg → ℤ → List ℕ
with_immediate (Some funct12) name rd rs imm = two name (name_of rd) (name_of rs)
with_immediate None name rd rs imm = three name (name_of rd) (name_of rs) (signed_decimal imm)

-- li, sext.w, not and seqz are pseudo-instructions: operations with x0, or with one certain immediate
abbrev pub rri_text : AluOPRRI → Reg → Reg → ℤ → List ℕ
rri_text rri.Addi rd rs imm =
    if is_zero rs then two (codes "li") (name_of rd) (signed_decimal imm) else three (codes "addi") (name_of rd) (name_of rs) (signed_decimal imm)
rri_text rri.Addiw rd rs imm =
    if int_eq imm (pos 0) then two (codes "sext.w") (name_of rd) (name_of rs) else three (codes "addiw") (name_of rd) (name_of rs) (signed_decimal imm)
rri_text rri.Xori rd rs imm =
    if int_eq imm (negsuc 0) then two (codes "not") (name_of rd) (name_of rs) else three (codes "xori") (name_of rd) (name_of rs) (signed_decimal imm)
rri_text rri.SltiU rd rs imm =
    if int_eq imm (pos 1) then two (codes "seqz") (name_of rd) (name_of rs) else three (codes "sltiu") (name_of rd) (name_of rs) (signed_decimal imm)
rri_text op rd rs imm = with_immediate (funct12_of (rri_numbers op).upper) (rri_name op) rd rs imm

abbrev pub move_name : IrType → List ℕ
move_name I8 = codes "mv"
move_name I16 = codes "mv"
move_name I32 = codes "mv"
move_name I64 = codes "mv"
move_name I128 = codes "mv"
move_name F16 = codes "fmv.h"
move_name F32 = codes "fmv.s"
move_name F64 = codes "fmv.d"
move_name F128 = codes "mv"
move_name (Vector v) = codes "vmv1r.v"

-- by how many bits both shifts of an extension go: 64 less its width, modulo 256
abbrev pub shift_of : ℕ → ℕ
shift_of from_bits = (320 - from_bits) % 256

abbrev pub shifts_text : List ℕ → Reg → Reg → ℕ → List ℕ
shifts_text name rd rn shift =
    three (codes "slli") (name_of rd) (name_of rn) (decimal shift) ++ codes "; " ++ three name (name_of rd) (name_of rd) (decimal shift)

abbrev pub extend_text : Reg → Reg → Bool → ℕ → List ℕ
extend_text rd rn true from_bits = shifts_text (codes "srai") rd rn (shift_of from_bits)
extend_text rd rn false from_bits =
    if from_bits == 8 then two (codes "andi") (name_of rd) (name_of rn) else shifts_text (codes "srli") rd rn (shift_of from_bits)

abbrev pub select_text : SelectInfo → List ℕ
select_text s = three (codes "select") (value_text (written s.dst)) (value_text s.x) (value_text s.y) ++ codes "##condition=" ++ compare_text s.condition

-- where the branch goes on each side; 0 where it goes nowhere
abbrev pub both_text : CondBrTarget → CondBrTarget → List ℕ
both_text taken not_taken = codes "taken(" ++ target_text taken ++ codes "),not_taken(" ++ target_text not_taken ++ codes ")"

abbrev pub sides_text : CondBrTarget → CondBrTarget → List ℕ
sides_text Fallthrough Fallthrough = codes "0"
sides_text (Label taken) not_taken = both_text (Label taken) not_taken
sides_text Fallthrough (Label not_taken) = both_text Fallthrough (Label not_taken)

abbrev pub count_text : List ℕ → CountInfo → List ℕ
count_text name c =
    two name (name_of c.sum.reg) (name_of c.rs) ++ codes "##ty=" ++ type_name c.ty ++ codes " tmp=" ++ name_of c.tmp.reg ++ codes " step=" ++ name_of c.step.reg

-- a register, and the address in another one
abbrev pub typed_access_text : List ℕ → IrType → Reg → Reg → List ℕ
typed_access_text name type r p = name ++ type_name type ++ codes " " ++ name_of r ++ codes ",(" ++ name_of p ++ codes ")"

-- a load-reserved has no source
abbrev pub atomic_text : AtomicOP → AMO → Reg → Reg → Reg → List ℕ
atomic_text op amo rd addr src =
    atomic_name op ++ amo_suffix amo ++ codes " " ++ name_of rd ++ (if is_load_reserved op then [] else codes "," ++ name_of src) ++ codes ",(" ++ name_of addr ++ codes ")"

abbrev pub zeros_name : Bool → List ℕ
zeros_name true = codes "clz"
zeros_name false = codes "ctz"

abbrev pub brev8_text : Brev8Info → List ℕ
brev8_text b =
    two (codes "brev8") (name_of b.rd.reg) (name_of b.rs) ++ codes "##tmp=" ++ name_of b.tmp.reg ++ codes " tmp2=" ++ name_of b.tmp2.reg
    ++ codes " step=" ++ name_of b.step.reg ++ codes " ty=" ++ type_name b.ty

abbrev pub symbol_text : ExternalName → List ℕ
symbol_text name = codes "userextname" ++ decimal name.number

-- the rounding mode, where an operation's text shows it
abbrev pub mode_text : Bool → FRM → List ℕ
mode_text true frm = codes "," ++ frm_name frm
mode_text false frm = []

-- a constant goes by its text, not by its number
abbrev pub constant_text : FpuOPWidth → Reg → FliConstant → List ℕ
constant_text width rd imm = two (name_with_width (codes "fli") width) (name_of rd) (fli_text imm.value)

abbrev pub fpu_rr_text : FpuOPRR → FpuOPWidth → FRM → Reg → Reg → List ℕ
fpu_rr_text op width frm rd rs = two (fpu_rr_name op width) (name_of rd) (name_of rs) ++ mode_text (fpu_rr_shows_frm op) frm

abbrev pub plain_fpu_rrr_text : FpuOPRRR → FpuOPWidth → FRM → Reg → Reg → Reg → List ℕ
plain_fpu_rrr_text op width frm rd rs1 rs2 =
    three (name_with_width (fpu_rrr_stem op) width) (name_of rd) (name_of rs1) (name_of rs2) ++ mode_text (fpu_rrr_shows_frm op) frm

abbrev pub same_source_text : List ℕ → FpuOPWidth → Reg → Reg → List ℕ
same_source_text name width rd rs = two (name_with_width name width) (name_of rd) (name_of rs)

-- fmv, fneg and fabs are pseudo-instructions: the sign of a register, put on itself as it is, turned or cleared
abbrev pub fpu_rrr_text : FpuOPRRR → FpuOPWidth → FRM → Reg → Reg → Reg → List ℕ
fpu_rrr_text fpu.Fsgnj width frm rd rs1 rs2 =
    if same_register rs1 rs2 then same_source_text (codes "fmv") width rd rs1 else plain_fpu_rrr_text fpu.Fsgnj width frm rd rs1 rs2
fpu_rrr_text fpu.Fsgnjn width frm rd rs1 rs2 =
    if same_register rs1 rs2 then same_source_text (codes "fneg") width rd rs1 else plain_fpu_rrr_text fpu.Fsgnjn width frm rd rs1 rs2
fpu_rrr_text fpu.Fsgnjx width frm rd rs1 rs2 =
    if same_register rs1 rs2 then same_source_text (codes "fabs") width rd rs1 else plain_fpu_rrr_text fpu.Fsgnjx width frm rd rs1 rs2
fpu_rrr_text op width frm rd rs1 rs2 = plain_fpu_rrr_text op width frm rd rs1 rs2

abbrev pub fpu_rrrr_text : FpuOPRRRR → FpuOPWidth → FRM → Reg → Reg → Reg → Reg → List ℕ
fpu_rrrr_text op width frm rd rs1 rs2 rs3 =
    four (name_with_width (fpu_rrrr_stem op) width) (name_of rd) (name_of rs1) (name_of rs2) (name_of rs3) ++ mode_text true frm

-- fsrm is a pseudo-instruction: frm is written, and what it held is dropped
abbrev pub csr_reg_text : CsrRegOP → Reg → Reg → CSR → List ℕ
csr_reg_text CsrRW rd rs Frm = if is_zero rd then codes "fsrm " ++ name_of rs else three (csr_reg_name CsrRW) (name_of rd) (csr_name Frm) (name_of rs)
csr_reg_text op rd rs csr = three (csr_reg_name op) (name_of rd) (csr_name csr) (name_of rs)

-- and so is fsrmi, where what it held is kept
abbrev pub csr_imm_text : CsrImmOP → Reg → CSR → UImm5 → List ℕ
csr_imm_text CsrRWI rd Frm imm =
    if is_zero rd
    then three (csr_imm_name CsrRWI) (name_of rd) (csr_name Frm) (decimal imm.value)
    else two (codes "fsrmi") (name_of rd) (decimal imm.value)
csr_imm_text op rd csr imm = three (csr_imm_name op) (name_of rd) (csr_name csr) (decimal imm.value)

abbrev pub text_of : Inst → List ℕ
text_of Nop0 = codes "##zero length nop"
text_of Nop4 = codes "##fixed 4-size nop"
text_of EBreak = codes "ebreak"
text_of SequencePoint = codes "sequence_point"
text_of (Args args) = codes "args" ++ flat_map arg_text args
text_of (Rets rets) = codes "rets" ++ flat_map ret_text rets
text_of (DummyUse reg) = codes "dummy_use " ++ name_of reg
text_of (Unwind inst) = codes "unwind " ++ unwind_text inst
text_of (EmitIsland needed_space) = codes "emit_island " ++ decimal needed_space
text_of (RawData bytes) = data_text bytes
text_of (Lui rd imm) = two (codes "lui") (name_of rd.reg) (signed_decimal imm.value)
text_of (Auipc rd imm) = two (codes "auipc") (name_of rd.reg) (signed_decimal imm.value)
text_of (LoadInlineConst rd type imm) = inline_text rd.reg imm
text_of (AluRRR op rd rs1 rs2) = rrr_text op rd.reg rs1 rs2
text_of (AluRRImm12 op rd rs imm) = rri_text op rd.reg rs imm.value
text_of (Mov rd rm type) = two (move_name type) (name_of rd.reg) (name_of rm)
text_of (MovFromPReg rd rm) = two (codes "mv") (name_of rd.reg) (name_of (Real rm))
text_of (Extend rd rn signed from_bits to_bits) = extend_text rd.reg rn signed from_bits
text_of (Select info) = select_text info
text_of (Load rd op flags from) = two (load_name op) (name_of rd.reg) (amode_text from)
text_of (Store src op flags to) = two (store_name op) (name_of src) (amode_text to)
text_of (LoadAddr rd mem) = two (codes "load_addr") (name_of rd.reg) (amode_text mem)
text_of (LabelAddress dst label) = codes "label_address " ++ name_of dst.reg ++ codes ", " ++ label_text label
text_of Ret = codes "ret"
text_of (TrapIf cmp code) = codes "trap_if " ++ trap_name code ++ codes "##" ++ compare_text cmp
text_of (Jal label) = codes "j label" ++ decimal label.number
text_of (CondBr taken not_taken kind) = three (branch_name kind.kind) (name_of kind.rs1) (name_of kind.rs2) (sides_text taken not_taken)
text_of (BrTable index tmp1 tmp2 targets) =
    two (codes "br_table") (name_of index) (table_text targets) ++ codes "##tmp1=" ++ name_of tmp1.reg ++ codes ",tmp2=" ++ name_of tmp2.reg
text_of (Udf code) = codes "udf##trap_code=" ++ trap_name code
text_of (Jalr rd base offset) = two (codes "jalr") (name_of rd.reg) (signed_decimal offset.value ++ codes "(" ++ name_of base ++ codes ")")
text_of (Popcnt info) = count_text (codes "popcnt") info
text_of (Cltz leading info) = count_text (zeros_name leading) info
text_of (Brev8 info) = brev8_text info
text_of (StackProbeLoop guard_size probe_count tmp) =
    codes "inline_stack_probe##guard_size=" ++ decimal guard_size ++ codes " probe_count=" ++ decimal probe_count ++ codes " tmp=" ++ name_of tmp.reg
text_of (Fence pred succ) = codes "fence " ++ accesses_text pred ++ codes "," ++ accesses_text succ
text_of (AtomicLoad rd type p) = typed_access_text (codes "atomic_load.") type rd.reg p
text_of (AtomicStore src type p) = typed_access_text (codes "atomic_store.") type src p
text_of (LoadExtNameGot rd name) = two (codes "load_ext_name_got") (name_of rd.reg) (symbol_text name)
text_of (LoadExtNameNear rd name offset) = two (codes "load_ext_name_near") (name_of rd.reg) (symbol_text name ++ text_with_sign offset)
text_of (LoadExtNameFar rd name offset) = two (codes "load_ext_name_far") (name_of rd.reg) (symbol_text name ++ text_with_sign offset)
text_of (Call info) = codes "call " ++ symbol_text info.dest ++ try_text info.try_call_info
text_of (CallInd info) = codes "callind " ++ name_of info.dest ++ try_text info.try_call_info
text_of (ReturnCall info) =
    codes "return_call User(" ++ symbol_text info.dest ++ codes ") new_stack_arg_size:" ++ decimal info.new_stack_arg_size ++ flat_map use_text info.uses
text_of (ReturnCallInd info) =
    codes "return_call_ind " ++ name_of info.dest ++ codes " new_stack_arg_size:" ++ decimal info.new_stack_arg_size ++ flat_map use_text info.uses
text_of (Fli width imm rd) = constant_text width rd.reg imm
text_of (FpuRR op width frm rd rs) = fpu_rr_text op width frm rd.reg rs
text_of (FpuRRR op width frm rd rs1 rs2) = fpu_rrr_text op width frm rd.reg rs1 rs2
text_of (FpuRRRR op width frm rd rs1 rs2 rs3) = fpu_rrrr_text op width frm rd.reg rs1 rs2 rs3
text_of (CsrReg op rd rs csr) = csr_reg_text op rd.reg rs csr
text_of (CsrImm op rd csr imm) = csr_imm_text op rd.reg csr imm
text_of (Atomic op rd addr src amo) = atomic_text op amo rd.reg addr src
