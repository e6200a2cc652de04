-- The operations of the machine that instructions are, with their operands.
use Rattle.std.specs.Prelude.{◌≡◌, ℕ, ◌+◌, ◌*◌, ◌^◌, ◌==◌, if◌then◌else◌, Bool, true, ℤ, pos, Option, Some, None}
use Rattle.std.specs.Option.{option_map, option_or}
use Rattle.rv_base.specs.declared.flags.IsaFlags.{IsaFlags}
use Rattle.rv_base.specs.Regs.{number_of}
use Rattle.rv_imms.specs.declared.imm12.Imm12.{Imm12}
use Rattle.rv_imms.specs.Bits.{low_bits}
use Rattle.rv_ops.specs.Alu.{rri_numbers, imm12_of}
use Rattle.rv_ops.specs.declared.alu.AluOPRRR.{AluOPRRR}
use Rattle.rv_ops.specs.declared.alu.AluOPRRI.{AluOPRRI}
use Rattle.rv_ops.specs.declared.compare.BranchFunct3.{BranchFunct3}
use Rattle.rv_ops.specs.declared.compare.BranchFunct3.TheVariants as branch
use Rattle.rv_ops.specs.declared.compare.IntegerCompare.{IntegerCompare}
use Rattle.rv_ops.specs.declared.memory.LoadOP.{LoadOP}
use Rattle.rv_ops.specs.declared.memory.LoadOP.TheVariants as loads
use Rattle.rv_ops.specs.declared.memory.StoreOP.{StoreOP}
use Rattle.rv_ops.specs.declared.float_fields.FpuOPWidth.{FpuOPWidth}
use Rattle.rv_ops.specs.declared.float_fields.FRM.{FRM}
use Rattle.rv_ops.specs.declared.fpu_rr.FpuOPRR.{FpuOPRR}
use Rattle.rv_ops.specs.declared.fpu.FpuOPRRR.{FpuOPRRR}
use Rattle.rv_ops.specs.declared.fpu.FpuOPRRRR.{FpuOPRRRR}
use Rattle.rv_ops.specs.declared.atomic.AMO.{AMO}
use Rattle.rv_ops.specs.declared.atomic.AtomicOP.{AtomicOP}
use Rattle.rv_ops.specs.Atomic.{amo_bits, atomic_op, atomic_width}
use Rattle.rv_ops.specs.declared.csr.CsrRegOP.{CsrRegOP}
use Rattle.rv_ops.specs.declared.csr.CsrImmOP.{CsrImmOP}
use Rattle.rv_ops.specs.declared.csr.CSR.{CSR}
use Rattle.rv_ops.specs.FloatFields.{format_of, frm_bits, is_width, mode_of, takes_frm}
use Rattle.rv_ops.specs.Fpu.{fli_funct5, takes_width, with_width}
use Rattle.rv_ops.specs.Fpu.{fpu_rr_numbers, fpu_rr_op, fpu_rr_widths, fpu_rrr_numbers, fpu_rrr_op, fpu_rrrr_op, fpu_rrrr_opcode}
use Rattle.rv_ops.specs.Csr.{csr_imm_funct3, csr_imm_op, csr_number, csr_reg_funct3, csr_reg_op}
use Rattle.rv_ops.specs.Compare.{branch_of, rs1_of, rs2_of}
use Rattle.rv_ops.specs.Operations.{is_exchanged, rrr_row, rri_row, immediate_of, kept_bits}
use Rattle.rv_machine.specs.declared.decoding.Decoded.{Decoded}
use Rattle.rv_machine.specs.declared.ops.MOp.{MOp}
use Rattle.rv_machine.specs.declared.ops.MOp.TheVariants.{Base, Load, Store, Alu, Carry, Atomic, Csr, FloatLoad, FloatStore, Float}
use Rattle.rv_machine.specs.declared.ops.BaseOp.{BaseOp}
use Rattle.rv_machine.specs.declared.ops.BaseOp.TheVariants as base
use Rattle.rv_machine.specs.declared.ops.FloatFormat.{FloatFormat}
use Rattle.rv_machine.specs.declared.ops.FloatOp.TheVariants as float
use Rattle.rv_machine.specs.declared.ops.LoadOp.{LoadOp}
use Rattle.rv_machine.specs.declared.ops.LoadOp.TheVariants as load
use Rattle.rv_machine.specs.declared.ops.StoreOp.{StoreOp}
use Rattle.rv_machine.specs.Opcodes.{JALR, LOAD, STORE, OP_IMM, OP_IMM_32, OP, OP_32, OP_FP, SYSTEM}
use Rattle.rv_machine.specs.UnitDecode.{has_format}
use Rattle.rv_machine.specs.Tables.{load_entry, store_entry, imm_entry, imm_32_entry, op_entry, op_32_entry, unary_op_32_entry}
use Rattle.rv_machine.specs.UnitTables.{carry_entry, carry_32_entry}
pub use Rattle.rv_machine.specs.Layout.{decoded, rounded}
use Rattle.rv_ops.specs.Memory.{load_format, store_format}
pub use Rattle.rv_ops.specs.Memory.{store_op}

-- ---- by the fixed fields of a layout

-- the operation of layout R with these fields, where they are one's; packw of x0 is zext.h, whose twelve highest bits are fixed
abbrev pub r_op : ℕ → ℕ → ℕ → ℕ → Option MOp
r_op opcode funct3 rs2 funct7 =
    if opcode == OP then option_or (option_map Alu (op_entry funct7 funct3)) (option_map Carry (carry_entry funct7 funct3)) else
    if opcode == OP_32 then option_or (option_map Alu (op_32_entry funct7 funct3)) (if rs2 == 0 then option_map Alu (unary_op_32_entry (funct7 * 2 ^ 5) funct3) else option_map Carry (carry_32_entry funct7 funct3)) else
    None

-- the operation of layout I with these fields whose immediate is a number of twelve bits, where they are one's; shifts and
-- operations of one source have fixed fields in the immediate, too
abbrev pub i_op : ℕ → ℕ → Option MOp
i_op opcode funct3 =
    if opcode == JALR then (if funct3 == 0 then Some (Base base.Jalr) else None) else
    if opcode == LOAD then option_map Load (load_entry funct3) else
    if opcode == OP_IMM then option_map Alu (imm_entry funct3) else
    if opcode == OP_IMM_32 then option_map Alu (imm_32_entry funct3) else
    None

-- the operation of layout S with these fields, where they are one's
abbrev pub s_op : ℕ → ℕ → Option MOp
s_op opcode funct3 = if opcode == STORE then option_map Store (store_entry funct3) else None

-- these fields of layout I are an operation's with this immediate: of a shift the amount stands below bits of its own, and an operation
-- of one source has no other bits
pub record IsRowOfRRI (op : AluOPRRI) (imm : Imm12) (opcode funct3 bits : ℕ) : Type 0 where
  pub opcode_is : opcode ≡ (rri_numbers op).opcode
  pub funct3_is : funct3 ≡ (rri_numbers op).funct3
  pub bits_are : bits ≡ imm12_of (rri_numbers op).upper (low_bits (2 ^ 12) imm.value)

-- These fields of layout R are a floating-point operation's of two sources, of a width that the machine has and a rounding mode that the
-- operation takes.
pub record IsRowOfFpuRRR (op : FpuOPRRR) (width : FpuOPWidth) (frm : FRM) (opcode funct3 funct7 : ℕ) : Type 0 where
  pub opcode_is : opcode ≡ OP_FP
  pub funct3_is : funct3 ≡ frm_bits frm
  pub funct7_is : funct7 ≡ with_width (fpu_rrr_numbers op).funct5 width
  pub has_width : is_width width ≡ true
  pub takes_mode : takes_frm (fpu_rrr_numbers op).rounding frm ≡ true

-- one's of one source, whose selector stands in the place of rs2
pub record IsRowOfFpuRR (op : FpuOPRR) (width : FpuOPWidth) (frm : FRM) (opcode funct3 rs2 funct7 : ℕ) : Type 0 where
  pub opcode_is : opcode ≡ OP_FP
  pub funct3_is : funct3 ≡ frm_bits frm
  pub rs2_is : rs2 ≡ (fpu_rr_numbers op).selector
  pub funct7_is : funct7 ≡ with_width (fpu_rr_numbers op).funct5 width
  pub has_width : takes_width (fpu_rr_widths op) width ≡ true
  pub takes_mode : takes_frm (fpu_rr_numbers op).rounding frm ≡ true

-- a fused multiplication's, whose third source stands over the width
pub record IsRowOfFpuRRRR (op : FpuOPRRRR) (width : FpuOPWidth) (frm : FRM) (rs3 opcode funct3 funct7 : ℕ) : Type 0 where
  pub opcode_is : opcode ≡ fpu_rrrr_opcode op
  pub funct3_is : funct3 ≡ frm_bits frm
  pub funct7_is : funct7 ≡ with_width rs3 width
  pub has_width : is_width width ≡ true

-- those of fli, whose constant stands in the place of rs1
pub record IsRowOfFli (width : FpuOPWidth) (opcode funct3 rs2 funct7 : ℕ) : Type 0 where
  pub opcode_is : opcode ≡ OP_FP
  pub funct3_is : funct3 ≡ 0
  pub rs2_is : rs2 ≡ 1
  pub funct7_is : funct7 ≡ with_width fli_funct5 width
  pub has_width : is_width width ≡ true

-- these fields of layout I are those of an operation on a CSR: of a register, or of an immediate in the place of rs1
pub record IsRowOfCsrReg (op : CsrRegOP) (csr : CSR) (opcode funct3 bits : ℕ) : Type 0 where
  pub opcode_is : opcode ≡ SYSTEM
  pub funct3_is : funct3 ≡ csr_reg_funct3 op
  pub bits_are : bits ≡ csr_number csr

pub record IsRowOfCsrImm (op : CsrImmOP) (csr : CSR) (opcode funct3 bits : ℕ) : Type 0 where
  pub opcode_is : opcode ≡ SYSTEM
  pub funct3_is : funct3 ≡ csr_imm_funct3 op
  pub bits_are : bits ≡ csr_number csr

-- ---- by an instruction's name

-- an operation of two registers; sgt and sgtu have their sources exchanged, and packw of x0 is zext.h
abbrev pub decoded_rrr : AluOPRRR → ℕ → ℕ → ℕ → Decoded
decoded_rrr op rd rs1 rs2 = if is_exchanged op then decoded (rrr_row op rs2) rd rs2 rs1 (pos 0) else decoded (rrr_row op rs2) rd rs1 rs2 (pos 0)

-- an operation of a register and an immediate, of which the word keeps what the operation takes
abbrev pub decoded_rri : AluOPRRI → ℕ → ℕ → ℤ → Decoded
decoded_rri op rd rs imm = decoded (rri_row op) rd rs 0 (kept_bits (immediate_of op) imm)

-- the machine's load of an integer register from the same bytes, zero-extended where a floating-point register is loaded
abbrev pub load_op : LoadOP → LoadOp
load_op loads.Lb = load.Lb
load_op loads.Lh = load.Lh
load_op loads.Lw = load.Lw
load_op loads.Lbu = load.Lbu
load_op loads.Lhu = load.Lhu
load_op loads.Lwu = load.Lwu
load_op loads.Ld = load.Ld
load_op loads.Flh = load.Lhu
load_op loads.Flw = load.Lwu
load_op loads.Fld = load.Ld

-- the load of an integer register, or that of a number of a format
abbrev pub load_of_format : Option FloatFormat → LoadOp → MOp
load_of_format None op = Load op
load_of_format (Some format) op = FloatLoad format

-- the machine's load
abbrev pub load_row : LoadOP → MOp
load_row op = load_of_format (load_format op) (load_op op)

-- the store of an integer register, or that of a number of a format
abbrev pub store_of_format : Option FloatFormat → StoreOp → MOp
store_of_format None op = Store op
store_of_format (Some format) op = FloatStore format

-- the machine's store
abbrev pub store_row : StoreOP → MOp
store_row op = store_of_format (store_format op) (store_op op)

-- whether the machine has a load or a store: one of halves needs Zfhmin
abbrev pub has_numbers : IsaFlags → Option FloatFormat → Bool
has_numbers flags None = true
has_numbers flags (Some format) = has_format flags format

abbrev pub has_load : IsaFlags → LoadOP → Bool
has_load flags op = has_numbers flags (load_format op)

abbrev pub has_store : IsaFlags → StoreOP → Bool
has_store flags op = has_numbers flags (store_format op)

-- a load into rd, from an offset past a base
abbrev pub decoded_load : LoadOP → ℕ → ℕ → ℤ → Decoded
decoded_load op rd base offset = decoded (load_row op) rd base 0 offset

-- a store of a register, to an offset past a base
abbrev pub decoded_store : StoreOP → ℕ → ℕ → ℤ → Decoded
decoded_store op base src offset = decoded (store_row op) 0 base src offset

abbrev pub branch_op : BranchFunct3 → BaseOp
branch_op branch.Eq = base.Beq
branch_op branch.Ne = base.Bne
branch_op branch.Lt = base.Blt
branch_op branch.Ge = base.Bge
branch_op branch.Ltu = base.Bltu
branch_op branch.Geu = base.Bgeu

-- the branch by a distance where a comparison holds; some have their registers exchanged
abbrev pub decoded_branch : IntegerCompare → ℤ → Decoded
decoded_branch c distance = decoded (Base (branch_op (branch_of c.kind))) 0 (number_of (rs1_of c)) (number_of (rs2_of c)) distance

-- ---- floating-point operations, of a width that the machine has

-- of one source; one that doesn't round has no rounding mode
abbrev pub decoded_fpu_rr : FpuOPRR → FpuOPWidth → FRM → ℕ → ℕ → Decoded
decoded_fpu_rr op width frm rd rs = rounded (decoded (Float (format_of width) (fpu_rr_op op)) rd rs 0 (pos 0)) 0 (mode_of (fpu_rr_numbers op).rounding frm)

-- of two sources; one that doesn't round has no rounding mode
abbrev pub decoded_fpu_rrr : FpuOPRRR → FpuOPWidth → FRM → ℕ → ℕ → ℕ → Decoded
decoded_fpu_rrr op width frm rd rs1 rs2 = rounded (decoded (Float (format_of width) (fpu_rrr_op op)) rd rs1 rs2 (pos 0)) 0 (mode_of (fpu_rrr_numbers op).rounding frm)

-- of three sources
abbrev pub decoded_fpu_rrrr : FpuOPRRRR → FpuOPWidth → FRM → ℕ → ℕ → ℕ → ℕ → Decoded
decoded_fpu_rrrr op width frm rd rs1 rs2 rs3 = rounded (decoded (Float (format_of width) (fpu_rrrr_op op)) rd rs1 rs2 (pos 0)) rs3 (frm_bits frm)

-- of a constant, whose number stands in the place of rs1
abbrev pub decoded_fli : FpuOPWidth → ℕ → ℕ → Decoded
decoded_fli width rd constant = decoded (Float (format_of width) float.Fli) rd constant 0 (pos 0)

-- ---- operations on a CSR, which is frm; an immediate stands in the place of rs1

abbrev pub decoded_csr_reg : CsrRegOP → ℕ → ℕ → Decoded
decoded_csr_reg op rd rs = decoded (Csr (csr_reg_op op)) rd rs 0 (pos 0)

abbrev pub decoded_csr_imm : CsrImmOP → ℕ → ℕ → Decoded
decoded_csr_imm op rd imm = decoded (Csr (csr_imm_op op)) rd imm 0 (pos 0)

-- ---- atomic operations, and fences

-- the ordering bits stand in the place of the immediate
abbrev pub decoded_atomic : AtomicOP → AMO → ℕ → ℕ → ℕ → Decoded
decoded_atomic op amo rd addr src = decoded (Atomic (atomic_op op) (atomic_width op)) rd addr src (pos (amo_bits amo))

-- what comes before, and what comes after
abbrev pub decoded_fence : ℕ → ℕ → Decoded
decoded_fence pred succ = decoded (Base base.Fence) 0 0 0 (pos (16 * pred + succ))
