-- Where each field of a row stands in a word, or in an instruction of 16 bits: "2.3 Immediate Encoding Variants" and "Compressed
-- Instruction Formats". This only links the reader to its proof: no public clause reaches it.
use Rattle.std.specs.Prelude.{ℕ, ◌+◌, ◌*◌, ◌/◌, ◌%◌, ◌^◌}
use Rattle.rv_machine.specs.declared.ops.MOp.{MOp}
use Rattle.rv_machine.specs.declared.ops.MOp.TheVariants.{Base, Load, Store, Alu, Carry, Atomic, Csr, FloatLoad, FloatStore, Float, VecMem, Vec}
use Rattle.rv_machine.specs.declared.ops.BaseOp.{BaseOp}
use Rattle.rv_machine.specs.declared.ops.BaseOp.TheVariants as base
use Rattle.rv_disasm.specs.declared.layouts.Field.{Field}
use Rattle.rv_disasm.specs.declared.layouts.Field.TheVariants.{Rd, Rs1, Rs2, Rs3, Imm, Rounding, Ordering, Mask, Pred, Succ, Funct6, Funct3}
use Rattle.rv_disasm.specs.declared.halfwords.HalfOp.{HalfOp}
use Rattle.rv_disasm.specs.declared.halfwords.HalfOp.TheVariants as half
use Rattle.rv_disasm.specs.declared.forms.Form.{Form}
use Rattle.rv_disasm.specs.declared.forms.Form.TheVariants as form
use Rattle.rv_disasm.specs.Fixed.{fixed_of, half_fixed}

-- ---- immediates of words

abbrev pub i_place : ℕ → ℕ
i_place n = n % 2 ^ 12 * 2 ^ 20

abbrev pub s_place : ℕ → ℕ
s_place n = n % 2 ^ 5 * 2 ^ 7 + n / 2 ^ 5 % 2 ^ 7 * 2 ^ 25

abbrev pub b_place : ℕ → ℕ
b_place n = n / 2 ^ 11 % 2 * 2 ^ 7 + n / 2 % 2 ^ 4 * 2 ^ 8 + n / 2 ^ 5 % 2 ^ 6 * 2 ^ 25 + n / 2 ^ 12 % 2 * 2 ^ 31

abbrev pub u_place : ℕ → ℕ
u_place n = n % 2 ^ 20 * 2 ^ 12

abbrev pub j_place : ℕ → ℕ
j_place n = n / 2 ^ 12 % 2 ^ 8 * 2 ^ 12 + n / 2 ^ 11 % 2 * 2 ^ 20 + n / 2 % 2 ^ 10 * 2 ^ 21 + n / 2 ^ 20 % 2 * 2 ^ 31

abbrev pub base_place : BaseOp → ℕ → ℕ
base_place base.Lui n = u_place n
base_place base.Auipc n = u_place n
base_place base.Jal n = j_place n
base_place base.Jalr n = i_place n
base_place base.Beq n = b_place n
base_place base.Bne n = b_place n
base_place base.Blt n = b_place n
base_place base.Bge n = b_place n
base_place base.Bltu n = b_place n
base_place base.Bgeu n = b_place n
base_place base.Fence n = i_place n
base_place base.Ebreak n = i_place n

-- a shift amount stands where the immediate of layout I begins
abbrev pub imm_place : MOp → ℕ → ℕ
imm_place (Base op) n = base_place op n
imm_place (Load op) n = i_place n
imm_place (Store op) n = s_place n
imm_place (Alu op) n = i_place n
imm_place (Carry op) n = i_place n
imm_place (Atomic op width) n = i_place n
imm_place (Csr op) n = i_place n
imm_place (FloatLoad format) n = i_place n
imm_place (FloatStore format) n = s_place n
imm_place (Float format op) n = i_place n
imm_place (VecMem op) n = i_place n
imm_place (Vec funct6 funct3) n = i_place n

abbrev pub word_place : MOp → Field → ℕ → ℕ
word_place op (Rd file) n = n % 2 ^ 5 * 2 ^ 7
word_place op (Rs1 file) n = n % 2 ^ 5 * 2 ^ 15
word_place op (Rs2 file) n = n % 2 ^ 5 * 2 ^ 20
word_place op (Rs3 file) n = n % 2 ^ 5 * 2 ^ 27
word_place op Imm n = imm_place op n
word_place op Rounding n = n % 2 ^ 3 * 2 ^ 12
word_place op Ordering n = n % 2 ^ 2 * 2 ^ 25
word_place op Mask n = n % 2 * 2 ^ 25
word_place op Pred n = n % 2 ^ 4 * 2 ^ 24
word_place op Succ n = n % 2 ^ 4 * 2 ^ 20
word_place op Funct6 n = n % 2 ^ 6 * 2 ^ 26
word_place op Funct3 n = n % 2 ^ 3 * 2 ^ 12

-- ---- instructions of 16 bits

-- x8 to x15 at 4:2, and at 9:7
abbrev pub low_place : ℕ → ℕ
low_place n = n % 2 ^ 3 * 2 ^ 2

abbrev pub high_place : ℕ → ℕ
high_place n = n % 2 ^ 3 * 2 ^ 7

-- any register at 6:2, and at 11:7
abbrev pub rs2_place : ℕ → ℕ
rs2_place n = n % 2 ^ 5 * 2 ^ 2

abbrev pub rd_place : ℕ → ℕ
rd_place n = n % 2 ^ 5 * 2 ^ 7

abbrev pub ci_place : ℕ → ℕ
ci_place n = n % 2 ^ 5 * 2 ^ 2 + n / 2 ^ 5 % 2 * 2 ^ 12

abbrev pub addi16sp_place : ℕ → ℕ
addi16sp_place n = n / 2 ^ 5 % 2 * 2 ^ 2 + n / 2 ^ 7 % 2 ^ 2 * 2 ^ 3 + n / 2 ^ 6 % 2 * 2 ^ 5 + n / 2 ^ 4 % 2 * 2 ^ 6 + n / 2 ^ 9 % 2 * 2 ^ 12

abbrev pub lwsp_place : ℕ → ℕ
lwsp_place n = n / 2 ^ 6 % 2 ^ 2 * 2 ^ 2 + n / 2 ^ 2 % 2 ^ 3 * 2 ^ 4 + n / 2 ^ 5 % 2 * 2 ^ 12

abbrev pub ldsp_place : ℕ → ℕ
ldsp_place n = n / 2 ^ 6 % 2 ^ 3 * 2 ^ 2 + n / 2 ^ 3 % 2 ^ 2 * 2 ^ 5 + n / 2 ^ 5 % 2 * 2 ^ 12

abbrev pub swsp_place : ℕ → ℕ
swsp_place n = n / 2 ^ 6 % 2 ^ 2 * 2 ^ 7 + n / 2 ^ 2 % 2 ^ 4 * 2 ^ 9

abbrev pub sdsp_place : ℕ → ℕ
sdsp_place n = n / 2 ^ 6 % 2 ^ 3 * 2 ^ 7 + n / 2 ^ 3 % 2 ^ 3 * 2 ^ 10

abbrev pub ciw_place : ℕ → ℕ
ciw_place n = n / 2 ^ 3 % 2 * 2 ^ 5 + n / 2 ^ 2 % 2 * 2 ^ 6 + n / 2 ^ 6 % 2 ^ 4 * 2 ^ 7 + n / 2 ^ 4 % 2 ^ 2 * 2 ^ 11

abbrev pub lw_place : ℕ → ℕ
lw_place n = n / 2 ^ 6 % 2 * 2 ^ 5 + n / 2 ^ 2 % 2 * 2 ^ 6 + n / 2 ^ 3 % 2 ^ 3 * 2 ^ 10

abbrev pub ld_place : ℕ → ℕ
ld_place n = n / 2 ^ 6 % 2 ^ 2 * 2 ^ 5 + n / 2 ^ 3 % 2 ^ 3 * 2 ^ 10

abbrev pub lb_place : ℕ → ℕ
lb_place n = n / 2 % 2 * 2 ^ 5 + n % 2 * 2 ^ 6

abbrev pub lh_place : ℕ → ℕ
lh_place n = n / 2 % 2 * 2 ^ 5

abbrev pub cj_place : ℕ → ℕ
cj_place n =
    n / 2 ^ 5 % 2 * 2 ^ 2 + n / 2 % 2 ^ 3 * 2 ^ 3 + n / 2 ^ 7 % 2 * 2 ^ 6 + n / 2 ^ 6 % 2 * 2 ^ 7 + n / 2 ^ 10 % 2 * 2 ^ 8 + n / 2 ^ 8 % 2 ^ 2 * 2 ^ 9 + n / 2 ^ 4 % 2 * 2 ^ 11 + n / 2 ^ 11 % 2 * 2 ^ 12

-- ---- each operation of 16 bits; a field that its row lacks has no place of its own

abbrev pub half_rd_place : HalfOp → ℕ → ℕ
half_rd_place half.Addi4spn n = low_place n
half_rd_place half.Fld n = low_place n
half_rd_place half.Lw n = low_place n
half_rd_place half.Ld n = low_place n
half_rd_place half.Lbu n = low_place n
half_rd_place half.Lhu n = low_place n
half_rd_place half.Lh n = low_place n
half_rd_place half.Sb n = rd_place n
half_rd_place half.Sh n = rd_place n
half_rd_place half.Fsd n = rd_place n
half_rd_place half.Sw n = rd_place n
half_rd_place half.Sd n = rd_place n
half_rd_place half.Addi n = rd_place n
half_rd_place half.Addiw n = rd_place n
half_rd_place half.Li n = rd_place n
half_rd_place half.Addi16sp n = rd_place n
half_rd_place half.Lui n = rd_place n
half_rd_place half.Srli n = high_place n
half_rd_place half.Srai n = high_place n
half_rd_place half.Andi n = high_place n
half_rd_place half.Sub n = high_place n
half_rd_place half.Xor n = high_place n
half_rd_place half.Or n = high_place n
half_rd_place half.And n = high_place n
half_rd_place half.Subw n = high_place n
half_rd_place half.Addw n = high_place n
half_rd_place half.Mul n = high_place n
half_rd_place half.ZextB n = high_place n
half_rd_place half.SextB n = high_place n
half_rd_place half.ZextH n = high_place n
half_rd_place half.SextH n = high_place n
half_rd_place half.ZextW n = high_place n
half_rd_place half.Not n = high_place n
half_rd_place half.J n = rd_place n
half_rd_place half.Slli n = rd_place n
half_rd_place half.Fldsp n = rd_place n
half_rd_place half.Lwsp n = rd_place n
half_rd_place half.Ldsp n = rd_place n
half_rd_place half.Jr n = rd_place n
half_rd_place half.Mv n = rd_place n
half_rd_place half.Ebreak n = rd_place n
half_rd_place half.Jalr n = rd_place n
half_rd_place half.Add n = rd_place n
half_rd_place half.Fsdsp n = rd_place n
half_rd_place half.Swsp n = rd_place n
half_rd_place half.Sdsp n = rd_place n

abbrev pub half_rs1_place : HalfOp → ℕ → ℕ
half_rs1_place half.Addi4spn n = rd_place n
half_rs1_place half.Fld n = high_place n
half_rs1_place half.Lw n = high_place n
half_rs1_place half.Ld n = high_place n
half_rs1_place half.Lbu n = high_place n
half_rs1_place half.Lhu n = high_place n
half_rs1_place half.Lh n = high_place n
half_rs1_place half.Sb n = high_place n
half_rs1_place half.Sh n = high_place n
half_rs1_place half.Fsd n = high_place n
half_rs1_place half.Sw n = high_place n
half_rs1_place half.Sd n = high_place n
half_rs1_place half.Addi n = rd_place n
half_rs1_place half.Addiw n = rd_place n
half_rs1_place half.Li n = rd_place n
half_rs1_place half.Addi16sp n = rd_place n
half_rs1_place half.Lui n = rd_place n
half_rs1_place half.Srli n = rd_place n
half_rs1_place half.Srai n = rd_place n
half_rs1_place half.Andi n = rd_place n
half_rs1_place half.Sub n = rd_place n
half_rs1_place half.Xor n = rd_place n
half_rs1_place half.Or n = rd_place n
half_rs1_place half.And n = rd_place n
half_rs1_place half.Subw n = rd_place n
half_rs1_place half.Addw n = rd_place n
half_rs1_place half.Mul n = rd_place n
half_rs1_place half.ZextB n = rd_place n
half_rs1_place half.SextB n = rd_place n
half_rs1_place half.ZextH n = rd_place n
half_rs1_place half.SextH n = rd_place n
half_rs1_place half.ZextW n = rd_place n
half_rs1_place half.Not n = rd_place n
half_rs1_place half.J n = rd_place n
half_rs1_place half.Slli n = rd_place n
half_rs1_place half.Fldsp n = rd_place n
half_rs1_place half.Lwsp n = rd_place n
half_rs1_place half.Ldsp n = rd_place n
half_rs1_place half.Jr n = rd_place n
half_rs1_place half.Mv n = rd_place n
half_rs1_place half.Ebreak n = rd_place n
half_rs1_place half.Jalr n = rd_place n
half_rs1_place half.Add n = rd_place n
half_rs1_place half.Fsdsp n = rd_place n
half_rs1_place half.Swsp n = rd_place n
half_rs1_place half.Sdsp n = rd_place n

abbrev pub half_rs2_place : HalfOp → ℕ → ℕ
half_rs2_place half.Addi4spn n = rs2_place n
half_rs2_place half.Fld n = rs2_place n
half_rs2_place half.Lw n = rs2_place n
half_rs2_place half.Ld n = rs2_place n
half_rs2_place half.Lbu n = rs2_place n
half_rs2_place half.Lhu n = rs2_place n
half_rs2_place half.Lh n = rs2_place n
half_rs2_place half.Sb n = low_place n
half_rs2_place half.Sh n = low_place n
half_rs2_place half.Fsd n = low_place n
half_rs2_place half.Sw n = low_place n
half_rs2_place half.Sd n = low_place n
half_rs2_place half.Addi n = rs2_place n
half_rs2_place half.Addiw n = rs2_place n
half_rs2_place half.Li n = rs2_place n
half_rs2_place half.Addi16sp n = rs2_place n
half_rs2_place half.Lui n = rs2_place n
half_rs2_place half.Srli n = rs2_place n
half_rs2_place half.Srai n = rs2_place n
half_rs2_place half.Andi n = rs2_place n
half_rs2_place half.Sub n = low_place n
half_rs2_place half.Xor n = low_place n
half_rs2_place half.Or n = low_place n
half_rs2_place half.And n = low_place n
half_rs2_place half.Subw n = low_place n
half_rs2_place half.Addw n = low_place n
half_rs2_place half.Mul n = low_place n
half_rs2_place half.ZextB n = rs2_place n
half_rs2_place half.SextB n = rs2_place n
half_rs2_place half.ZextH n = rs2_place n
half_rs2_place half.SextH n = rs2_place n
half_rs2_place half.ZextW n = rs2_place n
half_rs2_place half.Not n = rs2_place n
half_rs2_place half.J n = rs2_place n
half_rs2_place half.Slli n = rs2_place n
half_rs2_place half.Fldsp n = rs2_place n
half_rs2_place half.Lwsp n = rs2_place n
half_rs2_place half.Ldsp n = rs2_place n
half_rs2_place half.Jr n = rs2_place n
half_rs2_place half.Mv n = rs2_place n
half_rs2_place half.Ebreak n = rs2_place n
half_rs2_place half.Jalr n = rs2_place n
half_rs2_place half.Add n = rs2_place n
half_rs2_place half.Fsdsp n = rs2_place n
half_rs2_place half.Swsp n = rs2_place n
half_rs2_place half.Sdsp n = rs2_place n

abbrev pub half_imm_place : HalfOp → ℕ → ℕ
half_imm_place half.Addi4spn n = ciw_place n
half_imm_place half.Fld n = ld_place n
half_imm_place half.Lw n = lw_place n
half_imm_place half.Ld n = ld_place n
half_imm_place half.Lbu n = lb_place n
half_imm_place half.Lhu n = lh_place n
half_imm_place half.Lh n = lh_place n
half_imm_place half.Sb n = lb_place n
half_imm_place half.Sh n = lh_place n
half_imm_place half.Fsd n = ld_place n
half_imm_place half.Sw n = lw_place n
half_imm_place half.Sd n = ld_place n
half_imm_place half.Addi n = ci_place n
half_imm_place half.Addiw n = ci_place n
half_imm_place half.Li n = ci_place n
half_imm_place half.Addi16sp n = addi16sp_place n
half_imm_place half.Lui n = ci_place n
half_imm_place half.Srli n = ci_place n
half_imm_place half.Srai n = ci_place n
half_imm_place half.Andi n = ci_place n
half_imm_place half.Sub n = ci_place n
half_imm_place half.Xor n = ci_place n
half_imm_place half.Or n = ci_place n
half_imm_place half.And n = ci_place n
half_imm_place half.Subw n = ci_place n
half_imm_place half.Addw n = ci_place n
half_imm_place half.Mul n = ci_place n
half_imm_place half.ZextB n = ci_place n
half_imm_place half.SextB n = ci_place n
half_imm_place half.ZextH n = ci_place n
half_imm_place half.SextH n = ci_place n
half_imm_place half.ZextW n = ci_place n
half_imm_place half.Not n = ci_place n
half_imm_place half.J n = cj_place n
half_imm_place half.Slli n = ci_place n
half_imm_place half.Fldsp n = ldsp_place n
half_imm_place half.Lwsp n = lwsp_place n
half_imm_place half.Ldsp n = ldsp_place n
half_imm_place half.Jr n = ci_place n
half_imm_place half.Mv n = ci_place n
half_imm_place half.Ebreak n = ci_place n
half_imm_place half.Jalr n = ci_place n
half_imm_place half.Add n = ci_place n
half_imm_place half.Fsdsp n = sdsp_place n
half_imm_place half.Swsp n = swsp_place n
half_imm_place half.Sdsp n = sdsp_place n

abbrev pub half_place : HalfOp → Field → ℕ → ℕ
half_place op (Rd file) n = half_rd_place op n
half_place op (Rs1 file) n = half_rs1_place op n
half_place op (Rs2 file) n = half_rs2_place op n
half_place op (Rs3 file) n = 0
half_place op Imm n = half_imm_place op n
half_place op Rounding n = 0
half_place op Ordering n = 0
half_place op Mask n = 0
half_place op Pred n = 0
half_place op Succ n = 0
half_place op Funct6 n = 0
half_place op Funct3 n = 0

-- ---- either

abbrev pub place : Form → Field → ℕ → ℕ
place (form.Word op) field n = word_place op field n
place (form.Half op) field n = half_place op field n

abbrev pub form_fixed : Form → ℕ
form_fixed (form.Word op) = fixed_of op
form_fixed (form.Half op) = half_fixed op
