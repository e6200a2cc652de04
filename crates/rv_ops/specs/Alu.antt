-- Integer operations: their mnemonics, and the fields of their words, as in the manual's chapter "RV32/64G Instruction
-- Set Listings" and those of Zba, Zbb, Zbs, Zicond, Zbc and Zbkb.
use Rattle.std.specs.Prelude.{ℕ, ◌+◌, ◌*◌, ◌%◌, ◌^◌, Option, Some, None, List, codes}
use Rattle.rv_machine.specs.Opcodes.{OP, OP_32, OP_IMM, OP_IMM_32}
use Rattle.rv_ops.specs.declared.alu.AluOPRRR.{AluOPRRR}
use Rattle.rv_ops.specs.declared.alu.AluOPRRR.TheVariants as rrr
use Rattle.rv_ops.specs.declared.alu.AluOPRRI.{AluOPRRI}
use Rattle.rv_ops.specs.declared.alu.AluOPRRI.TheVariants as rri

-- ---- two registers

-- the fields of an R-type word that name its operation
pub record RegisterNumbers : Type 0 where
  pub opcode : ℕ
  pub funct3 : ℕ
  pub funct7 : ℕ

-- OP and OP-32
abbrev pub op : ℕ → ℕ → RegisterNumbers
op funct7 funct3 = record { opcode = OP; funct3 = funct3; funct7 = funct7 }

abbrev pub op32 : ℕ → ℕ → RegisterNumbers
op32 funct7 funct3 = record { opcode = OP_32; funct3 = funct3; funct7 = funct7 }

-- sgt and sgtu are pseudo-instructions: slt and sltu, whose words have the sources exchanged
abbrev pub rrr_numbers : AluOPRRR → RegisterNumbers
rrr_numbers rrr.Add = op 0x00 0
rrr_numbers rrr.Sub = op 0x20 0
rrr_numbers rrr.Sll = op 0x00 1
rrr_numbers rrr.Slt = op 0x00 2
rrr_numbers rrr.Sgt = op 0x00 2
rrr_numbers rrr.SltU = op 0x00 3
rrr_numbers rrr.Sgtu = op 0x00 3
rrr_numbers rrr.Xor = op 0x00 4
rrr_numbers rrr.Srl = op 0x00 5
rrr_numbers rrr.Sra = op 0x20 5
rrr_numbers rrr.Or = op 0x00 6
rrr_numbers rrr.And = op 0x00 7
rrr_numbers rrr.Addw = op32 0x00 0
rrr_numbers rrr.Subw = op32 0x20 0
rrr_numbers rrr.Sllw = op32 0x00 1
rrr_numbers rrr.Srlw = op32 0x00 5
rrr_numbers rrr.Sraw = op32 0x20 5
rrr_numbers rrr.Mul = op 0x01 0
rrr_numbers rrr.Mulh = op 0x01 1
rrr_numbers rrr.Mulhsu = op 0x01 2
rrr_numbers rrr.Mulhu = op 0x01 3
rrr_numbers rrr.Div = op 0x01 4
rrr_numbers rrr.DivU = op 0x01 5
rrr_numbers rrr.Rem = op 0x01 6
rrr_numbers rrr.RemU = op 0x01 7
rrr_numbers rrr.Mulw = op32 0x01 0
rrr_numbers rrr.Divw = op32 0x01 4
rrr_numbers rrr.Divuw = op32 0x01 5
rrr_numbers rrr.Remw = op32 0x01 6
rrr_numbers rrr.Remuw = op32 0x01 7
rrr_numbers rrr.Adduw = op32 0x04 0
rrr_numbers rrr.Andn = op 0x20 7
rrr_numbers rrr.Bclr = op 0x24 1
rrr_numbers rrr.Bext = op 0x24 5
rrr_numbers rrr.Binv = op 0x34 1
rrr_numbers rrr.Bset = op 0x14 1
rrr_numbers rrr.Max = op 0x05 6
rrr_numbers rrr.Maxu = op 0x05 7
rrr_numbers rrr.Min = op 0x05 4
rrr_numbers rrr.Minu = op 0x05 5
rrr_numbers rrr.Orn = op 0x20 6
rrr_numbers rrr.Rol = op 0x30 1
rrr_numbers rrr.Rolw = op32 0x30 1
rrr_numbers rrr.Ror = op 0x30 5
rrr_numbers rrr.Rorw = op32 0x30 5
rrr_numbers rrr.Sh1add = op 0x10 2
rrr_numbers rrr.Sh1adduw = op32 0x10 2
rrr_numbers rrr.Sh2add = op 0x10 4
rrr_numbers rrr.Sh2adduw = op32 0x10 4
rrr_numbers rrr.Sh3add = op 0x10 6
rrr_numbers rrr.Sh3adduw = op32 0x10 6
rrr_numbers rrr.Xnor = op 0x20 4
rrr_numbers rrr.CzeroEqz = op 0x07 5
rrr_numbers rrr.CzeroNez = op 0x07 7
rrr_numbers rrr.Clmul = op 0x05 1
rrr_numbers rrr.Clmulh = op 0x05 3
rrr_numbers rrr.Clmulr = op 0x05 2
rrr_numbers rrr.Pack = op 0x04 4
rrr_numbers rrr.Packw = op32 0x04 4
rrr_numbers rrr.Packh = op 0x04 7

abbrev pub rrr_name : AluOPRRR → List ℕ
rrr_name rrr.Add = codes "add"
rrr_name rrr.Sub = codes "sub"
rrr_name rrr.Sll = codes "sll"
rrr_name rrr.Slt = codes "slt"
rrr_name rrr.Sgt = codes "sgt"
rrr_name rrr.SltU = codes "sltu"
rrr_name rrr.Sgtu = codes "sgtu"
rrr_name rrr.Xor = codes "xor"
rrr_name rrr.Srl = codes "srl"
rrr_name rrr.Sra = codes "sra"
rrr_name rrr.Or = codes "or"
rrr_name rrr.And = codes "and"
rrr_name rrr.Addw = codes "addw"
rrr_name rrr.Subw = codes "subw"
rrr_name rrr.Sllw = codes "sllw"
rrr_name rrr.Srlw = codes "srlw"
rrr_name rrr.Sraw = codes "sraw"
rrr_name rrr.Mul = codes "mul"
rrr_name rrr.Mulh = codes "mulh"
rrr_name rrr.Mulhsu = codes "mulhsu"
rrr_name rrr.Mulhu = codes "mulhu"
rrr_name rrr.Div = codes "div"
rrr_name rrr.DivU = codes "divu"
rrr_name rrr.Rem = codes "rem"
rrr_name rrr.RemU = codes "remu"
rrr_name rrr.Mulw = codes "mulw"
rrr_name rrr.Divw = codes "divw"
rrr_name rrr.Divuw = codes "divuw"
rrr_name rrr.Remw = codes "remw"
rrr_name rrr.Remuw = codes "remuw"
rrr_name rrr.Adduw = codes "add.uw"
rrr_name rrr.Andn = codes "andn"
rrr_name rrr.Bclr = codes "bclr"
rrr_name rrr.Bext = codes "bext"
rrr_name rrr.Binv = codes "binv"
rrr_name rrr.Bset = codes "bset"
rrr_name rrr.Max = codes "max"
rrr_name rrr.Maxu = codes "maxu"
rrr_name rrr.Min = codes "min"
rrr_name rrr.Minu = codes "minu"
rrr_name rrr.Orn = codes "orn"
rrr_name rrr.Rol = codes "rol"
rrr_name rrr.Rolw = codes "rolw"
rrr_name rrr.Ror = codes "ror"
rrr_name rrr.Rorw = codes "rorw"
rrr_name rrr.Sh1add = codes "sh1add"
rrr_name rrr.Sh1adduw = codes "sh1add.uw"
rrr_name rrr.Sh2add = codes "sh2add"
rrr_name rrr.Sh2adduw = codes "sh2add.uw"
rrr_name rrr.Sh3add = codes "sh3add"
rrr_name rrr.Sh3adduw = codes "sh3add.uw"
rrr_name rrr.Xnor = codes "xnor"
rrr_name rrr.CzeroEqz = codes "czero.eqz"
rrr_name rrr.CzeroNez = codes "czero.nez"
rrr_name rrr.Clmul = codes "clmul"
rrr_name rrr.Clmulh = codes "clmulh"
rrr_name rrr.Clmulr = codes "clmulr"
rrr_name rrr.Pack = codes "pack"
rrr_name rrr.Packw = codes "packw"
rrr_name rrr.Packh = codes "packh"

-- ---- a register and an immediate

-- what bits 31 to 20 of an I-type word are
pub data Upper : Type 0 where
  -- the immediate
  WholeImm : Upper
  -- funct6 and a shift amount of six bits
  Shamt6 : ℕ → Upper
  -- funct7 and a shift amount of five bits
  Shamt5 : ℕ → Upper
  -- funct12, and no immediate
  Fixed : ℕ → Upper

pub record ImmediateNumbers : Type 0 where
  pub opcode : ℕ
  pub funct3 : ℕ
  pub upper : Upper

-- OP-IMM and OP-IMM-32
abbrev pub op_imm : ℕ → Upper → ImmediateNumbers
op_imm funct3 upper = record { opcode = OP_IMM; funct3 = funct3; upper = upper }

abbrev pub op_imm32 : ℕ → Upper → ImmediateNumbers
op_imm32 funct3 upper = record { opcode = OP_IMM_32; funct3 = funct3; upper = upper }

abbrev pub rri_numbers : AluOPRRI → ImmediateNumbers
rri_numbers rri.Addi = op_imm 0 WholeImm
rri_numbers rri.Slti = op_imm 2 WholeImm
rri_numbers rri.SltiU = op_imm 3 WholeImm
rri_numbers rri.Xori = op_imm 4 WholeImm
rri_numbers rri.Ori = op_imm 6 WholeImm
rri_numbers rri.Andi = op_imm 7 WholeImm
rri_numbers rri.Slli = op_imm 1 (Shamt6 0x00)
rri_numbers rri.Srli = op_imm 5 (Shamt6 0x00)
rri_numbers rri.Srai = op_imm 5 (Shamt6 0x10)
rri_numbers rri.Addiw = op_imm32 0 WholeImm
rri_numbers rri.Slliw = op_imm32 1 (Shamt5 0x00)
rri_numbers rri.SrliW = op_imm32 5 (Shamt5 0x00)
rri_numbers rri.Sraiw = op_imm32 5 (Shamt5 0x20)
rri_numbers rri.Bclri = op_imm 1 (Shamt6 0x12)
rri_numbers rri.Bexti = op_imm 5 (Shamt6 0x12)
rri_numbers rri.Binvi = op_imm 1 (Shamt6 0x1a)
rri_numbers rri.Bseti = op_imm 1 (Shamt6 0x0a)
rri_numbers rri.Rori = op_imm 5 (Shamt6 0x18)
rri_numbers rri.Roriw = op_imm32 5 (Shamt5 0x30)
rri_numbers rri.SlliUw = op_imm32 1 (Shamt6 0x02)
rri_numbers rri.Clz = op_imm 1 (Fixed 0x600)
rri_numbers rri.Clzw = op_imm32 1 (Fixed 0x600)
rri_numbers rri.Cpop = op_imm 1 (Fixed 0x602)
rri_numbers rri.Cpopw = op_imm32 1 (Fixed 0x602)
rri_numbers rri.Ctz = op_imm 1 (Fixed 0x601)
rri_numbers rri.Ctzw = op_imm32 1 (Fixed 0x601)
rri_numbers rri.Rev8 = op_imm 5 (Fixed 0x6b8)
rri_numbers rri.Sextb = op_imm 1 (Fixed 0x604)
rri_numbers rri.Sexth = op_imm 1 (Fixed 0x605)
rri_numbers rri.Zexth = record { opcode = OP_32; funct3 = 4; upper = Fixed 0x080 }
rri_numbers rri.Orcb = op_imm 5 (Fixed 0x287)
rri_numbers rri.Brev8 = op_imm 5 (Fixed 0x687)

abbrev pub funct6_of : Upper → Option ℕ
funct6_of (Shamt6 f) = Some f
funct6_of WholeImm = None
funct6_of (Shamt5 f) = None
funct6_of (Fixed f) = None

abbrev pub funct7_of : Upper → Option ℕ
funct7_of (Shamt5 f) = Some f
funct7_of WholeImm = None
funct7_of (Shamt6 f) = None
funct7_of (Fixed f) = None

abbrev pub funct12_of : Upper → Option ℕ
funct12_of (Fixed f) = Some f
funct12_of WholeImm = None
funct12_of (Shamt6 f) = None
funct12_of (Shamt5 f) = None

-- bits 31 to 20 of the word, of an immediate with these twelve bits
abbrev pub imm12_of : Upper → ℕ → ℕ
imm12_of WholeImm bits = bits
imm12_of (Shamt6 f) bits = f * 2 ^ 6 + bits % 2 ^ 6
imm12_of (Shamt5 f) bits = f * 2 ^ 5 + bits % 2 ^ 5
imm12_of (Fixed f) bits = f

abbrev pub rri_name : AluOPRRI → List ℕ
rri_name rri.Addi = codes "addi"
rri_name rri.Slti = codes "slti"
rri_name rri.SltiU = codes "sltiu"
rri_name rri.Xori = codes "xori"
rri_name rri.Ori = codes "ori"
rri_name rri.Andi = codes "andi"
rri_name rri.Slli = codes "slli"
rri_name rri.Srli = codes "srli"
rri_name rri.Srai = codes "srai"
rri_name rri.Addiw = codes "addiw"
rri_name rri.Slliw = codes "slliw"
rri_name rri.SrliW = codes "srliw"
rri_name rri.Sraiw = codes "sraiw"
rri_name rri.Bclri = codes "bclri"
rri_name rri.Bexti = codes "bexti"
rri_name rri.Binvi = codes "binvi"
rri_name rri.Bseti = codes "bseti"
rri_name rri.Rori = codes "rori"
rri_name rri.Roriw = codes "roriw"
rri_name rri.SlliUw = codes "slli.uw"
rri_name rri.Clz = codes "clz"
rri_name rri.Clzw = codes "clzw"
rri_name rri.Cpop = codes "cpop"
rri_name rri.Cpopw = codes "cpopw"
rri_name rri.Ctz = codes "ctz"
rri_name rri.Ctzw = codes "ctzw"
rri_name rri.Rev8 = codes "rev8"
rri_name rri.Sextb = codes "sext.b"
rri_name rri.Sexth = codes "sext.h"
rri_name rri.Zexth = codes "zext.h"
rri_name rri.Orcb = codes "orc.b"
rri_name rri.Brev8 = codes "brev8"
