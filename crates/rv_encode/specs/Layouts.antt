-- "2.2 Base Instruction Formats" and "2.3 Immediate Encoding Variants", and for halfwords "Compressed Instruction Formats" and
-- "Zcb": what the words of the manual's types hold, by their fields and the bits of their immediate.
use Rattle.std.specs.Prelude.{◌≡◌, ℕ, ◌+◌, ◌*◌, ◌/◌, ◌%◌, ◌^◌, ℤ, unsigned_abs}
use Rattle.rv_machine.specs.Compressed.{half_op, half_rd, half_rs2, half_funct3, ci_bits, ciw_imm, lb_imm, lh_imm, cj_bits}
use Rattle.rv_machine.specs.Layout.{bits, word_opcode, word_rd, word_funct3, word_rs1, word_rs2, word_funct7, i_bits, s_bits, b_bits, u_bits, j_bits}

pub record IsRType (word opcode rd funct3 rs1 rs2 funct7 : ℕ) : Type 0 where
  pub opcode_is : word_opcode word ≡ opcode
  pub rd_is : word_rd word ≡ rd
  pub funct3_is : word_funct3 word ≡ funct3
  pub rs1_is : word_rs1 word ≡ rs1
  pub rs2_is : word_rs2 word ≡ rs2
  pub funct7_is : word_funct7 word ≡ funct7

pub record IsIType (word opcode rd funct3 rs1 imm : ℕ) : Type 0 where
  pub opcode_is : word_opcode word ≡ opcode
  pub rd_is : word_rd word ≡ rd
  pub funct3_is : word_funct3 word ≡ funct3
  pub rs1_is : word_rs1 word ≡ rs1
  pub imm_is : i_bits word ≡ imm

pub record IsSType (word opcode funct3 rs1 rs2 imm : ℕ) : Type 0 where
  pub opcode_is : word_opcode word ≡ opcode
  pub funct3_is : word_funct3 word ≡ funct3
  pub rs1_is : word_rs1 word ≡ rs1
  pub rs2_is : word_rs2 word ≡ rs2
  pub imm_is : s_bits word ≡ imm

pub record IsBType (word opcode funct3 rs1 rs2 imm : ℕ) : Type 0 where
  pub opcode_is : word_opcode word ≡ opcode
  pub funct3_is : word_funct3 word ≡ funct3
  pub rs1_is : word_rs1 word ≡ rs1
  pub rs2_is : word_rs2 word ≡ rs2
  pub imm_is : b_bits word ≡ imm

pub record IsUType (word opcode rd imm : ℕ) : Type 0 where
  pub opcode_is : word_opcode word ≡ opcode
  pub rd_is : word_rd word ≡ rd
  pub imm_is : u_bits word ≡ imm

pub record IsJType (word opcode rd imm : ℕ) : Type 0 where
  pub opcode_is : word_opcode word ≡ opcode
  pub rd_is : word_rd word ≡ rd
  pub imm_is : j_bits word ≡ imm

-- ---- halfwords; a register from x8 to x15 is held without its 8, and an immediate is read as its operation does

pub record IsCrType (half op rs2 rd funct4 : ℕ) : Type 0 where
  pub op_is : half_op half ≡ op
  pub rs2_is : half_rs2 half ≡ rs2
  pub rd_is : half_rd half ≡ rd
  pub funct4_is : bits half 15 12 ≡ funct4

pub record IsCiType (read : ℕ → ℕ) (half op imm rd funct3 : ℕ) : Type 0 where
  pub op_is : half_op half ≡ op
  pub imm_is : read half ≡ imm
  pub rd_is : half_rd half ≡ rd
  pub funct3_is : half_funct3 half ≡ funct3

pub record IsCssType (read : ℕ → ℕ) (half op rs2 imm funct3 : ℕ) : Type 0 where
  pub op_is : half_op half ≡ op
  pub rs2_is : half_rs2 half ≡ rs2
  pub imm_is : read half ≡ imm
  pub funct3_is : half_funct3 half ≡ funct3

pub record IsCiwType (half op rd imm funct3 : ℕ) : Type 0 where
  pub op_is : half_op half ≡ op
  pub rd_is : bits half 4 2 ≡ rd
  pub imm_is : ciw_imm half ≡ imm
  pub funct3_is : half_funct3 half ≡ funct3

-- CL and CS, whose register is rd or rs2
pub record IsClType (read : ℕ → ℕ) (half op r imm rs1 funct3 : ℕ) : Type 0 where
  pub op_is : half_op half ≡ op
  pub r_is : bits half 4 2 ≡ r
  pub imm_is : read half ≡ imm
  pub rs1_is : bits half 9 7 ≡ rs1
  pub funct3_is : half_funct3 half ≡ funct3

-- of Zcb
pub record IsClbType (half op r imm rs1 funct6 : ℕ) : Type 0 where
  pub op_is : half_op half ≡ op
  pub r_is : bits half 4 2 ≡ r
  pub imm_is : lb_imm half ≡ imm
  pub rs1_is : bits half 9 7 ≡ rs1
  pub funct6_is : bits half 15 10 ≡ funct6

pub record IsClhType (half op r imm funct1 rs1 funct6 : ℕ) : Type 0 where
  pub op_is : half_op half ≡ op
  pub r_is : bits half 4 2 ≡ r
  pub imm_is : lh_imm half ≡ imm
  pub funct1_is : bits half 6 6 ≡ funct1
  pub rs1_is : bits half 9 7 ≡ rs1
  pub funct6_is : bits half 15 10 ≡ funct6

pub record IsCaType (half op rs2 funct2 rd funct6 : ℕ) : Type 0 where
  pub op_is : half_op half ≡ op
  pub rs2_is : bits half 4 2 ≡ rs2
  pub funct2_is : bits half 6 5 ≡ funct2
  pub rd_is : bits half 9 7 ≡ rd
  pub funct6_is : bits half 15 10 ≡ funct6

-- of Zcb
pub record IsCuType (half op funct5 rd funct6 : ℕ) : Type 0 where
  pub op_is : half_op half ≡ op
  pub funct5_is : bits half 6 2 ≡ funct5
  pub rd_is : bits half 9 7 ≡ rd
  pub funct6_is : bits half 15 10 ≡ funct6

pub record IsCbType (half op imm rd funct2 funct3 : ℕ) : Type 0 where
  pub op_is : half_op half ≡ op
  pub imm_is : ci_bits half ≡ imm
  pub rd_is : bits half 9 7 ≡ rd
  pub funct2_is : bits half 11 10 ≡ funct2
  pub funct3_is : half_funct3 half ≡ funct3

pub record IsCjType (half op imm funct3 : ℕ) : Type 0 where
  pub op_is : half_op half ≡ op
  pub imm_is : cj_bits half ≡ imm
  pub funct3_is : half_funct3 half ≡ funct3

-- CJ, with the two parts of its immediate
pub record IsCjParts (half op low high funct3 : ℕ) : Type 0 where
  pub op_is : half_op half ≡ op
  pub low_is : bits half 7 2 ≡ low
  pub high_is : bits half 12 8 ≡ high
  pub funct3_is : half_funct3 half ≡ funct3

-- imm[6|7|3:1|5] and imm[11|4|9:8|10]
abbrev pub cj_low_of : ℕ → ℕ
cj_low_of imm = imm / 2 ^ 5 % 2 + imm / 2 % 2 ^ 3 * 2 + imm / 2 ^ 7 % 2 * 2 ^ 4 + imm / 2 ^ 6 % 2 * 2 ^ 5

abbrev pub cj_high_of : ℕ → ℕ
cj_high_of imm = imm / 2 ^ 10 % 2 + imm / 2 ^ 8 % 2 ^ 2 * 2 + imm / 2 ^ 4 % 2 * 2 ^ 3 + imm / 2 ^ 11 * 2 ^ 4

-- ---- distances

-- a distance that is even
abbrev pub IsEven : ℤ → Type 0
IsEven z = unsigned_abs z % 2 ≡ 0
