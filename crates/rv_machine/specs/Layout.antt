-- "2.2 Base Instruction Formats" and "2.3 Immediate Encoding Variants": the fields of a word of 32 bits, its immediates,
-- and the operation that each layout holds.
use Rattle.std.specs.Prelude.{ℕ, ◌+◌, ◌-◌, ◌*◌, ◌/◌, ◌%◌, ◌^◌, ◌<◌, ℤ, pos, Bool, false, ◌==◌, Option, Some, None}
use Rattle.rv_machine.specs.declared.decoding.Decoded.{Decoded}
use Rattle.rv_machine.specs.declared.ops.MOp.{MOp}
use Rattle.rv_machine.specs.State.{signed}

-- bits hi to lo of a word
abbrev pub bits : ℕ → ℕ → ℕ → ℕ
bits word hi lo = word / 2 ^ lo % 2 ^ (hi - lo + 1)

-- ---- fields

abbrev pub word_opcode : ℕ → ℕ
word_opcode word = bits word 6 0

abbrev pub word_rd : ℕ → ℕ
word_rd word = bits word 11 7

abbrev pub word_funct3 : ℕ → ℕ
word_funct3 word = bits word 14 12

abbrev pub word_rs1 : ℕ → ℕ
word_rs1 word = bits word 19 15

abbrev pub word_rs2 : ℕ → ℕ
word_rs2 word = bits word 24 20

abbrev pub word_funct7 : ℕ → ℕ
word_funct7 word = bits word 31 25

-- of shifts by six bits, over the shift amount at 25:20
abbrev pub word_funct6 : ℕ → ℕ
word_funct6 word = bits word 31 26

-- of operations of one source
abbrev pub word_funct12 : ℕ → ℕ
word_funct12 word = bits word 31 20

-- ---- immediates

--  31           20 19  15 14    12 11  7 6      0
--  |  imm[11:0]   |  rs1 | funct3 |  rd | opcode |   I
abbrev pub i_bits : ℕ → ℕ
i_bits word = bits word 31 20

abbrev pub i_imm : ℕ → ℤ
i_imm word = signed (2 ^ 11) (i_bits word)

--  31        25 24  20 19  15 14    12 11       7 6      0
--  | imm[11:5] |  rs2 |  rs1 | funct3 | imm[4:0] | opcode |   S
abbrev pub s_bits : ℕ → ℕ
s_bits word = bits word 31 25 * 2 ^ 5 + bits word 11 7

abbrev pub s_imm : ℕ → ℤ
s_imm word = signed (2 ^ 11) (s_bits word)

--  31      31 30        25 24  20 19  15 14    12 11       8 7       7 6      0
--  | imm[12] | imm[10:5]  |  rs2 |  rs1 | funct3 | imm[4:1] | imm[11] | opcode |   B
abbrev pub b_bits : ℕ → ℕ
b_bits word = bits word 31 31 * 2 ^ 12 + bits word 7 7 * 2 ^ 11 + bits word 30 25 * 2 ^ 5 + bits word 11 8 * 2

abbrev pub b_imm : ℕ → ℤ
b_imm word = signed (2 ^ 12) (b_bits word)

--  31                              12 11  7 6      0
--  |            imm[31:12]           |  rd | opcode |   U
-- The immediate is the number that stands there, without the twelve zeros.
abbrev pub u_bits : ℕ → ℕ
u_bits word = bits word 31 12

abbrev pub u_imm : ℕ → ℤ
u_imm word = signed (2 ^ 19) (u_bits word)

--  31      31 30        21 20       20 19        12 11  7 6      0
--  | imm[20] | imm[10:1]  |  imm[11]  | imm[19:12] |  rd | opcode |   J
abbrev pub j_bits : ℕ → ℕ
j_bits word = bits word 31 31 * 2 ^ 20 + bits word 19 12 * 2 ^ 12 + bits word 20 20 * 2 ^ 11 + bits word 30 21 * 2

abbrev pub j_imm : ℕ → ℤ
j_imm word = signed (2 ^ 20) (j_bits word)

-- ---- operations with their registers and immediates

-- an operation, of an instruction of so many bytes; what it doesn't have is 0
abbrev pub of_length : ℕ → MOp → ℕ → ℕ → ℕ → ℤ → Decoded
of_length len op rd rs1 rs2 imm = record { op = op; rd = rd; rs1 = rs1; rs2 = rs2; rs3 = 0; imm = imm; rm = 0; vm = false; len = len }

-- an operation of 32 bits
abbrev pub decoded : MOp → ℕ → ℕ → ℕ → ℤ → Decoded
decoded op rd rs1 rs2 imm = of_length 4 op rd rs1 rs2 imm

-- the operation that an instruction of 16 bits expands to
abbrev pub compressed : MOp → ℕ → ℕ → ℕ → ℤ → Decoded
compressed op rd rs1 rs2 imm = of_length 2 op rd rs1 rs2 imm

-- the first that is there
abbrev pub or_else : Option Decoded → Option Decoded → Option Decoded
or_else (Some d) e = Some d
or_else None e = e

-- all fields fixed
abbrev pub bare_form : MOp → Decoded
bare_form op = decoded op 0 0 0 (pos 0)

--  31     25 24  20 19  15 14    12 11  7 6      0
--  | funct7 |  rs2 |  rs1 | funct3 |  rd | opcode |   R
abbrev pub r_layout : ℕ → MOp → Decoded
r_layout word op = decoded op (word_rd word) (word_rs1 word) (word_rs2 word) (pos 0)

abbrev pub i_layout : ℕ → MOp → Decoded
i_layout word op = decoded op (word_rd word) (word_rs1 word) 0 (i_imm word)

--  31     26 25      20 19  15 14    12 11  7 6      0
--  | funct6 |   shamt  |  rs1 | funct3 |  rd | opcode |   I, a shift by up to 63
abbrev pub shift_layout : ℕ → MOp → Decoded
shift_layout word op = decoded op (word_rd word) (word_rs1 word) 0 (pos (bits word 25 20))

--  31      25 24     20 19  15 14    12 11  7 6      0
--  | funct7  |  shamt  |  rs1 | funct3 |  rd | opcode |   I, a shift by up to 31
abbrev pub shift_32_layout : ℕ → MOp → Decoded
shift_32_layout word op = decoded op (word_rd word) (word_rs1 word) 0 (pos (bits word 24 20))

--  31           20 19  15 14    12 11  7 6      0
--  |   funct12    |  rs1 | funct3 |  rd | opcode |   I, of one source
abbrev pub unary_layout : ℕ → MOp → Decoded
unary_layout word op = decoded op (word_rd word) (word_rs1 word) 0 (pos 0)

--  31        25 24  20 19  15 14    12 11       7 6      0
--  | imm[11:5] |  rs2 |  rs1 | funct3 | imm[4:0] | opcode |   S
abbrev pub s_layout : ℕ → MOp → Decoded
s_layout word op = decoded op 0 (word_rs1 word) (word_rs2 word) (s_imm word)

abbrev pub b_layout : ℕ → MOp → Decoded
b_layout word op = decoded op 0 (word_rs1 word) (word_rs2 word) (b_imm word)

abbrev pub u_layout : ℕ → MOp → Decoded
u_layout word op = decoded op (word_rd word) 0 0 (u_imm word)

abbrev pub j_layout : ℕ → MOp → Decoded
j_layout word op = decoded op (word_rd word) 0 0 (j_imm word)

--  31  28 27  24 23  20 19  15 14    12 11  7 6      0
--  |  fm | pred | succ |  rs1 | funct3 |  rd | opcode |   fence
-- The immediate is 16 * pred + succ.
abbrev pub fence_layout : ℕ → MOp → Decoded
fence_layout word op = decoded op 0 0 0 (pos (bits word 27 20))

-- ---- operations of the units

-- bits 26:25, a format; bits 31:27, a third source
abbrev pub word_fmt : ℕ → ℕ
word_fmt word = bits word 26 25

abbrev pub word_funct5 : ℕ → ℕ
word_funct5 word = bits word 31 27

-- with a third source, and a rounding mode
abbrev pub rounded : Decoded → ℕ → ℕ → Decoded
rounded d rs3 rm = record { op = d.op; rd = d.rd; rs1 = d.rs1; rs2 = d.rs2; rs3 = rs3; imm = d.imm; rm = rm; vm = d.vm; len = d.len }

--  31     27 26 25 24  20 19  15 14 12 11  7 6      0
--  | funct5 | fmt |  rs2 |  rs1 |  rm |  rd | opcode |   R, with a rounding mode
abbrev pub rounded_layout : ℕ → MOp → Decoded
rounded_layout word op = rounded (r_layout word op) 0 (word_funct3 word)

abbrev pub rounded_unary_layout : ℕ → MOp → Decoded
rounded_unary_layout word op = rounded (unary_layout word op) 0 (word_funct3 word)

--  31  27 26 25 24  20 19  15 14 12 11  7 6      0
--  |  rs3 | fmt |  rs2 |  rs1 |  rm |  rd | opcode |   R4
abbrev pub r4_layout : ℕ → MOp → Decoded
r4_layout word op = rounded (r_layout word op) (word_funct5 word) (word_funct3 word)

--  31     27 26 25 24  20 19  15 14    12 11  7 6      0
--  | funct5 |aq|rl|  rs2 |  rs1 | funct3 |  rd | opcode |   AMO
-- The immediate is 2 * aq + rl.
abbrev pub amo_layout : ℕ → MOp → Decoded
amo_layout word op = decoded op (word_rd word) (word_rs1 word) (word_rs2 word) (pos (word_fmt word))

-- unmasked where the bit at 25 is 1
abbrev pub word_vm : ℕ → Bool
word_vm word = bits word 25 25 == 1

abbrev pub with_mask : Decoded → Bool → Decoded
with_mask d vm = record { op = d.op; rd = d.rd; rs1 = d.rs1; rs2 = d.rs2; rs3 = d.rs3; imm = d.imm; rm = d.rm; vm = vm; len = d.len }

--  31     26 25 24  20 19  15 14    12 11 7 6      0
--  | funct6 |vm|  vs2 |  vs1 | funct3 |  vd | opcode |   vector arithmetic
abbrev pub vector_layout : ℕ → MOp → Decoded
vector_layout word op = with_mask (r_layout word op) (word_vm word)

--  31     26 25 24  20 19  15 14   12 11 7 6      0
--  |    0   |vm|   0  |  rs1 | width |  vd | opcode |   a unit-stride load or store of a vector
abbrev pub vector_memory_layout : ℕ → MOp → Decoded
vector_memory_layout word op = with_mask (unary_layout word op) (word_vm word)

--  31 30 29       20 19  15 14    12 11  7 6      0
--  | 11 |   vtype   |  avl | funct3 |  rd | opcode |   vsetivli
abbrev pub vsetivli_layout : ℕ → MOp → Decoded
vsetivli_layout word op = decoded op (word_rd word) (word_rs1 word) 0 (pos (bits word 29 20))

-- the registers of an operation are those of a file of 32
pub record HasFileRegisters (d : Decoded) : Type 0 where
  pub rd : d.rd < 32
  pub rs1 : d.rs1 < 32
  pub rs2 : d.rs2 < 32
  pub rs3 : d.rs3 < 32
