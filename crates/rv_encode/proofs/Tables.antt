-- The fields of an operation's word are decoded as it: the tables of operations are the decoder's.
use Rattle.std.proofs.Common.{◌≡◌, ℕ, ◌/◌, ◌%◌, ◌^◌, ◌≤ℤ◌, ◌<ℤ◌, ◌==◌, if◌then◌else◌, false, ℤ, pos, neg_ℤ, Option, Some, refl, ◌∙◌, arith}
use Rattle.std.specs.Option.{option_map}
use Rattle.rv_imms.specs.Bits.{low_bits}
use Rattle.rv_ops.specs.declared.alu.AluOPRRI.{AluOPRRI}
use Rattle.rv_ops.specs.declared.alu.AluOPRRI.TheVariants as rri
use Rattle.rv_ops.specs.declared.compare.BranchFunct3.{BranchFunct3}
use Rattle.rv_ops.specs.declared.compare.BranchFunct3.TheVariants as branch
use Rattle.rv_ops.specs.Alu.{rri_numbers, imm12_of}
use Rattle.rv_ops.specs.Compare.{funct3_of}
use Rattle.rv_ops.specs.Operations.{is_carry_unary}
use Rattle.rv_machine.specs.declared.decoding.Decoded.{Decoded}
use Rattle.rv_machine.specs.declared.ops.MOp.TheVariants.{Alu}
use Rattle.rv_machine.specs.State.{signed}
use Rattle.rv_machine.specs.Opcodes.{OP_IMM, OP_IMM_32}
use Rattle.rv_machine.specs.Layout.{bits, word_rd, word_funct3, word_rs1, word_rs2, word_funct6, word_funct7, word_funct12}
use Rattle.rv_machine.specs.Tables.{branch_entry, imm_entry, imm_32_entry, shift_entry, unary_entry, long_shift_32_entry, shift_32_entry, unary_32_entry, op_32_entry, unary_op_32_entry}
use Rattle.rv_machine.specs.Decode.{or_else, int_by_opcode}
use Rattle.rv_encode.specs.Layouts.{IsIType}
use Rattle.rv_encode.specs.Operations.{decoded, decoded_rri, branch_op}
use Rattle.rv_encode.proofs.Numbers.{signed-low_bits, funct6_above, amount6_below, funct7_above, amount5_below, funct6_over}

-- ---- operations of a register and an immediate

-- what a word of OP-IMM, OP-IMM-32 or OP-32 decodes to, by its fields
abbrev i_decoded : ℕ → ℕ → ℕ → ℕ → ℕ → ℕ → ℕ → ℕ → ℕ → ℕ → Option Decoded
i_decoded opcode rd funct3 rs1 imm funct6 amount6 funct7 amount5 rs2 =
    if opcode == OP_IMM then
    or_else (option_map (λ op. decoded (Alu op) rd rs1 0 (signed (2 ^ 11) imm)) (imm_entry funct3))
    (or_else (option_map (λ op. decoded (Alu op) rd rs1 0 (pos amount6)) (shift_entry funct6 funct3))
    (option_map (λ op. decoded (Alu op) rd rs1 0 (pos 0)) (unary_entry imm funct3))) else
    if opcode == OP_IMM_32 then
    or_else (option_map (λ op. decoded (Alu op) rd rs1 0 (signed (2 ^ 11) imm)) (imm_32_entry funct3))
    (or_else (option_map (λ op. decoded (Alu op) rd rs1 0 (pos amount6)) (long_shift_32_entry funct6 funct3))
    (or_else (option_map (λ op. decoded (Alu op) rd rs1 0 (pos amount5)) (shift_32_entry funct7 funct3))
    (option_map (λ op. decoded (Alu op) rd rs1 0 (pos 0)) (unary_32_entry imm funct3)))) else
    or_else (option_map (λ op. decoded (Alu op) rd rs1 rs2 (pos 0)) (op_32_entry funct7 funct3))
    (option_map (λ op. decoded (Alu op) rd rs1 0 (pos 0)) (unary_op_32_entry imm funct3))

pub i_at : (w opcode rd funct3 rs1 imm : ℕ) → IsIType w opcode rd funct3 rs1 imm →
    i_decoded opcode (word_rd w) (word_funct3 w) (word_rs1 w) (word_funct12 w) (word_funct6 w) (bits w 25 20) (word_funct7 w) (bits w 24 20) (word_rs2 w) ≡
    i_decoded opcode rd funct3 rs1 imm (imm / 2 ^ 6) (imm % 2 ^ 6) (imm / 2 ^ 5) (imm % 2 ^ 5) (imm % 2 ^ 5)
i_at w opcode rd funct3 rs1 imm h = λ i. i_decoded opcode (h.rd_is i) (h.funct3_is i) (h.rs1_is i) (h.imm_is i) (funct6 i) (amount6 i) (funct7 i) (amount5 i) (amount5 i)
  where
    funct6 : word_funct6 w ≡ imm / 2 ^ 6
    funct6 = let e = h.imm_is in omega (arith, e)

    amount6 : bits w 25 20 ≡ imm % 2 ^ 6
    amount6 = let e = h.imm_is in omega (arith, e)

    funct7 : word_funct7 w ≡ imm / 2 ^ 5
    funct7 = let e = h.imm_is in omega (arith, e)

    amount5 : bits w 24 20 ≡ imm % 2 ^ 5
    amount5 = let e = h.imm_is in omega (arith, e)

-- an immediate of twelve bits, in its place
pub rri_fields : (op : AluOPRRI) (w rd rs : ℕ) (imm : ℤ) → imm <ℤ pos (2 ^ 11) → neg_ℤ (pos (2 ^ 11)) ≤ℤ imm → is_carry_unary op ≡ false → IsIType w (rri_numbers op).opcode rd (rri_numbers op).funct3 rs (imm12_of (rri_numbers op).upper (low_bits (2 ^ 12) imm)) → int_by_opcode (rri_numbers op).opcode w ≡ Some (decoded_rri op rd rs imm)
rri_fields rri.Addi w rd rs imm up low ints h = i_at w _ rd _ rs _ h ∙ rw (signed-low_bits (2 ^ 11) imm up low)
rri_fields rri.Slti w rd rs imm up low ints h = i_at w _ rd _ rs _ h ∙ rw (signed-low_bits (2 ^ 11) imm up low)
rri_fields rri.SltiU w rd rs imm up low ints h = i_at w _ rd _ rs _ h ∙ rw (signed-low_bits (2 ^ 11) imm up low)
rri_fields rri.Xori w rd rs imm up low ints h = i_at w _ rd _ rs _ h ∙ rw (signed-low_bits (2 ^ 11) imm up low)
rri_fields rri.Ori w rd rs imm up low ints h = i_at w _ rd _ rs _ h ∙ rw (signed-low_bits (2 ^ 11) imm up low)
rri_fields rri.Andi w rd rs imm up low ints h = i_at w _ rd _ rs _ h ∙ rw (signed-low_bits (2 ^ 11) imm up low)
rri_fields rri.Addiw w rd rs imm up low ints h = i_at w _ rd _ rs _ h ∙ rw (signed-low_bits (2 ^ 11) imm up low)
rri_fields rri.Slli w rd rs imm up low ints h = i_at w _ rd _ rs _ h ∙ rw (funct6_above 0x00 (low_bits (2 ^ 12) imm), amount6_below 0x00 (low_bits (2 ^ 12) imm))
rri_fields rri.Srli w rd rs imm up low ints h = i_at w _ rd _ rs _ h ∙ rw (funct6_above 0x00 (low_bits (2 ^ 12) imm), amount6_below 0x00 (low_bits (2 ^ 12) imm))
rri_fields rri.Srai w rd rs imm up low ints h = i_at w _ rd _ rs _ h ∙ rw (funct6_above 0x10 (low_bits (2 ^ 12) imm), amount6_below 0x10 (low_bits (2 ^ 12) imm))
rri_fields rri.Bclri w rd rs imm up low ints h = i_at w _ rd _ rs _ h ∙ rw (funct6_above 0x12 (low_bits (2 ^ 12) imm), amount6_below 0x12 (low_bits (2 ^ 12) imm))
rri_fields rri.Bexti w rd rs imm up low ints h = i_at w _ rd _ rs _ h ∙ rw (funct6_above 0x12 (low_bits (2 ^ 12) imm), amount6_below 0x12 (low_bits (2 ^ 12) imm))
rri_fields rri.Binvi w rd rs imm up low ints h = i_at w _ rd _ rs _ h ∙ rw (funct6_above 0x1a (low_bits (2 ^ 12) imm), amount6_below 0x1a (low_bits (2 ^ 12) imm))
rri_fields rri.Bseti w rd rs imm up low ints h = i_at w _ rd _ rs _ h ∙ rw (funct6_above 0x0a (low_bits (2 ^ 12) imm), amount6_below 0x0a (low_bits (2 ^ 12) imm))
rri_fields rri.Rori w rd rs imm up low ints h = i_at w _ rd _ rs _ h ∙ rw (funct6_above 0x18 (low_bits (2 ^ 12) imm), amount6_below 0x18 (low_bits (2 ^ 12) imm))
rri_fields rri.SlliUw w rd rs imm up low ints h = i_at w _ rd _ rs _ h ∙ rw (funct6_above 0x02 (low_bits (2 ^ 12) imm), amount6_below 0x02 (low_bits (2 ^ 12) imm))
rri_fields rri.Slliw w rd rs imm up low ints h = i_at w _ rd _ rs _ h ∙ rw (funct6_over 0x00 (low_bits (2 ^ 12) imm), funct7_above 0x00 (low_bits (2 ^ 12) imm), amount5_below 0x00 (low_bits (2 ^ 12) imm))
rri_fields rri.SrliW w rd rs imm up low ints h = i_at w _ rd _ rs _ h ∙ rw (funct6_over 0x00 (low_bits (2 ^ 12) imm), funct7_above 0x00 (low_bits (2 ^ 12) imm), amount5_below 0x00 (low_bits (2 ^ 12) imm))
rri_fields rri.Sraiw w rd rs imm up low ints h = i_at w _ rd _ rs _ h ∙ rw (funct6_over 0x20 (low_bits (2 ^ 12) imm), funct7_above 0x20 (low_bits (2 ^ 12) imm), amount5_below 0x20 (low_bits (2 ^ 12) imm))
rri_fields rri.Roriw w rd rs imm up low ints h = i_at w _ rd _ rs _ h ∙ rw (funct6_over 0x30 (low_bits (2 ^ 12) imm), funct7_above 0x30 (low_bits (2 ^ 12) imm), amount5_below 0x30 (low_bits (2 ^ 12) imm))
rri_fields rri.Brev8 w rd rs imm up low ints h = absurd (cc)
rri_fields _ w rd rs imm up low ints h = i_at w _ rd _ rs _ h

-- ---- branches

pub branch_table : (op : BranchFunct3) → branch_entry (funct3_of op) ≡ Some (branch_op op)
branch_table branch.Eq = refl
branch_table _ = refl
