-- Words with the fields of an operation are decoded as it, whatever the flags.
use Rattle.std.proofs.Common.{◌≡◌, ℕ, ◌%◌, ◌^◌, nat_eq, refl, ◌≤ℤ◌, ◌<ℤ◌, ◌==◌, ◌&&◌, if◌then◌else◌, ℤ, pos, neg_ℤ, Some, None, true, ap, ◌∙◌, arith}
use Rattle.std.specs.Option.{option_map}
use Rattle.std.proofs.lemmas.Int.{ints}
use Rattle.rv_base.specs.declared.flags.IsaFlags.{IsaFlags}
use Rattle.rv_base.specs.Regs.{number_of}
use Rattle.rv_imms.specs.declared.imm12.Imm12.{Imm12}
use Rattle.rv_imms.specs.declared.imm20.Imm20.{Imm20}
use Rattle.rv_imms.specs.Bits.{low_bits}
use Rattle.rv_ops.specs.declared.alu.AluOPRRI.{AluOPRRI}
use Rattle.rv_ops.specs.declared.alu.AluOPRRI.TheVariants as rri
use Rattle.rv_ops.specs.declared.compare.IntegerCompare.{IntegerCompare}
use Rattle.rv_ops.specs.Alu.{rri_numbers, imm12_of}
use Rattle.rv_ops.specs.Compare.{funct3_of, branch_of, rs1_of, rs2_of}
use Rattle.rv_machine.specs.declared.decoding.Decoded.{Decoded}
use Rattle.rv_machine.specs.declared.ops.MOp.TheVariants.{Base, Carry}
use Rattle.rv_machine.specs.declared.ops.BaseOp.TheVariants as base
use Rattle.rv_machine.specs.State.{signed}
use Rattle.rv_machine.specs.Opcodes.{LUI, AUIPC, JAL, JALR, BRANCH, SYSTEM}
use Rattle.rv_machine.specs.Layout.{word_opcode, i_bits, i_imm, b_imm, u_bits, u_imm, j_imm, bare_form}
use Rattle.rv_machine.specs.Tables.{branch_entry}
use Rattle.rv_machine.specs.UnitTables.{carry_unary_entry}
use Rattle.rv_machine.specs.Decode.{decode, int_by_opcode}
use Rattle.rv_machine.proofs.DecodeLaws.{decode_integer, decode_wide}
use Rattle.rv_encode.specs.Layouts.{IsIType, IsBType, IsUType, IsJType}
use Rattle.rv_encode.specs.Operations.{decoded, decoded_rri, decoded_branch}
use Rattle.rv_encode.proofs.Numbers.{signed-low_bits}
use Rattle.rv_encode.proofs.FloatDecoding.{unit_decodes}
use Rattle.rv_encode.proofs.Tables.{i_at, rri_fields, branch_table}

-- a word whose opcode ends in two bits 1 is decoded by it
pub opcode_decodes : {d : Decoded} (flags : IsaFlags) (w opcode : ℕ) → word_opcode w ≡ opcode → nat_eq (opcode % 4) 3 ≡ true → int_by_opcode opcode w ≡ Some d → decode flags w ≡ Some d
opcode_decodes flags w opcode h wide is = decode_integer flags w (decode_wide flags w opcode h wide ∙ is)

rri_wide : (op : AluOPRRI) → nat_eq ((rri_numbers op).opcode % 4) 3 ≡ true
rri_wide rri.Addi = refl
rri_wide _ = refl

pub rri_decodes : (flags : IsaFlags) (op : AluOPRRI) (w rd rs : ℕ) (imm : Imm12) → IsIType w (rri_numbers op).opcode rd (rri_numbers op).funct3 rs (imm12_of (rri_numbers op).upper (low_bits (2 ^ 12) imm.value)) → decode flags w ≡ Some (decoded_rri op rd rs imm.value)
rri_decodes flags rri.Brev8 w rd rs imm h = unit_decodes flags w _ h.opcode_is refl (i_at w _ rd _ rs _ h) (λ i. option_map (λ op. decoded (Carry op) (h.rd_is i) (h.rs1_is i) 0 (pos 0)) (carry_unary_entry (h.imm_is i) (h.funct3_is i)))
rri_decodes flags op w rd rs imm h = opcode_decodes flags w _ h.opcode_is (rri_wide op) (rri_fields op w rd rs imm.value (omega (arith, ints)) (omega (arith, ints)) refl h)

upper_imm : (w : ℕ) (imm : Imm20) → u_bits w ≡ low_bits (2 ^ 20) imm.value → u_imm w ≡ imm.value
upper_imm w imm h = ap (signed (2 ^ 19)) h ∙ signed-low_bits (2 ^ 19) imm.value (omega (arith, ints)) (omega (arith, ints))

pub lui_decodes : (flags : IsaFlags) (w rd : ℕ) (imm : Imm20) → IsUType w LUI rd (low_bits (2 ^ 20) imm.value) → decode flags w ≡ Some (decoded (Base base.Lui) rd 0 0 imm.value)
lui_decodes flags w rd imm h = opcode_decodes flags w LUI h.opcode_is refl (λ i. Some (decoded (Base base.Lui) (h.rd_is i) 0 0 (upper_imm w imm h.imm_is i)))

pub auipc_decodes : (flags : IsaFlags) (w rd : ℕ) (imm : Imm20) → IsUType w AUIPC rd (low_bits (2 ^ 20) imm.value) → decode flags w ≡ Some (decoded (Base base.Auipc) rd 0 0 imm.value)
auipc_decodes flags w rd imm h = opcode_decodes flags w AUIPC h.opcode_is refl (λ i. Some (decoded (Base base.Auipc) (h.rd_is i) 0 0 (upper_imm w imm h.imm_is i)))

pub i_imm_is : (w : ℕ) (imm : Imm12) → i_bits w ≡ low_bits (2 ^ 12) imm.value → i_imm w ≡ imm.value
i_imm_is w imm h = ap (signed (2 ^ 11)) h ∙ signed-low_bits (2 ^ 11) imm.value (omega (arith, ints)) (omega (arith, ints))

pub jalr_decodes : (flags : IsaFlags) (w rd rs : ℕ) (imm : Imm12) → IsIType w JALR rd 0 rs (low_bits (2 ^ 12) imm.value) → decode flags w ≡ Some (decoded (Base base.Jalr) rd rs 0 imm.value)
jalr_decodes flags w rd rs imm h =
    opcode_decodes flags w JALR h.opcode_is refl (λ i. if h.funct3_is i == 0 then Some (decoded (Base base.Jalr) (h.rd_is i) (h.rs1_is i) 0 (i_imm_is w imm h.imm_is i)) else None)

pub jal_decodes : (flags : IsaFlags) (w rd : ℕ) (d : ℤ) → d <ℤ pos (2 ^ 20) → neg_ℤ (pos (2 ^ 20)) ≤ℤ d → IsJType w JAL rd (low_bits (2 ^ 21) d) → decode flags w ≡ Some (decoded (Base base.Jal) rd 0 0 d)
jal_decodes flags w rd d up low h =
    let value : j_imm w ≡ d = ap (signed (2 ^ 20)) h.imm_is ∙ signed-low_bits (2 ^ 20) d up low in
    opcode_decodes flags w JAL h.opcode_is refl (λ i. Some (decoded (Base base.Jal) (h.rd_is i) 0 0 (value i)))

pub branch_decodes : (flags : IsaFlags) (w : ℕ) (c : IntegerCompare) (d : ℤ) → d <ℤ pos (2 ^ 12) → neg_ℤ (pos (2 ^ 12)) ≤ℤ d → IsBType w BRANCH (funct3_of (branch_of c.kind)) (number_of (rs1_of c)) (number_of (rs2_of c)) (low_bits (2 ^ 13) d) → decode flags w ≡ Some (decoded_branch c d)
branch_decodes flags w c d up low h =
    let value : b_imm w ≡ d = ap (signed (2 ^ 12)) h.imm_is ∙ signed-low_bits (2 ^ 12) d up low in
    opcode_decodes flags w BRANCH h.opcode_is refl
    ((λ i. option_map (λ op. decoded (Base op) 0 (h.rs1_is i) (h.rs2_is i) (value i)) (branch_entry (h.funct3_is i)))
    ∙ ap (option_map (λ op. decoded (Base op) 0 (number_of (rs1_of c)) (number_of (rs2_of c)) d)) (branch_table (branch_of c.kind)))

pub ebreak_decodes : (flags : IsaFlags) (w : ℕ) → IsIType w SYSTEM 0 0 0 1 → decode flags w ≡ Some (bare_form (Base base.Ebreak))
ebreak_decodes flags w h =
    opcode_decodes flags w SYSTEM h.opcode_is refl
    (λ i. if (h.funct3_is i == 0) && (h.rd_is i == 0) && (h.rs1_is i == 0) && (h.imm_is i == 1) then Some (bare_form (Base base.Ebreak)) else None)
