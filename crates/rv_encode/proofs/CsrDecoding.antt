-- Words with the fields of an operation on a CSR are decoded as it, whatever the flags.
use Rattle.std.proofs.Common.{◌≡◌, ℕ, ◌==◌, ◌&&◌, if◌then◌else◌, pos, Option, Some, None, refl, ◌∙◌}
use Rattle.std.specs.Option.{option_map}
use Rattle.rv_base.specs.declared.flags.IsaFlags.{IsaFlags}
use Rattle.rv_ops.specs.declared.csr.CsrRegOP.{CsrRegOP}
use Rattle.rv_ops.specs.declared.csr.CsrRegOP.TheVariants.{CsrRW, CsrRS, CsrRC}
use Rattle.rv_ops.specs.declared.csr.CsrImmOP.{CsrImmOP}
use Rattle.rv_ops.specs.declared.csr.CsrImmOP.TheVariants.{CsrRWI, CsrRSI, CsrRCI}
use Rattle.rv_ops.specs.declared.csr.CSR.{CSR}
use Rattle.rv_ops.specs.declared.csr.CSR.TheVariants.{Frm}
use Rattle.rv_ops.specs.Csr.{csr_reg_funct3, csr_imm_funct3, csr_number}
use Rattle.rv_machine.specs.declared.decoding.Decoded.{Decoded}
use Rattle.rv_machine.specs.declared.ops.MOp.TheVariants.{Base, Csr}
use Rattle.rv_machine.specs.declared.ops.BaseOp.TheVariants.{Ebreak}
use Rattle.rv_machine.specs.Opcodes.{SYSTEM}
use Rattle.rv_machine.specs.Layout.{bare_form}
use Rattle.rv_machine.specs.UnitTables.{csr_entry}
use Rattle.rv_machine.specs.UnitDecode.{only, decode_csr}
use Rattle.rv_machine.specs.Decode.{decode_system, decode}
use Rattle.rv_encode.specs.Layouts.{IsIType}
use Rattle.rv_encode.specs.Operations.{decoded, decoded_csr_reg, decoded_csr_imm, IsRowOfCsrImm, IsRowOfCsrReg}
use Rattle.rv_encode.proofs.FloatDecoding.{unit_decodes}

-- what a word of SYSTEM decodes to, by its fields: ebreak, or an operation on frm
abbrev system_decoded : ℕ → ℕ → ℕ → ℕ → Option Decoded
system_decoded rd funct3 rs1 funct12 = if (funct3 == 0) && (rd == 0) && (rs1 == 0) && (funct12 == 0x001) then Some (bare_form (Base Ebreak)) else None

abbrev csr_decoded : ℕ → ℕ → ℕ → ℕ → Option Decoded
csr_decoded rd funct3 rs1 funct12 = only (funct12 == 0x002) (option_map (λ op. decoded (Csr op) rd rs1 0 (pos 0)) (csr_entry funct3))

system_at : (w rd funct3 rs1 funct12 : ℕ) → IsIType w SYSTEM rd funct3 rs1 funct12 → decode_system w ≡ system_decoded rd funct3 rs1 funct12
system_at w rd funct3 rs1 funct12 h = λ i. system_decoded (h.rd_is i) (h.funct3_is i) (h.rs1_is i) (h.imm_is i)

csr_at : (w rd funct3 rs1 funct12 : ℕ) → IsIType w SYSTEM rd funct3 rs1 funct12 → decode_csr w ≡ csr_decoded rd funct3 rs1 funct12
csr_at w rd funct3 rs1 funct12 h = λ i. csr_decoded (h.rd_is i) (h.funct3_is i) (h.rs1_is i) (h.imm_is i)

csr_decodes : {d : Decoded} (flags : IsaFlags) (w rd funct3 rs1 funct12 : ℕ) → IsIType w SYSTEM rd funct3 rs1 funct12 → system_decoded rd funct3 rs1 funct12 ≡ None → csr_decoded rd funct3 rs1 funct12 ≡ Some d → decode flags w ≡ Some d
csr_decodes flags w rd funct3 rs1 funct12 h none some = unit_decodes flags w SYSTEM h.opcode_is refl (system_at w rd funct3 rs1 funct12 h ∙ none) (csr_at w rd funct3 rs1 funct12 h ∙ some)

pub csr_reg_decodes : (flags : IsaFlags) (op : CsrRegOP) (csr : CSR) (w rd rs : ℕ) → IsIType w SYSTEM rd (csr_reg_funct3 op) rs (csr_number csr) → decode flags w ≡ Some (decoded_csr_reg op rd rs)
csr_reg_decodes flags CsrRW Frm w rd rs h = csr_decodes flags w rd _ rs _ h refl refl
csr_reg_decodes flags CsrRS Frm w rd rs h = csr_decodes flags w rd _ rs _ h refl refl
csr_reg_decodes flags CsrRC Frm w rd rs h = csr_decodes flags w rd _ rs _ h refl refl

pub csr_imm_decodes : (flags : IsaFlags) (op : CsrImmOP) (csr : CSR) (w rd imm : ℕ) → IsIType w SYSTEM rd (csr_imm_funct3 op) imm (csr_number csr) → decode flags w ≡ Some (decoded_csr_imm op rd imm)
csr_imm_decodes flags CsrRWI Frm w rd imm h = csr_decodes flags w rd _ imm _ h refl refl
csr_imm_decodes flags CsrRSI Frm w rd imm h = csr_decodes flags w rd _ imm _ h refl refl
csr_imm_decodes flags CsrRCI Frm w rd imm h = csr_decodes flags w rd _ imm _ h refl refl

-- words whose fields are an operation's

pub csr_reg_by_row : (flags : IsaFlags) (op : CsrRegOP) (csr : CSR) (w opcode rd funct3 rs1 bits : ℕ) → IsRowOfCsrReg op csr opcode funct3 bits → IsIType w opcode rd funct3 rs1 bits → decode flags w ≡ Some (decoded_csr_reg op rd rs1)
csr_reg_by_row flags op csr w opcode rd funct3 rs1 bits row h =
    csr_reg_decodes flags op csr w rd rs1 (record { opcode_is = h.opcode_is ∙ row.opcode_is; rd_is = h.rd_is; funct3_is = h.funct3_is ∙ row.funct3_is; rs1_is = h.rs1_is; imm_is = h.imm_is ∙ row.bits_are })

pub csr_imm_by_row : (flags : IsaFlags) (op : CsrImmOP) (csr : CSR) (w opcode rd funct3 rs1 bits : ℕ) → IsRowOfCsrImm op csr opcode funct3 bits → IsIType w opcode rd funct3 rs1 bits → decode flags w ≡ Some (decoded_csr_imm op rd rs1)
csr_imm_by_row flags op csr w opcode rd funct3 rs1 bits row h =
    csr_imm_decodes flags op csr w rd rs1 (record { opcode_is = h.opcode_is ∙ row.opcode_is; rd_is = h.rd_is; funct3_is = h.funct3_is ∙ row.funct3_is; rs1_is = h.rs1_is; imm_is = h.imm_is ∙ row.bits_are })
