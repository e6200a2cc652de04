-- Halfwords with the fields of a load or a store of a floating-point register are decoded as it, under Zca and Zcd.
use Rattle.std.proofs.Common.{◌≡◌, ℕ, ◌+◌, ◌*◌, ◌&&◌, if◌then◌else◌, Bool, true, false, Some, None, refl, ◌∙◌}
use Rattle.rv_base.specs.declared.flags.IsaFlags.{IsaFlags}
use Rattle.rv_machine.specs.declared.decoding.Decoded.{Decoded}
use Rattle.rv_machine.specs.Layout.{or_else}
use Rattle.rv_machine.specs.Compressed.{ldsp_imm, sdsp_imm, ld_imm, by_quadrant, unit_by_quadrant, int_decode_half, unit_decode_half, decode_half}
use Rattle.rv_encode.specs.Layouts.{IsCiType, IsCssType, IsClType}
use Rattle.rv_encode.specs.Compressed.{decoded_fld, decoded_fsd, decoded_fldsp, decoded_fsdsp}

-- an instruction between those of the integer machine
unit_half : {d : Decoded} (flags : IsaFlags) (half : ℕ) → flags.has_zca ≡ true → flags.has_zcd ≡ true → by_quadrant flags half ≡ None → unit_by_quadrant half ≡ Some d → decode_half flags half ≡ Some d
unfolding decode_half int_decode_half unit_decode_half
unit_half flags half zca zcd none some = λ i. or_else (if zca i then none i else None) (if zca i && zcd i then some i else None)

unit_half_without : (flags : IsaFlags) (half : ℕ) → (flags.has_zca && flags.has_zcd) ≡ false → by_quadrant flags half ≡ None → decode_half flags half ≡ None
unfolding decode_half int_decode_half unit_decode_half
unit_half_without flags half off none = (λ i. or_else (if flags.has_zca then none i else None) (if off i then unit_by_quadrant half else None)) ∙ nothing flags.has_zca
  where
    nothing : (c : Bool) → or_else (if c then None else None) None ≡ None
    nothing true = refl
    nothing false = refl

-- ---- past a register

fld_alone : (flags : IsaFlags) (half rd n rs1 : ℕ) → IsClType ld_imm half 0 rd n rs1 1 → by_quadrant flags half ≡ None
fld_alone flags half rd n rs1 h = rw (h.op_is, h.funct3_is)

pub fld_decodes : (flags : IsaFlags) (half rd rs1 n : ℕ) → flags.has_zca ≡ true → flags.has_zcd ≡ true → IsClType ld_imm half 0 rd (8 * n) rs1 1 → decode_half flags half ≡ Some (decoded_fld (8 + rd) (8 + rs1) n)
fld_decodes flags half rd rs1 n zca zcd h = unit_half flags half zca zcd (fld_alone flags half rd (8 * n) rs1 h) (rw (h.op_is, h.funct3_is, h.r_is, h.rs1_is, h.imm_is))

pub fld_without : (flags : IsaFlags) (half rd rs1 n : ℕ) → (flags.has_zca && flags.has_zcd) ≡ false → IsClType ld_imm half 0 rd n rs1 1 → decode_half flags half ≡ None
fld_without flags half rd rs1 n off h = unit_half_without flags half off (fld_alone flags half rd n rs1 h)

fsd_alone : (flags : IsaFlags) (half rs2 n rs1 : ℕ) → IsClType ld_imm half 0 rs2 n rs1 5 → by_quadrant flags half ≡ None
fsd_alone flags half rs2 n rs1 h = rw (h.op_is, h.funct3_is)

pub fsd_decodes : (flags : IsaFlags) (half rs2 rs1 n : ℕ) → flags.has_zca ≡ true → flags.has_zcd ≡ true → IsClType ld_imm half 0 rs2 (8 * n) rs1 5 → decode_half flags half ≡ Some (decoded_fsd (8 + rs2) (8 + rs1) n)
fsd_decodes flags half rs2 rs1 n zca zcd h = unit_half flags half zca zcd (fsd_alone flags half rs2 (8 * n) rs1 h) (rw (h.op_is, h.funct3_is, h.r_is, h.rs1_is, h.imm_is))

pub fsd_without : (flags : IsaFlags) (half rs2 rs1 n : ℕ) → (flags.has_zca && flags.has_zcd) ≡ false → IsClType ld_imm half 0 rs2 n rs1 5 → decode_half flags half ≡ None
fsd_without flags half rs2 rs1 n off h = unit_half_without flags half off (fsd_alone flags half rs2 n rs1 h)

-- ---- past the stack pointer

fldsp_alone : (flags : IsaFlags) (half n rd : ℕ) → IsCiType ldsp_imm half 2 n rd 1 → by_quadrant flags half ≡ None
fldsp_alone flags half n rd h = rw (h.op_is, h.funct3_is)

pub fldsp_decodes : (flags : IsaFlags) (half rd n : ℕ) → flags.has_zca ≡ true → flags.has_zcd ≡ true → IsCiType ldsp_imm half 2 (8 * n) rd 1 → decode_half flags half ≡ Some (decoded_fldsp rd n)
fldsp_decodes flags half rd n zca zcd h = unit_half flags half zca zcd (fldsp_alone flags half (8 * n) rd h) (rw (h.op_is, h.funct3_is, h.rd_is, h.imm_is))

pub fldsp_without : (flags : IsaFlags) (half rd n : ℕ) → (flags.has_zca && flags.has_zcd) ≡ false → IsCiType ldsp_imm half 2 n rd 1 → decode_half flags half ≡ None
fldsp_without flags half rd n off h = unit_half_without flags half off (fldsp_alone flags half n rd h)

fsdsp_alone : (flags : IsaFlags) (half rs2 n : ℕ) → IsCssType sdsp_imm half 2 rs2 n 5 → by_quadrant flags half ≡ None
fsdsp_alone flags half rs2 n h = rw (h.op_is, h.funct3_is)

pub fsdsp_decodes : (flags : IsaFlags) (half rs2 n : ℕ) → flags.has_zca ≡ true → flags.has_zcd ≡ true → IsCssType sdsp_imm half 2 rs2 (8 * n) 5 → decode_half flags half ≡ Some (decoded_fsdsp rs2 n)
fsdsp_decodes flags half rs2 n zca zcd h = unit_half flags half zca zcd (fsdsp_alone flags half rs2 (8 * n) h) (rw (h.op_is, h.funct3_is, h.rs2_is, h.imm_is))

pub fsdsp_without : (flags : IsaFlags) (half rs2 n : ℕ) → (flags.has_zca && flags.has_zcd) ≡ false → IsCssType sdsp_imm half 2 rs2 n 5 → decode_half flags half ≡ None
fsdsp_without flags half rs2 n off h = unit_half_without flags half off (fsdsp_alone flags half rs2 n h)
