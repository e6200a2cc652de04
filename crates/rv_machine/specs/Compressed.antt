-- "RVC Instruction Set Listings" of RV64 and "Zcb": the operation that an instruction of 16 bits expands to. Its three-bit
-- register fields name x8 to x15. A hint is its plain expansion, and a reserved spelling has no operation. c.beqz and
-- c.bnez have none here.
use Rattle.std.specs.Prelude.{ℕ, ◌+◌, ◌*◌, ◌^◌, ◌==◌, ◌&&◌, if◌then◌else◌, ℤ, pos, negsuc, Option, Some, None}
use Rattle.rv_base.specs.declared.flags.IsaFlags.{IsaFlags}
use Rattle.rv_machine.specs.declared.decoding.Decoded.{Decoded}
use Rattle.rv_machine.specs.declared.ops.MOp.{MOp}
use Rattle.rv_machine.specs.declared.ops.MOp.TheVariants.{Base, Load, Store, Alu, FloatLoad, FloatStore}
use Rattle.rv_machine.specs.declared.ops.BaseOp.TheVariants.{Lui, Jal, Jalr, Ebreak}
use Rattle.rv_machine.specs.declared.ops.LoadOp.TheVariants.{Lh, Lw, Lbu, Lhu, Ld}
use Rattle.rv_machine.specs.declared.ops.StoreOp.TheVariants.{Sb, Sh, Sw, Sd}
use Rattle.rv_machine.specs.declared.ops.FloatFormat.TheVariants.{D}
use Rattle.rv_machine.specs.declared.ops.AluOp.TheVariants.{Int, Mul, Bit}
use Rattle.rv_machine.specs.declared.ops.IntOp.TheVariants.{Addi, Xori, Andi, Slli, Srli, Srai, Add, Sub, Xor, Or, And, Addiw, Addw, Subw}
use Rattle.rv_machine.specs.declared.ops.MulOp.TheVariants.{Mul as Product}
use Rattle.rv_machine.specs.declared.ops.BitOp.TheVariants.{AddUw, SextB, SextH, ZextH}
use Rattle.rv_machine.specs.State.{signed}
use Rattle.rv_machine.specs.Layout.{bits, compressed, or_else}

-- ---- fields

abbrev pub half_op : ℕ → ℕ
half_op half = bits half 1 0

abbrev pub half_funct3 : ℕ → ℕ
half_funct3 half = bits half 15 13

-- rd, and rs1
abbrev pub half_rd : ℕ → ℕ
half_rd half = bits half 11 7

abbrev pub half_rs2 : ℕ → ℕ
half_rs2 half = bits half 6 2

-- rd′ where the source is rs1′, and rs2′
abbrev pub short_low : ℕ → ℕ
short_low half = 8 + bits half 4 2

-- rs1′, and rd′ where it is the first source too
abbrev pub short_high : ℕ → ℕ
short_high half = 8 + bits half 9 7

-- ---- immediates

--  15    13 12    12 11     7 6        2 1  0
--  | funct3 | imm[5] | rd/rs1 | imm[4:0] | op |   CI
abbrev pub ci_bits : ℕ → ℕ
ci_bits half = bits half 12 12 * 2 ^ 5 + bits half 6 2

abbrev pub ci_imm : ℕ → ℤ
ci_imm half = signed (2 ^ 5) (ci_bits half)

--  15    13 12    12 11 7 6              2 1  0
--  | funct3 | imm[9] | 2  | imm[4|6|8:7|5] | op |   CI of c.addi16sp
abbrev pub addi16sp_bits : ℕ → ℕ
addi16sp_bits half = bits half 12 12 * 2 ^ 9 + bits half 4 3 * 2 ^ 7 + bits half 5 5 * 2 ^ 6 + bits half 2 2 * 2 ^ 5 + bits half 6 6 * 2 ^ 4

abbrev pub addi16sp_imm : ℕ → ℤ
addi16sp_imm half = signed (2 ^ 9) (addi16sp_bits half)

--  15    13 12    12 11 7 6            2 1  0
--  | funct3 | imm[5] | rd | imm[4:2|7:6] | op |   CI of c.lwsp
abbrev pub lwsp_imm : ℕ → ℕ
lwsp_imm half = bits half 3 2 * 2 ^ 6 + bits half 12 12 * 2 ^ 5 + bits half 6 4 * 2 ^ 2

--  15    13 12    12 11 7 6            2 1  0
--  | funct3 | imm[5] | rd | imm[4:3|8:6] | op |   CI of c.ldsp
abbrev pub ldsp_imm : ℕ → ℕ
ldsp_imm half = bits half 4 2 * 2 ^ 6 + bits half 12 12 * 2 ^ 5 + bits half 6 5 * 2 ^ 3

--  15    13 12           7 6   2 1  0
--  | funct3 | imm[5:2|7:6] | rs2 | op |   CSS of c.swsp
abbrev pub swsp_imm : ℕ → ℕ
swsp_imm half = bits half 8 7 * 2 ^ 6 + bits half 12 9 * 2 ^ 2

--  15    13 12           7 6   2 1  0
--  | funct3 | imm[5:3|8:6] | rs2 | op |   CSS of c.sdsp
abbrev pub sdsp_imm : ℕ → ℕ
sdsp_imm half = bits half 9 7 * 2 ^ 6 + bits half 12 10 * 2 ^ 3

--  15    13 12               5 4   2 1  0
--  | funct3 | imm[5:4|9:6|2|3] | rd′ | op |   CIW
abbrev pub ciw_imm : ℕ → ℕ
ciw_imm half = bits half 10 7 * 2 ^ 6 + bits half 12 11 * 2 ^ 4 + bits half 5 5 * 2 ^ 3 + bits half 6 6 * 2 ^ 2

--  15    13 12      10 9    7 6        5 4        2 1  0
--  | funct3 | imm[5:3] | rs1′ | imm[2|6] | rd′/rs2′ | op |   CL of c.lw, CS of c.sw
abbrev pub lw_imm : ℕ → ℕ
lw_imm half = bits half 5 5 * 2 ^ 6 + bits half 12 10 * 2 ^ 3 + bits half 6 6 * 2 ^ 2

--  15    13 12      10 9    7 6        5 4        2 1  0
--  | funct3 | imm[5:3] | rs1′ | imm[7:6] | rd′/rs2′ | op |   CL of c.ld, CS of c.sd
abbrev pub ld_imm : ℕ → ℕ
ld_imm half = bits half 6 5 * 2 ^ 6 + bits half 12 10 * 2 ^ 3

--  15    10 9    7 6        5 4        2 1  0
--  | funct6 | rs1′ | imm[0|1] | rd′/rs2′ | op |   CLB, CSB
abbrev pub lb_imm : ℕ → ℕ
lb_imm half = bits half 5 5 * 2 + bits half 6 6

--  15    10 9    7 6      6 5      5 4        2 1  0
--  | funct6 | rs1′ | funct1 | imm[1] | rd′/rs2′ | op |   CLH, CSH
abbrev pub lh_imm : ℕ → ℕ
lh_imm half = bits half 5 5 * 2

--  15    13 12                         2 1  0
--  | funct3 | imm[11|4|9:8|10|6|7|3:1|5] | op |   CJ
abbrev pub cj_bits : ℕ → ℕ
cj_bits half =
    bits half 12 12 * 2 ^ 11 + bits half 8 8 * 2 ^ 10 + bits half 10 9 * 2 ^ 8 + bits half 6 6 * 2 ^ 7 + bits half 7 7 * 2 ^ 6 + bits half 2 2 * 2 ^ 5 + bits half 11 11 * 2 ^ 4 + bits half 5 3 * 2

abbrev pub cj_imm : ℕ → ℤ
cj_imm half = signed (2 ^ 11) (cj_bits half)

-- ---- operations with their registers and immediates

--  15    12 11     7 6   2 1  0
--  | funct4 | rd/rs1 | rs2 | op |   CR
abbrev pub cr_layout : ℕ → MOp → Decoded
cr_layout half op = compressed op (half_rd half) (half_rd half) (half_rs2 half) (pos 0)

-- CI, with a signed immediate
abbrev pub ci_layout : ℕ → MOp → Decoded
ci_layout half op = compressed op (half_rd half) (half_rd half) 0 (ci_imm half)

-- CI, of a load from sp plus an offset
abbrev pub load_sp_layout : ℕ → MOp → ℕ → Decoded
load_sp_layout half op offset = compressed op (half_rd half) 2 0 (pos offset)

-- CSS, a store to sp plus an offset
abbrev pub css_layout : ℕ → MOp → ℕ → Decoded
css_layout half op offset = compressed op 0 2 (half_rs2 half) (pos offset)

-- CL
abbrev pub cl_layout : ℕ → MOp → ℕ → Decoded
cl_layout half op offset = compressed op (short_low half) (short_high half) 0 (pos offset)

-- CS
abbrev pub cs_layout : ℕ → MOp → ℕ → Decoded
cs_layout half op offset = compressed op 0 (short_high half) (short_low half) (pos offset)

--  15    10 9        7 6      5 4    2 1  0
--  | funct6 | rd′/rs1′ | funct2 | rs2′ | op |   CA
abbrev pub ca_layout : ℕ → MOp → Decoded
ca_layout half op = compressed op (short_high half) (short_high half) (short_low half) (pos 0)

--  15    13 12    12 11    10 9        7 6        2 1  0
--  | funct3 | imm[5] | funct2 | rd′/rs1′ | imm[4:0] | op |   CB of c.srli, c.srai and c.andi
abbrev pub cb_layout : ℕ → MOp → ℤ → Decoded
cb_layout half op imm = compressed op (short_high half) (short_high half) 0 imm

--  15    10 9        7 6      2 1  0
--  | funct6 | rd′/rs1′ | funct5 | op |   CU, of one source, with the immediate that the expansion has
abbrev pub cu_layout : ℕ → MOp → ℤ → Decoded
cu_layout half op imm = compressed op (short_high half) (short_high half) 0 imm

-- ---- quadrant 0

-- c.addi4spn, where the immediate isn't 0
abbrev pub decode_addi4spn : ℕ → Option Decoded
decode_addi4spn half = if ciw_imm half == 0 then None else Some (compressed (Alu (Int Addi)) (short_low half) 2 0 (pos (ciw_imm half)))

-- c.lbu, c.lhu, c.lh, c.sb and c.sh of Zcb
abbrev pub decode_zcb_memory : ℕ → Option Decoded
decode_zcb_memory half =
    if bits half 12 10 == 0 then Some (cl_layout half (Load Lbu) (lb_imm half)) else
    if (bits half 12 10 == 1) && (bits half 6 6 == 0) then Some (cl_layout half (Load Lhu) (lh_imm half)) else
    if (bits half 12 10 == 1) && (bits half 6 6 == 1) then Some (cl_layout half (Load Lh) (lh_imm half)) else
    if bits half 12 10 == 2 then Some (cs_layout half (Store Sb) (lb_imm half)) else
    if (bits half 12 10 == 3) && (bits half 6 6 == 0) then Some (cs_layout half (Store Sh) (lh_imm half)) else
    None

abbrev pub quadrant_0 : IsaFlags → ℕ → Option Decoded
quadrant_0 flags half =
    if half_funct3 half == 0 then decode_addi4spn half else
    if half_funct3 half == 2 then Some (cl_layout half (Load Lw) (lw_imm half)) else
    if half_funct3 half == 3 then Some (cl_layout half (Load Ld) (ld_imm half)) else
    if (half_funct3 half == 4) && flags.has_zcb then decode_zcb_memory half else
    if half_funct3 half == 6 then Some (cs_layout half (Store Sw) (lw_imm half)) else
    if half_funct3 half == 7 then Some (cs_layout half (Store Sd) (ld_imm half)) else
    None

-- ---- quadrant 1

-- c.addiw, where rd isn't x0
abbrev pub decode_addiw : ℕ → Option Decoded
decode_addiw half = if half_rd half == 0 then None else Some (ci_layout half (Alu (Int Addiw)))

abbrev pub decode_li : ℕ → Decoded
decode_li half = compressed (Alu (Int Addi)) (half_rd half) 0 0 (ci_imm half)

-- c.addi16sp and c.lui, where the immediate isn't 0
abbrev pub decode_lui : ℕ → Option Decoded
decode_lui half =
    if ci_bits half == 0 then None else
    if half_rd half == 2 then Some (compressed (Alu (Int Addi)) 2 2 0 (addi16sp_imm half)) else
    Some (compressed (Base Lui) (half_rd half) 0 0 (ci_imm half))

-- c.zext.b, c.sext.b, c.zext.h, c.sext.h, c.zext.w and c.not of Zcb
abbrev pub decode_zcb_unary : IsaFlags → ℕ → Option Decoded
decode_zcb_unary flags half =
    if bits half 4 2 == 0 then Some (cu_layout half (Alu (Int Andi)) (pos 255)) else
    if (bits half 4 2 == 1) && flags.has_zbb then Some (cu_layout half (Alu (Bit SextB)) (pos 0)) else
    if (bits half 4 2 == 2) && flags.has_zbb then Some (cu_layout half (Alu (Bit ZextH)) (pos 0)) else
    if (bits half 4 2 == 3) && flags.has_zbb then Some (cu_layout half (Alu (Bit SextH)) (pos 0)) else
    if (bits half 4 2 == 4) && flags.has_zba then Some (cu_layout half (Alu (Bit AddUw)) (pos 0)) else
    if bits half 4 2 == 5 then Some (cu_layout half (Alu (Int Xori)) (negsuc 0)) else
    None

-- c.sub, c.xor, c.or, c.and, c.subw and c.addw; c.mul and the operations of one source are of Zcb
abbrev pub decode_two_registers : IsaFlags → ℕ → Option Decoded
decode_two_registers flags half =
    if (bits half 12 12 == 0) && (bits half 6 5 == 0) then Some (ca_layout half (Alu (Int Sub))) else
    if (bits half 12 12 == 0) && (bits half 6 5 == 1) then Some (ca_layout half (Alu (Int Xor))) else
    if (bits half 12 12 == 0) && (bits half 6 5 == 2) then Some (ca_layout half (Alu (Int Or))) else
    if (bits half 12 12 == 0) && (bits half 6 5 == 3) then Some (ca_layout half (Alu (Int And))) else
    if (bits half 12 12 == 1) && (bits half 6 5 == 0) then Some (ca_layout half (Alu (Int Subw))) else
    if (bits half 12 12 == 1) && (bits half 6 5 == 1) then Some (ca_layout half (Alu (Int Addw))) else
    if (bits half 12 12 == 1) && (bits half 6 5 == 2) && flags.has_zcb && flags.has_m then Some (ca_layout half (Alu (Mul Product))) else
    if (bits half 12 12 == 1) && (bits half 6 5 == 3) && flags.has_zcb then decode_zcb_unary flags half else
    None

-- c.srli, c.srai and c.andi
abbrev pub decode_arithmetic : IsaFlags → ℕ → Option Decoded
decode_arithmetic flags half =
    if bits half 11 10 == 0 then Some (cb_layout half (Alu (Int Srli)) (pos (ci_bits half))) else
    if bits half 11 10 == 1 then Some (cb_layout half (Alu (Int Srai)) (pos (ci_bits half))) else
    if bits half 11 10 == 2 then Some (cb_layout half (Alu (Int Andi)) (ci_imm half)) else
    if bits half 11 10 == 3 then decode_two_registers flags half else
    None

abbrev pub decode_j : ℕ → Decoded
decode_j half = compressed (Base Jal) 0 0 0 (cj_imm half)

-- c.addi (c.nop is that of x0), c.addiw, c.li, c.addi16sp and c.lui, and c.j
abbrev pub quadrant_1 : IsaFlags → ℕ → Option Decoded
quadrant_1 flags half =
    if half_funct3 half == 0 then Some (ci_layout half (Alu (Int Addi))) else
    if half_funct3 half == 1 then decode_addiw half else
    if half_funct3 half == 2 then Some (decode_li half) else
    if half_funct3 half == 3 then decode_lui half else
    if half_funct3 half == 4 then decode_arithmetic flags half else
    if half_funct3 half == 5 then Some (decode_j half) else
    None

-- ---- quadrant 2

abbrev pub decode_slli : ℕ → Decoded
decode_slli half = compressed (Alu (Int Slli)) (half_rd half) (half_rd half) 0 (pos (ci_bits half))

-- c.lwsp and c.ldsp, where rd isn't x0
abbrev pub decode_load_sp : ℕ → MOp → ℕ → Option Decoded
decode_load_sp half op offset = if half_rd half == 0 then None else Some (load_sp_layout half op offset)

-- c.jr, where rs1 isn't x0, and c.mv
abbrev pub decode_jr_mv : ℕ → Option Decoded
decode_jr_mv half =
    if (half_rs2 half == 0) && (half_rd half == 0) then None else
    if half_rs2 half == 0 then Some (compressed (Base Jalr) 0 (half_rd half) 0 (pos 0)) else
    Some (compressed (Alu (Int Add)) (half_rd half) 0 (half_rs2 half) (pos 0))

-- c.ebreak, c.jalr and c.add
abbrev pub decode_jalr_add : ℕ → Option Decoded
decode_jalr_add half =
    if (half_rs2 half == 0) && (half_rd half == 0) then Some (compressed (Base Ebreak) 0 0 0 (pos 0)) else
    if half_rs2 half == 0 then Some (compressed (Base Jalr) 1 (half_rd half) 0 (pos 0)) else
    Some (cr_layout half (Alu (Int Add)))

-- c.slli, c.lwsp, c.ldsp, those above by funct4, c.swsp and c.sdsp
abbrev pub quadrant_2 : ℕ → Option Decoded
quadrant_2 half =
    if half_funct3 half == 0 then Some (decode_slli half) else
    if half_funct3 half == 2 then decode_load_sp half (Load Lw) (lwsp_imm half) else
    if half_funct3 half == 3 then decode_load_sp half (Load Ld) (ldsp_imm half) else
    if (half_funct3 half == 4) && (bits half 12 12 == 0) then decode_jr_mv half else
    if (half_funct3 half == 4) && (bits half 12 12 == 1) then decode_jalr_add half else
    if half_funct3 half == 6 then Some (css_layout half (Store Sw) (swsp_imm half)) else
    if half_funct3 half == 7 then Some (css_layout half (Store Sd) (sdsp_imm half)) else
    None

-- ---- all quadrants

abbrev pub by_quadrant : IsaFlags → ℕ → Option Decoded
by_quadrant flags half =
    if half_op half == 0 then quadrant_0 flags half else
    if half_op half == 1 then quadrant_1 flags half else
    if half_op half == 2 then quadrant_2 half else
    None

-- the integer operation of an instruction of 16 bits, of which there are only those of Zca
unfoldable pub int_decode_half : IsaFlags → ℕ → Option Decoded
int_decode_half flags half = if flags.has_zca then by_quadrant flags half else None

-- c.fld, c.fsd, c.fldsp and c.fsdsp, between those of quadrants 0 and 2
abbrev pub unit_by_quadrant : ℕ → Option Decoded
unit_by_quadrant half =
    if (half_op half == 0) && (half_funct3 half == 1) then Some (cl_layout half (FloatLoad D) (ld_imm half)) else
    if (half_op half == 0) && (half_funct3 half == 5) then Some (cs_layout half (FloatStore D) (ld_imm half)) else
    if (half_op half == 2) && (half_funct3 half == 1) then Some (load_sp_layout half (FloatLoad D) (ldsp_imm half)) else
    if (half_op half == 2) && (half_funct3 half == 5) then Some (css_layout half (FloatStore D) (sdsp_imm half)) else
    None

-- those of Zcd
unfoldable pub unit_decode_half : IsaFlags → ℕ → Option Decoded
unit_decode_half flags half = if flags.has_zca && flags.has_zcd then unit_by_quadrant half else None

-- the operation that an instruction of 16 bits expands to
unfoldable pub decode_half : IsaFlags → ℕ → Option Decoded
decode_half flags half = or_else (int_decode_half flags half) (unit_decode_half flags half)
