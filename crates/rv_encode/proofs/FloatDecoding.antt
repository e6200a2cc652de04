-- Words with the fields of a floating-point operation are decoded as it, whatever the flags.
use Rattle.std.proofs.Common.{◌≡◌, ℕ, ◌+◌, ◌*◌, ◌/◌, ◌%◌, ◌^◌, ◌<◌, nat_eq, ◌==◌, ◌&&◌, not, if◌then◌else◌, Bool, true, false, pos, Option, Some, None, refl, ap, lit<, ◌∙◌, arith}
use Rattle.std.specs.Option.{option_map, option_and_then}
use Rattle.std.proofs.lemmas.Bool.{eqb-true}
use Rattle.rv_base.specs.declared.flags.IsaFlags.{IsaFlags}
use Rattle.rv_ops.specs.declared.float_fields.FpuOPWidth.{FpuOPWidth}
use Rattle.rv_ops.specs.declared.float_fields.FpuOPWidth.TheVariants as width
use Rattle.rv_ops.specs.declared.float_fields.FRM.{FRM}
use Rattle.rv_ops.specs.declared.float_fields.FRM.TheVariants as frm
use Rattle.rv_ops.specs.declared.fpu_rr.FpuOPRR.{FpuOPRR}
use Rattle.rv_ops.specs.declared.fpu_rr.FpuOPRR.TheVariants as rr
use Rattle.rv_ops.specs.declared.fpu.FpuOPRRR.{FpuOPRRR}
use Rattle.rv_ops.specs.declared.fpu.FpuOPRRR.TheVariants as rrr
use Rattle.rv_ops.specs.declared.fpu.FpuOPRRRR.{FpuOPRRRR}
use Rattle.rv_ops.specs.declared.fpu.FpuOPRRRR.TheVariants as rrrr
use Rattle.rv_ops.specs.FloatFields.{width_bits, is_width, format_of, frm_bits, takes_frm, mode_of}
use Rattle.rv_ops.specs.Fpu.{with_width, takes_width, fpu_rr_numbers, fpu_rr_widths, fpu_rr_op, fpu_rrr_numbers, fpu_rrr_op, fpu_rrrr_opcode, fpu_rrrr_op, fli_funct5}
use Rattle.rv_machine.specs.declared.decoding.Decoded.{Decoded}
use Rattle.rv_machine.specs.declared.ops.MOp.TheVariants.{Float}
use Rattle.rv_machine.specs.declared.ops.FloatFormat.{FloatFormat}
use Rattle.rv_machine.specs.declared.ops.FloatFormat.TheVariants.{H, S, D}
use Rattle.rv_machine.specs.Opcodes.{OP_FP}
use Rattle.rv_machine.specs.Layout.{bits, word_opcode, word_funct7, word_funct5, word_fmt, rounded}
use Rattle.rv_machine.specs.Compressed.{unit_decode_half}
use Rattle.rv_machine.specs.UnitTables.{format_entry, rounded_entry, rounded_unary_entry, fixed_entry, fixed_unary_entry, fused_entry, is_own_format}
use Rattle.rv_machine.specs.UnitDecode.{only, is_rounding, decode_op_fp, decode_fused, unit_by_opcode, unit_decode}
use Rattle.rv_machine.specs.Decode.{or_else, int_by_opcode, decode}
use Rattle.rv_machine.proofs.DecodeLaws.{decode_wide}
use Rattle.rv_encode.specs.Layouts.{IsRType}
use Rattle.rv_encode.specs.Operations.{decoded, decoded_fpu_rr, decoded_fpu_rrr, decoded_fpu_rrrr, decoded_fli, IsRowOfFli, IsRowOfFpuRR, IsRowOfFpuRRR, IsRowOfFpuRRRR}

-- ---- an opcode that only a unit has this operation of

unit_wide : (flags : IsaFlags) (w opcode : ℕ) → word_opcode w ≡ opcode → nat_eq (opcode % 4) 3 ≡ true → unit_decode flags w ≡ unit_by_opcode flags opcode w
unfolding unit_decode
unit_wide flags w opcode is wide =
    ap (λ c. if c then unit_by_opcode flags (word_opcode w) w else unit_decode_half flags (bits w 15 0)) (ap (λ k. nat_eq (k % 4) 3) is ∙ wide)
    ∙ ap (λ k. unit_by_opcode flags k w) is

pub unit_decodes : {d : Decoded} (flags : IsaFlags) (w opcode : ℕ) → word_opcode w ≡ opcode → nat_eq (opcode % 4) 3 ≡ true → int_by_opcode opcode w ≡ None → unit_by_opcode flags opcode w ≡ Some d → decode flags w ≡ Some d
unfolding decode
unit_decodes flags w opcode is wide none some =
    let integer = decode_wide flags w opcode is wide ∙ none in
    let unit = unit_wide flags w opcode is wide ∙ some in
    λ i. or_else (integer i) (unit i)

-- ---- fields

upper : (f n : ℕ) → n < 4 → (f * 2 ^ 2 + n) / 2 ^ 2 ≡ f
upper f n h = omega (arith, h)

lower : (f n : ℕ) → n < 4 → (f * 2 ^ 2 + n) % 2 ^ 2 ≡ n
lower f n h = omega (arith, h)

two_bits : (w : FpuOPWidth) → width_bits w < 4
two_bits width.H = lit< tt
two_bits width.S = lit< tt
two_bits width.D = lit< tt
two_bits width.Q = lit< tt

funct5_is : (w funct5 : ℕ) (width : FpuOPWidth) → word_funct7 w ≡ with_width funct5 width → word_funct5 w ≡ funct5
funct5_is w funct5 width is = let same : word_funct5 w ≡ with_width funct5 width / 2 ^ 2 = omega (arith, is) in same ∙ upper funct5 (width_bits width) (two_bits width)

fmt_is : (w funct5 : ℕ) (width : FpuOPWidth) → word_funct7 w ≡ with_width funct5 width → word_fmt w ≡ width_bits width
fmt_is w funct5 width is = let same : word_fmt w ≡ with_width funct5 width % 2 ^ 2 = omega (arith, is) in same ∙ lower funct5 (width_bits width) (two_bits width)

format_is : (w : FpuOPWidth) → is_width w ≡ true → format_entry (width_bits w) ≡ Some (format_of w)
format_is width.H has = refl
format_is width.S has = refl
format_is width.D has = refl
format_is width.Q has = absurd (cc)

is_mode : (m : FRM) → is_rounding (frm_bits m) ≡ true
is_mode frm.RNE = refl
is_mode frm.RTZ = refl
is_mode frm.RDN = refl
is_mode frm.RUP = refl
is_mode frm.RMM = refl
is_mode frm.Fcsr = refl

-- what a word of OP-FP decodes to, by its fields
abbrev fp_decoded : ℕ → ℕ → ℕ → ℕ → ℕ → FloatFormat → Option Decoded
fp_decoded rd rm rs1 rs2 funct5 format =
    or_else (only (is_rounding rm) (option_map (λ op. rounded (decoded (Float format op) rd rs1 rs2 (pos 0)) 0 rm) (rounded_entry funct5)))
    (or_else (only (is_rounding rm && not (is_own_format format funct5 rs2)) (option_map (λ op. rounded (decoded (Float format op) rd rs1 0 (pos 0)) 0 rm) (rounded_unary_entry funct5 rs2)))
    (or_else (option_map (λ op. decoded (Float format op) rd rs1 rs2 (pos 0)) (fixed_entry funct5 rm))
    (option_map (λ op. decoded (Float format op) rd rs1 0 (pos 0)) (fixed_unary_entry funct5 rs2 rm))))

fp_at : (w rd rm rs1 rs2 funct5 : ℕ) (width : FpuOPWidth) → is_width width ≡ true → IsRType w OP_FP rd rm rs1 rs2 (with_width funct5 width) → decode_op_fp w ≡ fp_decoded rd rm rs1 rs2 funct5 (format_of width)
fp_at w rd rm rs1 rs2 funct5 width has h = λ i. option_and_then (fp_decoded (h.rd_is i) (h.funct3_is i) (h.rs1_is i) (h.rs2_is i) (funct5_is w funct5 width h.funct7_is i)) ((ap format_entry (fmt_is w funct5 width h.funct7_is) ∙ format_is width has) i)

-- an operation of a table, and a table that has none
first_if : (c : Bool) (d : Decoded) (rest : Option Decoded) → c ≡ true → or_else (only c (Some d)) rest ≡ Some d
first_if c d rest is = ap (λ c. or_else (only c (Some d)) rest) is

skip : (c : Bool) (rest : Option Decoded) → or_else (only c None) rest ≡ rest
skip true rest = refl
skip false rest = refl

-- an operation of one source
of_one : (m : FRM) (own : Bool) (d : Decoded) (rest : Option Decoded) → own ≡ false → or_else (only (is_rounding (frm_bits m) && not own) (Some d)) rest ≡ Some d
of_one m own d rest other = λ i. or_else (only (is_mode m i && not (other i)) (Some d)) rest

-- ---- operations of two sources

abbrev rrr_decoded : FpuOPRRR → FloatFormat → FRM → ℕ → ℕ → ℕ → Decoded
rrr_decoded op format frm rd rs1 rs2 = rounded (decoded (Float format (fpu_rrr_op op)) rd rs1 rs2 (pos 0)) 0 (mode_of (fpu_rrr_numbers op).rounding frm)

rrr_fields : (op : FpuOPRRR) (format : FloatFormat) (m : FRM) (rd rs1 rs2 : ℕ) → takes_frm (fpu_rrr_numbers op).rounding m ≡ true → fp_decoded rd (frm_bits m) rs1 rs2 (fpu_rrr_numbers op).funct5 format ≡ Some (rrr_decoded op format m rd rs1 rs2)
rrr_fields rrr.Fadd format m rd rs1 rs2 takes = first_if _ _ _ (is_mode m)
rrr_fields rrr.Fsub format m rd rs1 rs2 takes = first_if _ _ _ (is_mode m)
rrr_fields rrr.Fmul format m rd rs1 rs2 takes = first_if _ _ _ (is_mode m)
rrr_fields rrr.Fdiv format m rd rs1 rs2 takes = first_if _ _ _ (is_mode m)
rrr_fields rrr.Fsgnj format m rd rs1 rs2 takes = (λ i. fp_decoded rd (eqb-true (frm_bits m) 0 takes i) rs1 rs2 0x04 format) ∙ skip _ _
rrr_fields rrr.Fsgnjn format m rd rs1 rs2 takes = (λ i. fp_decoded rd (eqb-true (frm_bits m) 1 takes i) rs1 rs2 0x04 format) ∙ skip _ _
rrr_fields rrr.Fsgnjx format m rd rs1 rs2 takes = (λ i. fp_decoded rd (eqb-true (frm_bits m) 2 takes i) rs1 rs2 0x04 format) ∙ skip _ _
rrr_fields rrr.Fmin format m rd rs1 rs2 takes = (λ i. fp_decoded rd (eqb-true (frm_bits m) 0 takes i) rs1 rs2 0x05 format) ∙ skip _ _
rrr_fields rrr.Fmax format m rd rs1 rs2 takes = (λ i. fp_decoded rd (eqb-true (frm_bits m) 1 takes i) rs1 rs2 0x05 format) ∙ skip _ _
rrr_fields rrr.Feq format m rd rs1 rs2 takes = (λ i. fp_decoded rd (eqb-true (frm_bits m) 2 takes i) rs1 rs2 0x14 format) ∙ skip _ _
rrr_fields rrr.Flt format m rd rs1 rs2 takes = (λ i. fp_decoded rd (eqb-true (frm_bits m) 1 takes i) rs1 rs2 0x14 format) ∙ skip _ _
rrr_fields rrr.Fle format m rd rs1 rs2 takes = (λ i. fp_decoded rd (eqb-true (frm_bits m) 0 takes i) rs1 rs2 0x14 format) ∙ skip _ _
rrr_fields rrr.Fminm format m rd rs1 rs2 takes = (λ i. fp_decoded rd (eqb-true (frm_bits m) 2 takes i) rs1 rs2 0x05 format) ∙ skip _ _
rrr_fields rrr.Fmaxm format m rd rs1 rs2 takes = (λ i. fp_decoded rd (eqb-true (frm_bits m) 3 takes i) rs1 rs2 0x05 format) ∙ skip _ _

pub fpu_rrr_decodes : (flags : IsaFlags) (op : FpuOPRRR) (width : FpuOPWidth) (m : FRM) (w rd rs1 rs2 : ℕ) → is_width width ≡ true → takes_frm (fpu_rrr_numbers op).rounding m ≡ true → IsRType w OP_FP rd (frm_bits m) rs1 rs2 (with_width (fpu_rrr_numbers op).funct5 width) → decode flags w ≡ Some (decoded_fpu_rrr op width m rd rs1 rs2)
fpu_rrr_decodes flags op width m w rd rs1 rs2 has takes h =
    unit_decodes flags w OP_FP h.opcode_is refl refl (fp_at w rd (frm_bits m) rs1 rs2 (fpu_rrr_numbers op).funct5 width has h ∙ rrr_fields op (format_of width) m rd rs1 rs2 takes)

-- ---- operations of one source

-- no conversion from the format itself
not_own : (format : FloatFormat) (funct5 selector : ℕ) → (funct5 == 0x08) ≡ false → is_own_format format funct5 selector ≡ false
not_own S funct5 selector other = λ i. other i && (selector == 0)
not_own D funct5 selector other = λ i. other i && (selector == 1)
not_own H funct5 selector other = λ i. other i && (selector == 2)

not_own_round : (format : FloatFormat) → is_own_format format 0x08 4 ≡ false
not_own_round S = refl
not_own_round D = refl
not_own_round H = refl

rr_width : (op : FpuOPRR) (w : FpuOPWidth) → takes_width (fpu_rr_widths op) w ≡ true → is_width w ≡ true
rr_width op width.H has = refl
rr_width op width.S has = refl
rr_width op width.D has = refl
rr_width rr.Fsqrt width.Q has = absurd (cc)
rr_width _ width.Q has = absurd (cc)

-- where the format is that of a conversion's result
converts : (op : FpuOPRR) (w : FpuOPWidth) → (fpu_rr_numbers op).funct5 ≡ 0x08 → takes_width (fpu_rr_widths op) w ≡ true → is_own_format (format_of w) 0x08 (fpu_rr_numbers op).selector ≡ false
converts rr.Fround w is has = not_own_round (format_of w)
converts rr.FcvtSH width.S is has = refl
converts rr.FcvtSH _ is has = absurd (cc)
converts rr.FcvtHS width.H is has = refl
converts rr.FcvtHS _ is has = absurd (cc)
converts rr.FcvtSD width.S is has = refl
converts rr.FcvtSD _ is has = absurd (cc)
converts rr.FcvtDS width.D is has = refl
converts rr.FcvtDS _ is has = absurd (cc)
converts rr.FcvtDH width.D is has = refl
converts rr.FcvtDH _ is has = absurd (cc)
converts rr.FcvtHD width.H is has = refl
converts rr.FcvtHD _ is has = absurd (cc)
converts _ w is has = absurd (cc)

abbrev rr_decoded : FpuOPRR → FloatFormat → FRM → ℕ → ℕ → Decoded
rr_decoded op format m rd rs = rounded (decoded (Float format (fpu_rr_op op)) rd rs 0 (pos 0)) 0 (mode_of (fpu_rr_numbers op).rounding m)

abbrev rr_word : FpuOPRR → FloatFormat → FRM → ℕ → ℕ → Option Decoded
rr_word op format m rd rs = fp_decoded rd (frm_bits m) rs (fpu_rr_numbers op).selector (fpu_rr_numbers op).funct5 format

rr_fields : (op : FpuOPRR) (w : FpuOPWidth) (m : FRM) (rd rs : ℕ) → takes_width (fpu_rr_widths op) w ≡ true → takes_frm (fpu_rr_numbers op).rounding m ≡ true → rr_word op (format_of w) m rd rs ≡ Some (rr_decoded op (format_of w) m rd rs)
rr_fields rr.Fsqrt w m rd rs has takes = skip _ _ ∙ of_one m _ _ _ (not_own (format_of w) 0x0b 0 refl)
rr_fields rr.Fround w m rd rs has takes = skip _ _ ∙ of_one m _ _ _ (converts rr.Fround w refl has)
rr_fields rr.Fclass w m rd rs has takes = (λ i. fp_decoded rd (eqb-true (frm_bits m) 1 takes i) rs 0 0x1c (format_of w)) ∙ skip _ _
rr_fields rr.FcvtWFmt w m rd rs has takes = skip _ _ ∙ of_one m _ _ _ (not_own (format_of w) 0x18 0 refl)
rr_fields rr.FcvtWuFmt w m rd rs has takes = skip _ _ ∙ of_one m _ _ _ (not_own (format_of w) 0x18 1 refl)
rr_fields rr.FcvtLFmt w m rd rs has takes = skip _ _ ∙ of_one m _ _ _ (not_own (format_of w) 0x18 2 refl)
rr_fields rr.FcvtLuFmt w m rd rs has takes = skip _ _ ∙ of_one m _ _ _ (not_own (format_of w) 0x18 3 refl)
rr_fields rr.FcvtFmtW w m rd rs has takes = skip _ _ ∙ of_one m _ _ _ (not_own (format_of w) 0x1a 0 refl)
rr_fields rr.FcvtFmtWu w m rd rs has takes = skip _ _ ∙ of_one m _ _ _ (not_own (format_of w) 0x1a 1 refl)
rr_fields rr.FcvtFmtL w m rd rs has takes = skip _ _ ∙ of_one m _ _ _ (not_own (format_of w) 0x1a 2 refl)
rr_fields rr.FcvtFmtLu w m rd rs has takes = skip _ _ ∙ of_one m _ _ _ (not_own (format_of w) 0x1a 3 refl)
rr_fields rr.FmvXFmt w m rd rs has takes = (λ i. fp_decoded rd (eqb-true (frm_bits m) 0 takes i) rs 0 0x1c (format_of w)) ∙ skip _ _
rr_fields rr.FmvFmtX w m rd rs has takes = (λ i. fp_decoded rd (eqb-true (frm_bits m) 0 takes i) rs 0 0x1e (format_of w)) ∙ skip _ _
rr_fields rr.FcvtSH w m rd rs has takes = skip _ _ ∙ of_one m _ _ _ (converts rr.FcvtSH w refl has)
rr_fields rr.FcvtHS w m rd rs has takes = skip _ _ ∙ of_one m _ _ _ (converts rr.FcvtHS w refl has)
rr_fields rr.FcvtSD w m rd rs has takes = skip _ _ ∙ of_one m _ _ _ (converts rr.FcvtSD w refl has)
rr_fields rr.FcvtDS w m rd rs has takes = skip _ _ ∙ of_one m _ _ _ (converts rr.FcvtDS w refl has)
rr_fields rr.FcvtDH w m rd rs has takes = skip _ _ ∙ of_one m _ _ _ (converts rr.FcvtDH w refl has)
rr_fields rr.FcvtHD w m rd rs has takes = skip _ _ ∙ of_one m _ _ _ (converts rr.FcvtHD w refl has)

pub fpu_rr_decodes : (flags : IsaFlags) (op : FpuOPRR) (width : FpuOPWidth) (m : FRM) (w rd rs : ℕ) → takes_width (fpu_rr_widths op) width ≡ true → takes_frm (fpu_rr_numbers op).rounding m ≡ true → IsRType w OP_FP rd (frm_bits m) rs (fpu_rr_numbers op).selector (with_width (fpu_rr_numbers op).funct5 width) → decode flags w ≡ Some (decoded_fpu_rr op width m rd rs)
fpu_rr_decodes flags op width m w rd rs has takes h =
    unit_decodes flags w OP_FP h.opcode_is refl refl
    (fp_at w rd (frm_bits m) rs (fpu_rr_numbers op).selector (fpu_rr_numbers op).funct5 width (rr_width op width has) h ∙ rr_fields op width m rd rs has takes)

-- a constant
pub fli_decodes : (flags : IsaFlags) (width : FpuOPWidth) (w rd constant : ℕ) → is_width width ≡ true → IsRType w OP_FP rd 0 constant 1 (with_width fli_funct5 width) → decode flags w ≡ Some (decoded_fli width rd constant)
fli_decodes flags width w rd constant has h = unit_decodes flags w OP_FP h.opcode_is refl refl (fp_at w rd 0 constant 1 fli_funct5 width has h ∙ skip _ _)

-- ---- operations of three sources

-- what a word of one of their opcodes decodes to, by its fields
abbrev fused_decoded : ℕ → ℕ → ℕ → ℕ → ℕ → ℕ → FloatFormat → Option Decoded
fused_decoded opcode rd rm rs1 rs2 rs3 format = only (is_rounding rm) (option_map (λ op. rounded (decoded (Float format op) rd rs1 rs2 (pos 0)) rs3 rm) (fused_entry opcode))

fused_at : (w opcode rd rm rs1 rs2 rs3 : ℕ) (width : FpuOPWidth) → is_width width ≡ true → IsRType w opcode rd rm rs1 rs2 (with_width rs3 width) → decode_fused opcode w ≡ fused_decoded opcode rd rm rs1 rs2 rs3 (format_of width)
fused_at w opcode rd rm rs1 rs2 rs3 width has h = λ i. option_and_then (fused_decoded opcode (h.rd_is i) (h.funct3_is i) (h.rs1_is i) (h.rs2_is i) (funct5_is w rs3 width h.funct7_is i)) ((ap format_entry (fmt_is w rs3 width h.funct7_is) ∙ format_is width has) i)

fused_of_mode : (op : FpuOPRRRR) (m : FRM) (rd rs1 rs2 rs3 : ℕ) (format : FloatFormat) → fused_decoded (fpu_rrrr_opcode op) rd (frm_bits m) rs1 rs2 rs3 format ≡ Some (rounded (decoded (Float format (fpu_rrrr_op op)) rd rs1 rs2 (pos 0)) rs3 (frm_bits m))
fused_of_mode rrrr.Fmadd m rd rs1 rs2 rs3 format = ap (λ c. only c (Some (rounded (decoded (Float format (fpu_rrrr_op rrrr.Fmadd)) rd rs1 rs2 (pos 0)) rs3 (frm_bits m)))) (is_mode m)
fused_of_mode rrrr.Fmsub m rd rs1 rs2 rs3 format = ap (λ c. only c (Some (rounded (decoded (Float format (fpu_rrrr_op rrrr.Fmsub)) rd rs1 rs2 (pos 0)) rs3 (frm_bits m)))) (is_mode m)
fused_of_mode rrrr.Fnmsub m rd rs1 rs2 rs3 format = ap (λ c. only c (Some (rounded (decoded (Float format (fpu_rrrr_op rrrr.Fnmsub)) rd rs1 rs2 (pos 0)) rs3 (frm_bits m)))) (is_mode m)
fused_of_mode rrrr.Fnmadd m rd rs1 rs2 rs3 format = ap (λ c. only c (Some (rounded (decoded (Float format (fpu_rrrr_op rrrr.Fnmadd)) rd rs1 rs2 (pos 0)) rs3 (frm_bits m)))) (is_mode m)

-- their opcodes are no integer operation's, and no other unit's
of_fused : {d : Decoded} (flags : IsaFlags) (op : FpuOPRRRR) (w : ℕ) → word_opcode w ≡ fpu_rrrr_opcode op → decode_fused (fpu_rrrr_opcode op) w ≡ Some d → decode flags w ≡ Some d
of_fused flags rrrr.Fmadd w is some = unit_decodes flags w _ is refl refl some
of_fused flags rrrr.Fmsub w is some = unit_decodes flags w _ is refl refl some
of_fused flags rrrr.Fnmsub w is some = unit_decodes flags w _ is refl refl some
of_fused flags rrrr.Fnmadd w is some = unit_decodes flags w _ is refl refl some

pub fpu_rrrr_decodes : (flags : IsaFlags) (op : FpuOPRRRR) (width : FpuOPWidth) (m : FRM) (w rd rs1 rs2 rs3 : ℕ) → is_width width ≡ true → IsRType w (fpu_rrrr_opcode op) rd (frm_bits m) rs1 rs2 (with_width rs3 width) → decode flags w ≡ Some (decoded_fpu_rrrr op width m rd rs1 rs2 rs3)
fpu_rrrr_decodes flags op width m w rd rs1 rs2 rs3 has h =
    of_fused flags op w h.opcode_is (fused_at w (fpu_rrrr_opcode op) rd (frm_bits m) rs1 rs2 rs3 width has h ∙ fused_of_mode op m rd rs1 rs2 rs3 (format_of width))

-- ---- words whose fields are an operation's

pub fpu_rrr_by_row : (flags : IsaFlags) (op : FpuOPRRR) (width : FpuOPWidth) (m : FRM) (w opcode rd funct3 rs1 rs2 funct7 : ℕ) → IsRowOfFpuRRR op width m opcode funct3 funct7 → IsRType w opcode rd funct3 rs1 rs2 funct7 → decode flags w ≡ Some (decoded_fpu_rrr op width m rd rs1 rs2)
fpu_rrr_by_row flags op width m w opcode rd funct3 rs1 rs2 funct7 row h =
    fpu_rrr_decodes flags op width m w rd rs1 rs2 row.has_width row.takes_mode
    (record { opcode_is = h.opcode_is ∙ row.opcode_is; rd_is = h.rd_is; funct3_is = h.funct3_is ∙ row.funct3_is; rs1_is = h.rs1_is; rs2_is = h.rs2_is; funct7_is = h.funct7_is ∙ row.funct7_is })

pub fpu_rr_by_row : (flags : IsaFlags) (op : FpuOPRR) (width : FpuOPWidth) (m : FRM) (w opcode rd funct3 rs1 rs2 funct7 : ℕ) → IsRowOfFpuRR op width m opcode funct3 rs2 funct7 → IsRType w opcode rd funct3 rs1 rs2 funct7 → decode flags w ≡ Some (decoded_fpu_rr op width m rd rs1)
fpu_rr_by_row flags op width m w opcode rd funct3 rs1 rs2 funct7 row h =
    fpu_rr_decodes flags op width m w rd rs1 row.has_width row.takes_mode
    (record { opcode_is = h.opcode_is ∙ row.opcode_is; rd_is = h.rd_is; funct3_is = h.funct3_is ∙ row.funct3_is; rs1_is = h.rs1_is; rs2_is = h.rs2_is ∙ row.rs2_is; funct7_is = h.funct7_is ∙ row.funct7_is })

pub fpu_rrrr_by_row : (flags : IsaFlags) (op : FpuOPRRRR) (width : FpuOPWidth) (m : FRM) (rs3 w opcode rd funct3 rs1 rs2 funct7 : ℕ) → IsRowOfFpuRRRR op width m rs3 opcode funct3 funct7 → IsRType w opcode rd funct3 rs1 rs2 funct7 → decode flags w ≡ Some (decoded_fpu_rrrr op width m rd rs1 rs2 rs3)
fpu_rrrr_by_row flags op width m rs3 w opcode rd funct3 rs1 rs2 funct7 row h =
    fpu_rrrr_decodes flags op width m w rd rs1 rs2 rs3 row.has_width
    (record { opcode_is = h.opcode_is ∙ row.opcode_is; rd_is = h.rd_is; funct3_is = h.funct3_is ∙ row.funct3_is; rs1_is = h.rs1_is; rs2_is = h.rs2_is; funct7_is = h.funct7_is ∙ row.funct7_is })

pub fli_by_row : (flags : IsaFlags) (width : FpuOPWidth) (w opcode rd funct3 rs1 rs2 funct7 : ℕ) → IsRowOfFli width opcode funct3 rs2 funct7 → IsRType w opcode rd funct3 rs1 rs2 funct7 → decode flags w ≡ Some (decoded_fli width rd rs1)
fli_by_row flags width w opcode rd funct3 rs1 rs2 funct7 row h =
    fli_decodes flags width w rd rs1 row.has_width
    (record { opcode_is = h.opcode_is ∙ row.opcode_is; rd_is = h.rd_is; funct3_is = h.funct3_is ∙ row.funct3_is; rs1_is = h.rs1_is; rs2_is = h.rs2_is ∙ row.rs2_is; funct7_is = h.funct7_is ∙ row.funct7_is })
