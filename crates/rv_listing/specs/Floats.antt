-- Floating-point operations, formats and rounding modes by their names, and constants by their numbers.
use Rattle.std.specs.Prelude.{ℕ, List, [], ◌∷◌, Option, Some, nat_lt}
use Rattle.std.specs.List.{find}
use Rattle.std.specs.Str.{bytes_eq}
use lib.Dec.{ltb→lt}
use Rattle.rv_ops.specs.declared.float_fields.FpuOPWidth.{FpuOPWidth}
use Rattle.rv_ops.specs.declared.float_fields.FpuOPWidth.TheVariants.{H, S, D, Q}
use Rattle.rv_ops.specs.declared.float_fields.FRM.{FRM}
use Rattle.rv_ops.specs.declared.float_fields.FRM.TheVariants.{RNE, RTZ, RDN, RUP, RMM, Fcsr}
use Rattle.rv_ops.specs.declared.fpu.FpuOPRRR.{FpuOPRRR}
use Rattle.rv_ops.specs.declared.fpu.FpuOPRRR.TheVariants as rrr
use Rattle.rv_ops.specs.declared.fpu.FpuOPRRRR.{FpuOPRRRR}
use Rattle.rv_ops.specs.declared.fpu.FpuOPRRRR.TheVariants as rrrr
use Rattle.rv_ops.specs.declared.fpu_rr.FpuOPRR.{FpuOPRR}
use Rattle.rv_ops.specs.declared.fpu_rr.FpuOPRR.TheVariants as rr
use Rattle.rv_ops.specs.declared.fli.FliConstant.{FliConstant}
use Rattle.rv_ops.specs.FloatFields.{width_name, frm_name}
use Rattle.rv_ops.specs.Fpu.{fpu_rr_listed, fpu_rrr_listed, fpu_rrrr_listed}
use Rattle.rv_listing.specs.Tokens.{◌>>=◌, where_true, natural}

unfoldable pub every_fpu_rr : List FpuOPRR
every_fpu_rr =
    rr.Fsqrt ∷ rr.Fround ∷ rr.Fclass ∷ rr.FcvtWFmt ∷ rr.FcvtWuFmt ∷ rr.FcvtLFmt ∷ rr.FcvtLuFmt ∷ rr.FcvtFmtW ∷ rr.FcvtFmtWu ∷ rr.FcvtFmtL ∷
    rr.FcvtFmtLu ∷ rr.FmvXFmt ∷ rr.FmvFmtX ∷ rr.FcvtSH ∷ rr.FcvtHS ∷ rr.FcvtSD ∷ rr.FcvtDS ∷ rr.FcvtDH ∷ rr.FcvtHD ∷ []

-- the operation of one register that has this name
unfoldable pub fpu_rr : List ℕ → Option FpuOPRR
fpu_rr w = find (λ op. bytes_eq w (fpu_rr_listed op)) every_fpu_rr

unfoldable pub every_fpu_rrr : List FpuOPRRR
every_fpu_rrr =
    rrr.Fadd ∷ rrr.Fsub ∷ rrr.Fmul ∷ rrr.Fdiv ∷ rrr.Fsgnj ∷ rrr.Fsgnjn ∷ rrr.Fsgnjx ∷ rrr.Fmin ∷ rrr.Fmax ∷ rrr.Feq ∷
    rrr.Flt ∷ rrr.Fle ∷ rrr.Fminm ∷ rrr.Fmaxm ∷ []

-- the operation of two floating-point registers that has this name
unfoldable pub fpu_rrr : List ℕ → Option FpuOPRRR
fpu_rrr w = find (λ op. bytes_eq w (fpu_rrr_listed op)) every_fpu_rrr

-- the operation of three that has this name
unfoldable pub fpu_rrrr : List ℕ → Option FpuOPRRRR
fpu_rrrr w = find (λ op. bytes_eq w (fpu_rrrr_listed op)) (rrrr.Fmadd ∷ rrrr.Fmsub ∷ rrrr.Fnmsub ∷ rrrr.Fnmadd ∷ [])

unfoldable pub every_width : List FpuOPWidth
every_width = H ∷ S ∷ D ∷ Q ∷ []

-- the format of this name
unfoldable pub fpu_width : List ℕ → Option FpuOPWidth
fpu_width w = find (λ width. bytes_eq w (width_name width)) every_width

unfoldable pub every_frm : List FRM
every_frm = RNE ∷ RTZ ∷ RDN ∷ RUP ∷ RMM ∷ Fcsr ∷ []

-- the rounding mode of this name
unfoldable pub rounding_mode : List ℕ → Option FRM
rounding_mode w = find (λ frm. bytes_eq w (frm_name frm)) every_frm

unfoldable pub fli_of : ℕ → Option FliConstant
fli_of n = where_true (nat_lt n 32) (λ low. Some (record { value = n; small = ltb→lt n 32 low }))

-- the constant of this number, which is below 32
unfoldable pub fli_constant : List ℕ → Option FliConstant
fli_constant w = natural w >>= fli_of
