-- What the words of all floating-point operations have (chapter "F", "Floating-Point Control and Status Register" and
-- "Single-Precision Floating-Point Computational Instructions"): the format of the numbers and the rounding mode, with their names.
use Rattle.std.specs.Prelude.{ℕ, ◌^◌, ◌==◌, Bool, true, false, Option, Some, None, List, codes}
use Rattle.rv_base.specs.declared.ir_type.IrType.{IrType}
use Rattle.rv_base.specs.declared.ir_type.IrType.TheVariants.{I8, I16, I32, I64, I128, F16, F32, F64, F128, Vector}
use Rattle.rv_machine.specs.declared.ops.FloatFormat.{FloatFormat}
use Rattle.rv_machine.specs.declared.ops.FloatFormat.TheVariants as format
use Rattle.rv_ops.specs.declared.float_fields.FpuOPWidth.{FpuOPWidth}
use Rattle.rv_ops.specs.declared.float_fields.FpuOPWidth.TheVariants.{H, S, D, Q}
use Rattle.rv_ops.specs.declared.float_fields.FRM.{FRM}
use Rattle.rv_ops.specs.declared.float_fields.FRM.TheVariants.{RNE, RTZ, RDN, RUP, RMM, Fcsr}
use Rattle.rv_ops.specs.declared.float_fields.FClassResult.{FClassResult}
use Rattle.rv_ops.specs.declared.float_fields.FClassResult.TheVariants.{NegInfinite, NegNormal, NegSubNormal, NegZero, PosZero, PosSubNormal, PosNormal, PosInfinite, SNaN, QNaN}
use Rattle.rv_ops.specs.declared.float_fields.FFlagsException.{FFlagsException}
use Rattle.rv_ops.specs.declared.float_fields.FFlagsException.TheVariants.{NV, DZ, OF, UF, NX}

-- ---- the format

abbrev pub width_name : FpuOPWidth → List ℕ
width_name H = codes "h"
width_name S = codes "s"
width_name D = codes "d"
width_name Q = codes "q"

-- in the names of moves of bits
abbrev pub move_name : FpuOPWidth → List ℕ
move_name H = codes "h"
move_name S = codes "w"
move_name D = codes "d"
move_name Q = codes "q"

-- fmt, bits 26 to 25
abbrev pub width_bits : FpuOPWidth → ℕ
width_bits S = 0
width_bits D = 1
width_bits H = 2
width_bits Q = 3

-- rule Width: the machine has no operation of Q
abbrev pub is_width : FpuOPWidth → Bool
is_width H = true
is_width S = true
is_width D = true
is_width Q = false

-- the machine's format of a width that it has; of Q, which it hasn't, that of D, and no clause says anything of it
abbrev pub format_of : FpuOPWidth → FloatFormat
format_of H = format.H
format_of S = format.S
format_of D = format.D
format_of Q = format.D

-- the width of a type of floating-point numbers; none for other types
abbrev pub width_of : IrType → Option FpuOPWidth
width_of F16 = Some H
width_of F32 = Some S
width_of F64 = Some D
width_of F128 = Some Q
width_of I8 = None
width_of I16 = None
width_of I32 = None
width_of I64 = None
width_of I128 = None
width_of (Vector v) = None

abbrev pub width_refusal : List ℕ
width_refusal = codes "Invalid type for FpuOPWidth"

-- ---- the rounding mode

abbrev pub frm_name : FRM → List ℕ
frm_name RNE = codes "rne"
frm_name RTZ = codes "rtz"
frm_name RDN = codes "rdn"
frm_name RUP = codes "rup"
frm_name RMM = codes "rmm"
frm_name Fcsr = codes "fcsr"

-- rm, bits 14 to 12
abbrev pub frm_bits : FRM → ℕ
frm_bits RNE = 0
frm_bits RTZ = 1
frm_bits RDN = 2
frm_bits RUP = 3
frm_bits RMM = 4
frm_bits Fcsr = 7

-- what bits 14 to 12 of an operation's word are: a rounding mode, or a number of the operation's own
pub data Rounding : Type 0 where
  Mode : Rounding
  Own : ℕ → Rounding

-- rule Rounding: an operation without a rounding mode is listed with its own number in the mode's place
abbrev pub takes_frm : Rounding → FRM → Bool
takes_frm Mode frm = true
takes_frm (Own number) frm = frm_bits frm == number

abbrev pub own_number : Rounding → Option ℕ
own_number Mode = None
own_number (Own number) = Some number

-- the rounding mode of an operation; one without it has 0
abbrev pub mode_of : Rounding → FRM → ℕ
mode_of Mode frm = frm_bits frm
mode_of (Own number) frm = 0

-- ---- results

-- what fclass finds, as the bit that it writes
abbrev pub class_bit : FClassResult → ℕ
class_bit NegInfinite = 2 ^ 0
class_bit NegNormal = 2 ^ 1
class_bit NegSubNormal = 2 ^ 2
class_bit NegZero = 2 ^ 3
class_bit PosZero = 2 ^ 4
class_bit PosSubNormal = 2 ^ 5
class_bit PosNormal = 2 ^ 6
class_bit PosInfinite = 2 ^ 7
class_bit SNaN = 2 ^ 8
class_bit QNaN = 2 ^ 9

-- the exceptions of fflags: invalid operation, divide by zero, overflow, underflow and inexact
abbrev pub flag_bit : FFlagsException → ℕ
flag_bit NV = 2 ^ 4
flag_bit DZ = 2 ^ 3
flag_bit OF = 2 ^ 2
flag_bit UF = 2 ^ 1
flag_bit NX = 2 ^ 0
