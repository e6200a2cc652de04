-- What the unit computes: "F", "D", and the minimum and maximum of "Zfa". The sums, products, quotients and roots are those of IEEE 754,
-- rounded once, to nearest with ties to even.
use Rattle.std.specs.Prelude.{ℕ, ◌+◌, ◌-◌, ◌%◌, ◌/◌, ◌^◌, ◌==◌, Bool, true, false, not, ◌||◌, nat_le, if◌then◌else◌, Option, Some, None, option_and_then, pos, is_nan}
use Rattle.std.specs.Int.{w32, w64, cast_signed, from_bool}
use Rattle.std.specs.Float.{float_mul_add, float_to_signed, float_to_unsigned, round_to_format, trunc, floor, ceil, float_round, round_ties_even, classify, is_sign_negative}
use Rattle.std.specs.declared.num.FpCategory.{FpCategory}
use Rattle.std.specs.declared.num.FpCategory.TheVariants.{Nan, Infinite, Zero, Subnormal, Normal}
use lib.Ieee.{Float, Format, binary32, binary64, nan, add, sub, mul, div, sqrt, neg, eq, lt, le, of_int, top, hid}
use lib.IntN.{ℤ}
use Rattle.rv_machine.specs.State.{low64}
use Rattle.rv_machine.specs.Memory.{sign_extend}
use Rattle.rv_machine.specs.declared.decoding.Decoded.{Decoded}
use Rattle.rv_machine.specs.declared.ops.FloatOp.{FloatOp}
use Rattle.rv_machine.specs.declared.ops.FloatOp.TheVariants.{Fmadd, Fmsub, Fnmsub, Fnmadd, Fadd, Fsub, Fmul, Fdiv, Fsqrt, Fsgnj, Fsgnjn, Fsgnjx, Fmin, Fmax, FcvtToW, FcvtToWu, FcvtToL, FcvtToLu, FmvToX, Feq, Flt, Fle, Fclass, FcvtFromW, FcvtFromWu, FcvtFromL, FcvtFromLu, FmvFromX, FcvtFromH, FcvtFromS, FcvtFromD, Fli, Fminm, Fmaxm, Fround}
use Rattle.rv_machine.specs.declared.ops.MOp.{MOp}
use Rattle.rv_machine.specs.declared.ops.MOp.TheVariants.{Base, Load, Store, Alu, Carry, Atomic, Csr, FloatLoad, FloatStore, Float as FloatOf, VecMem, Vec}
use Rattle.rv_machine.specs.declared.ops.FloatFormat.{FloatFormat}
use Rattle.rv_host.specs.declared.integers.Integer.{Integer}
use Rattle.rv_host.specs.declared.integers.Integer.TheVariants.{W, Wu, L, Lu}
use Rattle.rv_host.specs.declared.numbers.Operands.{Operands}
use Rattle.rv_host.specs.declared.numbers.Precision.{Precision}
use Rattle.rv_host.specs.declared.numbers.Precision.TheVariants.{Single, Double}
use Rattle.rv_host.specs.declared.unit.Rounding.{Rounding}
use Rattle.rv_host.specs.declared.unit.Rounding.TheVariants.{NearestEven, TowardZero, Down, Up, NearestAway}
use Rattle.rv_host.specs.Numbers.{precision_of, ieee, unboxed, boxed, number, put, first, second, third}

-- ---- rounding

-- by the number of a mode; 5 and 6 are reserved
abbrev pub static_rounding : ℕ → Option Rounding
static_rounding rm =
    if rm == 0 then Some NearestEven else
    if rm == 1 then Some TowardZero else
    if rm == 2 then Some Down else
    if rm == 3 then Some Up else
    if rm == 4 then Some NearestAway else
    None

-- by an instruction's field, where 7 says that it is the mode in frm
abbrev pub rounding_of : ℕ → ℕ → Option Rounding
rounding_of rm frm = static_rounding (if rm == 7 then frm else rm)

-- what is computed to nearest alone
abbrev pub nearest : Option Rounding → ℕ → Option ℕ
nearest None n = None
nearest (Some NearestEven) n = Some n
nearest (Some TowardZero) n = None
nearest (Some Down) n = None
nearest (Some Up) n = None
nearest (Some NearestAway) n = None

-- what is exact, whatever the mode is
abbrev pub exact : Option Rounding → ℕ → Option ℕ
exact None n = None
exact (Some mode) n = Some n

-- a number rounded to a whole one
abbrev pub whole : Rounding → Float → Float
whole NearestEven x = round_ties_even binary64 x
whole TowardZero x = trunc binary64 x
whole Down x = floor binary64 x
whole Up x = ceil binary64 x
whole NearestAway x = float_round binary64 x

-- ---- arithmetic

-- x, or -x
abbrev pub signed : Bool → Float → Float
signed minus x = if minus then neg x else x

-- the product of the first two and the third, rounded once, the product and the third each with its own sign or the other
abbrev pub fused : Precision → Bool → Bool → Operands → ℕ
fused p minus_product minus_addend o = put (ieee p) (float_mul_add (ieee p) (signed minus_product (first p o)) (second p o) (signed minus_addend (third p o)))

abbrev pub sum_of : Precision → Operands → ℕ
sum_of p o = put (ieee p) (add (ieee p) (first p o) (second p o))

abbrev pub difference_of : Precision → Operands → ℕ
difference_of p o = put (ieee p) (sub (ieee p) (first p o) (second p o))

abbrev pub product_of : Precision → Operands → ℕ
product_of p o = put (ieee p) (mul (ieee p) (first p o) (second p o))

abbrev pub quotient_of : Precision → Operands → ℕ
quotient_of p o = put (ieee p) (div (ieee p) (first p o) (second p o))

abbrev pub root_of : Precision → Operands → ℕ
root_of p o = put (ieee p) (sqrt (ieee p) (first p o))

-- ---- signs

abbrev pub is_negative : Format → ℕ → Bool
is_negative binary32 bits = nat_le (2 ^ 31) bits
is_negative binary64 bits = nat_le (2 ^ 63) bits

abbrev pub size_of : Format → ℕ → ℕ
size_of binary32 bits = bits % 2 ^ 31
size_of binary64 bits = bits % 2 ^ 63

abbrev pub sign_bit : Format → ℕ
sign_bit binary32 = 2 ^ 31
sign_bit binary64 = 2 ^ 63

abbrev pub with_sign : Format → Bool → ℕ → ℕ
with_sign f minus bits = if minus then size_of f bits + sign_bit f else size_of f bits

-- the number in a register has a minus
abbrev pub is_minus : Precision → ℕ → Bool
is_minus p register = is_negative (ieee p) (unboxed (ieee p) register)

-- the first number with this sign, all else of it as it was
abbrev pub sign_injected : Bool → Precision → Operands → ℕ
sign_injected minus p o = boxed (ieee p) (with_sign (ieee p) minus (unboxed (ieee p) o.first))

abbrev pub sign_product : Bool → Bool → Bool
sign_product a b = if a then not b else b

-- ---- minimum and maximum

-- the first of two is the less: -0 is below +0, and a number is taken before a NaN
abbrev pub is_least : Float → Float → Bool
is_least x y = if is_nan x then false else if is_nan y then true else if eq x y then is_sign_negative x else lt x y

abbrev pub is_greatest : Float → Float → Bool
is_greatest x y = if is_nan x then false else if is_nan y then true else if eq x y then not (is_sign_negative x) else lt y x

-- the number in a register, put in a register
abbrev pub passed : Precision → ℕ → ℕ
passed p register = put (ieee p) (number (ieee p) register)

abbrev pub minimum : Precision → Operands → ℕ
minimum p o = passed p (if is_least (first p o) (second p o) then o.first else o.second)

abbrev pub maximum : Precision → Operands → ℕ
maximum p o = passed p (if is_greatest (first p o) (second p o) then o.first else o.second)

-- the canonical NaN where one of the two is a NaN
abbrev pub unless_nan : Precision → Operands → ℕ → ℕ
unless_nan p o n = if is_nan (first p o) || is_nan (second p o) then put (ieee p) nan else n

-- ---- classes

-- the highest digit of a NaN's tells that it is quiet
abbrev pub is_quiet : Format → ℕ → Bool
is_quiet binary32 bits = bits / 2 ^ 22 % 2 == 1
is_quiet binary64 bits = bits / 2 ^ 51 % 2 == 1

-- one bit of ten, by the class, whether there is a minus, and whether a NaN is quiet
abbrev pub class_bit : FpCategory → Bool → Bool → ℕ
class_bit Infinite true quiet = 0x001
class_bit Normal true quiet = 0x002
class_bit Subnormal true quiet = 0x004
class_bit Zero true quiet = 0x008
class_bit Zero false quiet = 0x010
class_bit Subnormal false quiet = 0x020
class_bit Normal false quiet = 0x040
class_bit Infinite false quiet = 0x080
class_bit Nan minus false = 0x100
class_bit Nan minus true = 0x200

abbrev pub class_of : Precision → Operands → ℕ
class_of p o = class_bit (classify (ieee p) (first p o)) (is_minus p o.first) (is_quiet (ieee p) (unboxed (ieee p) o.first))

-- ---- integers

-- a whole number as an integer in a register: the nearest of its range, which is the upper end for a NaN; 32 bits are sign-extended
abbrev pub integer_of : Integer → Float → ℕ
integer_of W x = if is_nan x then 2 ^ 31 - 1 else low64 (float_to_signed w32 x)
integer_of Wu x = if is_nan x then 2 ^ 64 - 1 else sign_extend w32 (float_to_unsigned w32 x)
integer_of L x = if is_nan x then 2 ^ 63 - 1 else low64 (float_to_signed w64 x)
integer_of Lu x = if is_nan x then 2 ^ 64 - 1 else float_to_unsigned w64 x

abbrev pub to_integer : Integer → Precision → Option Rounding → Operands → Option ℕ
to_integer kind p None o = None
to_integer kind p (Some mode) o = Some (integer_of kind (whole mode (first p o)))

-- the integer in a register
abbrev pub integer_in : Integer → ℕ → ℤ
integer_in W register = cast_signed w32 (register % 2 ^ 32)
integer_in Wu register = pos (register % 2 ^ 32)
integer_in L register = cast_signed w64 register
integer_in Lu register = pos register

abbrev pub number_of : Integer → Precision → Operands → ℕ
number_of kind p o = put (ieee p) (of_int (ieee p) (integer_in kind o.integer))

-- a double holds each integer of 32 bits
abbrev pub from_integer : Integer → Precision → Option Rounding → Operands → Option ℕ
from_integer W Double mode o = exact mode (number_of W Double o)
from_integer Wu Double mode o = exact mode (number_of Wu Double o)
from_integer L Double mode o = nearest mode (number_of L Double o)
from_integer Lu Double mode o = nearest mode (number_of Lu Double o)
from_integer kind Single mode o = nearest mode (number_of kind Single o)

-- ---- between the precisions

abbrev pub widened : Operands → ℕ
widened o = put binary64 (number binary32 o.first)

abbrev pub narrowed : Operands → ℕ
narrowed o = put binary32 (round_to_format binary32 (number binary64 o.first))

-- a double holds each single
abbrev pub from_single : Precision → Option Rounding → Operands → Option ℕ
from_single Single mode o = None
from_single Double mode o = exact mode (widened o)

abbrev pub from_double : Precision → Option Rounding → Operands → Option ℕ
from_double Single mode o = nearest mode (narrowed o)
from_double Double mode o = None

-- ---- the operations

-- what an operation gives, of the mode that it rounds in and what it reads, if the unit computes that
abbrev pub float_answer : FloatOp → Precision → Option Rounding → Operands → Option ℕ
float_answer Fmadd p mode o = nearest mode (fused p false false o)
float_answer Fmsub p mode o = nearest mode (fused p false true o)
float_answer Fnmsub p mode o = nearest mode (fused p true false o)
float_answer Fnmadd p mode o = nearest mode (fused p true true o)
float_answer Fadd p mode o = nearest mode (sum_of p o)
float_answer Fsub p mode o = nearest mode (difference_of p o)
float_answer Fmul p mode o = nearest mode (product_of p o)
float_answer Fdiv p mode o = nearest mode (quotient_of p o)
float_answer Fsqrt p mode o = nearest mode (root_of p o)
float_answer Fsgnj p mode o = Some (sign_injected (is_minus p o.second) p o)
float_answer Fsgnjn p mode o = Some (sign_injected (not (is_minus p o.second)) p o)
float_answer Fsgnjx p mode o = Some (sign_injected (sign_product (is_minus p o.first) (is_minus p o.second)) p o)
float_answer Fmin p mode o = Some (minimum p o)
float_answer Fmax p mode o = Some (maximum p o)
float_answer FcvtToW p mode o = to_integer W p mode o
float_answer FcvtToWu p mode o = to_integer Wu p mode o
float_answer FcvtToL p mode o = to_integer L p mode o
float_answer FcvtToLu p mode o = to_integer Lu p mode o
float_answer FmvToX p mode o = None
float_answer Feq p mode o = Some (from_bool (eq (first p o) (second p o)))
float_answer Flt p mode o = Some (from_bool (lt (first p o) (second p o)))
float_answer Fle p mode o = Some (from_bool (le (first p o) (second p o)))
float_answer Fclass p mode o = Some (class_of p o)
float_answer FcvtFromW p mode o = from_integer W p mode o
float_answer FcvtFromWu p mode o = from_integer Wu p mode o
float_answer FcvtFromL p mode o = from_integer L p mode o
float_answer FcvtFromLu p mode o = from_integer Lu p mode o
float_answer FmvFromX p mode o = None
float_answer FcvtFromH p mode o = None
float_answer FcvtFromS p mode o = from_single p mode o
float_answer FcvtFromD p mode o = from_double p mode o
float_answer Fli p mode o = None
float_answer Fminm p mode o = Some (unless_nan p o (minimum p o))
float_answer Fmaxm p mode o = Some (unless_nan p o (maximum p o))
float_answer Fround p mode o = None

-- the unit has single and double precision
abbrev pub in_format : FloatFormat → FloatOp → Option Rounding → Operands → Option ℕ
in_format format op mode o = option_and_then (λ p. float_answer op p mode o) (precision_of format)

-- the number that goes to rd, if the unit computes it
abbrev pub op_answer : MOp → Option Rounding → Operands → Option ℕ
op_answer (Base op) mode o = None
op_answer (Load op) mode o = None
op_answer (Store op) mode o = None
op_answer (Alu op) mode o = None
op_answer (Carry op) mode o = None
op_answer (Atomic op width) mode o = None
op_answer (Csr op) mode o = None
op_answer (FloatLoad format) mode o = None
op_answer (FloatStore format) mode o = None
op_answer (FloatOf format op) mode o = in_format format op mode o
op_answer (VecMem op) mode o = None
op_answer (Vec funct6 funct3) mode o = None

abbrev pub answer_of : Decoded → Operands → ℕ → Option ℕ
answer_of d o frm = op_answer d.op (rounding_of d.rm frm) o
