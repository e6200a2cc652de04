-- "F", "D", "Zfh" and "Zfa": loads, stores, moves and signs, which are exact, and what takes an answer. A number of a narrower
-- format stands in a register of 64 bits with ones above it.
use Rattle.std.specs.Prelude.{ℕ, ◌+◌, ◌-◌, ◌%◌, ◌^◌, nat_eq, Bool, false, if◌then◌else◌, List, [], ◌∷◌, take, unwrap_or}
use Rattle.std.specs.Int.{to_le_bytes}
use mir.Syntax.{w16, w32, w64}
use Rattle.rv_machine.specs.declared.decoding.Decoded.{Decoded}
use Rattle.rv_machine.specs.declared.ops.FloatFormat.{FloatFormat}
use Rattle.rv_machine.specs.declared.ops.FloatFormat.TheVariants.{H, S, D}
use Rattle.rv_machine.specs.declared.ops.FloatOp.{FloatOp}
use Rattle.rv_machine.specs.declared.ops.FloatOp.TheVariants.{Fmadd, Fmsub, Fnmsub, Fnmadd, Fadd, Fsub, Fmul, Fdiv, Fsqrt, Fsgnj, Fsgnjn, Fsgnjx, Fmin, Fmax, FcvtToW, FcvtToWu, FcvtToL, FcvtToLu, FmvToX, Feq, Flt, Fle, Fclass, FcvtFromW, FcvtFromWu, FcvtFromL, FcvtFromLu, FmvFromX, FcvtFromH, FcvtFromS, FcvtFromD, Fli, Fminm, Fmaxm, Fround}
use Rattle.rv_machine.specs.State.{store}
use Rattle.rv_machine.specs.Memory.{load_bytes, sign_extend}
use Rattle.rv_full.specs.declared.shapes.Sources.{Sources}
use Rattle.rv_full.specs.declared.shapes.Sources.TheVariants as sources
use Rattle.rv_full.specs.declared.shapes.Target.{Target}
use Rattle.rv_full.specs.declared.shapes.Target.TheVariants as target
use Rattle.rv_full.specs.declared.shapes.FloatShape.{FloatShape}
use Rattle.rv_full.specs.declared.shapes.FloatShape.TheVariants.{Answered, ToInteger, ToFloat, Sign}
use Rattle.rv_full.specs.Units.{FullValues, freg}
use Rattle.rv_full.specs.Rows.{Row, Does, Takes, OneNumber, bits_of, x_of, address_of, put_x, put_f, put_units, put_memory, entry_of, noted}

abbrev pub format_bytes : FloatFormat → ℕ
format_bytes H = 2
format_bytes S = 4
format_bytes D = 8

-- a number of a format in a register
abbrev pub boxed : FloatFormat → ℕ → ℕ
boxed H n = n + (2 ^ 64 - 2 ^ 16)
boxed S n = n + (2 ^ 64 - 2 ^ 32)
boxed D n = n

-- the low bits of a register that a format has
abbrev pub low_part : FloatFormat → ℕ → ℕ
low_part H n = n % 2 ^ 16
low_part S n = n % 2 ^ 32
low_part D n = n

-- they, sign-extended
abbrev pub extended : FloatFormat → ℕ → ℕ
extended H n = sign_extend w16 (n % 2 ^ 16)
extended S n = sign_extend w32 (n % 2 ^ 32)
extended D n = n

abbrev pub float_load_row : FloatFormat → Decoded → FullValues → Row
float_load_row format d v = Does (put_f d (boxed format (load_bytes v.ints.mem (address_of d v) (format_bytes format))) v)

abbrev pub float_store_row : FloatFormat → Decoded → FullValues → Row
float_store_row format d v = Does (put_memory (store v.ints.mem (address_of d v) (take (format_bytes format) (to_le_bytes w64 (freg v.units d.rs2)))) v)

-- ---- by shape

-- which registers an operation reads and writes; those that move a register are exact
abbrev pub float_shape : FloatOp → FloatShape
float_shape Fmadd = Answered sources.Three target.Float
float_shape Fmsub = Answered sources.Three target.Float
float_shape Fnmsub = Answered sources.Three target.Float
float_shape Fnmadd = Answered sources.Three target.Float
float_shape Fadd = Answered sources.Two target.Float
float_shape Fsub = Answered sources.Two target.Float
float_shape Fmul = Answered sources.Two target.Float
float_shape Fdiv = Answered sources.Two target.Float
float_shape Fsqrt = Answered sources.One target.Float
float_shape Fsgnj = Sign
float_shape Fsgnjn = Answered sources.Two target.Float
float_shape Fsgnjx = Answered sources.Two target.Float
float_shape Fmin = Answered sources.Two target.Float
float_shape Fmax = Answered sources.Two target.Float
float_shape FcvtToW = Answered sources.One target.Integer
float_shape FcvtToWu = Answered sources.One target.Integer
float_shape FcvtToL = Answered sources.One target.Integer
float_shape FcvtToLu = Answered sources.One target.Integer
float_shape FmvToX = ToInteger
float_shape Feq = Answered sources.Two target.Integer
float_shape Flt = Answered sources.Two target.Integer
float_shape Fle = Answered sources.Two target.Integer
float_shape Fclass = Answered sources.One target.Integer
float_shape FcvtFromW = Answered sources.Integer target.Float
float_shape FcvtFromWu = Answered sources.Integer target.Float
float_shape FcvtFromL = Answered sources.Integer target.Float
float_shape FcvtFromLu = Answered sources.Integer target.Float
float_shape FmvFromX = ToFloat
float_shape FcvtFromH = Answered sources.One target.Float
float_shape FcvtFromS = Answered sources.One target.Float
float_shape FcvtFromD = Answered sources.One target.Float
float_shape Fli = Answered sources.Constant target.Float
float_shape Fminm = Answered sources.Two target.Float
float_shape Fmaxm = Answered sources.Two target.Float
float_shape Fround = Answered sources.One target.Float

-- the values of the registers that are read, in the order rs1, rs2, rs3
abbrev pub inputs_of : Sources → Decoded → FullValues → List ℕ
inputs_of sources.Constant d v = []
inputs_of sources.Integer d v = x_of d v ∷ []
inputs_of sources.One d v = freg v.units d.rs1 ∷ []
inputs_of sources.Two d v = freg v.units d.rs1 ∷ freg v.units d.rs2 ∷ []
inputs_of sources.Three d v = freg v.units d.rs1 ∷ freg v.units d.rs2 ∷ freg v.units d.rs3 ∷ []

-- a number goes to the integer or the floating-point register rd
abbrev pub put_number : Target → Decoded → ℕ → FullValues → FullValues
put_number target.Integer d x v = put_x d x v
put_number target.Float d x v = put_f d x v

-- one number is taken, noted with the values that were read, and put
abbrev pub number_row : Target → List ℕ → Decoded → FullValues → Row
number_row to inputs d v =
    Takes OneNumber (λ answer. put_number to d (unwrap_or (bits_of answer) 0) (put_units (noted (entry_of d v.units inputs [] answer) v.units) v))

-- fsgnj.d of equal sources is a move of all bits
abbrev pub is_move : FloatFormat → Decoded → Bool
is_move H d = false
is_move S d = false
is_move D d = nat_eq d.rs1 d.rs2

abbrev pub shape_row : FloatShape → FloatFormat → Decoded → FullValues → Row
shape_row (Answered from to) format d v = number_row to (inputs_of from d v) d v
shape_row ToInteger format d v = Does (put_x d (extended format (freg v.units d.rs1)) v)
shape_row ToFloat format d v = Does (put_f d (boxed format (low_part format (x_of d v))) v)
shape_row Sign format d v = if is_move format d then Does (put_f d (freg v.units d.rs1) v) else number_row target.Float (inputs_of sources.Two d v) d v

abbrev pub float_row : FloatFormat → FloatOp → Decoded → FullValues → Row
float_row format op d v = shape_row (float_shape op) format d v
