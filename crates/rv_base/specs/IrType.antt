-- Types of values: their widths and names.
use Rattle.std.specs.Prelude.{ℕ, ◌≡◌, ◌*◌, Bool, true, false, List, ◌++◌, codes}
use Rattle.std.specs.Fmt.{decimal}
use Rattle.rv_base.specs.declared.ir_type.LaneType.{LaneType}
use Rattle.rv_base.specs.declared.ir_type.LaneType.TheVariants as lane
use Rattle.rv_base.specs.declared.ir_type.IrType.{IrType}
use Rattle.rv_base.specs.declared.ir_type.IrType.TheVariants.{I8, I16, I32, I64, I128, F16, F32, F64, F128, Vector}

-- a lane's type as the type of a single value
abbrev pub scalar_of : LaneType → IrType
scalar_of lane.I8 = I8
scalar_of lane.I16 = I16
scalar_of lane.I32 = I32
scalar_of lane.I64 = I64
scalar_of lane.F16 = F16
scalar_of lane.F32 = F32
scalar_of lane.F64 = F64

-- whether a vector may have lanes of this type
abbrev pub is_lane : IrType → Bool
is_lane I8 = true
is_lane I16 = true
is_lane I32 = true
is_lane I64 = true
is_lane I128 = false
is_lane F16 = true
is_lane F32 = true
is_lane F64 = true
is_lane F128 = false
is_lane (Vector v) = false

-- the vector type of these lanes
abbrev pub IsVectorOf : IrType → ℕ → IrType → Type 0
IsVectorOf type lanes I8 = ⊥
IsVectorOf type lanes I16 = ⊥
IsVectorOf type lanes I32 = ⊥
IsVectorOf type lanes I64 = ⊥
IsVectorOf type lanes I128 = ⊥
IsVectorOf type lanes F16 = ⊥
IsVectorOf type lanes F32 = ⊥
IsVectorOf type lanes F64 = ⊥
IsVectorOf type lanes F128 = ⊥
IsVectorOf type lanes (Vector v) = (scalar_of v.lane ≡ type) × (v.lanes ≡ lanes)

abbrev pub bits_of_lane : LaneType → ℕ
bits_of_lane lane.I8 = 8
bits_of_lane lane.I16 = 16
bits_of_lane lane.I32 = 32
bits_of_lane lane.I64 = 64
bits_of_lane lane.F16 = 16
bits_of_lane lane.F32 = 32
bits_of_lane lane.F64 = 64

-- the bits of one lane; of a scalar, all its bits
abbrev pub lane_bits_of : IrType → ℕ
lane_bits_of I8 = 8
lane_bits_of I16 = 16
lane_bits_of I32 = 32
lane_bits_of I64 = 64
lane_bits_of I128 = 128
lane_bits_of F16 = 16
lane_bits_of F32 = 32
lane_bits_of F64 = 64
lane_bits_of F128 = 128
lane_bits_of (Vector v) = bits_of_lane v.lane

-- a scalar is one lane
abbrev pub lane_count_of : IrType → ℕ
lane_count_of I8 = 1
lane_count_of I16 = 1
lane_count_of I32 = 1
lane_count_of I64 = 1
lane_count_of I128 = 1
lane_count_of F16 = 1
lane_count_of F32 = 1
lane_count_of F64 = 1
lane_count_of F128 = 1
lane_count_of (Vector v) = v.lanes

abbrev pub bits_of : IrType → ℕ
bits_of type = lane_bits_of type * lane_count_of type

abbrev pub is_scalar_int : IrType → Bool
is_scalar_int I8 = true
is_scalar_int I16 = true
is_scalar_int I32 = true
is_scalar_int I64 = true
is_scalar_int I128 = true
is_scalar_int F16 = false
is_scalar_int F32 = false
is_scalar_int F64 = false
is_scalar_int F128 = false
is_scalar_int (Vector v) = false

abbrev pub is_vector_type : IrType → Bool
is_vector_type I8 = false
is_vector_type I16 = false
is_vector_type I32 = false
is_vector_type I64 = false
is_vector_type I128 = false
is_vector_type F16 = false
is_vector_type F32 = false
is_vector_type F64 = false
is_vector_type F128 = false
is_vector_type (Vector v) = true

abbrev pub name_of_lane : LaneType → List ℕ
name_of_lane lane.I8 = codes "i8"
name_of_lane lane.I16 = codes "i16"
name_of_lane lane.I32 = codes "i32"
name_of_lane lane.I64 = codes "i64"
name_of_lane lane.F16 = codes "f16"
name_of_lane lane.F32 = codes "f32"
name_of_lane lane.F64 = codes "f64"

abbrev pub name_of : IrType → List ℕ
name_of I8 = codes "i8"
name_of I16 = codes "i16"
name_of I32 = codes "i32"
name_of I64 = codes "i64"
name_of I128 = codes "i128"
name_of F16 = codes "f16"
name_of F32 = codes "f32"
name_of F64 = codes "f64"
name_of F128 = codes "f128"
name_of (Vector v) = name_of_lane v.lane ++ codes "x" ++ decimal v.lanes
