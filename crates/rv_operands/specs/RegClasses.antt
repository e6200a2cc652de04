-- The registers that hold a value of a type.
use Rattle.std.specs.Prelude.{ℕ, ◌/◌, ◌==◌, if◌then◌else◌, List, [], ◌∷◌, Option, Some, None}
use Rattle.std.proofs.Common.{refl}
use Rattle.rv_base.specs.declared.ir_type.IrType.{IrType}
use Rattle.rv_base.specs.declared.ir_type.IrType.TheVariants.{I8, I16, I32, I64, I128, F16, F32, F64, F128, Vector as VectorOf}
use Rattle.rv_base.specs.declared.ir_type.LaneType.TheVariants as lane
use Rattle.rv_base.specs.declared.regs.RegClass.{RegClass}
use Rattle.rv_base.specs.declared.regs.RegClass.TheVariants.{Int, Float, Vector}
use Rattle.rv_base.specs.IrType.{bits_of}

-- the class of each register, and the type of the part of the value that it holds
pub record Holding : Type 0 where
  pub classes : List RegClass
  pub types : List IrType

abbrev pub in_one : RegClass → IrType → Option Holding
in_one class type = Some (record { classes = class ∷ []; types = type ∷ [] })

-- two integer registers, of 64 bits each
abbrev pub in_two : Option Holding
in_two = Some (record { classes = Int ∷ Int ∷ []; types = I64 ∷ I64 ∷ [] })

-- the vector that stands for all of so many bytes; none of more than 64
abbrev pub vector_of : ℕ → Option IrType
vector_of bytes =
    if bytes == 2 then Some (VectorOf (record { lane = lane.I8; lanes = 2; counted = refl }))
    else if bytes == 4 then Some (VectorOf (record { lane = lane.I8; lanes = 4; counted = refl }))
    else if bytes == 8 then Some (VectorOf (record { lane = lane.I8; lanes = 8; counted = refl }))
    else if bytes == 16 then Some (VectorOf (record { lane = lane.I8; lanes = 16; counted = refl }))
    else if bytes == 32 then Some (VectorOf (record { lane = lane.I16; lanes = 16; counted = refl }))
    else if bytes == 64 then Some (VectorOf (record { lane = lane.I32; lanes = 16; counted = refl }))
    else None

abbrev pub in_vector : Option IrType → Option Holding
in_vector None = None
in_vector (Some type) = in_one Vector type

abbrev pub vector_holding : ℕ → Option Holding
vector_holding bytes = in_vector (vector_of bytes)

-- an integer or a floating-point number of at most 64 bits is in one register; of 128 bits in two integer registers; a vector in a
-- register of the vector unit, if it has at most 64 bytes
abbrev pub holding_of : IrType → Option Holding
holding_of I8 = in_one Int I8
holding_of I16 = in_one Int I16
holding_of I32 = in_one Int I32
holding_of I64 = in_one Int I64
holding_of I128 = in_two
holding_of F16 = in_one Float F16
holding_of F32 = in_one Float F32
holding_of F64 = in_one Float F64
holding_of F128 = in_two
holding_of (VectorOf v) = vector_holding (bits_of (VectorOf v) / 8)
