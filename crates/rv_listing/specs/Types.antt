-- Types by their names.
use Rattle.std.specs.Prelude.{ℕ, Bool, true, false, IsTrue, List, [], ◌∷◌, Option, Some, None}
use Rattle.std.proofs.Common.{refl}
use Rattle.std.specs.List.{find}
use Rattle.std.specs.Str.{bytes_eq}
use Rattle.rv_base.specs.declared.ir_type.IrType.{IrType}
use Rattle.rv_base.specs.declared.ir_type.IrType.TheVariants.{I8, I16, I32, I64, I128, F16, F32, F64, F128, Vector}
use Rattle.rv_base.specs.declared.ir_type.LaneType.{LaneType}
use Rattle.rv_base.specs.declared.ir_type.LaneType.TheVariants as lane
use Rattle.rv_base.specs.IrType.{name_of}
use Rattle.rv_base.specs.LaneCount.{is_lane_count}
use Rattle.rv_listing.specs.Tokens.{◌>>=◌, or_else, parts_of, as_pair, decimal}

-- the type of a single value that has this name
unfoldable pub scalar : List ℕ → Option IrType
scalar w = find (λ type. bytes_eq w (name_of type)) (I8 ∷ I16 ∷ I32 ∷ I64 ∷ I128 ∷ F16 ∷ F32 ∷ F64 ∷ F128 ∷ [])

-- the same as a lane's; none has 128 bits
abbrev pub lane_of : IrType → Option LaneType
lane_of I8 = Some lane.I8
lane_of I16 = Some lane.I16
lane_of I32 = Some lane.I32
lane_of I64 = Some lane.I64
lane_of I128 = None
lane_of F16 = Some lane.F16
lane_of F32 = Some lane.F32
lane_of F64 = Some lane.F64
lane_of F128 = None
lane_of (Vector v) = None

-- what stands where a test holds, given that it holds
abbrev pub given : {A : Type 0} (t : Bool) → (IsTrue t → Option A) → Option A
given true f = f refl
given false f = None

unfoldable pub vector_of : IrType → ℕ → Option IrType
vector_of type n = lane_of type >>= λ lane. given (is_lane_count n) (λ counted. Some (Vector (record { lane = lane; lanes = n; counted = counted })))

-- a lane, x, and how many of them
unfoldable pub vector : List ℕ → Option IrType
vector w = as_pair (parts_of 120 w) >>= λ p. scalar p.0 >>= λ type. decimal p.1 >>= vector_of type

unfoldable pub type_named : List ℕ → Option IrType
type_named w = or_else (scalar w) (vector w)
