use Rattle.std.proofs.Common.{◌≡◌, ℕ, IsTrue, Some, refl, ap}
use Rattle.std.proofs.Math.Bool.{Bool-set}
use Rattle.rv_base.specs.LaneCount.{is_lane_count}
use Rattle.rv_base.specs.declared.ir_type.IrType.TheVariants.{Vector}
use Rattle.rv_base.specs.declared.ir_type.LaneType.{LaneType}
use Rattle.rv_base.specs.declared.ir_type.LaneType.TheVariants.{I8, I16, I32}
use Rattle.rv_operands.proofs.reg_classes.vector_of.Goals as goal

-- a vector is its lanes, whatever shows that there may be so many
same_vector : (lane : LaneType) (lanes : ℕ) (h k : IsTrue (is_lane_count lanes)) → Some (Vector (record { lane = lane; lanes = lanes; counted = h })) ≡ Some (Vector (record { lane = lane; lanes = lanes; counted = k }))
same_vector lane lanes h k = ap (λ x. Some (Vector (record { lane = lane; lanes = lanes; counted = x }))) (Bool-set _ _ h k)

pub returns-in-2 : goal.returns-in-2
returns-in-2 c = rw c.in-2.is (same_vector I8 2 _ refl)

pub returns-in-4 : goal.returns-in-4
returns-in-4 c = rw c.in-4.is (same_vector I8 4 _ refl)

pub returns-in-8 : goal.returns-in-8
returns-in-8 c = rw c.in-8.is (same_vector I8 8 _ refl)

pub returns-in-16 : goal.returns-in-16
returns-in-16 c = rw c.in-16.is (same_vector I8 16 _ refl)

pub returns-in-32 : goal.returns-in-32
returns-in-32 c = rw c.in-32.is (same_vector I16 16 _ refl)

pub returns-in-64 : goal.returns-in-64
returns-in-64 c = rw c.in-64.is (same_vector I32 16 _ refl)
