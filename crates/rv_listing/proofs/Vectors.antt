-- A vector's type by its lanes, as the constructor's contract has it.
use Rattle.std.proofs.Common.{◌≡◌, ◌↔◌, ◌⊎◌, inl, inr, IsTrue, ℕ, ◌<◌, ◌≤◌, Bool, true, false, eqb, Option, Some, None, refl, subst, arith}
use Rattle.std.specs.Prelude.{IsSome, IfSome}
use Rattle.std.proofs.lemmas.Bool.{cases_lt, ne_eqb}
use Rattle.std.proofs.Math.Bool.{Bool-set}
use Rattle.rv_base.specs.declared.ir_type.IrType.{IrType}
use Rattle.rv_base.specs.declared.ir_type.IrType.TheVariants.{I8, I16, I32, I64, I128, F16, F32, F64, F128, Vector}
use Rattle.rv_base.specs.declared.ir_type.VectorType.{VectorType}
use Rattle.rv_base.specs.declared.ir_type.LaneType.{LaneType}
use Rattle.rv_base.specs.declared.ir_type.LaneType.TheVariants as lane
use Rattle.rv_base.specs.IrType.{is_lane, scalar_of, IsVectorOf}
use Rattle.rv_base.specs.LaneCount.{is_lane_count}
use Rattle.rv_listing.specs.Types.{given, lane_of, vector_of}

given_holds : {A : Type 0} (t : Bool) (f : IsTrue t → Option A) (x : Option A) → IsTrue t → ((h : IsTrue t) → x ≡ f h) → x ≡ given t f
given_holds true f x h same = same refl
given_holds false f x h same = absurd (cc)

given_none : {A : Type 0} (t : Bool) (f : IsTrue t → Option A) → (IsTrue t → ⊥) → None ≡ given t f
given_none true f fails = absurd (fails refl)
given_none false f fails = refl

no_vector : (type : IrType) (n : ℕ) → (IsTrue (is_lane type) × IsTrue (is_lane_count n) → ⊥) → None ≡ vector_of type n
unfolding vector_of
no_vector I8 n fails = given_none (is_lane_count n) _ (λ h. fails (refl, h))
no_vector I16 n fails = given_none (is_lane_count n) _ (λ h. fails (refl, h))
no_vector I32 n fails = given_none (is_lane_count n) _ (λ h. fails (refl, h))
no_vector I64 n fails = given_none (is_lane_count n) _ (λ h. fails (refl, h))
no_vector I128 n fails = refl
no_vector F16 n fails = given_none (is_lane_count n) _ (λ h. fails (refl, h))
no_vector F32 n fails = given_none (is_lane_count n) _ (λ h. fails (refl, h))
no_vector F64 n fails = given_none (is_lane_count n) _ (λ h. fails (refl, h))
no_vector F128 n fails = refl
no_vector (Vector v) n fails = refl

lane_known : (l : LaneType) → lane_of (scalar_of l) ≡ Some l
lane_known lane.I8 = refl
lane_known lane.I16 = refl
lane_known lane.I32 = refl
lane_known lane.I64 = refl
lane_known lane.F16 = refl
lane_known lane.F32 = refl
lane_known lane.F64 = refl

vector_itself : (v : VectorType) → Some (Vector v) ≡ vector_of (scalar_of v.lane) v.lanes
unfolding vector_of
vector_itself v = rw (lane_known v.lane) (given_holds (is_lane_count v.lanes) _ (Some (Vector v)) v.counted (λ h. λ i. Some (Vector (record { lane = v.lane; lanes = v.lanes; counted = Bool-set _ _ v.counted h i }))))

some_vector : (type : IrType) (n : ℕ) (t : IrType) → IsVectorOf type n t → Some t ≡ vector_of type n
some_vector type n (Vector v) is = subst (λ (x : IrType). Some (Vector v) ≡ vector_of x n) is.0 (subst (λ (m : ℕ). Some (Vector v) ≡ vector_of (scalar_of v.lane) m) is.1 (vector_itself v))
some_vector type n I8 is = absurd is
some_vector type n I16 is = absurd is
some_vector type n I32 is = absurd is
some_vector type n I64 is = absurd is
some_vector type n I128 is = absurd is
some_vector type n F16 is = absurd is
some_vector type n F32 is = absurd is
some_vector type n F64 is = absurd is
some_vector type n F128 is = absurd is

pub vector_is : (type : IrType) (n : ℕ) (r : Option IrType) → IsSome r ↔ (IsTrue (is_lane type) × IsTrue (is_lane_count n)) → IfSome r (IsVectorOf type n) → r ≡ vector_of type n
vector_is type n (Some t) some is = some_vector type n t is
vector_is type n None some is = no_vector type n (λ p. let same : false ≡ true = some.1 p in cc)

apart : (n k : ℕ) → k < n → eqb n k ≡ false
apart n k less = ne_eqb n k (λ e. omega arith)

false_fails : (b : Bool) → b ≡ false → IsTrue b → ⊥
false_fails b e h = cc

above_counts : (n : ℕ) → 256 < n → is_lane_count n ≡ false
above_counts n high = rw (apart n 2 (omega arith), apart n 4 (omega arith), apart n 8 (omega arith), apart n 16 (omega arith), apart n 32 (omega arith), apart n 64 (omega arith), apart n 128 (omega arith), apart n 256 high) refl

pub vector_high : (type : IrType) (n : ℕ) → 256 < n → None ≡ vector_of type n
vector_high type n high = no_vector type n (λ p. false_fails (is_lane_count n) (above_counts n high) p.1)

pub few_lanes : (n : ℕ) → IsTrue (is_lane_count n) → n ≤ 256
few_lanes n counted = on (cases_lt 256 n)
  where
    on : (256 < n) ⊎ (n ≤ 256) → n ≤ 256
    on (inl high) = absurd (false_fails (is_lane_count n) (above_counts n high) counted)
    on (inr low) = low
