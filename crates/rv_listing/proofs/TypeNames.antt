-- Each type is read by its name.
use Rattle.std.proofs.Common.{◌≡◌, ℕ, Bool, true, false, IsTrue, List, ◌++◌, ◌||◌, eqb, ◌⊎◌, inl, inr, ◌≢◌, Option, Some, refl, sym, ap, subst, ◌∙◌}
use Rattle.std.specs.Prelude.{codes}
use Rattle.std.specs.Fmt.{decimal, digits}
use Rattle.std.proofs.Math.Bool.{Bool-set}
use Rattle.std.proofs.lemmas.Bool.Decides.{eqb_tells}
use Rattle.rv_base.specs.declared.ir_type.IrType.{IrType}
use Rattle.rv_base.specs.declared.ir_type.IrType.TheVariants.{I8, Vector}
use Rattle.rv_base.specs.declared.ir_type.LaneType.{LaneType}
use Rattle.rv_base.specs.declared.ir_type.LaneType.TheVariants as lane
use Rattle.rv_base.specs.IrType.{name_of, name_of_lane}
use Rattle.rv_base.specs.LaneCount.{is_lane_count}
use Rattle.rv_listing.specs.Types.{scalar, vector_of, vector, type_named}

abbrev Reads : ℕ → Type 0
Reads n = (l : LaneType) (h : IsTrue (is_lane_count n)) → type_named (name_of_lane l ++ codes "x" ++ decimal n) ≡ Some (Vector (record { lane = l; lanes = n; counted = h }))

reads_2 : Reads 2
unfolding digits scalar vector_of vector type_named
reads_2 lane.I8 h = λ i. Some (Vector (record { lane = lane.I8; lanes = 2; counted = Bool-set _ _ refl h i }))
reads_2 l h = λ i. Some (Vector (record { lane = l; lanes = 2; counted = Bool-set _ _ refl h i }))

reads_4 : Reads 4
unfolding digits scalar vector_of vector type_named
reads_4 lane.I8 h = λ i. Some (Vector (record { lane = lane.I8; lanes = 4; counted = Bool-set _ _ refl h i }))
reads_4 l h = λ i. Some (Vector (record { lane = l; lanes = 4; counted = Bool-set _ _ refl h i }))

reads_8 : Reads 8
unfolding digits scalar vector_of vector type_named
reads_8 lane.I8 h = λ i. Some (Vector (record { lane = lane.I8; lanes = 8; counted = Bool-set _ _ refl h i }))
reads_8 l h = λ i. Some (Vector (record { lane = l; lanes = 8; counted = Bool-set _ _ refl h i }))

reads_16 : Reads 16
unfolding digits scalar vector_of vector type_named
reads_16 lane.I8 h = λ i. Some (Vector (record { lane = lane.I8; lanes = 16; counted = Bool-set _ _ refl h i }))
reads_16 l h = λ i. Some (Vector (record { lane = l; lanes = 16; counted = Bool-set _ _ refl h i }))

reads_32 : Reads 32
unfolding digits scalar vector_of vector type_named
reads_32 lane.I8 h = λ i. Some (Vector (record { lane = lane.I8; lanes = 32; counted = Bool-set _ _ refl h i }))
reads_32 l h = λ i. Some (Vector (record { lane = l; lanes = 32; counted = Bool-set _ _ refl h i }))

reads_64 : Reads 64
unfolding digits scalar vector_of vector type_named
reads_64 lane.I8 h = λ i. Some (Vector (record { lane = lane.I8; lanes = 64; counted = Bool-set _ _ refl h i }))
reads_64 l h = λ i. Some (Vector (record { lane = l; lanes = 64; counted = Bool-set _ _ refl h i }))

reads_128 : Reads 128
unfolding digits scalar vector_of vector type_named
reads_128 lane.I8 h = λ i. Some (Vector (record { lane = lane.I8; lanes = 128; counted = Bool-set _ _ refl h i }))
reads_128 l h = λ i. Some (Vector (record { lane = l; lanes = 128; counted = Bool-set _ _ refl h i }))

reads_256 : Reads 256
unfolding digits scalar vector_of vector type_named
reads_256 lane.I8 h = λ i. Some (Vector (record { lane = lane.I8; lanes = 256; counted = Bool-set _ _ refl h i }))
reads_256 l h = λ i. Some (Vector (record { lane = l; lanes = 256; counted = Bool-set _ _ refl h i }))

this_or : (n k : ℕ) (rest : Bool) → IsTrue (eqb n k || rest) → Reads k → (IsTrue rest → Reads n) → Reads n
this_or n k rest h here later = tested (eqb_tells n k)
  where
    tested : ((eqb n k ≡ true) × (n ≡ k)) ⊎ ((eqb n k ≡ false) × (n ≢ k)) → Reads n
    tested (inl same) = subst Reads (sym same.1) here
    tested (inr other) = later (let e : eqb n k ≡ false = other.0 in cc)

each_count : (n : ℕ) → IsTrue (is_lane_count n) → Reads n
each_count n h =
    this_or n 2 _ h reads_2 (λ h. this_or n 4 _ h reads_4 (λ h. this_or n 8 _ h reads_8 (λ h. this_or n 16 _ h reads_16 (λ h. this_or n 32 _ h reads_32 (λ h. this_or n 64 _ h reads_64 (λ h. this_or n 128 _ h reads_128 (λ h. this_or n 256 _ h reads_256 (λ h. absurd (cc)))))))))

type_found : (type : IrType) → type_named (name_of type) ≡ Some type
unfolding scalar type_named
type_found (Vector v) = each_count v.lanes v.counted v.lane v.counted
type_found I8 = refl
type_found _ = refl

pub type_by_name : (w : List ℕ) (r : Option IrType) → r ≡ type_named w → (type : IrType) → w ≡ name_of type → r ≡ Some type
type_by_name w r reads type same = reads ∙ ap type_named same ∙ type_found type

-- types of one name are one
pub same_type : (x y : IrType) → name_of x ≡ name_of y → x ≡ y
same_type x y e = some_same (sym (type_found x) ∙ ap type_named e ∙ type_found y)
  where
    some_same : Some x ≡ Some y → x ≡ y
    some_same f = cc
