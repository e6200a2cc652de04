-- For callers: the order of veneers, and what is asked of uses that get theirs.
use Rattle.std.specs.Prelude.{◌≡◌, ◌≢◌, ℕ, suc, ◌+◌, ◌<◌, ◌≤◌, Bool, true, cond, List, [], ◌∷◌, Some, slice_get, IsPermutation}
use Rattle.rv_base.specs.LabelUse.{Kinds}
use Rattle.mach_uses.specs.declared.uses.Use.{Use}
use Rattle.mach_uses.specs.Reach.{deadline}

-- the numbers of the uses for which a test holds, where the first use has a number
abbrev pub numbers_from : {L : Type 0} → ℕ → (Use L → Bool) → List (Use L) → List ℕ
numbers_from n test [] = []
numbers_from n test (u ∷ uses) = cond (test u) (n ∷ numbers_from (suc n) test uses) (numbers_from (suc n) test uses)

abbrev pub numbers_of : {L : Type 0} → (Use L → Bool) → List (Use L) → List ℕ
numbers_of test uses = numbers_from 0 test uses

-- one use has its veneer before another: by deadline, then by place, then by number
pub data IsSooner {L : Type 0} (kinds : Kinds L) (i : ℕ) (u : Use L) (j : ℕ) (v : Use L) : Type 0 where
  by_deadline : deadline kinds u < deadline kinds v → IsSooner kinds i u j v
  by_place : deadline kinds u ≡ deadline kinds v → u.offset < v.offset → IsSooner kinds i u j v
  by_number : deadline kinds u ≡ deadline kinds v → u.offset ≡ v.offset → i < j → IsSooner kinds i u j v

-- the order of veneers: exactly the uses for which a test holds, the soonest first
pub record IsOrder {L : Type 0} (kinds : Kinds L) (test : Use L → Bool) (uses : List (Use L)) (order : List ℕ) : Type 0 where
  pub exactly : IsPermutation (numbers_of test uses) order
  pub sorted :
      (a b i j : ℕ) (u v : Use L) →
      a < b →
      slice_get order a ≡ Some i →
      slice_get order b ≡ Some j →
      slice_get uses i ≡ Some u →
      slice_get uses j ≡ Some v →
      IsSooner kinds i u j v

-- the use of a number supports a veneer, and reaches an offset
pub record CanPutAt {L : Type 0} (kinds : Kinds L) (uses : List (Use L)) (cur number : ℕ) : Type 0 where
  pub user : Use L
  pub there : slice_get uses number ≡ Some user
  pub supported : kinds.has_veneer user.kind ≡ true
  pub near : cur ≤ deadline kinds user

-- a number is none of these
abbrev pub IsNone : ℕ → List ℕ → Type 0
IsNone i [] = Unit {0}
IsNone i (j ∷ order) = (j ≢ i) × IsNone i order

-- each of these uses can get its veneer in turn, from an offset on
abbrev pub CanPut : {L : Type 0} → Kinds L → List (Use L) → ℕ → List ℕ → Type 0
CanPut kinds uses cur [] = Unit {0}
CanPut kinds uses cur (i ∷ order) = CanPutAt kinds uses cur i × IsNone i order × CanPut kinds uses (cur + 8) order
