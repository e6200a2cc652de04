-- What is known of a program that isn't refused.
use Rattle.std.proofs.Common.{◌≡◌, ℕ, suc, ◌<◌, ◌≤◌, ◌==◌, nat_le, nat_lt, Bool, true, false, ◌||◌, if◌then◌else◌, List, ◌∷◌, length, Option, Some, None, refl, arith}
use Rattle.std.proofs.lemmas.Bool.Decides.{nat_tests}
use Rattle.rv_expr.specs.declared.ops.ExprOp.{ExprOp}
use Rattle.rv_expr.specs.declared.ops.ExprOp.TheVariants.{Arg}
use Rattle.rv_expr.specs.declared.error.ExprError.{ExprError}
use Rattle.rv_expr.specs.declared.error.ExprError.TheVariants.{Empty, TooLong, BadArg}
use Rattle.rv_expr.specs.Refusal.{refusal, fault_of, fault_from, first_of, bad_ref}

pub record IsAccepted (ops : List ExprOp) : Type 0 where
  pub some : 0 < length ops
  pub few : length ops ≤ 254
  pub faultless : fault_from 0 ops ≡ None

by_tests : (ops : List ExprOp) (empty long : Bool) → (length ops == 0) ≡ empty → nat_lt 254 (length ops) ≡ long → (if empty then Some Empty else if long then Some TooLong else fault_from 0 ops) ≡ None → IsAccepted ops
by_tests ops true long e f h = absurd (cc)
by_tests ops false true e f h = absurd (cc)
by_tests ops false false e f h = record { some = grind (arith, nat_tests); few = grind (arith, nat_tests); faultless = h }

pub accepted : (ops : List ExprOp) → refusal ops ≡ None → IsAccepted ops
accepted ops h = by_tests ops (length ops == 0) (nat_lt 254 (length ops)) refl refl h

-- where no operation is wrong, neither is the first one, nor one of those after it
both_none : (a b : Option ExprError) → first_of a b ≡ None → (a ≡ None) × (b ≡ None)
both_none None b h = (refl, h)
both_none (Some e) b h = absurd (cc)

pub head_faultless : (i : ℕ) (op : ExprOp) (ops : List ExprOp) → fault_from i (op ∷ ops) ≡ None → fault_of i op ≡ None
head_faultless i op ops h = (both_none (fault_of i op) (fault_from (suc i) ops) h).0

pub rest_faultless : (i : ℕ) (op : ExprOp) (ops : List ExprOp) → fault_from i (op ∷ ops) ≡ None → fault_from (suc i) ops ≡ None
rest_faultless i op ops h = (both_none (fault_of i op) (fault_from (suc i) ops) h).1

-- ---- one operation

of_argument : (i k : ℕ) (high : Bool) → nat_le 8 k ≡ high → (if high then Some (BadArg i) else None) ≡ None → k < 8
of_argument i k true e h = absurd (cc)
of_argument i k false e h = grind (arith, nat_tests)

-- an argument is one of eight
pub argument_below : (i k : ℕ) → fault_of i (Arg k) ≡ None → k < 8
argument_below i k h = of_argument i k (nat_le 8 k) refl h

of_late : (i : ℕ) (late : Bool) → bad_ref i late ≡ None → late ≡ false
of_late i true h = absurd (cc)
of_late i false h = refl

neither : (a b : Bool) → (a || b) ≡ false → (a ≡ false) × (b ≡ false)
neither true b h = absurd (cc)
neither false b h = (refl, h)

earlier : (i x : ℕ) → nat_le i x ≡ false → x < i
earlier i x h = grind (arith, nat_tests)

-- what an operation names comes before it
pub record AreEarlier2 (i x y : ℕ) : Type 0 where
  pub first : x < i
  pub second : y < i

pub binary_earlier : (i : ℕ) (x y : ℕ) → bad_ref i (nat_le i x || nat_le i y) ≡ None → AreEarlier2 i x y
binary_earlier i x y h =
    let t = neither (nat_le i x) (nat_le i y) (of_late i _ h) in
    record { first = earlier i x t.0; second = earlier i y t.1 }

pub record AreEarlier3 (i c x y : ℕ) : Type 0 where
  pub test : c < i
  pub first : x < i
  pub second : y < i

pub pick_earlier : (i c x y : ℕ) → bad_ref i (nat_le i c || (nat_le i x || nat_le i y)) ≡ None → AreEarlier3 i c x y
pick_earlier i c x y h =
    let t = neither (nat_le i c) (nat_le i x || nat_le i y) (of_late i _ h) in
    let u = neither (nat_le i x) (nat_le i y) t.1 in
    record { test = earlier i c t.0; first = earlier i x u.0; second = earlier i y u.1 }
