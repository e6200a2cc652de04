-- Why a program is refused: the first cause, in the order in which the causes are looked for.
use Rattle.std.specs.Prelude.{◌≡◌, ℕ, suc, Bool, ◌||◌, ◌==◌, nat_le, nat_lt, if◌then◌else◌, List, [], ◌∷◌, length, Option, Some, None, Result, Ok, Err}
use Rattle.rv_expr.specs.declared.ops.ExprOp.{ExprOp}
use Rattle.rv_expr.specs.declared.ops.ExprOp.TheVariants.{Const, Arg, Bin, Pick}
use Rattle.rv_expr.specs.declared.error.ExprError.{ExprError}
use Rattle.rv_expr.specs.declared.error.ExprError.TheVariants.{OutOfMemory, Empty, TooLong, BadArg, BadRef}

-- the error of the operation of a number that names the operations of these numbers: one is itself or a later one
abbrev pub bad_ref : ℕ → Bool → Option ExprError
bad_ref index late = if late then Some (BadRef index) else None

-- what is wrong with the operation of a number
abbrev pub fault_of : ℕ → ExprOp → Option ExprError
fault_of index (Const n) = None
fault_of index (Arg k) = if nat_le 8 k then Some (BadArg index) else None
fault_of index (Bin op x y) = bad_ref index (nat_le index x || nat_le index y)
fault_of index (Pick c x y) = bad_ref index (nat_le index c || (nat_le index x || nat_le index y))

-- the first of two that is there
abbrev pub first_of : Option ExprError → Option ExprError → Option ExprError
first_of None other = other
first_of (Some error) other = Some error

-- what is wrong with the first of these operations that is wrong; the first of them all has a number
abbrev pub fault_from : ℕ → List ExprOp → Option ExprError
fault_from index [] = None
fault_from index (op ∷ ops) = first_of (fault_of index op) (fault_from (suc index) ops)

-- the most operations of a program
abbrev pub most : ℕ
most = 254

abbrev pub refusal : List ExprOp → Option ExprError
refusal ops = if length ops == 0 then Some Empty else if nat_lt most (length ops) then Some TooLong else fault_from 0 ops

-- what a look for an error returns; out of memory may come at any time
abbrev pub Finds : {X : Type 0} → Option ExprError → Result X ExprError → Type 0
Finds found (Ok x) = found ≡ None
Finds found (Err OutOfMemory) = Unit {0}
Finds found (Err Empty) = found ≡ Some Empty
Finds found (Err TooLong) = found ≡ Some TooLong
Finds found (Err (BadArg index)) = found ≡ Some (BadArg index)
Finds found (Err (BadRef index)) = found ≡ Some (BadRef index)
