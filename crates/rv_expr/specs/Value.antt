-- What a program computes: the value of its last operation.
use Rattle.std.specs.Prelude.{ℕ, ◌+◌, ◌-◌, ◌*◌, ◌/◌, ◌%◌, ◌^◌, ◌==◌, nat_lt, if◌then◌else◌, List, [], ◌∷◌, ◌++◌, length, slice_index, bit_and, bit_or, bit_xor}
use Rattle.std.specs.Int.{from_bool, int_shr, cast_signed, cast_unsigned}
use mir.Syntax.{w64}
use Rattle.rv_expr.specs.declared.ops.BinOp.{BinOp}
use Rattle.rv_expr.specs.declared.ops.BinOp.TheVariants.{Add, Sub, Mul, And, Or, Xor, Shl, Shr, Sar, DivU, RemU, Ltu}
use Rattle.rv_expr.specs.declared.ops.ExprOp.{ExprOp}
use Rattle.rv_expr.specs.declared.ops.ExprOp.TheVariants.{Const, Arg, Bin, Pick}

-- an operation of two numbers below 2^64
abbrev pub binary : BinOp → ℕ → ℕ → ℕ
binary Add x y = (x + y) % 2 ^ 64
binary Sub x y = (x + (2 ^ 64 - y)) % 2 ^ 64
binary Mul x y = x * y % 2 ^ 64
binary And x y = bit_and x y
binary Or x y = bit_or x y
binary Xor x y = bit_xor x y
binary Shl x y = x * 2 ^ (y % 64) % 2 ^ 64
binary Shr x y = x / 2 ^ (y % 64)
binary Sar x y = cast_unsigned w64 (int_shr (cast_signed w64 x) (y % 64))
binary DivU x y = if y == 0 then 2 ^ 64 - 1 else x / y
binary RemU x y = if y == 0 then x else x % y
binary Ltu x y = from_bool (nat_lt x y)

-- an operation's value, by the arguments and the values of the operations before it
abbrev pub value_of : List ℕ → List ℕ → ExprOp → ℕ
value_of args known (Const n) = n % 2 ^ 64
value_of args known (Arg k) = slice_index args k
value_of args known (Bin op x y) = binary op (slice_index known x) (slice_index known y)
value_of args known (Pick c x y) = if slice_index known c == 0 then slice_index known y else slice_index known x

-- the values that are known, and then those of these operations in turn
abbrev pub values_after : List ℕ → List ℕ → List ExprOp → List ℕ
values_after args known [] = known
values_after args known (op ∷ ops) = values_after args (known ++ value_of args known op ∷ []) ops

-- the value of the last operation
abbrev pub value : List ExprOp → List ℕ → ℕ
value ops args = slice_index (values_after args [] ops) (length ops - 1)
