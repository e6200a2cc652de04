-- What a formula is, and what it means. Operators and their precedence are C's.
use Rattle.std.specs.Prelude.{◌≡◌, ℕ, ◌+◌, ◌-◌, ◌%◌, ◌^◌, ◌<◌, ◌≤◌, ◌==◌, if◌then◌else◌, List, [], ◌∷◌, ◌++◌, slice_index, Result, Ok, Err}
use Rattle.rv_expr.specs.declared.ops.BinOp.{BinOp}
use Rattle.rv_expr.specs.declared.ops.BinOp.TheVariants.{Add, Sub, Mul, And, Or, Xor, Shl, Shr, Sar, DivU, RemU, Ltu}
use Rattle.rv_expr.specs.declared.ops.ExprOp.{ExprOp}
use Rattle.rv_expr.specs.declared.ops.ExprOp.TheVariants.{Const, Arg, Bin, Pick}
use Rattle.rv_expr.specs.Value.{binary, value}
use Rattle.rv_formula.specs.declared.error.FormulaError.{FormulaError}
use Rattle.rv_formula.specs.declared.error.FormulaError.TheVariants as error
use Rattle.rv_formula.specs.declared.token.Lexed.{Lexed}
use Rattle.rv_formula.specs.declared.token.Token.TheVariants as token
use Rattle.rv_formula.specs.Token.{HasTokens}

-- a number, an argument, a formula in parentheses, an operation of two, or a choice by the first of three
pub data Formula : Type 0 where
  Number : ℕ → Formula
  Argument : ℕ → Formula
  Group : Formula → Formula
  Binary : BinOp → Formula → Formula → Formula
  Choice : Formula → Formula → Formula → Formula

-- these tokens are those of a formula, and then others
abbrev pub IsSpelled : Formula → List Lexed → List Lexed → Type 0
IsSpelled (Number n) xs rest = (x : Lexed) × (x.token ≡ token.Number n) × (xs ≡ x ∷ rest)
IsSpelled (Argument k) xs rest = (x : Lexed) × (x.token ≡ token.Argument k) × (xs ≡ x ∷ rest)
IsSpelled (Group f) xs rest =
    (first : Lexed) ×
    (last : Lexed) ×
    (inner : List Lexed) ×
    (first.token ≡ token.Open) ×
    (last.token ≡ token.Close) ×
    (xs ≡ first ∷ inner) ×
    IsSpelled f inner (last ∷ rest)
IsSpelled (Binary op l r) xs rest =
    (sign : Lexed) × (right : List Lexed) × (sign.token ≡ token.Operator op) × IsSpelled l xs (sign ∷ right) × IsSpelled r right rest
IsSpelled (Choice c x y) xs rest =
    (question : Lexed) ×
    (colon : Lexed) ×
    (first : List Lexed) ×
    (second : List Lexed) ×
    (question.token ≡ token.Question) ×
    (colon.token ≡ token.Colon) ×
    IsSpelled c xs (question ∷ first) ×
    IsSpelled x first (colon ∷ second) ×
    IsSpelled y second rest

-- how tightly operators bind, more with a greater number
abbrev pub rank_of : BinOp → ℕ
rank_of Mul = 7
rank_of DivU = 7
rank_of RemU = 7
rank_of Add = 6
rank_of Sub = 6
rank_of Shl = 5
rank_of Shr = 5
rank_of Sar = 5
rank_of Ltu = 4
rank_of And = 3
rank_of Xor = 2
rank_of Or = 1

abbrev pub rank : Formula → ℕ
rank (Number n) = 8
rank (Argument k) = 8
rank (Group f) = 8
rank (Binary op l r) = rank_of op
rank (Choice c x y) = 0

-- Its parts are grouped as C does: what binds tighter first, operators that bind alike from the left, choices from the right.
abbrev pub IsGrouped : Formula → Type 0
IsGrouped (Number n) = Unit {0}
IsGrouped (Argument k) = Unit {0}
IsGrouped (Group f) = IsGrouped f
IsGrouped (Binary op l r) = (rank_of op ≤ rank l) × (rank_of op < rank r) × IsGrouped l × IsGrouped r
IsGrouped (Choice c x y) = (0 < rank c) × IsGrouped c × IsGrouped x × IsGrouped y

-- a text is a formula, and no more
pub record Reads (text : List ℕ) (f : Formula) : Type 0 where
  pub tokens : List Lexed
  pub text_has : HasTokens text 0 tokens
  pub spelled : IsSpelled f tokens []
  pub grouped : IsGrouped f

-- its value
abbrev pub meaning : List ℕ → Formula → ℕ
meaning args (Number n) = n % 2 ^ 64
meaning args (Argument k) = slice_index args k
meaning args (Group f) = meaning args f
meaning args (Binary op l r) = binary op (meaning args l) (meaning args r)
meaning args (Choice c x y) = if meaning args c == 0 then meaning args y else meaning args x

-- how many operations its program has
abbrev pub size : Formula → ℕ
size (Number n) = 1
size (Argument k) = 1
size (Group f) = size f
size (Binary op l r) = size l + size r + 1
size (Choice c x y) = size c + size x + size y + 1

-- its program, operands first; the first operation has a number, and the last one's is the value
abbrev pub program_from : ℕ → Formula → List ExprOp
program_from i (Number n) = Const n ∷ []
program_from i (Argument k) = Arg k ∷ []
program_from i (Group f) = program_from i f
program_from i (Binary op l r) = program_from i l ++ (program_from (i + size l) r ++ Bin op (i + size l - 1) (i + size l + size r - 1) ∷ [])
program_from i (Choice c x y) =
    program_from i c ++
    (program_from (i + size c) x ++ (program_from (i + size c + size x) y ++ Pick (i + size c - 1) (i + size c + size x - 1) (i + size c + size x + size y - 1) ∷ []))

abbrev pub program : Formula → List ExprOp
program f = program_from 0 f

-- what a reader of a text returned for a formula that the text is: its program, unless memory runs out or a program may have no so many
-- operations
abbrev pub Gives : {X : Type 0} → (X → List ExprOp) → Result X FormulaError → Formula → Type 0
Gives items (Ok x) f = items x ≡ program f
Gives items (Err error.OutOfMemory) f = Unit {0}
Gives items (Err (error.TooLong column)) f = 254 < size f
Gives items (Err (error.Unknown column)) f = ⊥
Gives items (Err (error.NoOperand column)) f = ⊥
Gives items (Err (error.NoOperator column)) f = ⊥
Gives items (Err (error.NotClosed column)) f = ⊥
Gives items (Err (error.NotOpened column)) f = ⊥
Gives items (Err (error.NoColon column)) f = ⊥
Gives items (Err (error.NoQuestion column)) f = ⊥

-- operations are the program of a formula that a text is, and compute its value
pub record IsProgramOf (text : List ℕ) (ops : List ExprOp) : Type 0 where
  pub formula : Formula
  pub reads : Reads text formula
  pub made : ops ≡ program formula
  pub means : (args : List ℕ) → value ops args ≡ meaning args formula
