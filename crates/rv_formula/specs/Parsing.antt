-- How a formula is read, token by token: what waits for an operand, innermost first, and what an operand ends of it. A link of the proof:
-- `IsGrouped` and its kin say what formulas are.
use Rattle.std.specs.Prelude.{◌≡◌, ℕ, suc, ◌+◌, ◌<◌, ◌≤◌, ◌==◌, nat_le, if◌then◌else◌, List, [], ◌∷◌, ◌++◌, length, Option, Some, None, Result, Ok, Err}
use Rattle.rv_expr.specs.declared.ops.ExprOp.{ExprOp}
use Rattle.rv_expr.specs.declared.ops.ExprOp.TheVariants.{Const, Arg, Bin, Pick}
use Rattle.rv_formula.specs.declared.error.FormulaError.{FormulaError}
use Rattle.rv_formula.specs.declared.error.FormulaError.TheVariants as error
use Rattle.rv_formula.specs.declared.parser.Pending.{Pending}
use Rattle.rv_formula.specs.declared.parser.Pending.TheVariants.{Parenthesis, Operator, Question, Colon}
use Rattle.rv_formula.specs.declared.token.Lexed.{Lexed}
use Rattle.rv_formula.specs.declared.token.Token.{Token}
use Rattle.rv_formula.specs.declared.token.Token.TheVariants as token
use Rattle.rv_formula.specs.Formula.{Formula, IsSpelled, IsGrouped, rank_of}
use Rattle.rv_formula.specs.Token.{next_of, HasTokens}

-- the operations so far, what waits, and the number of the operand that was read, where an operator may follow
pub record Parse : Type 0 where
  pub ops : List ExprOp
  pub pending : List Pending
  pub operand : Option ℕ

abbrev pub start : Parse
start = record { ops = []; pending = []; operand = None }

-- the operation that an operand makes of what waits, where that binds at least so tightly, with its column
abbrev pub ending : ℕ → Pending → ℕ → Option (ExprOp × ℕ)
ending least (Parenthesis column) v = None
ending least (Operator op left column) v = if nat_le least (rank_of op) then Some (Bin op left v, column) else None
ending least (Question test column) v = None
ending least (Colon test first column) v = if least == 0 then Some (Pick test first v, column) else None

-- the operations, what still waits, and the operand
pub record Closed : Type 0 where
  pub ops : List ExprOp
  pub pending : List Pending
  pub value : ℕ

abbrev pub on_ending : Option (ExprOp × ℕ) → Closed → (ExprOp → Closed) → Closed
on_ending None stopped more = stopped
on_ending (Some (op, column)) stopped more = more op

-- an operand ends what binds at least so tightly, innermost first
abbrev pub close : ℕ → List ExprOp → List Pending → ℕ → Closed
close least ops [] v = record { ops = ops; pending = []; value = v }
close least ops (p ∷ ps) v =
    on_ending (ending least p v) (record { ops = ops; pending = p ∷ ps; value = v }) (λ op. close least (ops ++ op ∷ []) ps (length ops))

abbrev pub closed : ℕ → Parse → ℕ → Closed
closed least p v = close least p.ops p.pending v

-- an operand that is one operation
abbrev pub leaf : Parse → ExprOp → Result Parse FormulaError
leaf p op = Ok (record { ops = p.ops ++ op ∷ []; pending = p.pending; operand = Some (length p.ops) })

-- something waits for the next operand
abbrev pub waiting : List ExprOp → Pending → List Pending → Result Parse FormulaError
waiting ops what pending = Ok (record { ops = ops; pending = what ∷ pending; operand = None })

-- a token where an operand may stand
abbrev pub take_operand : Parse → ℕ → Token → Result Parse FormulaError
take_operand p column (token.Number n) = leaf p (Const n)
take_operand p column (token.Argument k) = leaf p (Arg k)
take_operand p column (token.Operator op) = Err (error.NoOperand column)
take_operand p column token.Open = waiting p.ops (Parenthesis column) p.pending
take_operand p column token.Close = Err (error.NoOperand column)
take_operand p column token.Question = Err (error.NoOperand column)
take_operand p column token.Colon = Err (error.NoOperand column)

-- a colon, by what waits
abbrev pub take_colon : ℕ → List ExprOp → ℕ → List Pending → Result Parse FormulaError
take_colon column ops v [] = Err (error.NoQuestion column)
take_colon column ops v (Parenthesis at ∷ ps) = Err (error.NoQuestion column)
take_colon column ops v (Operator op left at ∷ ps) = Err (error.NoQuestion column)
take_colon column ops v (Question test at ∷ ps) = waiting ops (Colon test v column) ps
take_colon column ops v (Colon test first at ∷ ps) = Err (error.NoQuestion column)

-- a closing parenthesis, by what waits
abbrev pub take_close : ℕ → List ExprOp → ℕ → List Pending → Result Parse FormulaError
take_close column ops v [] = Err (error.NotOpened column)
take_close column ops v (Parenthesis at ∷ ps) = Ok (record { ops = ops; pending = ps; operand = Some v })
take_close column ops v (Operator op left at ∷ ps) = Err (error.NotOpened column)
take_close column ops v (Question test at ∷ ps) = Err (error.NoColon at)
take_close column ops v (Colon test first at ∷ ps) = Err (error.NotOpened column)

abbrev pub wait_after : Closed → (ℕ → Pending) → Result Parse FormulaError
wait_after c what = waiting c.ops (what c.value) c.pending

abbrev pub close_after : ℕ → Closed → Result Parse FormulaError
close_after column c = take_close column c.ops c.value c.pending

abbrev pub colon_after : ℕ → Closed → Result Parse FormulaError
colon_after column c = take_colon column c.ops c.value c.pending

-- a token after an operand
abbrev pub take_operator : Parse → ℕ → ℕ → Token → Result Parse FormulaError
take_operator p v column (token.Number n) = Err (error.NoOperator column)
take_operator p v column (token.Argument k) = Err (error.NoOperator column)
take_operator p v column (token.Operator op) = wait_after (closed (rank_of op) p v) (λ left. Operator op left column)
take_operator p v column token.Open = Err (error.NoOperator column)
take_operator p v column token.Close = close_after column (closed 0 p v)
take_operator p v column token.Question = wait_after (closed 1 p v) (λ test. Question test column)
take_operator p v column token.Colon = colon_after column (closed 0 p v)

abbrev pub take_by : Parse → Option ℕ → ℕ → Token → Result Parse FormulaError
take_by p None column t = take_operand p column t
take_by p (Some v) column t = take_operator p v column t

-- the next token
abbrev pub take : Parse → Lexed → Result Parse FormulaError
take p x = take_by p p.operand (x.start + 1) x.token

-- the end, by what waits
abbrev pub ended : List ExprOp → List Pending → Result (List ExprOp) FormulaError
ended ops [] = Ok ops
ended ops (Parenthesis at ∷ ps) = Err (error.NotClosed at)
ended ops (Operator op left at ∷ ps) = Ok ops
ended ops (Question test at ∷ ps) = Err (error.NoColon at)
ended ops (Colon test first at ∷ ps) = Ok ops

abbrev pub end_after : Closed → Result (List ExprOp) FormulaError
end_after c = ended c.ops c.pending

abbrev pub finish_by : Parse → ℕ → Option ℕ → Result (List ExprOp) FormulaError
finish_by p column None = Err (error.NoOperand column)
finish_by p column (Some v) = end_after (closed 0 p v)

-- the end, in a column
abbrev pub finish : Parse → ℕ → Result (List ExprOp) FormulaError
finish p column = finish_by p column p.operand

-- tokens in turn
abbrev pub and_then : Result Parse FormulaError → (Parse → Result Parse FormulaError) → Result Parse FormulaError
and_then (Err e) more = Err e
and_then (Ok p) more = more p

abbrev pub run : Parse → List Lexed → Result Parse FormulaError
run p [] = Ok p
run p (x ∷ xs) = and_then (take p x) (λ q. run q xs)

-- where the tokens of a text end: at its end, or at a byte that begins none
abbrev pub stop_of : Option FormulaError → Result (Option Lexed) FormulaError
stop_of None = Ok None
stop_of (Some e) = Err e

-- what tokens are read to, by where they end, after which is a column; the first error is the answer
abbrev pub concluded : Result Parse FormulaError → Option FormulaError → ℕ → Result (List ExprOp) FormulaError
concluded (Err e) stop column = Err e
concluded (Ok p) None column = finish p column
concluded (Ok p) (Some e) column = Err e

-- ---- what calls return

-- how many operations a token asks for: a number, an argument, an operator, or a choice by its colon
abbrev pub weight : Token → ℕ
weight (token.Number n) = 1
weight (token.Argument k) = 1
weight (token.Operator op) = 1
weight token.Open = 0
weight token.Close = 0
weight token.Question = 0
weight token.Colon = 1

abbrev pub weights : List Lexed → ℕ
weights [] = 0
weights (x ∷ xs) = weight x.token + weights xs

-- and how many wait
abbrev pub waiting_count : List Pending → ℕ
waiting_count [] = 0
waiting_count (Parenthesis column ∷ ps) = waiting_count ps
waiting_count (Operator op left column ∷ ps) = suc (waiting_count ps)
waiting_count (Question test column ∷ ps) = waiting_count ps
waiting_count (Colon test first column ∷ ps) = suc (waiting_count ps)

-- the operations so far, and those that wait
abbrev pub count : Parse → ℕ
count p = length p.ops + waiting_count p.pending

-- what a call made of what was read, where so many operations are asked for; out of memory may come at any time
abbrev pub Takes : Result Unit FormulaError → Parse → Result Parse FormulaError → ℕ → Type 0
Takes (Ok x) new read asked = read ≡ Ok new
Takes (Err error.OutOfMemory) new read asked = Unit {0}
Takes (Err (error.Unknown column)) new read asked = read ≡ Err (error.Unknown column)
Takes (Err (error.NoOperand column)) new read asked = read ≡ Err (error.NoOperand column)
Takes (Err (error.NoOperator column)) new read asked = read ≡ Err (error.NoOperator column)
Takes (Err (error.NotClosed column)) new read asked = read ≡ Err (error.NotClosed column)
Takes (Err (error.NotOpened column)) new read asked = read ≡ Err (error.NotOpened column)
Takes (Err (error.NoColon column)) new read asked = read ≡ Err (error.NoColon column)
Takes (Err (error.NoQuestion column)) new read asked = read ≡ Err (error.NoQuestion column)
Takes (Err (error.TooLong column)) new read asked = 254 < asked

-- what closing returned, beside which it made these operations and left these waiting, where so many are asked for
abbrev pub Closes : Result ℕ FormulaError → List ExprOp → List Pending → Closed → ℕ → Type 0
Closes (Ok v) ops pending c asked = c ≡ record { ops = ops; pending = pending; value = v }
Closes (Err error.OutOfMemory) ops pending c asked = Unit {0}
Closes (Err (error.Unknown column)) ops pending c asked = ⊥
Closes (Err (error.NoOperand column)) ops pending c asked = ⊥
Closes (Err (error.NoOperator column)) ops pending c asked = ⊥
Closes (Err (error.NotClosed column)) ops pending c asked = ⊥
Closes (Err (error.NotOpened column)) ops pending c asked = ⊥
Closes (Err (error.NoColon column)) ops pending c asked = ⊥
Closes (Err (error.NoQuestion column)) ops pending c asked = ⊥
Closes (Err (error.TooLong column)) ops pending c asked = 254 < asked

-- what a call that puts an operation returned
abbrev pub Puts : Result ℕ FormulaError → List ExprOp → List ExprOp → ExprOp → Type 0
Puts (Ok n) old new op = (n ≡ length old) × (new ≡ old ++ op ∷ [])
Puts (Err error.OutOfMemory) old new op = Unit {0}
Puts (Err (error.Unknown column)) old new op = ⊥
Puts (Err (error.NoOperand column)) old new op = ⊥
Puts (Err (error.NoOperator column)) old new op = ⊥
Puts (Err (error.NotClosed column)) old new op = ⊥
Puts (Err (error.NotOpened column)) old new op = ⊥
Puts (Err (error.NoColon column)) old new op = ⊥
Puts (Err (error.NoQuestion column)) old new op = ⊥
Puts (Err (error.TooLong column)) old new op = 254 ≤ length old

-- what a call made of a whole formula, where so many operations are asked for
abbrev pub Finishes : {X : Type 0} → (X → List ExprOp) → Result X FormulaError → Result (List ExprOp) FormulaError → ℕ → Type 0
Finishes items (Ok x) read asked = read ≡ Ok (items x)
Finishes items (Err error.OutOfMemory) read asked = Unit {0}
Finishes items (Err (error.Unknown column)) read asked = read ≡ Err (error.Unknown column)
Finishes items (Err (error.NoOperand column)) read asked = read ≡ Err (error.NoOperand column)
Finishes items (Err (error.NoOperator column)) read asked = read ≡ Err (error.NoOperator column)
Finishes items (Err (error.NotClosed column)) read asked = read ≡ Err (error.NotClosed column)
Finishes items (Err (error.NotOpened column)) read asked = read ≡ Err (error.NotOpened column)
Finishes items (Err (error.NoColon column)) read asked = read ≡ Err (error.NoColon column)
Finishes items (Err (error.NoQuestion column)) read asked = read ≡ Err (error.NoQuestion column)
Finishes items (Err (error.TooLong column)) read asked = 254 < asked

-- a text has these tokens from an index on, up to another
abbrev pub HasFront : List ℕ → ℕ → List Lexed → ℕ → Type 0
HasFront text from [] end = from ≡ end
HasFront text from (x ∷ xs) end = (next_of text from ≡ Ok (Some x)) × HasFront text x.end xs end

-- a call's result is what the tokens of the text are read to
abbrev pub IsExact : {X : Type 0} → (X → List ExprOp) → Result X FormulaError → List ℕ → Type 0
IsExact items result text =
    (xs : List Lexed) (end : ℕ) (stop : Option FormulaError) →
    HasFront text 0 xs end →
    next_of text end ≡ stop_of stop →
    Finishes items result (concluded (run start xs) stop (length text + 1)) (weights xs)

-- so far a text's tokens were read to this
pub record IsSoFar (text : List ℕ) (at : ℕ) (p : Parse) : Type 0 where
  pub tokens : List Lexed
  pub front : HasFront text 0 tokens at
  pub read : run start tokens ≡ Ok p

-- all of them were, to these operations
pub record IsAll (text : List ℕ) (ops : List ExprOp) : Type 0 where
  pub tokens : List Lexed
  pub text_has : HasTokens text 0 tokens
  pub read : concluded (run start tokens) None (length text + 1) ≡ Ok ops

-- where some tokens are read to an error, no formula begins with them
abbrev pub NoFormulaBeginsSo : Type 0
NoFormulaBeginsSo = (f : Formula) (xs ys : List Lexed) (e : FormulaError) → run start xs ≡ Err e → IsSpelled f (xs ++ ys) [] → IsGrouped f → ⊥
