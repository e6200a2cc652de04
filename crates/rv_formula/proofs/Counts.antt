-- How many operations tokens ask for: those that there are and those that wait are no more.
use Rattle.std.proofs.Common.{◌≡◌, ℕ, suc, ◌+◌, ◌<◌, ◌≤◌, ◌==◌, nat_le, Bool, true, false, if◌then◌else◌, List, [], ◌∷◌, ◌++◌, length, Option, Some, None, Result, Ok, Err, refl, arith, ap, subst, sym, ◌∙◌, length-append}
use Rattle.rv_expr.specs.declared.ops.ExprOp.{ExprOp}
use Rattle.rv_expr.specs.declared.ops.ExprOp.TheVariants.{Const, Arg, Bin, Pick}
use Rattle.rv_formula.specs.declared.error.FormulaError.{FormulaError}
use Rattle.rv_formula.specs.declared.parser.Pending.{Pending}
use Rattle.rv_formula.specs.declared.parser.Pending.TheVariants as waits
use Rattle.rv_formula.specs.declared.token.Lexed.{Lexed}
use Rattle.rv_formula.specs.declared.token.Token.{Token}
use Rattle.rv_formula.specs.declared.token.Token.TheVariants as token
use Rattle.rv_formula.specs.Formula.{Formula, Number, Argument, Group, Binary, Choice, IsSpelled, rank_of, size}
use Rattle.rv_formula.specs.Parsing.{Parse, Closed, on_ending, close, take_by, take, take_operand, take_operator, take_close, take_colon, and_then, run, weight, weights, waiting_count, count}

-- ---- closing

abbrev pub total : Closed → ℕ
total c = length c.ops + waiting_count c.pending

on_test : (b : Bool) (op : ExprOp) (column n : ℕ) (stopped : Closed) (more : ExprOp → Closed) → total stopped ≡ n → total (more op) ≡ n → total (on_ending (if b then Some (op, column) else None) stopped more) ≡ n
on_test true op column n stopped more e f = f
on_test false op column n stopped more e f = e

pub close_keeps : (least : ℕ) (ops : List ExprOp) (ps : List Pending) (v : ℕ) → total (close least ops ps v) ≡ length ops + waiting_count ps
close_keeps least ops [] v = refl
close_keeps least ops (waits.Parenthesis column ∷ ps) v = refl
close_keeps least ops (waits.Question test column ∷ ps) v = refl
close_keeps least ops (waits.Operator op left column ∷ ps) v =
    let one = length-append ops (Bin op left v ∷ []) in
    let rest = close_keeps least (ops ++ Bin op left v ∷ []) ps (length ops) in
    on_test (nat_le least (rank_of op)) (Bin op left v) column (length ops + suc (waiting_count ps)) (record { ops = ops; pending = waits.Operator op left column ∷ ps; value = v }) (λ o. close least (ops ++ o ∷ []) ps (length ops)) refl (omega arith)
close_keeps least ops (waits.Colon test first column ∷ ps) v =
    let one = length-append ops (Pick test first v ∷ []) in
    let rest = close_keeps least (ops ++ Pick test first v ∷ []) ps (length ops) in
    on_test (least == 0) (Pick test first v) column (length ops + suc (waiting_count ps)) (record { ops = ops; pending = waits.Colon test first column ∷ ps; value = v }) (λ o. close least (ops ++ o ∷ []) ps (length ops)) refl (omega arith)

-- ---- tokens

abbrev AtMost : ℕ → Result Parse FormulaError → Type 0
AtMost n (Ok p) = count p ≤ n
AtMost n (Err e) = Unit {0}

colon_counts : (column : ℕ) (ops : List ExprOp) (v : ℕ) (ps : List Pending) (n : ℕ) → length ops + waiting_count ps ≤ n → AtMost (n + 1) (take_colon column ops v ps)
colon_counts column ops v [] n le = tt
colon_counts column ops v (waits.Parenthesis at ∷ ps) n le = tt
colon_counts column ops v (waits.Operator op left at ∷ ps) n le = tt
colon_counts column ops v (waits.Question test at ∷ ps) n le = omega arith
colon_counts column ops v (waits.Colon test first at ∷ ps) n le = tt

close_counts : (column : ℕ) (ops : List ExprOp) (v : ℕ) (ps : List Pending) (n : ℕ) → length ops + waiting_count ps ≤ n → AtMost (n + 0) (take_close column ops v ps)
close_counts column ops v [] n le = tt
close_counts column ops v (waits.Parenthesis at ∷ ps) n le = omega arith
close_counts column ops v (waits.Operator op left at ∷ ps) n le = tt
close_counts column ops v (waits.Question test at ∷ ps) n le = tt
close_counts column ops v (waits.Colon test first at ∷ ps) n le = tt

operand_counts : (p : Parse) (column : ℕ) (t : Token) → AtMost (count p + weight t) (take_operand p column t)
operand_counts p column (token.Number n) = let one = length-append p.ops (Const n ∷ []) in omega arith
operand_counts p column (token.Argument k) = let one = length-append p.ops (Arg k ∷ []) in omega arith
operand_counts p column (token.Operator op) = tt
operand_counts p column token.Open = omega arith
operand_counts p column token.Close = tt
operand_counts p column token.Question = tt
operand_counts p column token.Colon = tt

operator_counts : (p : Parse) (v column : ℕ) (t : Token) → AtMost (count p + weight t) (take_operator p v column t)
operator_counts p v column (token.Number n) = tt
operator_counts p v column (token.Argument k) = tt
operator_counts p v column (token.Operator op) = let keeps = close_keeps (rank_of op) p.ops p.pending v in omega arith
operator_counts p v column token.Open = tt
operator_counts p v column token.Close = let keeps = close_keeps 0 p.ops p.pending v in close_counts column _ _ _ (count p) (omega arith)
operator_counts p v column token.Question = let keeps = close_keeps 1 p.ops p.pending v in omega arith
operator_counts p v column token.Colon = let keeps = close_keeps 0 p.ops p.pending v in colon_counts column _ _ _ (count p) (omega arith)

take_counts : (p : Parse) (x : Lexed) → AtMost (count p + weight x.token) (take p x)
take_counts p x = by_operand p.operand
  where
    by_operand : (o : Option ℕ) → AtMost (count p + weight x.token) (take_by p o (x.start + 1) x.token)
    by_operand None = operand_counts p (x.start + 1) x.token
    by_operand (Some v) = operator_counts p v (x.start + 1) x.token

pub run_counts : (p q : Parse) (xs : List Lexed) → run p xs ≡ Ok q → count q ≤ count p + weights xs
run_counts p q [] e = subst (λ r. AtMost (count p + 0) r) e (omega arith)
run_counts p q (x ∷ xs) e = by_one (take p x) (take_counts p x) e (λ s. run_counts s q xs)
  where
    by_one : (r : Result Parse FormulaError) → AtMost (count p + weight x.token) r → and_then r (λ s. run s xs) ≡ Ok q → ((s : Parse) → run s xs ≡ Ok q → count q ≤ count s + weights xs) → count q ≤ count p + (weight x.token + weights xs)
    by_one (Ok s) le g later = let more = later s g in omega arith
    by_one (Err w) le g later = absurd (cc)

pub weights_both : (xs ys : List Lexed) → weights (xs ++ ys) ≡ weights xs + weights ys
weights_both [] ys = omega arith
weights_both (x ∷ xs) ys = let rest = weights_both xs ys in omega arith

-- ---- formulas

one_token : (x : Lexed) (t : Token) (xs rest : List Lexed) → x.token ≡ t → xs ≡ x ∷ rest → weights xs ≡ weight t + weights rest
one_token x t xs rest is e = ap weights e ∙ ap (λ u. weight u + weights rest) is

pub formula_weighs : (f : Formula) (xs rest : List Lexed) → IsSpelled f xs rest → weights xs ≡ size f + weights rest
formula_weighs (Number n) xs rest (x, is, e) = one_token x (token.Number n) xs rest is e
formula_weighs (Argument k) xs rest (x, is, e) = one_token x (token.Argument k) xs rest is e
formula_weighs (Group f) xs rest (first, final, inner, is_open, is_close, e, spelled) =
    let a = one_token first token.Open xs inner is_open e in
    let b = formula_weighs f inner (final ∷ rest) spelled in
    let d = one_token final token.Close (final ∷ rest) rest is_close refl in
    omega arith
formula_weighs (Binary op l r) xs rest (sign, right, is_sign, spelled_left, spelled_right) =
    let a = formula_weighs l xs (sign ∷ right) spelled_left in
    let b = one_token sign (token.Operator op) (sign ∷ right) right is_sign refl in
    let d = formula_weighs r right rest spelled_right in
    omega arith
formula_weighs (Choice c x y) xs rest (question, colon, first, second, is_question, is_colon, spelled_test, spelled_first, spelled_second) =
    let a = formula_weighs c xs (question ∷ first) spelled_test in
    let b = one_token question token.Question (question ∷ first) first is_question refl in
    let d = formula_weighs x first (colon ∷ second) spelled_first in
    let g = one_token colon token.Colon (colon ∷ second) second is_colon refl in
    let h = formula_weighs y second rest spelled_second in
    omega arith
