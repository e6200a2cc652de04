-- Tokens that are read to a program are those of a grouped formula, whose program it is.
use Rattle.std.proofs.Common.{◌≡◌, ℕ, zero, suc, ◌+◌, ◌-◌, ◌<◌, ◌≤◌, ◌==◌, nat_le, Bool, true, false, if◌then◌else◌, List, [], ◌∷◌, ◌++◌, length, Option, Some, None, Result, Ok, Err, refl, arith, ap, sym, subst, ◌∙◌, lit<, lit≤}
use Rattle.std.proofs.lemmas.Bool.Decides.{nat_tests}
use Rattle.rv_expr.specs.declared.ops.BinOp.{BinOp}
use Rattle.rv_expr.specs.declared.ops.BinOp.TheVariants.{Add, Sub, Mul, And, Or, Xor, Shl, Shr, Sar, DivU, RemU, Ltu}
use Rattle.rv_expr.specs.declared.ops.ExprOp.{ExprOp}
use Rattle.rv_expr.specs.declared.ops.ExprOp.TheVariants.{Const, Arg, Bin, Pick}
use Rattle.rv_formula.specs.declared.error.FormulaError.{FormulaError}
use Rattle.rv_formula.specs.declared.parser.Pending.{Pending}
use Rattle.rv_formula.specs.declared.parser.Pending.TheVariants as waits
use Rattle.rv_formula.specs.declared.token.Lexed.{Lexed}
use Rattle.rv_formula.specs.declared.token.Token.{Token}
use Rattle.rv_formula.specs.declared.token.Token.TheVariants as token
use Rattle.rv_formula.specs.Formula.{Formula, Number, Argument, Group, Binary, Choice, IsSpelled, IsGrouped, rank_of, rank, size, program_from, program}
use Rattle.rv_formula.specs.Parsing.{Parse, start, Closed, ending, on_ending, close, take_by, take, take_operand, take_operator, take_close, take_colon, ended, and_then, run, finish_by, concluded}
use Rattle.rv_formula.proofs.Reading.{Admits, after_all, last, binary_joined, binary_counted, choice_joined, choice_counted, rank_some, admits_more}

rank_below : (op : BinOp) → rank_of op < 8
rank_below Add = lit< tt
rank_below Sub = lit< tt
rank_below Mul = lit< tt
rank_below And = lit< tt
rank_below Or = lit< tt
rank_below Xor = lit< tt
rank_below Shl = lit< tt
rank_below Shr = lit< tt
rank_below Sar = lit< tt
rank_below DivU = lit< tt
rank_below RemU = lit< tt
rank_below Ltu = lit< tt

admits_all : (ps : List Pending) → Admits ps 8
admits_all [] = tt
admits_all (waits.Parenthesis column ∷ ps) = tt
admits_all (waits.Operator op left column ∷ ps) = rank_below op
admits_all (waits.Question test column ∷ ps) = tt
admits_all (waits.Colon test first column ∷ ps) = tt

-- an operand that binds so tightly has ended all that it can
abbrev Stopped : List Pending → ℕ → Type 0
Stopped [] k = Unit {0}
Stopped (waits.Parenthesis column ∷ ps) k = Unit {0}
Stopped (waits.Operator op left column ∷ ps) k = rank_of op < k
Stopped (waits.Question test column ∷ ps) k = Unit {0}
Stopped (waits.Colon test first column ∷ ps) k = 0 < k

stopped_admits : (ps : List Pending) (k : ℕ) → Stopped ps k → Admits ps k
stopped_admits [] k h = tt
stopped_admits (waits.Parenthesis column ∷ ps) k h = tt
stopped_admits (waits.Operator op left column ∷ ps) k h = h
stopped_admits (waits.Question test column ∷ ps) k h = tt
stopped_admits (waits.Colon test first column ∷ ps) k h = tt

-- where all operators are ended, a choice may come next
choice_admitted : (ps : List Pending) → Stopped ps 1 → Admits ps 0
choice_admitted [] h = tt
choice_admitted (waits.Parenthesis column ∷ ps) h = tt
choice_admitted (waits.Operator op left column ∷ ps) h = absurd (let some = rank_some op in omega arith)
choice_admitted (waits.Question test column ∷ ps) h = tt
choice_admitted (waits.Colon test first column ∷ ps) h = tt

-- ---- what waits, and the tokens that it was read from

record LeftOf (under : List ExprOp → List Lexed → Type 0) (op : BinOp) (v : ℕ) (ps : List Pending) (ops : List ExprOp) (rest : List Lexed) : Type 0 where
  before : List ExprOp
  formula : Formula
  at : List Lexed
  sign : Lexed
  waits : under before at
  spelled : IsSpelled formula at (sign ∷ rest)
  is_sign : sign.token ≡ token.Operator op
  grouped : IsGrouped formula
  tight : rank_of op ≤ rank formula
  admits : Admits ps (rank_of op)
  made : ops ≡ after_all before formula
  number : v ≡ last before formula

record TestOf (under : List ExprOp → List Lexed → Type 0) (v : ℕ) (ps : List Pending) (ops : List ExprOp) (rest : List Lexed) : Type 0 where
  before : List ExprOp
  formula : Formula
  at : List Lexed
  question : Lexed
  waits : under before at
  spelled : IsSpelled formula at (question ∷ rest)
  is_question : question.token ≡ token.Question
  grouped : IsGrouped formula
  tight : 0 < rank formula
  admits : Admits ps 0
  made : ops ≡ after_all before formula
  number : v ≡ last before formula

record FirstOf (under : List ExprOp → List Lexed → Type 0) (v w : ℕ) (ps : List Pending) (ops : List ExprOp) (rest : List Lexed) : Type 0 where
  before : List ExprOp
  test : Formula
  first : Formula
  at : List Lexed
  between : List Lexed
  question : Lexed
  colon : Lexed
  waits : under before at
  spelled_test : IsSpelled test at (question ∷ between)
  is_question : question.token ≡ token.Question
  spelled_first : IsSpelled first between (colon ∷ rest)
  is_colon : colon.token ≡ token.Colon
  grouped_test : IsGrouped test
  grouped_first : IsGrouped first
  tight : 0 < rank test
  admits : Admits ps 0
  made : ops ≡ after_all (after_all before test) first
  number_test : v ≡ last before test
  number_first : w ≡ last (after_all before test) first

-- what waits was read from these tokens, up to others
abbrev Waits : List Lexed → List Pending → List ExprOp → List Lexed → Type 0
Waits xs [] ops rest = (ops ≡ []) × (xs ≡ rest)
Waits xs (waits.Parenthesis column ∷ ps) ops rest = (x : Lexed) × (x.token ≡ token.Open) × Waits xs ps ops (x ∷ rest)
Waits xs (waits.Operator op v column ∷ ps) ops rest = LeftOf (Waits xs ps) op v ps ops rest
Waits xs (waits.Question v column ∷ ps) ops rest = TestOf (Waits xs ps) v ps ops rest
Waits xs (waits.Colon v w column ∷ ps) ops rest = FirstOf (Waits xs ps) v w ps ops rest

-- an operand that binds at least so tightly was read after what waits
record Operand (least : ℕ) (xs : List Lexed) (ps : List Pending) (ops : List ExprOp) (v : ℕ) (rest : List Lexed) : Type 0 where
  before : List ExprOp
  formula : Formula
  at : List Lexed
  waits : Waits xs ps before at
  spelled : IsSpelled formula at rest
  grouped : IsGrouped formula
  tight : least ≤ rank formula
  admits : Admits ps (rank formula)
  made : ops ≡ after_all before formula
  number : v ≡ last before formula

-- ---- closing

record IsClosed (least : ℕ) (xs : List Lexed) (c : Closed) (rest : List Lexed) : Type 0 where
  operand : Operand least xs c.pending c.ops c.value rest
  stopped : Stopped c.pending least

-- what an operand makes of an operator that waits
of_two : (least : ℕ) (xs : List Lexed) (op : BinOp) (left column : ℕ) (ps : List Pending) (ops : List ExprOp) (v : ℕ) (rest : List Lexed) → least ≤ rank_of op → Operand least xs (waits.Operator op left column ∷ ps) ops v rest → Operand least xs ps (ops ++ Bin op left v ∷ []) (length ops) rest
of_two least xs op left column ps ops v rest le h =
    let l = h.waits in
    let made = h.made ∙ ap (λ k. after_all k h.formula) l.made in
    let number = h.number ∙ ap (λ k. last k h.formula) l.made in
    record {
      before = l.before;
      formula = Binary op l.formula h.formula;
      at = l.at;
      waits = l.waits;
      spelled = (l.sign, h.at, l.is_sign, l.spelled, h.spelled);
      grouped = (l.tight, h.admits, l.grouped, h.grouped);
      tight = le;
      admits = l.admits;
      made = (λ i. made i ++ Bin op (l.number i) (number i) ∷ []) ∙ binary_joined op l.formula h.formula l.before;
      number = ap length made ∙ binary_counted op l.formula h.formula l.before;
    }

-- and of a choice
of_three : (least : ℕ) (xs : List Lexed) (test first column : ℕ) (ps : List Pending) (ops : List ExprOp) (v : ℕ) (rest : List Lexed) → least ≡ 0 → Operand least xs (waits.Colon test first column ∷ ps) ops v rest → Operand least xs ps (ops ++ Pick test first v ∷ []) (length ops) rest
of_three least xs test first column ps ops v rest none h =
    let w = h.waits in
    let made = h.made ∙ ap (λ k. after_all k h.formula) w.made in
    let number = h.number ∙ ap (λ k. last k h.formula) w.made in
    record {
      before = w.before;
      formula = Choice w.test w.first h.formula;
      at = w.at;
      waits = w.waits;
      spelled = (w.question, w.colon, w.between, h.at, w.is_question, w.is_colon, w.spelled_test, w.spelled_first, h.spelled);
      grouped = (w.tight, w.grouped_test, w.grouped_first, h.grouped);
      tight = omega arith;
      admits = w.admits;
      made = (λ i. made i ++ Pick (w.number_test i) (w.number_first i) (number i) ∷ []) ∙ choice_joined w.test w.first h.formula w.before;
      number = ap length made ∙ choice_counted w.test w.first h.formula w.before;
    }

closing : (least : ℕ) (xs : List Lexed) (ps : List Pending) (ops : List ExprOp) (v : ℕ) (rest : List Lexed) → Operand least xs ps ops v rest → IsClosed least xs (close least ops ps v) rest
closing least xs [] ops v rest h = record { operand = h; stopped = tt }
closing least xs (waits.Parenthesis column ∷ ps) ops v rest h = record { operand = h; stopped = tt }
closing least xs (waits.Question test column ∷ ps) ops v rest h = record { operand = h; stopped = tt }
closing least xs (waits.Operator op left column ∷ ps) ops v rest h = by_test (nat_le least (rank_of op)) refl (λ o. closing least xs ps (ops ++ Bin op left v ∷ []) (length ops) rest o)
  where
    by_test : (b : Bool) → nat_le least (rank_of op) ≡ b → (Operand least xs ps (ops ++ Bin op left v ∷ []) (length ops) rest → IsClosed least xs (close least (ops ++ Bin op left v ∷ []) ps (length ops)) rest) →
        IsClosed least xs (on_ending (if b then Some (Bin op left v, column) else None) (record { ops = ops; pending = waits.Operator op left column ∷ ps; value = v }) (λ o. close least (ops ++ o ∷ []) ps (length ops))) rest
    by_test true e more = more (of_two least xs op left column ps ops v rest (grind (arith, nat_tests)) h)
    by_test false e more = record { operand = h; stopped = grind (arith, nat_tests) }
closing least xs (waits.Colon test first column ∷ ps) ops v rest h = by_test (least == 0) refl (λ o. closing least xs ps (ops ++ Pick test first v ∷ []) (length ops) rest o)
  where
    by_test : (b : Bool) → (least == 0) ≡ b → (Operand least xs ps (ops ++ Pick test first v ∷ []) (length ops) rest → IsClosed least xs (close least (ops ++ Pick test first v ∷ []) ps (length ops)) rest) →
        IsClosed least xs (on_ending (if b then Some (Pick test first v, column) else None) (record { ops = ops; pending = waits.Colon test first column ∷ ps; value = v }) (λ o. close least (ops ++ o ∷ []) ps (length ops))) rest
    by_test true e more = more (of_three least xs test first column ps ops v rest (grind (arith, nat_tests)) h)
    by_test false e more = record { operand = h; stopped = grind (arith, nat_tests) }

-- ---- tokens

-- what was read from these tokens, up to others
abbrev IsReadBy : List Lexed → List ExprOp → List Pending → Option ℕ → List Lexed → Type 0
IsReadBy xs ops ps None rest = Waits xs ps ops rest
IsReadBy xs ops ps (Some v) rest = Operand 8 xs ps ops v rest

abbrev IsRead : List Lexed → Parse → List Lexed → Type 0
IsRead xs p rest = IsReadBy xs p.ops p.pending p.operand rest

-- a formula that is one token, or in parentheses
whole_operand : (xs : List Lexed) (ps : List Pending) (ops made : List ExprOp) (v : ℕ) (f : Formula) (at rest : List Lexed) → Waits xs ps ops at → IsSpelled f at rest → IsGrouped f → rank f ≡ 8 → made ≡ after_all ops f → v ≡ last ops f → Operand 8 xs ps made v rest
whole_operand xs ps ops made v f at rest waits spelled grouped highest is_made is_number = record {
  before = ops;
  formula = f;
  at = at;
  waits = waits;
  spelled = spelled;
  grouped = grouped;
  tight = omega arith;
  admits = admits_more ps 8 (rank f) (omega arith) (admits_all ps);
  made = is_made;
  number = is_number;
}

looser : (least : ℕ) (xs : List Lexed) (ps : List Pending) (ops : List ExprOp) (v : ℕ) (rest : List Lexed) → least ≤ 8 → Operand 8 xs ps ops v rest → Operand least xs ps ops v rest
looser least xs ps ops v rest le h = record { before = h.before; formula = h.formula; at = h.at; waits = h.waits; spelled = h.spelled; grouped = h.grouped; tight = (let tight = h.tight in omega arith); admits = h.admits; made = h.made; number = h.number }

ended_by : (least : ℕ) (xs : List Lexed) (p : Parse) (v : ℕ) (rest : List Lexed) → least ≤ 8 → Operand 8 xs p.pending p.ops v rest → IsClosed least xs (close least p.ops p.pending v) rest
ended_by least xs p v rest le h = closing least xs p.pending p.ops v rest (looser least xs p.pending p.ops v rest le h)

abbrev ok : Parse → Result Parse FormulaError
ok p = Ok p

same : (p q : Parse) → ok p ≡ ok q → p ≡ q
same p q e = cc

operand_read : (xs rest : List Lexed) (ops : List ExprOp) (ps : List Pending) (x : Lexed) (t : Token) (q : Parse) → x.token ≡ t → Waits xs ps ops (x ∷ rest) → take_operand (record { ops = ops; pending = ps; operand = None }) (x.start + 1) t ≡ Ok q → IsRead xs q rest
operand_read xs rest ops ps x (token.Number n) q is h e =
    subst (λ r. IsRead xs r rest) (same _ _ e) (whole_operand xs ps ops (ops ++ Const n ∷ []) (length ops) (Number n) (x ∷ rest) rest h (x, is, refl) tt refl refl (omega arith))
operand_read xs rest ops ps x (token.Argument k) q is h e =
    subst (λ r. IsRead xs r rest) (same _ _ e) (whole_operand xs ps ops (ops ++ Arg k ∷ []) (length ops) (Argument k) (x ∷ rest) rest h (x, is, refl) tt refl refl (omega arith))
operand_read xs rest ops ps x token.Open q is h e = subst (λ r. IsRead xs r rest) (same _ _ e) (x, is, h)
operand_read xs rest ops ps x (token.Operator op) q is h e = absurd (cc)
operand_read xs rest ops ps x token.Close q is h e = absurd (cc)
operand_read xs rest ops ps x token.Question q is h e = absurd (cc)
operand_read xs rest ops ps x token.Colon q is h e = absurd (cc)

close_read : (xs rest : List Lexed) (ops : List ExprOp) (ps : List Pending) (v : ℕ) (x : Lexed) (q : Parse) → x.token ≡ token.Close → Operand 0 xs ps ops v (x ∷ rest) → take_close (x.start + 1) ops v ps ≡ Ok q → IsRead xs q rest
close_read xs rest ops [] v x q is h e = absurd (cc)
close_read xs rest ops (waits.Parenthesis column ∷ ps) v x q is h e =
    let w = h.waits in
    subst (λ r. IsRead xs r rest) (same _ _ e) (whole_operand xs ps h.before ops v (Group h.formula) (w.0 ∷ h.at) rest w.2 (w.0, x, h.at, w.1, is, refl, h.spelled) h.grouped refl h.made h.number)
close_read xs rest ops (waits.Operator op left column ∷ ps) v x q is h e = absurd (cc)
close_read xs rest ops (waits.Question test column ∷ ps) v x q is h e = absurd (cc)
close_read xs rest ops (waits.Colon test first column ∷ ps) v x q is h e = absurd (cc)

colon_read : (xs rest : List Lexed) (ops : List ExprOp) (ps : List Pending) (v : ℕ) (x : Lexed) (q : Parse) → x.token ≡ token.Colon → Operand 0 xs ps ops v (x ∷ rest) → take_colon (x.start + 1) ops v ps ≡ Ok q → IsRead xs q rest
colon_read xs rest ops [] v x q is h e = absurd (cc)
colon_read xs rest ops (waits.Parenthesis column ∷ ps) v x q is h e = absurd (cc)
colon_read xs rest ops (waits.Operator op left column ∷ ps) v x q is h e = absurd (cc)
colon_read xs rest ops (waits.Question test column ∷ ps) v x q is h e =
    let w = h.waits in
    let found : FirstOf (Waits xs ps) test v ps ops rest = record {
      before = w.before;
      test = w.formula;
      first = h.formula;
      at = w.at;
      between = h.at;
      question = w.question;
      colon = x;
      waits = w.waits;
      spelled_test = w.spelled;
      is_question = w.is_question;
      spelled_first = h.spelled;
      is_colon = is;
      grouped_test = w.grouped;
      grouped_first = h.grouped;
      tight = w.tight;
      admits = w.admits;
      made = h.made ∙ ap (λ k. after_all k h.formula) w.made;
      number_test = w.number;
      number_first = h.number ∙ ap (λ k. last k h.formula) w.made;
    } in
    subst (λ r. IsRead xs r rest) (same _ _ e) found
colon_read xs rest ops (waits.Colon test first column ∷ ps) v x q is h e = absurd (cc)

operator_read : (xs rest : List Lexed) (p : Parse) (v : ℕ) (x : Lexed) (t : Token) (q : Parse) → x.token ≡ t → Operand 8 xs p.pending p.ops v (x ∷ rest) → take_operator p v (x.start + 1) t ≡ Ok q → IsRead xs q rest
operator_read xs rest p v x (token.Number n) q is h e = absurd (cc)
operator_read xs rest p v x (token.Argument k) q is h e = absurd (cc)
operator_read xs rest p v x token.Open q is h e = absurd (cc)
operator_read xs rest p v x (token.Operator op) q is h e =
    let below = rank_below op in
    let c = ended_by (rank_of op) xs p v (x ∷ rest) (omega arith) h in
    let o = c.operand in
    let found : LeftOf (Waits xs (close (rank_of op) p.ops p.pending v).pending) op (close (rank_of op) p.ops p.pending v).value (close (rank_of op) p.ops p.pending v).pending (close (rank_of op) p.ops p.pending v).ops rest = record { before = o.before; formula = o.formula; at = o.at; sign = x; waits = o.waits; spelled = o.spelled; is_sign = is; grouped = o.grouped; tight = o.tight; admits = stopped_admits _ _ c.stopped; made = o.made; number = o.number } in
    subst (λ r. IsRead xs r rest) (same _ _ e) found
operator_read xs rest p v x token.Question q is h e =
    let c = ended_by 1 xs p v (x ∷ rest) (lit≤ tt) h in
    let o = c.operand in
    let found : TestOf (Waits xs (close 1 p.ops p.pending v).pending) (close 1 p.ops p.pending v).value (close 1 p.ops p.pending v).pending (close 1 p.ops p.pending v).ops rest = record { before = o.before; formula = o.formula; at = o.at; question = x; waits = o.waits; spelled = o.spelled; is_question = is; grouped = o.grouped; tight = o.tight; admits = choice_admitted _ c.stopped; made = o.made; number = o.number } in
    subst (λ r. IsRead xs r rest) (same _ _ e) found
operator_read xs rest p v x token.Colon q is h e = let c = ended_by 0 xs p v (x ∷ rest) (lit≤ tt) h in colon_read xs rest _ _ _ x q is c.operand e
operator_read xs rest p v x token.Close q is h e = let c = ended_by 0 xs p v (x ∷ rest) (lit≤ tt) h in close_read xs rest _ _ _ x q is c.operand e

token_read : (xs rest : List Lexed) (ops : List ExprOp) (ps : List Pending) (operand : Option ℕ) (x : Lexed) (q : Parse) → IsReadBy xs ops ps operand (x ∷ rest) → take_by (record { ops = ops; pending = ps; operand = operand }) operand (x.start + 1) x.token ≡ Ok q → IsRead xs q rest
token_read xs rest ops ps None x q h e = operand_read xs rest ops ps x x.token q refl h e
token_read xs rest ops ps (Some v) x q h e = operator_read xs rest (record { ops = ops; pending = ps; operand = Some v }) v x x.token q refl h e

-- ---- whole formulas

tokens_read : (xs ys : List Lexed) (p q : Parse) → IsRead xs p ys → run p ys ≡ Ok q → IsRead xs q []
tokens_read xs [] p q h e = subst (λ r. IsRead xs r []) (same _ _ e) h
tokens_read xs (y ∷ ys) p q h e = by_one (take p y) refl e (λ s. tokens_read xs ys s q)
  where
    by_one : (r : Result Parse FormulaError) → take p y ≡ r → and_then r (λ s. run s ys) ≡ Ok q → ((s : Parse) → IsRead xs s ys → run s ys ≡ Ok q → IsRead xs q []) → IsRead xs q []
    by_one (Ok s) f g later = later s (token_read xs ys p.ops p.pending p.operand y s h f) g
    by_one (Err w) f g later = absurd (cc)

pub record IsFormula (xs : List Lexed) (ops : List ExprOp) : Type 0 where
  pub formula : Formula
  pub spelled : IsSpelled formula xs []
  pub grouped : IsGrouped formula
  pub made : ops ≡ program formula

whole_read : (xs : List Lexed) (made : List ExprOp) (ps : List Pending) (v : ℕ) (ops : List ExprOp) → Operand 0 xs ps made v [] → Stopped ps 0 → ended made ps ≡ Ok ops → IsFormula xs ops
whole_read xs made [] v ops h stopped e =
    let w = h.waits in
    let same_ops : made ≡ ops = cc in
    record {
      formula = h.formula;
      spelled = subst (λ ys. IsSpelled h.formula ys []) (sym w.1) h.spelled;
      grouped = h.grouped;
      made = sym same_ops ∙ h.made ∙ ap (λ k. after_all k h.formula) w.0;
    }
whole_read xs made (waits.Parenthesis column ∷ ps) v ops h stopped e = absurd (cc)
whole_read xs made (waits.Operator op left column ∷ ps) v ops h stopped e = absurd (omega arith)
whole_read xs made (waits.Question test column ∷ ps) v ops h stopped e = absurd (cc)
whole_read xs made (waits.Colon test first column ∷ ps) v ops h stopped e = absurd (omega arith)

pub formula_found : (xs : List Lexed) (column : ℕ) (ops : List ExprOp) → concluded (run start xs) None column ≡ Ok ops → IsFormula xs ops
formula_found xs column ops e = by_run (run start xs) refl e
  where
    by_operand : (made : List ExprOp) (ps : List Pending) (operand : Option ℕ) → IsReadBy xs made ps operand [] → finish_by (record { ops = made; pending = ps; operand = operand }) column operand ≡ Ok ops → IsFormula xs ops
    by_operand made ps None h f = absurd (cc)
    by_operand made ps (Some v) h f =
        let c = ended_by 0 xs (record { ops = made; pending = ps; operand = Some v }) v [] (lit≤ tt) h in
        whole_read xs _ _ _ ops c.operand c.stopped f

    by_run : (r : Result Parse FormulaError) → run start xs ≡ r → concluded r None column ≡ Ok ops → IsFormula xs ops
    by_run (Ok p) f g = by_operand p.ops p.pending p.operand (tokens_read xs xs start p (refl, refl) f) g
    by_run (Err w) f g = absurd (cc)
