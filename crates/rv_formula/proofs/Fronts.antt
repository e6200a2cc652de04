-- The tokens of a text: there is one list of them, so what was read of some is read of all.
use Rattle.std.proofs.Common.{◌≡◌, ℕ, ◌+◌, ◌<◌, ◌≤◌, Bool, true, false, if◌then◌else◌, arith, List, [], ◌∷◌, ◌++◌, length, Option, Some, None, Result, Ok, Err, refl, ap, sym, subst, ◌∙◌}
use Rattle.std.specs.Prelude.{IfOk}
use Rattle.rv_expr.specs.declared.ops.ExprOp.{ExprOp}
use Rattle.rv_expr.specs.Value.{value}
use Rattle.rv_formula.specs.declared.error.FormulaError.{FormulaError}
use Rattle.rv_formula.specs.declared.error.FormulaError.TheVariants as error
use Rattle.rv_formula.specs.declared.token.Lexed.{Lexed}
use Rattle.rv_formula.specs.declared.token.Token.{Token}
use Rattle.rv_formula.specs.Formula.{Formula, Reads, Gives, IsProgramOf, size, program}
use Rattle.rv_formula.specs.Parsing.{Parse, start, take, and_then, run, finish, stop_of, concluded, Takes, Finishes, weight, weights, count, HasFront, IsExact, IsSoFar, IsAll, NoFormulaBeginsSo}
use Rattle.rv_formula.specs.Token.{next_of, lexed, HasTokens}
use Rattle.rv_formula.proofs.Found.{formula_found}
use Rattle.rv_formula.proofs.Counts.{run_counts, weights_both, formula_weighs}
use Rattle.rv_formula.proofs.Meanings.{program_means}
use Rattle.rv_formula.proofs.Reading.{formula_read}

no_token : (text : List ℕ) (at : ℕ) (stop : Option FormulaError) (x : Lexed) → next_of text at ≡ stop_of stop → next_of text at ≡ Ok (Some x) → ⊥
no_token text at None x e f = absurd (cc)
no_token text at (Some w) x e f = absurd (cc)

-- where these were read, up to where others stop, those go on with them
pub record GoesOn (text : List ℕ) (xs ys : List Lexed) (at end : ℕ) : Type 0 where
  pub rest : List Lexed
  pub is : ys ≡ xs ++ rest
  pub front : HasFront text at rest end

pub goes_on : (text : List ℕ) (from at end : ℕ) (stop : Option FormulaError) (xs ys : List Lexed) → HasFront text from xs at → HasFront text from ys end → next_of text end ≡ stop_of stop → GoesOn text xs ys at end
goes_on text from at end stop [] ys f g e = record { rest = ys; is = refl; front = subst (λ k. HasFront text k ys end) f g }
goes_on text from at end stop (x ∷ xs) [] f g e = absurd (no_token text end stop x e (subst (λ k. next_of text k ≡ Ok (Some x)) g f.0))
goes_on text from at end stop (x ∷ xs) (y ∷ ys) f g e =
    let same : x ≡ y = let one = f.0 in let other = g.0 in cc in
    let more = goes_on text x.end at end stop xs ys f.1 (subst (λ k. HasFront text k ys end) (ap (λ (l : Lexed). l.end) (sym same)) g.1) e in
    record { rest = more.rest; is = (λ i. sym same i ∷ more.is i); front = more.front }

run_both : (p : Parse) (xs ys : List Lexed) → run p (xs ++ ys) ≡ and_then (run p xs) (λ q. run q ys)
run_both p [] ys = refl
run_both p (x ∷ xs) ys = by_one (take p x) (λ q. run_both q xs ys)
  where
    by_one : (r : Result Parse FormulaError) → ((q : Parse) → run q (xs ++ ys) ≡ and_then (run q xs) (λ s. run s ys)) → and_then r (λ q. run q (xs ++ ys)) ≡ and_then (and_then r (λ q. run q xs)) (λ q. run q ys)
    by_one (Ok q) later = later q
    by_one (Err e) later = refl

-- all tokens are read from what some were read to
pub read_on : (text : List ℕ) (at end : ℕ) (stop : Option FormulaError) (ys : List Lexed) (p : Parse) (h : IsSoFar text at p) → (g : GoesOn text h.tokens ys at end) → run start ys ≡ run p g.rest
read_on text at end stop ys p h g = ap (run start) g.is ∙ run_both start h.tokens g.rest ∙ ap (λ r. and_then r (λ q. run q g.rest)) h.read

-- ---- one token more

front_more : (text : List ℕ) (from at : ℕ) (xs : List Lexed) (x : Lexed) → HasFront text from xs at → next_of text at ≡ Ok (Some x) → HasFront text from (xs ++ x ∷ []) x.end
front_more text from at [] x f e = (subst (λ k. next_of text k ≡ Ok (Some x)) (sym f) e, refl)
front_more text from at (y ∷ xs) x f e = (f.0, front_more text y.end at xs x f.1 e)

pub one_more : (text : List ℕ) (at : ℕ) (p q : Parse) (x : Lexed) → IsSoFar text at p → next_of text at ≡ Ok (Some x) → take p x ≡ Ok q → IsSoFar text x.end q
one_more text at p q x h e taken = record {
  tokens = h.tokens ++ x ∷ [];
  front = front_more text 0 at h.tokens x h.front e;
  read = run_both start h.tokens (x ∷ []) ∙ ap (λ r. and_then r (λ s. run s (x ∷ []))) h.read ∙ ap (λ r. and_then r (λ s. run s [])) taken;
}

-- ---- the end

has_tokens : (text : List ℕ) (from at : ℕ) (xs : List Lexed) → HasFront text from xs at → next_of text at ≡ Ok None → HasTokens text from xs
has_tokens text from at [] f e = subst (λ k. next_of text k ≡ Ok None) (sym f) e
has_tokens text from at (x ∷ xs) f e = (f.0, has_tokens text x.end at xs f.1 e)

pub is_all : (text : List ℕ) (at : ℕ) (p : Parse) (ops : List ExprOp) → IsSoFar text at p → next_of text at ≡ Ok None → finish p (length text + 1) ≡ Ok ops → IsAll text ops
is_all text at p ops h e f = record { tokens = h.tokens; text_has = has_tokens text 0 at h.tokens h.front e; read = ap (λ r. concluded r None (length text + 1)) h.read ∙ f }

-- where the tokens of the text end, too
ends_there : (text : List ℕ) (at end : ℕ) (stop other : Option FormulaError) (rest : List Lexed) → next_of text at ≡ stop_of stop → HasFront text at rest end → next_of text end ≡ stop_of other → (rest ≡ []) × (stop_of stop ≡ stop_of other)
ends_there text at end stop other [] e f g = (refl, sym e ∙ ap (next_of text) f ∙ g)
ends_there text at end stop other (x ∷ rest) e f g = absurd (no_token text at stop x e f.0)

same_stop : (stop other : Option FormulaError) → stop_of stop ≡ stop_of other → stop ≡ other
same_stop None None e = refl
same_stop None (Some w) e = absurd (cc)
same_stop (Some w) None e = absurd (cc)
same_stop (Some w) (Some u) e = cc

-- where more operations are asked for
finishes_more : {X : Type 0} (items : X → List ExprOp) (result : Result X FormulaError) (read : Result (List ExprOp) FormulaError) (n m : ℕ) → n ≤ m → Finishes items result read n → Finishes items result read m
finishes_more items (Ok x) read n m le h = h
finishes_more items (Err error.OutOfMemory) read n m le h = h
finishes_more items (Err (error.Unknown c)) read n m le h = h
finishes_more items (Err (error.NoOperand c)) read n m le h = h
finishes_more items (Err (error.NoOperator c)) read n m le h = h
finishes_more items (Err (error.NotClosed c)) read n m le h = h
finishes_more items (Err (error.NotOpened c)) read n m le h = h
finishes_more items (Err (error.NoColon c)) read n m le h = h
finishes_more items (Err (error.NoQuestion c)) read n m le h = h
finishes_more items (Err (error.TooLong c)) read n m le h = omega arith

pub exact_at_end : {X : Type 0} (items : X → List ExprOp) (result : Result X FormulaError) (text : List ℕ) (at : ℕ) (stop : Option FormulaError) (p : Parse) → IsSoFar text at p → next_of text at ≡ stop_of stop → Finishes items result (concluded (Ok p) stop (length text + 1)) (count p) → IsExact items result text
exact_at_end items result text at stop p h e finished ys end other front f =
    let g = goes_on text 0 at end other h.tokens ys h.front front f in
    let t = ends_there text at end stop other g.rest e g.front f in
    let all : run start ys ≡ Ok p = read_on text at end other ys p h g ∙ ap (run p) t.0 in
    let counted = run_counts start p ys all in
    finishes_more items result (concluded (run start ys) other (length text + 1)) (count p) (weights ys) (omega arith)
    (subst (λ r. Finishes items result (concluded r other (length text + 1)) (count p)) (sym all) (subst (λ s. Finishes items result (concluded (Ok p) s (length text + 1)) (count p)) (same_stop stop other t.1) finished))

-- ---- a token that can't be taken

finishes_from : {X : Type 0} (items : X → List ExprOp) (w : FormulaError) (new : Parse) (r : Result Parse FormulaError) (rest : List Lexed) (stop : Option FormulaError) (column asked all : ℕ) → asked ≤ all → Takes (Err w) new r asked → Finishes items (Err w) (concluded (and_then r (λ q. run q rest)) stop column) all
finishes_from items error.OutOfMemory new r rest stop column asked all le t = tt
finishes_from items (error.Unknown c) new r rest stop column asked all le t = ap (λ s. concluded (and_then s (λ q. run q rest)) stop column) t
finishes_from items (error.NoOperand c) new r rest stop column asked all le t = ap (λ s. concluded (and_then s (λ q. run q rest)) stop column) t
finishes_from items (error.NoOperator c) new r rest stop column asked all le t = ap (λ s. concluded (and_then s (λ q. run q rest)) stop column) t
finishes_from items (error.NotClosed c) new r rest stop column asked all le t = ap (λ s. concluded (and_then s (λ q. run q rest)) stop column) t
finishes_from items (error.NotOpened c) new r rest stop column asked all le t = ap (λ s. concluded (and_then s (λ q. run q rest)) stop column) t
finishes_from items (error.NoColon c) new r rest stop column asked all le t = ap (λ s. concluded (and_then s (λ q. run q rest)) stop column) t
finishes_from items (error.NoQuestion c) new r rest stop column asked all le t = ap (λ s. concluded (and_then s (λ q. run q rest)) stop column) t
finishes_from items (error.TooLong c) new r rest stop column asked all le t = omega arith

pub exact_at_token : {X : Type 0} (items : X → List ExprOp) (text : List ℕ) (at : ℕ) (p new : Parse) (x : Lexed) (w : FormulaError) → IsSoFar text at p → next_of text at ≡ Ok (Some x) → Takes (Err w) new (take p x) (count p + weight x.token) → IsExact items (Err w) text
exact_at_token items text at p new x w h e t ys end stop front f =
    let g = goes_on text 0 at end stop h.tokens ys h.front front f in
    let counted = run_counts start p h.tokens h.read in
    let all = ap weights g.is ∙ weights_both h.tokens g.rest in
    of_rest g.rest g.front (read_on text at end stop ys p h g) (omega arith)
  where
    of_rest : (rest : List Lexed) → HasFront text at rest end → run start ys ≡ run p rest → count p + weights rest ≤ weights ys → Finishes items (Err w) (concluded (run start ys) stop (length text + 1)) (weights ys)
    of_rest [] there all le = absurd (no_token text end stop x f (subst (λ k. next_of text k ≡ Ok (Some x)) there e))
    of_rest (y ∷ rest) there all le =
        let one = there.0 in
        let same : x ≡ y = cc in
        subst (λ r. Finishes items (Err w) (concluded r stop (length text + 1)) (weights ys)) (sym all)
        (subst (λ z. count p + (weight z.token + weights rest) ≤ weights ys → Finishes items (Err w) (concluded (and_then (take p z) (λ q. run q rest)) stop (length text + 1)) (weights ys)) same
        (λ few. finishes_from items w new (take p x) rest stop (length text + 1) (count p + weight x.token) (weights ys) (omega arith) t) le)

-- ---- formulas

pub program_found : (text : List ℕ) (ops : List ExprOp) → IsAll text ops → IsProgramOf text ops
program_found text ops h =
    let f = formula_found h.tokens (length text + 1) ops h.read in
    record { formula = f.formula; reads = record { tokens = h.tokens; text_has = h.text_has; spelled = f.spelled; grouped = f.grouped }; made = f.made; means = λ args. ap (λ k. value k args) f.made ∙ program_means f.formula args }

record FrontOf (text : List ℕ) (from : ℕ) (xs : List Lexed) : Type 0 where
  end : ℕ
  front : HasFront text from xs end
  stop : next_of text end ≡ Ok None

front_of : (text : List ℕ) (from : ℕ) (xs : List Lexed) → HasTokens text from xs → FrontOf text from xs
front_of text from [] h = record { end = from; front = refl; stop = h }
front_of text from (x ∷ xs) h = let more = front_of text x.end xs h.1 in record { end = more.end; front = (h.0, more.front); stop = more.stop }

gives_of : {X : Type 0} (items : X → List ExprOp) (result : Result X FormulaError) (f : Formula) (r : Result (List ExprOp) FormulaError) (asked : ℕ) → r ≡ Ok (program f) → asked ≡ size f → Finishes items result r asked → Gives items result f
gives_of items (Ok x) f r asked e weighs h = same (items x) (program f) (sym h ∙ e)
  where
    ok : List ExprOp → Result (List ExprOp) FormulaError
    ok ops = Ok ops

    same : (a b : List ExprOp) → ok a ≡ ok b → a ≡ b
    same a b e = cc
gives_of items (Err error.OutOfMemory) f r asked e weighs h = tt
gives_of items (Err (error.Unknown c)) f r asked e weighs h = absurd (cc)
gives_of items (Err (error.NoOperand c)) f r asked e weighs h = absurd (cc)
gives_of items (Err (error.NoOperator c)) f r asked e weighs h = absurd (cc)
gives_of items (Err (error.NotClosed c)) f r asked e weighs h = absurd (cc)
gives_of items (Err (error.NotOpened c)) f r asked e weighs h = absurd (cc)
gives_of items (Err (error.NoColon c)) f r asked e weighs h = absurd (cc)
gives_of items (Err (error.NoQuestion c)) f r asked e weighs h = absurd (cc)
gives_of items (Err (error.TooLong c)) f r asked e weighs h = omega arith

pub formulas_given : {X : Type 0} (items : X → List ExprOp) (result : Result X FormulaError) (text : List ℕ) → IsExact items result text → (f : Formula) → Reads text f → Gives items result f
formulas_given items result text exact f h =
    let t = front_of text 0 h.tokens h.text_has in
    let weighs = formula_weighs f h.tokens [] h.spelled in
    gives_of items result f _ (weights h.tokens) (formula_read f h.tokens (length text + 1) h.spelled h.grouped) (omega arith) (exact h.tokens t.end None t.front t.stop)

-- ---- what a reader of a text returns

-- a byte with which no token begins is the error
unknown_lexed : (at : ℕ) (o : Option (Token × ℕ)) (w : FormulaError) → lexed at o ≡ Err w → w ≡ error.Unknown (at + 1)
unknown_lexed at None w e = cc
unknown_lexed at (Some (t, n)) w e = absurd (cc)

unknown_token : (b : Bool) (at : ℕ) (o : Option (Token × ℕ)) (w : FormulaError) → (if b then Ok None else lexed at o) ≡ Err w → w ≡ error.Unknown (at + 1)
unknown_token true at o w e = absurd (cc)
unknown_token false at o w e = unknown_lexed at o w e

itself : {X : Type 0} (items : X → List ExprOp) (w : FormulaError) (column n : ℕ) → w ≡ error.Unknown column → Finishes items (Err w) (Err w) n
itself items w column n e = subst (λ u. Finishes items (Err u) (Err u) n) (sym e) refl

pub no_token_exit : {X : Type 0} (items : X → List ExprOp) (result : Result X FormulaError) (text : List ℕ) (at : ℕ) (p : Parse) (w : FormulaError) → result ≡ Err w → IsSoFar text at p → next_of text at ≡ Err w → IsExact items result text
no_token_exit items result text at p w is h e =
    subst (λ r. IsExact items r text) (sym is) (exact_at_end items (Err w) text at (Some w) p h e (itself items w _ (count p) (unknown_token _ _ _ w e)))

pub wrong_token_exit : {X : Type 0} (items : X → List ExprOp) (result : Result X FormulaError) (text : List ℕ) (at : ℕ) (p new : Parse) (x : Lexed) (w : FormulaError) → result ≡ Err w → IsSoFar text at p → next_of text at ≡ Ok (Some x) → Takes (Err w) new (take p x) (count p + weight x.token) → IsExact items result text
wrong_token_exit items result text at p new x w is h e t = subst (λ r. IsExact items r text) (sym is) (exact_at_token items text at p new x w h e t)

pub all_of : {X : Type 0} (items : X → List ExprOp) (result : Result X FormulaError) (text : List ℕ) (at : ℕ) (p : Parse) → IsSoFar text at p → next_of text at ≡ Ok None → Finishes items result (finish p (length text + 1)) (count p) → IfOk result (λ x. IsAll text (items x))
all_of items (Ok x) text at p h e f = is_all text at p (items x) h e f
all_of items (Err w) text at p h e f = tt

-- ---- errors

pub no_formula_begins_so : NoFormulaBeginsSo
no_formula_begins_so f xs ys e failed spelled grouped =
    let all = run_both start xs ys ∙ ap (λ r. and_then r (λ q. run q ys)) failed in
    let wrong = ap (λ r. concluded r None 0) all in
    let right = formula_read f (xs ++ ys) 0 spelled grouped in
    differ (concluded (run start (xs ++ ys)) None 0) wrong right
  where
    differ : (r : Result (List ExprOp) FormulaError) → r ≡ Err e → r ≡ Ok (program f) → ⊥
    differ r g h = absurd (cc)
