-- What is left where closing stops for an error.
use Rattle.std.proofs.Common.{◌≡◌, ℕ, ◌+◌, ◌<◌, ◌≤◌, List, [], ◌∷◌, ◌++◌, length, Option, Some, None, Result, Ok, Err, refl, arith, ap, sym, subst, ◌∙◌, length-append}
use Rattle.rv_expr.specs.declared.ops.ExprOp.{ExprOp}
use Rattle.rv_formula.specs.declared.error.FormulaError.{FormulaError}
use Rattle.rv_formula.specs.declared.error.FormulaError.TheVariants as error
use Rattle.rv_formula.specs.declared.parser.Pending.{Pending}
use Rattle.rv_formula.specs.Parsing.{Closed, ending, on_ending, close, Puts, Closes, waiting_count}
use Rattle.rv_formula.proofs.Counts.{total, close_keeps}

one_ended : (least : ℕ) (ops : List ExprOp) (ps rest : List Pending) (v : ℕ) (p : Pending) (op : ExprOp) (column : ℕ) → ps ≡ p ∷ rest → ending least p v ≡ Some (op, column) → close least ops ps v ≡ close least (ops ++ op ∷ []) rest (length ops)
one_ended least ops ps rest v p op column e f = ap (λ q. close least ops q v) e ∙ ap (λ o. on_ending o (record { ops = ops; pending = p ∷ rest; value = v }) (λ x. close least (ops ++ x ∷ []) rest (length ops))) f

fails : (w : FormulaError) (old new made : List ExprOp) (left : List Pending) (op : ExprOp) (c : Closed) (asked : ℕ) → Puts (Err w) old new op → length old < asked → Closes (Err w) made left c asked
fails error.OutOfMemory old new made left op c asked h le = tt
fails (error.Unknown column) old new made left op c asked h le = h
fails (error.NoOperand column) old new made left op c asked h le = h
fails (error.NoOperator column) old new made left op c asked h le = h
fails (error.NotClosed column) old new made left op c asked h le = h
fails (error.NotOpened column) old new made left op c asked h le = h
fails (error.NoColon column) old new made left op c asked h le = h
fails (error.NoQuestion column) old new made left op c asked h le = h
fails (error.TooLong column) old new made left op c asked h le = omega arith

-- the operation of an operand that ends something isn't put
pub put_exit : (result : Result ℕ FormulaError) (w : FormulaError) (least : ℕ) (ops new made ops_before : List ExprOp) (ps rest left ps_before : List Pending) (v v_before : ℕ) (p : Pending) (op : ExprOp) (column : ℕ) → result ≡ Err w → close least ops ps v ≡ close least ops_before ps_before v_before → ps ≡ p ∷ rest → ending least p v ≡ Some (op, column) → Puts (Err w) ops new op →
    Closes result made left (close least ops_before ps_before v_before) (length ops_before + waiting_count ps_before)
put_exit result w least ops new made ops_before ps rest left ps_before v v_before p op column is invariant front ends h =
    let same = ap total (sym (one_ended least ops ps rest v p op column front ends) ∙ invariant) in
    let one = length-append ops (op ∷ []) in
    let keeps = close_keeps least (ops ++ op ∷ []) rest (length ops) in
    let keeps_before = close_keeps least ops_before ps_before v_before in
    let more : length ops < length ops_before + waiting_count ps_before = omega arith in
    subst (λ r. Closes r made left (close least ops_before ps_before v_before) (length ops_before + waiting_count ps_before)) (sym is) (fails w ops new made left op (close least ops_before ps_before v_before) (length ops_before + waiting_count ps_before) h more)
