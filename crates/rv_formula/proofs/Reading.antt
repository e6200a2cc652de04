-- The tokens of a grouped formula are read to its program.
use Rattle.std.proofs.Common.{◌≡◌, ℕ, zero, suc, ◌+◌, ◌-◌, ◌<◌, ◌≤◌, ◌==◌, nat_le, Bool, true, false, if◌then◌else◌, List, [], ◌∷◌, ◌++◌, length, Option, Some, None, Result, Ok, Err, refl, arith, ap, sym, subst, ◌∙◌, lit<, lit≤, length-append, append_assoc}
use Rattle.std.proofs.lemmas.Bool.Decides.{nat_tests}
use Rattle.rv_expr.specs.declared.ops.BinOp.{BinOp}
use Rattle.rv_expr.specs.declared.ops.BinOp.TheVariants.{Add, Sub, Mul, And, Or, Xor, Shl, Shr, Sar, DivU, RemU, Ltu}
use Rattle.rv_expr.specs.declared.ops.ExprOp.{ExprOp}
use Rattle.rv_expr.specs.declared.ops.ExprOp.TheVariants.{Const, Arg, Bin, Pick}
use Rattle.rv_formula.specs.declared.parser.Pending.{Pending}
use Rattle.rv_formula.specs.declared.parser.Pending.TheVariants as waits
use Rattle.rv_formula.specs.declared.token.Lexed.{Lexed}
use Rattle.rv_formula.specs.declared.token.Token.{Token}
use Rattle.rv_formula.specs.declared.token.Token.TheVariants as token
use Rattle.rv_formula.specs.Formula.{Formula, Number, Argument, Group, Binary, Choice, IsSpelled, IsGrouped, rank_of, rank, size, program_from, program}
use Rattle.rv_formula.specs.Parsing.{Parse, start, Closed, ending, on_ending, close, take_by, take, and_then, run, wait_after, close_after, colon_after, end_after, concluded}

-- ---- programs

pub program_long : (i : ℕ) (f : Formula) → length (program_from i f) ≡ size f
program_long i (Number n) = refl
program_long i (Argument k) = refl
program_long i (Group f) = program_long i f
program_long i (Binary op l r) =
    let el = program_long i l in
    let er = program_long (i + size l) r in
    let last = Bin op (i + size l - 1) (i + size l + size r - 1) ∷ [] in
    let e1 = length-append (program_from i l) (program_from (i + size l) r ++ last) in
    let e2 = length-append (program_from (i + size l) r) last in
    omega arith
program_long i (Choice c x y) =
    let ec = program_long i c in
    let ex = program_long (i + size c) x in
    let ey = program_long (i + size c + size x) y in
    let last = Pick (i + size c - 1) (i + size c + size x - 1) (i + size c + size x + size y - 1) ∷ [] in
    let e1 = length-append (program_from i c) (program_from (i + size c) x ++ (program_from (i + size c + size x) y ++ last)) in
    let e2 = length-append (program_from (i + size c) x) (program_from (i + size c + size x) y ++ last) in
    let e3 = length-append (program_from (i + size c + size x) y) last in
    omega arith

pub size_some : (f : Formula) → 0 < size f
size_some (Number n) = lit< tt
size_some (Argument k) = lit< tt
size_some (Group f) = size_some f
size_some (Binary op l r) = omega arith
size_some (Choice c x y) = omega arith

pub rank_some : (op : BinOp) → 0 < rank_of op
rank_some Add = lit< tt
rank_some Sub = lit< tt
rank_some Mul = lit< tt
rank_some And = lit< tt
rank_some Or = lit< tt
rank_some Xor = lit< tt
rank_some Shl = lit< tt
rank_some Shr = lit< tt
rank_some Sar = lit< tt
rank_some DivU = lit< tt
rank_some RemU = lit< tt
rank_some Ltu = lit< tt

-- ---- what waits

-- an operand that binds so tightly may come next: what waits innermost binds less
abbrev pub Admits : List Pending → ℕ → Type 0
Admits [] k = Unit {0}
Admits (waits.Parenthesis column ∷ ps) k = Unit {0}
Admits (waits.Operator op left column ∷ ps) k = rank_of op < k
Admits (waits.Question test column ∷ ps) k = Unit {0}
Admits (waits.Colon test first column ∷ ps) k = Unit {0}

pub admits_more : (ps : List Pending) (k m : ℕ) → k ≤ m → Admits ps k → Admits ps m
admits_more [] k m le h = tt
admits_more (waits.Parenthesis column ∷ ps) k m le h = tt
admits_more (waits.Operator op left column ∷ ps) k m le h = omega arith
admits_more (waits.Question test column ∷ ps) k m le h = tt
admits_more (waits.Colon test first column ∷ ps) k m le h = tt

-- then an operator that binds so tightly ends nothing of it
stops : (k : ℕ) (ops : List ExprOp) (ps : List Pending) (v : ℕ) → 0 < k → Admits ps k → close k ops ps v ≡ record { ops = ops; pending = ps; value = v }
stops k ops [] v some h = refl
stops k ops (waits.Parenthesis column ∷ ps) v some h = refl
stops k ops (waits.Operator op left column ∷ ps) v some h =
    let above : nat_le k (rank_of op) ≡ false = grind (arith, nat_tests) in
    (λ i. on_ending (if above i then Some (Bin op left v, column) else None) (record { ops = ops; pending = waits.Operator op left column ∷ ps; value = v }) (λ o. close k (ops ++ o ∷ []) ps (length ops)))
stops k ops (waits.Question test column ∷ ps) v some h = refl
stops k ops (waits.Colon test first column ∷ ps) v some h =
    let above : (k == 0) ≡ false = grind (arith, nat_tests) in
    (λ i. on_ending (if above i then Some (Pick test first v, column) else None) (record { ops = ops; pending = waits.Colon test first column ∷ ps; value = v }) (λ o. close k (ops ++ o ∷ []) ps (length ops)))

-- ---- one token

takes : (p q : Parse) (x : Lexed) (t : Token) (xs : List Lexed) → x.token ≡ t → take_by p p.operand (x.start + 1) t ≡ Ok q → run p (x ∷ xs) ≡ run q xs
takes p q x t xs is e = ap (λ u. and_then (take_by p p.operand (x.start + 1) u) (λ r. run r xs)) is ∙ ap (λ r. and_then r (λ s. run s xs)) e

-- ---- formulas

abbrev before : List ExprOp → List Pending → Parse
before ops ps = record { ops = ops; pending = ps; operand = None }

abbrev after : List ExprOp → List Pending → ℕ → Parse
after ops ps v = record { ops = ops; pending = ps; operand = Some v }

-- the operations of a formula after others, and the number of its last one
abbrev pub after_all : List ExprOp → Formula → List ExprOp
after_all ops f = ops ++ program_from (length ops) f

abbrev pub last : List ExprOp → Formula → ℕ
last ops f = length ops + size f - 1

-- A formula's tokens were read. What binds at most as tightly as the formula does then ends all that is left of it, and finds its program.
pub record Fed (f : Formula) (xs rest : List Lexed) (ops : List ExprOp) (ps : List Pending) : Type 0 where
  pub made : List ExprOp
  pub left : List Pending
  pub value : ℕ
  pub fed : run (before ops ps) xs ≡ run (after made left value) rest
  pub ends : (least : ℕ) → least ≤ rank f → close least made left value ≡ close least (after_all ops f) ps (last ops f)

leaf_fed : (f : Formula) (op : ExprOp) (t : Token) (x : Lexed) (xs rest : List Lexed) (ops : List ExprOp) (ps : List Pending) → size f ≡ 1 → program_from (length ops) f ≡ op ∷ [] → x.token ≡ t → ((column : ℕ) → take_by (before ops ps) None column t ≡ Ok (after (ops ++ op ∷ []) ps (length ops))) → xs ≡ x ∷ rest → Fed f xs rest ops ps
leaf_fed f op t x xs rest ops ps one is_program is_token taken e = record {
  made = ops ++ op ∷ [];
  left = ps;
  value = length ops;
  fed = ap (run (before ops ps)) e ∙ takes (before ops ps) (after (ops ++ op ∷ []) ps (length ops)) x t rest is_token (taken (x.start + 1));
  ends = λ least le. let same : length ops ≡ last ops f = omega arith in (λ i. close least (ops ++ sym is_program i) ps (same i));
}

-- ---- the program of a formula of two, and of a choice, from those of its parts

after_long : (ops : List ExprOp) (f : Formula) → length (after_all ops f) ≡ length ops + size f
after_long ops f = length-append ops (program_from (length ops) f) ∙ ap (λ k. length ops + k) (program_long (length ops) f)

pub binary_joined : (op : BinOp) (l r : Formula) (ops : List ExprOp) → after_all (after_all ops l) r ++ Bin op (last ops l) (last (after_all ops l) r) ∷ [] ≡ after_all ops (Binary op l r)
binary_joined op l r ops =
    let n = length ops in
    let pl = program_from n l in
    let pr = program_from (n + size l) r in
    let end = Bin op (n + size l - 1) (n + size l + size r - 1) ∷ [] in
    let long = after_long ops l in
    (λ i. ((ops ++ pl) ++ program_from (long i) r) ++ Bin op (n + size l - 1) (long i + size r - 1) ∷ []) ∙ append_assoc (ops ++ pl) pr end ∙ append_assoc ops pl (pr ++ end)

pub binary_counted : (op : BinOp) (l r : Formula) (ops : List ExprOp) → length (after_all (after_all ops l) r) ≡ last ops (Binary op l r)
binary_counted op l r ops = let e1 = after_long (after_all ops l) r in let e2 = after_long ops l in omega arith

pub choice_joined : (c x y : Formula) (ops : List ExprOp) → after_all (after_all (after_all ops c) x) y ++ Pick (last ops c) (last (after_all ops c) x) (last (after_all (after_all ops c) x) y) ∷ [] ≡ after_all ops (Choice c x y)
choice_joined c x y ops =
    let n = length ops in
    let pc = program_from n c in
    let px = program_from (n + size c) x in
    let py = program_from (n + size c + size x) y in
    let end = Pick (n + size c - 1) (n + size c + size x - 1) (n + size c + size x + size y - 1) ∷ [] in
    let long = after_long ops c in
    let both : length ((ops ++ pc) ++ px) ≡ n + size c + size x = length-append (ops ++ pc) px ∙ (λ i. long i + program_long (n + size c) x i) in
    (λ i. (((ops ++ pc) ++ program_from (long i) x) ++ program_from (length ((ops ++ pc) ++ program_from (long i) x)) y) ++ Pick (n + size c - 1) (long i + size x - 1) (length ((ops ++ pc) ++ program_from (long i) x) + size y - 1) ∷ [])
    ∙ (λ i. (((ops ++ pc) ++ px) ++ program_from (both i) y) ++ Pick (n + size c - 1) (n + size c + size x - 1) (both i + size y - 1) ∷ [])
    ∙ append_assoc ((ops ++ pc) ++ px) py end ∙ append_assoc (ops ++ pc) px (py ++ end) ∙ append_assoc ops pc (px ++ (py ++ end))

pub choice_counted : (c x y : Formula) (ops : List ExprOp) → length (after_all (after_all (after_all ops c) x) y) ≡ last ops (Choice c x y)
choice_counted c x y ops = let e1 = after_long (after_all (after_all ops c) x) y in let e2 = after_long (after_all ops c) x in let e3 = after_long ops c in omega arith

-- ---- a formula of two, and a choice, from what its parts were read to

binary_ends : (least : ℕ) (op : BinOp) (l r : Formula) (ops : List ExprOp) (ps : List Pending) (column : ℕ) → least ≤ rank_of op →
    close least (after_all (after_all ops l) r) (waits.Operator op (last ops l) column ∷ ps) (last (after_all ops l) r) ≡ close least (after_all ops (Binary op l r)) ps (last ops (Binary op l r))
binary_ends least op l r ops ps column le = one (after_all (after_all ops l) r) (last ops l) (last (after_all ops l) r) ∙ (λ i. close least (binary_joined op l r ops i) ps (binary_counted op l r ops i))
  where
    tight : nat_le least (rank_of op) ≡ true
    tight = grind (arith, nat_tests)

    one : (m : List ExprOp) (left v : ℕ) → close least m (waits.Operator op left column ∷ ps) v ≡ close least (m ++ Bin op left v ∷ []) ps (length m)
    one m left v = λ i. on_ending (if tight i then Some (Bin op left v, column) else None) (record { ops = m; pending = waits.Operator op left column ∷ ps; value = v }) (λ o. close least (m ++ o ∷ []) ps (length m))

choice_ends : (c x y : Formula) (ops : List ExprOp) (ps : List Pending) (column : ℕ) →
    close 0 (after_all (after_all (after_all ops c) x) y) (waits.Colon (last ops c) (last (after_all ops c) x) column ∷ ps) (last (after_all (after_all ops c) x) y) ≡ close 0 (after_all ops (Choice c x y)) ps (last ops (Choice c x y))
choice_ends c x y ops ps column = λ i. close 0 (choice_joined c x y ops i) ps (choice_counted c x y ops i)

-- ---- every formula

-- a formula is read after what admits it
abbrev Feeds : Formula → Type 0
Feeds f = (xs rest : List Lexed) (ops : List ExprOp) (ps : List Pending) → IsSpelled f xs rest → IsGrouped f → Admits ps (rank f) → Fed f xs rest ops ps

group_fed : (f : Formula) → Feeds f → Feeds (Group f)
group_fed f inside xs rest ops ps (first, final, inner, is_open, is_close, e, spelled) grouped admits =
    let inner_fed = inside inner (final ∷ rest) ops (waits.Parenthesis (first.start + 1) ∷ ps) spelled grouped tt in
    let opened = takes (before ops ps) (before ops (waits.Parenthesis (first.start + 1) ∷ ps)) first token.Open inner is_open refl in
    let shut = takes (after inner_fed.made inner_fed.left inner_fed.value) (after (after_all ops f) ps (last ops f)) final token.Close rest is_close (ap (close_after (final.start + 1)) (inner_fed.ends 0 (omega arith))) in
    record {
      made = after_all ops f;
      left = ps;
      value = last ops f;
      fed = ap (run (before ops ps)) e ∙ opened ∙ inner_fed.fed ∙ shut;
      ends = λ least le. refl;
    }

binary_fed : (op : BinOp) (l r : Formula) → Feeds l → Feeds r → Feeds (Binary op l r)
binary_fed op l r on_left on_right xs rest ops ps (sign, right, is_sign, spelled_left, spelled_right) (looser, tighter, grouped_left, grouped_right) admits =
    let a = on_left xs (sign ∷ right) ops ps spelled_left grouped_left (admits_more ps (rank_of op) (rank l) looser admits) in
    let waiting = waits.Operator op (last ops l) (sign.start + 1) ∷ ps in
    let stopped = a.ends (rank_of op) looser ∙ stops (rank_of op) (after_all ops l) ps (last ops l) (rank_some op) admits in
    let signed = takes (after a.made a.left a.value) (before (after_all ops l) waiting) sign (token.Operator op) right is_sign (ap (λ c. wait_after c (λ left. waits.Operator op left (sign.start + 1))) stopped) in
    let b = on_right right rest (after_all ops l) waiting spelled_right grouped_right tighter in
    record {
      made = b.made;
      left = b.left;
      value = b.value;
      fed = a.fed ∙ signed ∙ b.fed;
      ends = λ least le. b.ends least (omega arith) ∙ binary_ends least op l r ops ps (sign.start + 1) le;
    }

choice_fed : (c x y : Formula) → Feeds c → Feeds x → Feeds y → Feeds (Choice c x y)
choice_fed c x y on_test on_first on_second xs rest ops ps (question, colon, first, second, is_question, is_colon, spelled_test, spelled_first, spelled_second) (tight, grouped_test, grouped_first, grouped_second) admits =
    let a = on_test xs (question ∷ first) ops ps spelled_test grouped_test (admits_more ps 0 (rank c) (omega arith) admits) in
    let asked = waits.Question (last ops c) (question.start + 1) ∷ ps in
    let stopped = a.ends 1 tight ∙ stops 1 (after_all ops c) ps (last ops c) (lit< tt) (admits_more ps 0 1 (lit≤ tt) admits) in
    let at_question = takes (after a.made a.left a.value) (before (after_all ops c) asked) question token.Question first is_question (ap (λ d. wait_after d (λ test. waits.Question test (question.start + 1))) stopped) in
    let b = on_first first (colon ∷ second) (after_all ops c) asked spelled_first grouped_first tt in
    let chosen = waits.Colon (last ops c) (last (after_all ops c) x) (colon.start + 1) ∷ ps in
    let at_colon = takes (after b.made b.left b.value) (before (after_all (after_all ops c) x) chosen) colon token.Colon second is_colon (ap (colon_after (colon.start + 1)) (b.ends 0 (omega arith))) in
    let d = on_second second rest (after_all (after_all ops c) x) chosen spelled_second grouped_second tt in
    record {
      made = d.made;
      left = d.left;
      value = d.value;
      fed = a.fed ∙ at_question ∙ b.fed ∙ at_colon ∙ d.fed;
      ends = λ least le. let none : least ≡ 0 = omega arith in subst (λ k. close k d.made d.left d.value ≡ close k (after_all ops (Choice c x y)) ps (last ops (Choice c x y))) (sym none) (d.ends 0 (omega arith) ∙ choice_ends c x y ops ps (colon.start + 1));
    }

formula_fed : (f : Formula) → Feeds f
formula_fed (Number n) xs rest ops ps (x, is, e) grouped admits = leaf_fed (Number n) (Const n) (token.Number n) x xs rest ops ps refl refl is (λ column. refl) e
formula_fed (Argument k) xs rest ops ps (x, is, e) grouped admits = leaf_fed (Argument k) (Arg k) (token.Argument k) x xs rest ops ps refl refl is (λ column. refl) e
formula_fed (Group f) xs rest ops ps spelled grouped admits = group_fed f (formula_fed f) xs rest ops ps spelled grouped admits
formula_fed (Binary op l r) xs rest ops ps spelled grouped admits = binary_fed op l r (formula_fed l) (formula_fed r) xs rest ops ps spelled grouped admits
formula_fed (Choice c x y) xs rest ops ps spelled grouped admits = choice_fed c x y (formula_fed c) (formula_fed x) (formula_fed y) xs rest ops ps spelled grouped admits

-- ---- whole formulas

pub formula_read : (f : Formula) (xs : List Lexed) (column : ℕ) → IsSpelled f xs [] → IsGrouped f → concluded (run start xs) None column ≡ Ok (program f)
formula_read f xs column spelled grouped =
    let a = formula_fed f xs [] [] [] spelled grouped tt in
    ap (λ r. concluded r None column) a.fed ∙ ap end_after (a.ends 0 (omega arith))
