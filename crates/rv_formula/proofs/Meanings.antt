-- A formula's program computes what the formula means.
use Rattle.std.proofs.Common.{◌≡◌, ℕ, ◌+◌, ◌-◌, ◌*◌, ◌%◌, ◌^◌, ◌<◌, ◌≤◌, ◌==◌, if◌then◌else◌, List, [], ◌∷◌, ◌++◌, length, slice_index, refl, arith, ap, sym, subst, ◌∙◌, length-append, append_assoc}
use Rattle.std.proofs.Math.ListN.{get_or-append}
use Rattle.std.proofs.Math.Seq.{get_or-append_seam}
use Rattle.rv_expr.specs.declared.ops.BinOp.{BinOp}
use Rattle.rv_expr.specs.declared.ops.ExprOp.{ExprOp}
use Rattle.rv_expr.specs.declared.ops.ExprOp.TheVariants.{Const, Arg, Bin, Pick}
use Rattle.rv_expr.specs.Value.{binary, value, value_of, values_after}
use Rattle.rv_formula.specs.Formula.{Formula, Number, Argument, Group, Binary, Choice, size, program_from, program, meaning}
use Rattle.rv_formula.proofs.Reading.{program_long, size_some}

values_both : (args known : List ℕ) (ops more : List ExprOp) → values_after args known (ops ++ more) ≡ values_after args (values_after args known ops) more
values_both args known [] more = refl
values_both args known (op ∷ ops) more = values_both args (known ++ value_of args known op ∷ []) ops more

-- after known values, the formula's program adds as many as it has operations, the last of which is what the formula means
record Adds (args known : List ℕ) (f : Formula) : Type 0 where
  values : List ℕ
  is : values_after args known (program_from (length known) f) ≡ known ++ values
  long : length values ≡ size f
  last : slice_index (known ++ values) (length known + size f - 1) ≡ meaning args f

leaf_adds : (args known : List ℕ) (f : Formula) (v : ℕ) → values_after args known (program_from (length known) f) ≡ known ++ v ∷ [] → size f ≡ 1 → v ≡ meaning args f → Adds args known f
leaf_adds args known f v is one means =
    let at : length known + size f - 1 ≡ length known = omega arith in
    record { values = v ∷ []; is = is; long = sym one; last = ap (slice_index (known ++ v ∷ [])) at ∙ get_or-append_seam known v [] 0 ∙ means }

-- a value stays where it is as more come
stays : (known more : List ℕ) (j x : ℕ) → j < length known → slice_index known j ≡ x → slice_index (known ++ more) j ≡ x
stays known more j x below e = get_or-append known more 0 j below ∙ e

binary_adds : (args known : List ℕ) (op : BinOp) (l r : Formula) → Adds args known l → ((k : List ℕ) → Adds args k r) → Adds args known (Binary op l r)
binary_adds args known op l r a on =
    let k1 = known ++ a.values in
    let b = on k1 in
    let k2 = k1 ++ b.values in
    let long_a = a.long in
    let long_b = b.long in
    let some_l = size_some l in
    let some_r = size_some r in
    let e1 = length-append known a.values in
    let e2 = length-append k1 b.values in
    let long1 : length k1 ≡ length known + size l = omega arith in
    let long2 : length k2 ≡ length known + size l + size r = omega arith in
    let x = meaning args l in
    let y = meaning args r in
    let first : slice_index k2 (length known + size l - 1) ≡ x = stays k1 b.values (length known + size l - 1) x (omega arith) a.last in
    let at_second : length k1 + size r - 1 ≡ length known + size l + size r - 1 = omega arith in
    let second : slice_index k2 (length known + size l + size r - 1) ≡ y = ap (slice_index k2) (sym at_second) ∙ b.last in
    let end = Bin op (length known + size l - 1) (length known + size l + size r - 1) in
    let pr_is : values_after args k1 (program_from (length known + size l) r) ≡ k2 = (λ i. values_after args k1 (program_from (sym long1 i) r)) ∙ b.is in
    let all : values_after args known (program_from (length known) (Binary op l r)) ≡ k2 ++ value_of args k2 end ∷ [] =
    values_both args known (program_from (length known) l) (program_from (length known + size l) r ++ end ∷ [])
    ∙ ap (λ k. values_after args k (program_from (length known + size l) r ++ end ∷ [])) a.is
    ∙ values_both args k1 (program_from (length known + size l) r) (end ∷ [])
    ∙ ap (λ k. values_after args k (end ∷ [])) pr_is in
    let v = binary op x y in
    let made : value_of args k2 end ≡ v = (λ i. binary op (first i) (second i)) in
    let at_last : length known + size (Binary op l r) - 1 ≡ length k2 = omega arith in
    let joined : k2 ++ v ∷ [] ≡ known ++ (a.values ++ (b.values ++ v ∷ [])) = append_assoc k1 b.values (v ∷ []) ∙ append_assoc known a.values (b.values ++ v ∷ []) in
    let e3 = length-append a.values (b.values ++ v ∷ []) in
    let e4 = length-append b.values (v ∷ []) in
    record {
      values = a.values ++ (b.values ++ v ∷ []);
      is = all ∙ ap (λ w. k2 ++ w ∷ []) made ∙ joined;
      long = omega arith;
      last = ap (λ k. slice_index k (length known + size (Binary op l r) - 1)) (sym joined) ∙ ap (slice_index (k2 ++ v ∷ [])) at_last ∙ get_or-append_seam k2 v [] 0;
    }

choice_adds : (args known : List ℕ) (c x y : Formula) → Adds args known c → ((k : List ℕ) → Adds args k x) → ((k : List ℕ) → Adds args k y) → Adds args known (Choice c x y)
choice_adds args known c x y a on_x on_y =
    let k1 = known ++ a.values in
    let b = on_x k1 in
    let k2 = k1 ++ b.values in
    let d = on_y k2 in
    let k3 = k2 ++ d.values in
    let long_a = a.long in
    let long_b = b.long in
    let long_d = d.long in
    let some_c = size_some c in
    let some_x = size_some x in
    let some_y = size_some y in
    let e1 = length-append known a.values in
    let e2 = length-append k1 b.values in
    let e3 = length-append k2 d.values in
    let long1 : length k1 ≡ length known + size c = omega arith in
    let long2 : length k2 ≡ length known + size c + size x = omega arith in
    let long3 : length k3 ≡ length known + size c + size x + size y = omega arith in
    let at_c = length known + size c - 1 in
    let at_x = length known + size c + size x - 1 in
    let at_y = length known + size c + size x + size y - 1 in
    let test : slice_index k3 at_c ≡ meaning args c = stays k2 d.values at_c (meaning args c) (omega arith) (stays k1 b.values at_c (meaning args c) (omega arith) a.last) in
    let same_x : length k1 + size x - 1 ≡ at_x = omega arith in
    let first : slice_index k3 at_x ≡ meaning args x = stays k2 d.values at_x (meaning args x) (omega arith) (ap (slice_index k2) (sym same_x) ∙ b.last) in
    let same_y : length k2 + size y - 1 ≡ at_y = omega arith in
    let second : slice_index k3 at_y ≡ meaning args y = ap (slice_index k3) (sym same_y) ∙ d.last in
    let end = Pick at_c at_x at_y in
    let px = program_from (length known + size c) x in
    let py = program_from (length known + size c + size x) y in
    let px_is : values_after args k1 px ≡ k2 = (λ i. values_after args k1 (program_from (sym long1 i) x)) ∙ b.is in
    let py_is : values_after args k2 py ≡ k3 = (λ i. values_after args k2 (program_from (sym long2 i) y)) ∙ d.is in
    let all : values_after args known (program_from (length known) (Choice c x y)) ≡ k3 ++ value_of args k3 end ∷ [] =
    values_both args known (program_from (length known) c) (px ++ (py ++ end ∷ []))
    ∙ ap (λ k. values_after args k (px ++ (py ++ end ∷ []))) a.is
    ∙ values_both args k1 px (py ++ end ∷ [])
    ∙ ap (λ k. values_after args k (py ++ end ∷ [])) px_is
    ∙ values_both args k2 py (end ∷ [])
    ∙ ap (λ k. values_after args k (end ∷ [])) py_is in
    let v = meaning args (Choice c x y) in
    let made : value_of args k3 end ≡ v = (λ i. if test i == 0 then second i else first i) in
    let at_last : length known + size (Choice c x y) - 1 ≡ length k3 = omega arith in
    let joined : k3 ++ v ∷ [] ≡ known ++ (a.values ++ (b.values ++ (d.values ++ v ∷ []))) = append_assoc k2 d.values (v ∷ []) ∙ append_assoc k1 b.values (d.values ++ v ∷ []) ∙ append_assoc known a.values (b.values ++ (d.values ++ v ∷ [])) in
    let e4 = length-append a.values (b.values ++ (d.values ++ v ∷ [])) in
    let e5 = length-append b.values (d.values ++ v ∷ []) in
    let e6 = length-append d.values (v ∷ []) in
    record {
      values = a.values ++ (b.values ++ (d.values ++ v ∷ []));
      is = all ∙ ap (λ w. k3 ++ w ∷ []) made ∙ joined;
      long = omega arith;
      last = ap (λ k. slice_index k (length known + size (Choice c x y) - 1)) (sym joined) ∙ ap (slice_index (k3 ++ v ∷ [])) at_last ∙ get_or-append_seam k3 v [] 0;
    }

adds : (args known : List ℕ) (f : Formula) → Adds args known f
adds args known (Number n) = leaf_adds args known (Number n) (n % 2 ^ 64) refl refl refl
adds args known (Argument k) = leaf_adds args known (Argument k) (slice_index args k) refl refl refl
adds args known (Group f) = let a = adds args known f in record { values = a.values; is = a.is; long = a.long; last = a.last }
adds args known (Binary op l r) = binary_adds args known op l r (adds args known l) (λ k. adds args k r)
adds args known (Choice c x y) = choice_adds args known c x y (adds args known c) (λ k. adds args k x) (λ k. adds args k y)

pub program_means : (f : Formula) (args : List ℕ) → value (program f) args ≡ meaning args f
program_means f args =
    let a = adds args [] f in
    let from_none : size f - 1 ≡ 0 + size f - 1 = omega arith in
    (λ i. slice_index (a.is i) (program_long 0 f i - 1)) ∙ ap (slice_index ([] ++ a.values)) from_none ∙ a.last
