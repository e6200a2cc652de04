-- The loop that hands over a list, turn by turn.
use Rattle.std.specs.Prelude.{List, [], ◌∷◌, ◌++◌, Ok, map, slice_get, Some, length, ℕ, ◌+◌}
use Rattle.std.proofs.Common.{◌≡◌, refl, ap, sym, ◌∙◌, append_assoc, subst, set}
use Rattle.std.proofs.lemmas.List.{append-nil, map-append, length-append, length-set}
use Rattle.std.proofs.Math.Seq.{set-append_seam}
use Rattle.rv_base.specs.declared.regs.Reg.{Reg}
use Rattle.rv_base.specs.declared.constraint.Constraint.{Constraint}
use Rattle.rv_operands.specs.Operand.{Operand, constraint_of}
use Rattle.rv_operands.specs.Visits.{AreVisited, IsHandedOver}
use Rattle.rv_operands.proofs.Requests.{visited_both}

-- the requests of a list
abbrev pub requests : {X : Type 0} → (X → Operand) → List X → List Constraint
requests operand xs = map constraint_of (map operand xs)

requests_both : {X : Type 0} (operand : X → Operand) (xs ys : List X) → requests operand (xs ++ ys) ≡ requests operand xs ++ requests operand ys
requests_both operand xs ys = ap (map constraint_of) (map-append operand xs ys) ∙ map-append constraint_of (map operand xs) (map operand ys)

-- so many elements were handed over, and the others are as they were
pub record AreDone {S X : Type 0} (recorded : S → List Constraint) (given : S → List Reg) (operand : X → Operand) (shape : X → X) (old now : S) (xs ys : List X) (n : ℕ) : Type 0 where
  pub front_asked : List X
  pub front_answered : List X
  pub back : List X
  pub count : length front_answered ≡ n
  pub all_asked : xs ≡ front_asked ++ back
  pub all_answered : ys ≡ front_answered ++ back
  pub visited : AreVisited recorded given old now (requests operand front_asked) (requests operand front_answered)
  pub same : map shape ys ≡ map shape xs
  pub counts : length ys ≡ length xs

-- what is left begins with the next element
next_of : {X : Type 0} (front back : List X) (x : X) → slice_get (front ++ back) (length front) ≡ Some x → (rest : List X) × (back ≡ x ∷ rest)
next_of [] [] x h = absurd (cc)
next_of [] (y ∷ back) x h = (back, cc)
next_of (f ∷ front) back x h = next_of front back x h

module _ {S X : Type 0} {recorded : S → List Constraint} {given : S → List Reg} {operand : X → Operand} {shape : X → X} where
  pub none_done : (old : S) (xs : List X) → AreDone recorded given operand shape old old xs xs 0
  none_done old xs = record {
    front_asked = [];
    front_answered = [];
    back = xs;
    count = refl;
    all_asked = refl;
    all_answered = refl;
    visited = record { recorded_more = sym (append-nil (recorded old)); given_more = sym (append-nil (given old)) };
    same = refl;
    counts = refl;
  }

  -- one turn more
  pub one_more : {old mid new : S} {xs ys : List X} {n : ℕ} {x y : X} {done : Unit {0}} → AreDone recorded given operand shape old mid xs ys n → slice_get ys n ≡ Some x → IsHandedOver recorded given (Ok done) mid new (constraint_of (operand x)) (constraint_of (operand y)) → shape y ≡ shape x → AreDone recorded given operand shape old new xs (set ys n y) (n + 1)
  one_more {old} {mid} {new} {xs} {ys} {n} {x} {y} d there handed alike =
      let next = next_of d.front_answered d.back x (ap (λ l. slice_get l (length d.front_answered)) (sym d.all_answered) ∙ ap (slice_get ys) d.count ∙ there) in
      let same_ys : ys ≡ d.front_answered ++ x ∷ next.0 = d.all_answered ∙ ap (λ l. d.front_answered ++ l) next.1 in
      let changed : set ys n y ≡ d.front_answered ++ y ∷ next.0 = ap (λ k. set ys k y) (sym d.count) ∙ ap (λ l. set l (length d.front_answered) y) same_ys ∙ set-append_seam d.front_answered x next.0 y in
      let shapes : map shape (set ys n y) ≡ map shape ys = ap (map shape) changed ∙ map-append shape d.front_answered (y ∷ next.0) ∙ ap (λ s. map shape d.front_answered ++ s ∷ map shape next.0) alike ∙ sym (map-append shape d.front_answered (x ∷ next.0)) ∙ ap (map shape) (sym same_ys) in
      record {
        front_asked = d.front_asked ++ x ∷ [];
        front_answered = d.front_answered ++ y ∷ [];
        back = next.0;
        count = length-append d.front_answered (y ∷ []) ∙ ap (λ k. k + 1) d.count;
        all_asked = d.all_asked ∙ ap (λ l. d.front_asked ++ l) next.1 ∙ sym (append_assoc d.front_asked (x ∷ []) next.0);
        all_answered = changed ∙ sym (append_assoc d.front_answered (y ∷ []) next.0);
        visited = subst (λ l. AreVisited recorded given old new l (requests operand (d.front_answered ++ y ∷ []))) (sym (requests_both operand d.front_asked (x ∷ [])))
            (subst (λ l. AreVisited recorded given old new (requests operand d.front_asked ++ constraint_of (operand x) ∷ []) l) (sym (requests_both operand d.front_answered (y ∷ [])))
            (visited_both old mid new (requests operand d.front_asked) (requests operand d.front_answered) (constraint_of (operand x) ∷ []) (constraint_of (operand y) ∷ []) d.visited handed.done));
        same = shapes ∙ d.same;
        counts = length-set ys n y ∙ d.counts;
      }
