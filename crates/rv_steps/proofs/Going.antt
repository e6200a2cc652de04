-- A run on its way.
use Rattle.std.proofs.Common.{◌≡◌, ℕ, suc, ◌+◌, ◌<◌, List, ◌++◌, Option, refl, sym, ap, ◌∙◌, subst, add-one, arith}
use Rattle.std.specs.Prelude.{Some, None}
use Rattle.rv_base.specs.declared.flags.IsaFlags.{IsaFlags}
use Rattle.rv_full.specs.Units.{FullState}
use Rattle.rv_full.specs.Steps.{Machine}
use Rattle.rv_load.specs.declared.callees.Callee.{Callee}
use Rattle.rv_steps.specs.Callees.{StepOrEnding, call_in, call_at, calls_in, ending_with, step_with, steps_with, then_step_with}
use Rattle.rv_steps.specs.Tracing.{line_at, line_from, trace}
use borrow.Author.Count.{below_more}

-- k steps, after none of which the run ended
pub record Going (callees : List Callee) (flags : IsaFlags) (base len limit : ℕ) (first : FullState) (k : ℕ) (last : FullState) : Type 0 where
  pub steps : steps_with callees flags k first ≡ Some last
  pub on : (j : ℕ) → j < k → (b : FullState) → steps_with callees flags j first ≡ Some b → ending_with callees flags base len limit j b ≡ None

pub going_none : (callees : List Callee) (flags : IsaFlags) (base len limit : ℕ) (first : FullState) → Going callees flags base len limit first 0 first
unfolding steps_with
going_none callees flags base len limit first = record { steps = refl; on = λ j h. absurd (omega arith) }

abbrev On : List Callee → IsaFlags → ℕ → ℕ → ℕ → FullState → ℕ → Type 0
On callees flags base len limit first j = (b : FullState) → steps_with callees flags j first ≡ Some b → ending_with callees flags base len limit j b ≡ None

same_state : (b c : FullState) → Some b ≡ Some c → b ≡ c
same_state b c e = cc

here : (callees : List Callee) (flags : IsaFlags) (base len limit : ℕ) (first : FullState) (k : ℕ) (last : FullState) → steps_with callees flags k first ≡ Some last → ending_with callees flags base len limit k last ≡ None → On callees flags base len limit first k
here callees flags base len limit first k last steps goes b e =
    subst (λ c. ending_with callees flags base len limit k c ≡ None) (same_state last b (sym steps ∙ e)) goes

more_steps : (callees : List Callee) (flags : IsaFlags) (first : FullState) (k : ℕ) (last next : FullState) → steps_with callees flags k first ≡ Some last → step_with callees flags last ≡ Some next → steps_with callees flags (suc k) first ≡ Some next
unfolding steps_with
more_steps callees flags first k last next steps step = ap (then_step_with callees flags) steps ∙ step

pub going_more : (callees : List Callee) (flags : IsaFlags) (base len limit : ℕ) (first : FullState) (k : ℕ) (last next : FullState) → Going callees flags base len limit first k last
    → ending_with callees flags base len limit k last ≡ None → step_with callees flags last ≡ Some next → Going callees flags base len limit first (k + 1) next
going_more callees flags base len limit first k last next going goes step = record {
  steps = subst (λ n. steps_with callees flags n first ≡ Some next) (sym (add-one k)) (more_steps callees flags first k last next going.steps step);
  on = below_more (On callees flags base len limit first) k going.on (here callees flags base len limit first k last going.steps goes);
}

pub record GoingMachine (callees : List Callee) (flags : IsaFlags) (base len limit : ℕ) (first : FullState) (k : ℕ) (machine : Machine) : Type 0 where
  pub going : Going callees flags base len limit first k machine.full
  pub same : machine.flags ≡ flags

-- one turn that does not end the run
pub going_on : (callees : List Callee) (flags : IsaFlags) (base len limit : ℕ) (first : FullState) (k : ℕ) (old new : Machine) → Going callees flags base len limit first k old.full → old.flags ≡ flags
    → StepOrEnding callees base len limit k old new None → GoingMachine callees flags base len limit first (k + 1) new
going_on callees flags base len limit first k old new going same turn = record {
  going = going_more callees flags base len limit first k old.full new.full going
      (subst (λ (f : IsaFlags). ending_with callees f base len limit k old.full ≡ None) same turn.0)
      (subst (λ (f : IsaFlags). step_with callees f old.full ≡ Some new.full) same turn.1);
  same = turn.2 ∙ same;
}

-- the lines of the steps so far, with that of one more
pub trace_more : (callees : List Callee) (flags : IsaFlags) (base : ℕ) (first : FullState) (k : ℕ) (last : FullState) (text more : List ℕ) → steps_with callees flags k first ≡ Some last → text ≡ trace callees flags base k first
    → more ≡ text ++ line_from callees flags base last → more ≡ trace callees flags base (k + 1) first
trace_more callees flags base first k last text more steps so_far put =
    let one : trace callees flags base (suc k) first ≡ trace callees flags base k first ++ line_from callees flags base last = ap (λ (b : Option FullState). trace callees flags base k first ++ line_at callees flags base b) steps in
    put ∙ ap (λ (t : List ℕ). t ++ line_from callees flags base last) so_far ∙ sym one ∙ ap (λ (n : ℕ). trace callees flags base n first) (sym (add-one k))

-- and one more of the callees' among them
pub calls_more : (callees : List Callee) (flags : IsaFlags) (first : FullState) (k : ℕ) (last : FullState) (calls call : ℕ) → steps_with callees flags k first ≡ Some last → calls ≡ calls_in callees flags k first
    → call ≡ call_at callees last → calls + call ≡ calls_in callees flags (k + 1) first
calls_more callees flags first k last calls call steps so_far one =
    (λ j. so_far j + one j)
    ∙ ap (λ (b : Option FullState). calls_in callees flags k first + call_in callees b) (sym steps)
    ∙ ap (λ (n : ℕ). calls_in callees flags n first) (sym (add-one k))
