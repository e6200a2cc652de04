-- Runs of a machine, step by step.
use Rattle.std.proofs.Common.{ℕ, suc, ◌+◌, refl, ap, sym, subst, ◌∙◌, add-one}
use Rattle.rv_machine.specs.declared.machine.Step.TheVariants.{Stepped}
use Rattle.rv_machine.specs.Steps.{Machine, Ran, Steps, iter, istep, then_step}

pub ran_none : (m : Machine) → Ran 0 m m
unfolding iter
ran_none m = record { steps = refl; flags_stay = refl }

ran_suc : (k : ℕ) (m n p : Machine) → Ran k m n → Steps Stepped n p → Ran (suc k) m p
unfolding iter
ran_suc k m n p ran step = record {
  steps = ap (then_step m.flags) ran.steps ∙ ap (λ f. istep f n.state) (sym ran.flags_stay) ∙ step.0;
  flags_stay = step.1 ∙ ran.flags_stay;
}

-- one more step
pub ran_more : (k : ℕ) (m n p : Machine) → Ran k m n → Steps Stepped n p → Ran (k + 1) m p
ran_more k m n p ran step = subst (λ j. Ran j m p) (sym (add-one k)) (ran_suc k m n p ran step)
