-- Runs of the machine with all units.
use Rattle.std.proofs.Common.{◌≡◌, ℕ, zero, suc, ◌+◌, Option, Some, None, [], refl, ap, sym, subst, ◌∙◌, add-one, arith}
use Rattle.rv_base.specs.declared.flags.IsaFlags.{IsaFlags}
use Rattle.rv_full.specs.declared.machine.FullStep.TheVariants.{Stepped}
use Rattle.rv_full.specs.Units.{FullState}
use Rattle.rv_full.specs.Steps.{Machine, Ran, FullSteps, fiter, fstep, then_fstep, stepped}
use Rattle.rv_full.specs.Shared.{Shared, aiter, then_astep, shared_by}

-- ---- many steps

pub fiter_none : (flags : IsaFlags) (b : FullState) → fiter flags 0 b ≡ Some b
unfolding fiter
fiter_none flags b = refl

-- some steps, and then others
pub fiter_after : (flags : IsaFlags) (m n : ℕ) (b c : FullState) → fiter flags n b ≡ Some c → fiter flags (m + n) b ≡ fiter flags m c
unfolding fiter
fiter_after flags zero n b c e = let here : 0 + n ≡ n = omega arith in ap (λ k. fiter flags k b) here ∙ e
fiter_after flags (suc m) n b c e = let more : suc m + n ≡ suc (m + n) = omega arith in ap (λ k. fiter flags k b) more ∙ ap (then_fstep flags) (fiter_after flags m n b c e)

-- ---- one by one

pub ran_none : (m : Machine) → Ran 0 m m
unfolding fiter
ran_none m = record { steps = refl; flags_stay = refl }

ran_suc : (k : ℕ) (m n p : Machine) → Ran k m n → FullSteps Stepped n p → Ran (suc k) m p
unfolding fiter
ran_suc k m n p ran step = record {
  steps = ap (then_fstep m.flags) ran.steps ∙ ap (λ f. fstep f n.full) (sym ran.flags_stay) ∙ ap stepped step.0;
  flags_stay = step.1 ∙ ran.flags_stay;
}

-- one more step
pub ran_more : (k : ℕ) (m n p : Machine) → Ran k m n → FullSteps Stepped n p → Ran (k + 1) m p
ran_more k m n p ran step = subst (λ j. Ran j m p) (sym (add-one k)) (ran_suc k m n p ran step)

-- ---- others that write nothing

abbrev alone : FullState → Shared
alone b = record { full = b; later = [] }

pub undisturbed_run : (flags : IsaFlags) (k : ℕ) (b c : FullState) → fiter flags k b ≡ Some c → aiter flags k (alone b) ≡ Some (alone c)
unfolding fiter aiter
undisturbed_run flags zero b c ran = ap (λ s. option_alone s) ran
  where
    option_alone : Option FullState → Option Shared
    option_alone None = None
    option_alone (Some s) = Some (alone s)
undisturbed_run flags (suc k) b c ran = after (fiter flags k b) ran (λ r e. undisturbed_run flags k b r e)
  where
    after : (o : Option FullState) → then_fstep flags o ≡ Some c → ((r : FullState) → o ≡ Some r → aiter flags k (alone b) ≡ Some (alone r)) → then_astep flags (aiter flags k (alone b)) ≡ Some (alone c)
    after None last first = absurd (cc)
    after (Some r) last first = ap (then_astep flags) (first r refl) ∙ ap (λ o. shared_by [] o) last
