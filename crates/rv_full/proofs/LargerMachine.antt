-- Chains of a larger machine, and the machine with all units as one.
use Rattle.std.proofs.Common.{◌≡◌, ℕ, zero, suc, Option, Some, None, sym, ap, ◌∙◌, refl}
use Rattle.std.specs.Option.{option_and_then}
use Rattle.rv_base.specs.declared.flags.IsaFlags.{IsaFlags}
use Rattle.rv_machine.specs.State.{State}
use Rattle.rv_machine.specs.Steps.{iter, then_step, istep}
use Rattle.rv_full.specs.LargerMachine.{LargerMachine, repeat}
use Rattle.rv_full.specs.Steps.{fiter, fnext, fstep, next_by, stepped, then_fstep}
use Rattle.rv_full.specs.Units.{FullState, put}

-- a chain of the integer machine is one of a larger machine, of the same number of steps
pub larger_runs : {B : Type 0} (flags : IsaFlags) (m : LargerMachine flags B) (n : ℕ) (t : State) (b : B) → iter flags n (m.view b) ≡ Some t → repeat m.step n b ≡ Some (m.put t b)
unfolding iter
larger_runs flags m zero t b ran = let here : m.view b ≡ t = cc in ap Some (sym (m.put_view b) ∙ ap (λ s. m.put s b) here)
larger_runs flags m (suc n) t b ran = after (iter flags n (m.view b)) ran (λ r e. larger_runs flags m n r b e)
  where
    after : (o : Option State) → then_step flags o ≡ Some t → ((r : State) → o ≡ Some r → repeat m.step n b ≡ Some (m.put r b)) → option_and_then m.step (repeat m.step n b) ≡ Some (m.put t b)
    after None last first = absurd (cc)
    after (Some r) last first =
        ap (option_and_then m.step) (first r refl)
        ∙ m.acts (m.put r b) t (ap (istep flags) (m.view_put r b) ∙ last)
        ∙ ap Some (m.put_put r t b)

-- an integer operation acts on the integer part of the machine with all units alone
unfoldable pub full_machine : (flags : IsaFlags) → LargerMachine flags FullState
unfolding fnext
full_machine flags = record {
  view = λ b. b.state;
  put = put;
  step = fstep flags;
  view_put = λ t b. refl;
  put_view = λ b. refl;
  put_put = λ s t b. refl;
  acts = λ b t e. ap (λ o. stepped (next_by flags o b)) e;
}

-- so many of its steps, as it counts them itself
fiter_repeats : (flags : IsaFlags) (n : ℕ) (b : FullState) → fiter flags n b ≡ repeat (fstep flags) n b
unfolding fiter
fiter_repeats flags zero b = refl
fiter_repeats flags (suc n) b = ap (then_fstep flags) (fiter_repeats flags n b) ∙ after (repeat (fstep flags) n b)
  where
    after : (o : Option FullState) → then_fstep flags o ≡ option_and_then (fstep flags) o
    after None = refl
    after (Some c) = refl

-- a run of the integer machine is one of it
pub integer_run : (flags : IsaFlags) (n : ℕ) (t : State) (b : FullState) → iter flags n b.state ≡ Some t → fiter flags n b ≡ Some (put t b)
unfolding full_machine
integer_run flags n t b ran = fiter_repeats flags n b ∙ larger_runs flags (full_machine flags) n t b ran
