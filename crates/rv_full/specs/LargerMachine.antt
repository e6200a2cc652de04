-- A machine with more state than the integer one, in which an integer operation acts on the integer part alone: a link of the
-- proof.
use Rattle.std.specs.Prelude.{◌≡◌, ℕ, zero, suc, ◌≤◌, Option, Some}
use Rattle.std.specs.Option.{option_and_then}
use Rattle.rv_base.specs.declared.flags.IsaFlags.{IsaFlags}
use Rattle.rv_machine.specs.State.{State}
use Rattle.rv_machine.specs.Steps.{istep}

-- its integer part can be read and replaced, and it steps where the integer machine does
pub record LargerMachine (flags : IsaFlags) (B : Type 0) : Type 0 where
  pub view : B → State
  pub put : State → B → B
  pub step : B → Option B
  pub view_put : (t : State) (b : B) → view (put t b) ≡ t
  pub put_view : (b : B) → put (view b) b ≡ b
  pub put_put : (s t : State) (b : B) → put t (put s b) ≡ put t b
  pub acts : (b : B) (t : State) → istep flags (view b) ≡ Some t → step b ≡ Some (put t b)

-- what is reached in so many steps, each of which exists
abbrev pub repeat : {B : Type 0} → (B → Option B) → ℕ → B → Option B
repeat step zero b = Some b
repeat step (suc n) b = option_and_then step (repeat step n b)

-- in some steps, at least so many, it goes from one of its states to another
pub record GoesOver {B : Type 0} (step : B → Option B) (least : ℕ) (b c : B) : Type 0 where
  pub steps : ℕ
  pub moved : least ≤ steps
  pub ran : repeat step steps b ≡ Some c
