-- Steps that leave memory, where no one else writes: links of the proof.
use Rattle.std.specs.Prelude.{◌≡◌, ℕ, ◌+◌, ◌*◌, ◌≤◌, false, List, [], ◌∷◌, length, Some}
use Rattle.rv_base.specs.declared.flags.IsaFlags.{IsaFlags}
use Rattle.rv_full.specs.declared.answer.Answer.{Answer}
use Rattle.rv_full.specs.declared.answer.Answer.TheVariants.{Success}
use Rattle.rv_full.specs.Shared.{Shared}
use Rattle.rv_full.specs.Steps.{fiter}

-- so many steps of the machine alone lead from one state to another, and leave memory as it was
pub record Alone (flags : IsaFlags) (n : ℕ) (a b : Shared) : Type 0 where
  pub later : b.later ≡ []
  pub mem : b.full.state.values.mem ≡ a.full.state.values.mem
  pub ran : fiter flags n a.full ≡ Some b.full

-- these answers are failures alone
abbrev pub AllFailed : List Answer → Type 0
AllFailed [] = Unit {0}
AllFailed (answer ∷ took) = (answer ≡ Success false) × AllFailed took

-- passes that failed are such steps, at most so many each, and took failures alone
pub record AlonePasses (flags : IsaFlags) (most : ℕ) (took : List Answer) (a b : Shared) : Type 0 where
  pub told : AllFailed took
  pub steps : ℕ
  pub few : steps ≤ (most + 3) * length took
  pub alone : Alone flags steps a b
