-- What it is for an instruction to come out on the machine with all units where its last words, if any, are integer words: links of the
-- proof.
use Rattle.std.specs.Prelude.{◌≡◌, ℕ, ◌++◌, List, [], Some}
use Rattle.rv_full.specs.declared.answer.Answer.{Answer}
use Rattle.rv_full.specs.Steps.{fiter}
use Rattle.rv_full.specs.Units.{FullState, FullValues, IsFullState}
use Rattle.rv_inst.specs.Meaning.{Exit}
use Rattle.rv_runs.specs.FullMeaning.{FullMeaning}
use Rattle.rv_code.specs.InstRuns.{ComesOut, environment}
use Rattle.rv_code.specs.Sites.{Site}

-- In some steps the machine comes to where the integer words that are left come out at an exit, as they do on the integer machine, with
-- values that are these, declared temporaries apart. It took these answers, and left the setting.
pub record FullEnds (site : Site) (start after : ℕ) (exit : Exit) (free : List ℕ) (made : FullValues) (took : List Answer) (b : FullState) : Type 0 where
  pub steps : ℕ
  pub state : FullState
  pub ran : fiter site.context.flags steps b ≡ Some state
  pub last : ComesOut site start after exit free made.ints state.state
  pub units : made.units ≡ state.units
  pub is_state : IsFullState state
  pub answers : b.answers ≡ took ++ state.answers
  pub setting : state.units.setting ≡ b.units.setting

-- They come out so with the values that the meaning gives with exactly the answers that were taken.
pub record EndsAsMeant (site : Site) (start after : ℕ) (m : FullMeaning) (exit : Exit) (free : List ℕ) (v : FullValues) (b : FullState) : Type 0 where
  pub took : List Answer
  pub made : FullValues
  pub takes : m.takes (environment site start after) v (m.own_of took) ≡ Some (made, [])
  pub ends : FullEnds site start after exit free made took b
