-- What it is for the parts of an instruction to run as it means on the machine with all units, from where it is entered.
use Rattle.std.specs.Prelude.{◌≡◌, ◌⊎◌, ℕ, ◌+◌, ◌*◌, ◌<◌, ◌≤◌, List, [], ◌++◌, length, Some, None}
use Rattle.rv_machine.specs.State.{AreValues, wrap}
use Rattle.rv_full.specs.declared.answer.Answer.{Answer}
use Rattle.rv_full.specs.Steps.{Asks, fiter, fnext}
use Rattle.rv_full.specs.Units.{FullState, FullValues, IsFullState, values_of}
use Rattle.rv_inst.specs.declared.inst.Inst.{Inst}
use Rattle.rv_inst.specs.declared.inst.Line.TheVariants.{Inst as Put}
use Rattle.rv_inst.specs.Meaning.{AreOutside, Environment, Exit}
use Rattle.rv_runs.specs.Entries.{Entry, exit_from, temporaries_from}
use Rattle.rv_runs.specs.FullMeaning.{FullMeaning, inst_meaning}
use Rattle.rv_code.specs.FullValues.{SameFull, SameFullBut}
use Rattle.rv_code.specs.InstRuns.{Arrives, environment, least_steps}
use Rattle.rv_code.specs.Sites.{Site, IsPlacedAt}

-- the machine stands at an offset of the code, beside the listing's values
pub record FullAt (site : Site) (at : ℕ) (v : FullValues) (b : FullState) : Type 0 where
  pub placed : IsPlacedAt site b.state.values.mem
  pub pc : b.state.pc ≡ wrap (site.base + at)
  pub is_state : IsFullState b
  pub are_values : AreValues v.ints
  pub same : SameFull v (values_of b)

-- In some steps it comes where an exit leads, with the values that the meaning gives with exactly the answers that it took, declared
-- temporaries apart. It left the setting and the code.
pub record FullyOut (site : Site) (start after : ℕ) (m : FullMeaning) (exit : Exit) (free : List ℕ) (v : FullValues) (b : FullState) : Type 0 where
  pub steps : ℕ
  pub state : FullState
  pub moved : least_steps exit ≤ steps
  pub ran : fiter site.context.flags steps b ≡ Some state
  pub arrives : Arrives site start after exit state.state
  pub took : List Answer
  pub answers : b.answers ≡ took ++ state.answers
  pub made : FullValues
  pub takes : m.takes (environment site start after) v (m.own_of took) ≡ Some (made, [])
  pub same : SameFullBut free made (values_of state)
  pub is_state : IsFullState state
  pub are_values : AreValues made.ints
  pub setting : state.units.setting ≡ b.units.setting
  pub placed : IsPlacedAt site state.state.values.mem

-- Or it comes to where an operation asks for an answer, since the meaning takes one and gives nothing with those that there were. It took
-- fewer than twice as many as the instruction's own operations take.
pub record FullyAsks (site : Site) (start after : ℕ) (m : FullMeaning) (v : FullValues) (b : FullState) : Type 0 where
  pub steps : ℕ
  pub state : FullState
  pub ran : fiter site.context.flags steps b ≡ Some state
  pub asks : fnext site.context.flags state ≡ Asks
  pub took : List Answer
  pub answers : b.answers ≡ took ++ state.answers
  pub lacks : m.takes (environment site start after) v (m.own_of b.answers) ≡ None
  pub few : length took < 2 * m.own_answers (environment site start after) v

abbrev pub ComesFully : Site → ℕ → ℕ → FullMeaning → Exit → List ℕ → FullValues → FullState → Type 0
ComesFully site start after m exit free v b = FullyOut site start after m exit free v b ⊎ FullyAsks site start after m v b

-- with those of these answers that it takes, a meaning writes on no byte of so many from an address on
abbrev pub WritesElsewhere : ℕ → ℕ → FullMeaning → Environment → FullValues → List Answer → Type 0
WritesElsewhere from size m env v answers =
    (took left : List Answer) (made : FullValues) →
    answers ≡ took ++ left →
    m.takes env v (m.own_of took) ≡ Some (made, []) →
    AreOutside from size (m.writes env v (m.own_of took))

-- An instruction between two offsets, entered at an offset, does one of both, with all values and answers with which it writes on no byte
-- of the code.
abbrev pub RunsFully : Site → ℕ → ℕ → Inst → Entry → ℕ → Type 0
RunsFully site start after inst entry at =
    (v : FullValues) (b : FullState) →
    FullAt site at v b →
    WritesElsewhere site.base (length site.bytes) (inst_meaning entry inst) (environment site start after) v b.answers →
    ComesFully site start after (inst_meaning entry inst) (exit_from entry (environment site start after) (Put inst) v.ints) (temporaries_from entry (Put inst)) v b
