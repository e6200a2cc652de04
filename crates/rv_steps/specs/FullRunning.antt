-- Why a run of code on the machine with all units goes no further.
use Rattle.std.specs.Prelude.{◌≡◌, ℕ, ◌==◌, if◌then◌else◌, Option, Some, None}
use Rattle.rv_base.specs.declared.flags.IsaFlags.{IsaFlags}
use Rattle.rv_full.specs.Units.{FullState}
use Rattle.rv_full.specs.Steps.{Next, Goes, Asks, Halts, fnext}
use Rattle.rv_steps.specs.Running.{offset_in, stop_of, word_at}
use Rattle.rv_steps.specs.declared.ending.Ending.{Ending}
use Rattle.rv_steps.specs.declared.ending.Ending.TheVariants.{Left, Limit, Break, NoOperation, NeedsAnswer}

-- why the machine has no step from a state, if it has none, by what comes next
abbrev pub stop_by : IsaFlags → ℕ → FullState → Next → Option Ending
stop_by flags offset b (Goes c) = None
stop_by flags offset b Asks = Some (NeedsAnswer offset (word_at b.state))
stop_by flags offset b Halts = Some (stop_of flags offset b.state)

-- why a run goes no further within the code, if it doesn't
abbrev pub full_ending_inside : IsaFlags → ℕ → ℕ → FullState → ℕ → Option Ending
full_ending_inside flags limit k b offset = if k == limit then Some Limit else stop_by flags offset b (fnext flags b)

abbrev pub full_ending_by : IsaFlags → ℕ → ℕ → FullState → Option ℕ → Option Ending
full_ending_by flags limit k b None = Some (Left b.state.pc)
full_ending_by flags limit k b (Some offset) = full_ending_inside flags limit k b offset

-- Why a run of at most so many steps goes no further after k of them; None where it does.
abbrev pub full_ending_of : IsaFlags → ℕ → ℕ → ℕ → ℕ → FullState → Option Ending
full_ending_of flags base len limit k b = full_ending_by flags limit k b (offset_in base len b.state.pc)

-- No unit goes on where a run of the integer machine ends so: it left the code, or had its steps, or ebreak stands there; or no unit has an
-- operation there either.
abbrev pub IsIntegerEnd : IsaFlags → FullState → Ending → Type 0
IsIntegerEnd flags b (Left address) = Unit {0}
IsIntegerEnd flags b Limit = Unit {0}
IsIntegerEnd flags b (Break offset) = Unit {0}
IsIntegerEnd flags b (NoOperation offset word) = fnext flags b ≡ Halts
IsIntegerEnd flags b (NeedsAnswer offset word) = ⊥
