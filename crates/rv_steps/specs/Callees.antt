-- Callees: functions outside of the code, each of which returns at once. A step of a run is the machine's, or where a callee stands at the
-- pc, that callee's.
use Rattle.std.specs.Prelude.{◌≡◌, ℕ, zero, suc, ◌+◌, ◌*◌, ◌/◌, ◌<◌, ◌==◌, if◌then◌else◌, List, find, Option, Some, None, is_some}
use Rattle.rv_base.specs.declared.flags.IsaFlags.{IsaFlags}
use Rattle.rv_full.specs.Units.{FullState, put}
use Rattle.rv_full.specs.Steps.{Machine, fstep}
use Rattle.rv_load.specs.declared.callees.Callee.{Callee}
use Rattle.rv_machine.specs.State.{at, reg}
use Rattle.rv_steps.specs.FullRunning.{full_ending_of}
use Rattle.rv_steps.specs.Starting.{set_registers}
use Rattle.rv_steps.specs.declared.ending.Ending.{Ending}
use Rattle.rv_steps.specs.declared.ending.Ending.TheVariants.{Limit}

-- the callee that stands at an address, the first of them
abbrev pub callee_at : List Callee → ℕ → Option Callee
callee_at callees address = find (λ c. c.address == address) callees

-- a callee has returned: to ra, whose bit 0 counts as 0, and with its registers set; all else is as it was
abbrev pub returned : Callee → FullState → FullState
returned c b = set_registers (put (at (reg b.state.values 1 / 2 * 2) b.state.values) b) c.registers

-- ---- one step

abbrev pub step_at : Option Callee → IsaFlags → FullState → Option FullState
step_at None flags b = fstep flags b
step_at (Some c) flags b = Some (returned c b)

abbrev pub step_with : List Callee → IsaFlags → FullState → Option FullState
step_with callees flags b = step_at (callee_at callees b.state.pc) flags b

-- 1 where that step is a callee's
abbrev pub call_at : List Callee → FullState → ℕ
call_at callees b = if is_some (callee_at callees b.state.pc) then 1 else 0

-- why a run goes no further after k steps, if it doesn't: a callee returns, but where there may be no step more
abbrev pub ending_at : Option Callee → IsaFlags → ℕ → ℕ → ℕ → ℕ → FullState → Option Ending
ending_at None flags base len limit k b = full_ending_of flags base len limit k b
ending_at (Some c) flags base len limit k b = if k == limit then Some Limit else None

abbrev pub ending_with : List Callee → IsaFlags → ℕ → ℕ → ℕ → ℕ → FullState → Option Ending
ending_with callees flags base len limit k b = ending_at (callee_at callees b.state.pc) flags base len limit k b

-- ---- many

abbrev pub then_step_with : List Callee → IsaFlags → Option FullState → Option FullState
then_step_with callees flags None = None
then_step_with callees flags (Some b) = step_with callees flags b

-- the state after so many steps, each of which exists
unfoldable pub steps_with : List Callee → IsaFlags → ℕ → FullState → Option FullState
steps_with callees flags zero b = Some b
steps_with callees flags (suc k) b = then_step_with callees flags (steps_with callees flags k b)

abbrev pub call_in : List Callee → Option FullState → ℕ
call_in callees None = 0
call_in callees (Some b) = call_at callees b

-- how many of so many steps are the callees'
abbrev pub calls_in : List Callee → IsaFlags → ℕ → FullState → ℕ
calls_in callees flags zero first = 0
calls_in callees flags (suc k) first = calls_in callees flags k first + call_in callees (steps_with callees flags k first)

-- A run of code at the base among callees, from one state to another: k steps, after which it first goes no further, for this cause.
pub record RunsFor (callees : List Callee) (flags : IsaFlags) (base len limit : ℕ) (first : FullState) (k : ℕ) (last : FullState) (ending : Ending) : Type 0 where
  pub steps : steps_with callees flags k first ≡ Some last
  pub ends : ending_with callees flags base len limit k last ≡ Some ending
  pub on : (j : ℕ) (b : FullState) → j < k → steps_with callees flags j first ≡ Some b → ending_with callees flags base len limit j b ≡ None

-- one step of a machine, or why there is none
abbrev pub StepOrEndingAt : Option Callee → ℕ → ℕ → ℕ → ℕ → Machine → Machine → Option Ending → Type 0
StepOrEndingAt o base len limit k old new None =
    (ending_at o old.flags base len limit k old.full ≡ None) × (step_at o old.flags old.full ≡ Some new.full) × (new.flags ≡ old.flags)
StepOrEndingAt o base len limit k old new (Some ending) = (ending_at o old.flags base len limit k old.full ≡ Some ending) × (new ≡ old)

abbrev pub StepOrEnding : List Callee → ℕ → ℕ → ℕ → ℕ → Machine → Machine → Option Ending → Type 0
StepOrEnding callees base len limit k old new ending = StepOrEndingAt (callee_at callees old.full.state.pc) base len limit k old new ending
