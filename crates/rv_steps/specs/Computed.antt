-- What the host computes where an operation needs an answer and none is left, and runs with these answers.
use Rattle.std.specs.Prelude.{◌≡◌, ℕ, ◌+◌, ◌==◌, Bool, true, false, List, [], ◌∷◌, ◌++◌, length, if◌then◌else◌, Option, Some, None, option_map, option_and_then, IfSome}
use Rattle.rv_base.specs.declared.flags.IsaFlags.{IsaFlags}
use Rattle.rv_machine.specs.declared.decoding.Decoded.{Decoded}
use Rattle.rv_machine.specs.Decode.{decode}
use Rattle.rv_full.specs.declared.answer.Answer.{Answer}
use Rattle.rv_full.specs.declared.answer.Answer.TheVariants.{Bits}
use Rattle.rv_full.specs.Units.{FullState, FullValues, freg, values_of}
use Rattle.rv_full.specs.Rows.{x_of}
use Rattle.rv_full.specs.Steps.{Machine, with_answers}
use Rattle.rv_host.specs.declared.numbers.Operands.{Operands}
use Rattle.rv_host.specs.Host.{answer_of}
use Rattle.rv_steps.specs.declared.ending.Ending.{Ending}
use Rattle.rv_steps.specs.declared.ending.Ending.TheVariants.{Left, Limit, Break, NoOperation, NeedsAnswer}
use Rattle.rv_load.specs.declared.callees.Callee.{Callee}
use Rattle.rv_steps.specs.Callees.{RunsFor, StepOrEnding, calls_in, ending_with}
use Rattle.rv_steps.specs.Running.{word_at}
use Rattle.rv_steps.specs.Tracing.{trace_where, PutsLine}

-- ---- what the host answers

-- the registers that an operation may read
abbrev pub operands_at : Decoded → FullValues → Operands
operands_at d v = record { integer = x_of d v; first = freg v.units d.rs1; second = freg v.units d.rs2; third = freg v.units d.rs3 }

abbrev pub answer_for : Decoded → FullState → Option Answer
answer_for d b = option_map Bits (answer_of d (operands_at d (values_of b)) b.units.frm)

-- for the operation at the pc
abbrev pub host_answer : IsaFlags → FullState → Option Answer
host_answer flags b = option_and_then (λ d. answer_for d b) (decode flags (word_at b.state))

-- it is asked where the words name it, once no answer is left
abbrev pub computed : Bool → IsaFlags → FullState → Option Answer
computed false flags b = None
computed true flags b = if length b.answers == 0 then host_answer flags b else None

-- ---- runs with what it answers

-- the same with more answers, after those that are left
abbrev pub with_more : List Answer → FullState → FullState
with_more more b = record { state = b.state; units = b.units; answers = b.answers ++ more }

-- The answers that the host computes from a state on: each is for the operation at which the run with those before it ends, for want of one.
pub data AreComputed (callees : List Callee) (flags : IsaFlags) (base len limit : ℕ) (first : FullState) : List Answer → Type 0 where
  NoneYet : AreComputed callees flags base len limit first []
  OneMore : (answers : List Answer) (answer : Answer) (k : ℕ) (last : FullState) (offset word : ℕ) → AreComputed callees flags base len limit first answers
      → RunsFor callees flags base len limit (with_more answers first) k last (NeedsAnswer offset word) → computed true flags last ≡ Some answer
      → AreComputed callees flags base len limit first (answers ++ answer ∷ [])

-- none but where the words name the host
abbrev pub AreGiven : Bool → List Callee → IsaFlags → ℕ → ℕ → ℕ → FullState → List Answer → Type 0
AreGiven false callees flags base len limit first more = more ≡ []
AreGiven true callees flags base len limit first more = AreComputed callees flags base len limit first more

-- where a run ends for want of an answer, the host has none
abbrev pub IsUnanswered : Bool → IsaFlags → FullState → Ending → Type 0
IsUnanswered host flags last (Left address) = Unit {0}
IsUnanswered host flags last Limit = Unit {0}
IsUnanswered host flags last (Break offset) = Unit {0}
IsUnanswered host flags last (NoOperation offset word) = Unit {0}
IsUnanswered host flags last (NeedsAnswer offset word) = computed host flags last ≡ None

-- A run with the answers that are left and then those that the host computes: k steps, of which so many are the callees', and its lines
-- where they are asked for.
pub record HostRuns (host traced : Bool) (callees : List Callee) (flags : IsaFlags) (base len limit : ℕ) (first : FullState) (k calls : ℕ) (last : FullState) (ending : Ending) (lines : List ℕ)
    : Type 0 where
  pub more : List Answer
  pub given : AreGiven host callees flags base len limit first more
  pub ran : RunsFor callees flags base len limit (with_more more first) k last ending
  pub unanswered : IsUnanswered host flags last ending
  pub called : calls ≡ calls_in callees flags k (with_more more first)
  pub traced_lines : lines ≡ trace_where traced callees flags base k (with_more more first)

-- a run of a machine: so many steps of its own, and so many of the callees
abbrev pub RunsTo : Bool → Bool → List Callee → ℕ → ℕ → ℕ → Machine → ℕ → ℕ → Machine → Ending → List ℕ → Type 0
RunsTo host traced callees base len limit old steps calls new ending lines =
    HostRuns host traced callees old.flags base len limit old.full (steps + calls) calls new.full ending lines × (new.flags ≡ old.flags)

-- ---- one turn

-- a machine that one more answer is given, or none
abbrev pub with_due : Option Answer → Machine → Machine
with_due None m = m
with_due (Some answer) m = with_answers m (m.full.answers ++ answer ∷ [])

-- what the host answers where the run ends for want of it
abbrev pub IsDue : Bool → List Callee → ℕ → ℕ → ℕ → ℕ → Machine → Option Answer → Type 0
IsDue host callees base len limit k m None = Unit {0}
IsDue host callees base len limit k m (Some answer) =
    (offset : ℕ) × (word : ℕ) × (ending_with callees m.flags base len limit k m.full ≡ Some (NeedsAnswer offset word)) × (computed host m.flags m.full ≡ Some answer)

-- one step with what the host answers, or why there is none
pub record Turns (host : Bool) (callees : List Callee) (base len limit k : ℕ) (old new : Machine) (result : Option Ending) : Type 0 where
  pub due : Option Answer
  pub is_due : IsDue host callees base len limit k old due
  pub turned : StepOrEnding callees base len limit k (with_due due old) new result
  pub unanswered : IfSome result (IsUnanswered host new.flags new.full)

-- the same with the line of the step
pub record TurnsTraced (host : Bool) (callees : List Callee) (flags : IsaFlags) (base len limit k : ℕ) (old new : Machine) (text new_text : List ℕ) (result : Option Ending) : Type 0 where
  pub turns : Turns host callees base len limit k old new result
  pub line : PutsLine callees flags base (with_due turns.due old) text new_text result

-- a run ends for want of an answer
abbrev pub wants_answer : Ending → Bool
wants_answer (Left address) = false
wants_answer Limit = false
wants_answer (Break offset) = false
wants_answer (NoOperation offset word) = false
wants_answer (NeedsAnswer offset word) = true

abbrev pub is_wanting : Option Ending → Bool
is_wanting None = false
is_wanting (Some ending) = wants_answer ending
