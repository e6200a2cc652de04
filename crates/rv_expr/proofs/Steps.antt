-- One line of a program's run.
use Rattle.std.proofs.Common.{◌≡◌, ℕ, suc, ◌+◌, ◌^◌, ◌<◌, ◌==◌, nat_lt, Bool, true, false, ◌||◌, if◌then◌else◌, List, [], length, Some, slice_get, refl, arith, ap, subst, ◌∙◌}
use Rattle.std.proofs.lemmas.Bool.Decides.{nat_tests}
use Rattle.rv_base.specs.declared.flags.IsaFlags.{IsaFlags}
use Rattle.rv_inst.specs.declared.code.Code.{Code}
use Rattle.rv_inst.specs.declared.inst.Line.{Line}
use Rattle.rv_inst.specs.declared.job.Job.{Job}
use Rattle.rv_inst.specs.Meaning.{Environment, Exit, Next, exit_of, effect_of, writes_of, temporaries_of, AreOutside}
use Rattle.rv_machine.specs.State.{State, IsState, Values, byte, reg}
use Rattle.rv_asm.specs.FineLines.{plain_job}
use Rattle.rv_asm.specs.LineRuns.{StandsAt, Reaches}
use Rattle.rv_asm.specs.Placed.{Addresses}
use Rattle.rv_asm.specs.Simulation.{Point, At, End, Leads, environment_of, RunsAsListed}
use Rattle.rv_asm.specs.Users.{Same, SameBut, is_integer_line}
use Rattle.rv_asm.proofs.Laws.{lines_run, runs_compose}
use Rattle.rv_expr.specs.Frame.{IsOutside}

-- ---- a run

-- lines without labels, frame or constants, for a machine with these flags; their code, which is placed; how many bytes below the stack
-- pointer are the program's; and the state in which it is entered
pub record Run : Type 0 where
  pub lines : List Line
  pub flags : IsaFlags
  pub code : Code
  pub base : ℕ
  pub symbols : Addresses
  pub slots : Addresses
  pub size : ℕ
  pub entry : State

abbrev pub job_in : Run → Job
job_in r = plain_job r.lines r.flags

abbrev pub sp_of : Run → ℕ
sp_of r = reg r.entry.values 2

-- in some steps the machine comes from a state to one that stands at a point
abbrev pub Goes : Run → State → Point → State → Type 0
Goes r s p t = Reaches r.flags r.code r.base r.symbols r.slots s p t

pub goes_on : (r : Run) (p q : Point) (s t u : State) → Goes r s p t → Goes r t q u → Goes r s q u
goes_on r = runs_compose r.flags r.code r.base r.symbols r.slots

-- the code runs as listed, and none of it is among the program's bytes
pub record IsRun (r : Run) : Type 0 where
  pub runs : RunsAsListed (job_in r) r.code
  pub state : IsState r.entry
  pub small : r.size < 2 ^ 60
  pub apart : (k : ℕ) → k < length r.code.bytes → IsOutside (sp_of r) r.size (r.base + k)

-- t0 to t2 and a0, which a program changes
abbrev pub is_changed : ℕ → Bool
is_changed n = n == 5 || (n == 6 || (n == 7 || n == 10))

-- the machine is at the start of a line, and has changed nothing else
pub record Stands (r : Run) (k : ℕ) (s : State) : Type 0 where
  pub at : StandsAt r.code r.base r.symbols r.slots (At k) s
  pub regs : (n : ℕ) → n < 30 → is_changed n ≡ false → reg s.values n ≡ reg r.entry.values n
  pub mem : (a : ℕ) → a < 2 ^ 64 → IsOutside (sp_of r) r.size a → byte s.values.mem a ≡ byte r.entry.values.mem a

-- the machine has come to a point, with values that are the same as these
pub record Came (r : Run) (s : State) (q : Point) (v : Values) : Type 0 where
  pub state : State
  pub reached : Goes r s q state
  pub same : Same v state.values

-- From a line's start, where the line writes none of the code, the machine comes to where the line leads, with the values that it makes.
pub line_runs : (r : Run) (k : ℕ) (line : Line) (s : State) (v : Values) (e : Exit) (q : Point) → IsRun r → Stands r k s → slice_get r.lines k ≡ Some line → is_integer_line (job_in r).frame line ≡ true → temporaries_of line ≡ [] →
    ((env : Environment) → exit_of env line s.values ≡ e) → ((env : Environment) → effect_of env line s.values ≡ v) → ((env : Environment) → AreOutside r.base (length r.code.bytes) (writes_of env line s.values)) →
    ((p : Point) → Leads r.lines r.code k e p → p ≡ q) → Came r s q v
line_runs r k line s v e q h at listed core temps exits effects outside leads =
    let env = environment_of (job_in r) r.code r.base r.symbols r.slots k in
    let c = lines_run (job_in r) r.code r.base r.symbols r.slots k line s h.runs listed core (outside env) at.at in
    let there : c.point ≡ q = leads c.point (subst (λ x. Leads r.lines r.code k x c.point) (exits env) c.leads) in
    let same : SameBut [] v c.state.values = subst (λ free. SameBut free v c.state.values) temps (subst (λ x. SameBut (temporaries_of line) x c.state.values) (effects env) c.same) in
    record { state = c.state; reached = subst (λ p. Goes r s p c.state) there c.reached; same = record { regs = λ n below. same.regs n below refl; mem = same.mem } }

-- where the next line begins, a line that goes on leads
pub to_next : (r : Run) (k : ℕ) → suc k < length r.lines → (p : Point) → Leads r.lines r.code k Next p → p ≡ At (suc k)
to_next r k more p leads = leads ∙ ap (λ b. if b then At (suc k) else End) here
  where
    here : nat_lt (suc k) (length r.lines) ≡ true
    here = grind (arith, nat_tests)
