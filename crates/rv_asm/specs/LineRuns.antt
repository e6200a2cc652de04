-- How a run goes on from line to line, as one who proves something of a listing's code chains it: each law is the contract of a function of
-- `line_laws`.
use Rattle.std.specs.Prelude.{◌≡◌, ℕ, true, Some, slice_get}
use Rattle.rv_base.specs.declared.flags.IsaFlags.{IsaFlags}
use Rattle.rv_inst.specs.Core.{is_integer_line}
use Rattle.rv_inst.specs.declared.code.Code.{Code}
use Rattle.rv_inst.specs.declared.inst.Line.{Line}
use Rattle.rv_inst.specs.declared.job.Job.{Job}
use Rattle.rv_inst.specs.Meaning.{exit_of, effect_of, temporaries_of}
use Rattle.rv_inst.specs.SameValues.{SameBut}
use Rattle.rv_machine.specs.State.{State, IsState}
use Rattle.rv_machine.specs.Steps.{iter}
use Rattle.rv_asm.specs.Placed.{Addresses, IsPlaced}
use Rattle.rv_asm.specs.Reported.{Reported}
use Rattle.rv_asm.specs.Simulation.{Point, At, Leads, IsStopped, address_of, environment_of, WritesOutside, RunsAsListed}

-- the code is placed, and the machine stands at one of its points
pub record StandsAt (code : Code) (base : ℕ) (symbols slots : Addresses) (p : Point) (s : State) : Type 0 where
  pub pc : s.pc ≡ address_of code base p
  pub state : IsState s
  pub placed : IsPlaced code base symbols slots s.values.mem

-- in some steps the machine comes from a state to one that stands at a point
pub record Reaches (flags : IsaFlags) (code : Code) (base : ℕ) (symbols slots : Addresses) (s : State) (p : Point) (t : State) : Type 0 where
  pub steps : ℕ
  pub ran : iter flags steps s ≡ Some t
  pub stands : StandsAt code base symbols slots p t

-- The line of an index has run from a state at its start: the machine stands where the line's exit leads, and has the values that the line
-- makes, but for its temporaries, which may hold anything.
pub record LineRan (job : Job) (code : Code) (base : ℕ) (symbols slots : Addresses) (i : ℕ) (line : Line) (s : State) : Type 0 where
  pub point : Point
  pub state : State
  pub reached : Reaches job.flags code base symbols slots s point state
  pub leads : Leads job.lines code i (exit_of (environment_of job code base symbols slots i) line s.values) point
  pub same : SameBut (temporaries_of line) (effect_of (environment_of job code base symbols slots i) line s.values) state.values
  pub stopped : IsStopped job.flags point state

-- ---- laws

-- who enters placed code at its base stands at its first line
abbrev pub EntryIsFirstLine : Type 0
EntryIsFirstLine =
    (job : Job) (code : Code) (base : ℕ) (symbols slots : Addresses) (s : State) →
    Reported job code →
    IsPlaced code base symbols slots s.values.mem →
    IsState s →
    s.pc ≡ base →
    StandsAt code base symbols slots (At 0) s

-- from the start of a line of the integer core that line runs, where it writes none of the code
abbrev pub LinesRun : Type 0
LinesRun =
    (job : Job) (code : Code) (base : ℕ) (symbols slots : Addresses) (i : ℕ) (line : Line) (s : State) →
    RunsAsListed job code →
    slice_get job.lines i ≡ Some line →
    is_integer_line job.frame line ≡ true →
    WritesOutside job code base symbols slots i line s.values →
    StandsAt code base symbols slots (At i) s →
    LineRan job code base symbols slots i line s

-- a run of no steps
abbrev pub NothingRuns : Type 0
NothingRuns =
    (flags : IsaFlags) (code : Code) (base : ℕ) (symbols slots : Addresses) (p : Point) (s : State) →
    StandsAt code base symbols slots p s →
    Reaches flags code base symbols slots s p s

-- a run, and one from where it ends
abbrev pub RunsCompose : Type 0
RunsCompose =
    (flags : IsaFlags) (code : Code) (base : ℕ) (symbols slots : Addresses) (p q : Point) (s t u : State) →
    Reaches flags code base symbols slots s p t →
    Reaches flags code base symbols slots t q u →
    Reaches flags code base symbols slots s q u
