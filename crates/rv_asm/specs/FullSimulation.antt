-- What it is for code to run as its job says on the machine with all units: from an entry on, over any number of lines, while the units'
-- answers are taken in order.
use Rattle.std.specs.Prelude.{◌≡◌, ℕ, zero, suc, ◌+◌, ◌*◌, ◌<◌, ◌≤◌, ◌⊎◌, ◌||◌, ◌&&◌, Bool, true, false, List, [], ◌∷◌, ◌++◌, length, slice_get, slice_index, None, Some}
use Rattle.rv_base.specs.declared.frame.FrameLayout.{FrameLayout}
use Rattle.rv_inst.specs.Context.{context_of}
use Rattle.rv_inst.specs.Core.{is_integer_line}
use Rattle.rv_inst.specs.Forms.{IsOwnForm}
use Rattle.rv_inst.specs.Operands.{Return, return_of}
use Rattle.rv_inst.specs.declared.code.Code.{Code}
use Rattle.rv_inst.specs.declared.inst.Inst.{Inst}
use Rattle.rv_inst.specs.declared.inst.Line.{Line}
use Rattle.rv_inst.specs.declared.inst.Line.TheVariants.{Inst as Put, Bind}
use Rattle.rv_inst.specs.declared.job.Job.{Job}
use Rattle.rv_inst.specs.Meaning.{Environment}
use Rattle.rv_inst.specs.Sizes.{operation_of}
use Rattle.rv_machine.specs.Decode.{decode}
use Rattle.rv_machine.specs.declared.decoding.Decoded.{Decoded}
use Rattle.rv_machine.specs.State.{AreValues, Memory}
use Rattle.rv_machine.specs.Steps.{fetch}
use Rattle.rv_full.specs.declared.answer.Answer.{Answer}
use Rattle.rv_full.specs.Steps.{Asks, fiter, fnext}
use Rattle.rv_full.specs.Units.{FullState, FullValues, IsFullState, values_of}
use Rattle.rv_full.specs.Vectors.{is_legal}
use Rattle.rv_runs.specs.FullMeaning.{FullMeaning, SameFull, SameFullBut, inst_meaning, of_integers}
use Rattle.rv_asm.specs.Placed.{Addresses, IsPlaced}
use Rattle.rv_asm.specs.Reported.{start_of}
use Rattle.rv_asm.specs.Simulation.{Point, At, Returned, Out, End, Stop, Trapped, InData, Entry, IsBack, IsStopped, Leads, address_of, entry_point, environment_of, exit_from, temporaries_from}

-- what a line means from where it is entered: its instruction's meaning, or, of one that binds a label, that on integers
abbrev pub meaning_of : Entry → Line → FullMeaning
meaning_of entry (Put inst) = inst_meaning entry inst
meaning_of entry (Bind label) = of_integers entry (Bind label)

-- each line is of the integer core, in a frame
abbrev pub all_core : FrameLayout → List Line → Bool
all_core frame [] = true
all_core frame (line ∷ lines) = is_integer_line frame line && all_core frame lines

-- the code of a job, and where it is placed
pub record Placing : Type 0 where
  pub job : Job
  pub code : Code
  pub base : ℕ
  pub symbols : Addresses
  pub slots : Addresses

-- a machine stands at a point beside values of the listing, with the code in its memory and a setting that is legal
pub record StandsAt (x : Placing) (p : Point) (v : FullValues) (b : FullState) : Type 0 where
  pub pc : b.state.pc ≡ address_of x.code x.base p
  pub stopped : IsStopped x.job.flags p b.state
  pub same : SameFull v (values_of b)
  pub is_state : IsFullState b
  pub are_values : AreValues v.ints
  pub legal : is_legal b.units.setting ≡ true
  pub placed : IsPlaced x.code x.base x.symbols x.slots b.state.values.mem

-- ---- the listing

-- a point is a line's start, or where its call returns
pub record LineAt (x : Placing) (p : Point) : Type 0 where
  pub index : ℕ
  pub line : Line
  pub entry : Entry
  pub at : p ≡ entry_point entry index
  pub listed : slice_get x.job.lines index ≡ Some line

abbrev pub environment_at : {x : Placing} {p : Point} → LineAt x p → Environment
environment_at {x} l = environment_of x.job x.code x.base x.symbols x.slots l.index

abbrev pub meaning_at : {x : Placing} {p : Point} → LineAt x p → FullMeaning
meaning_at l = meaning_of l.entry l.line

-- one line at once, from a point and values to a point and values, while the machine takes these answers; the line's temporaries may
-- hold anything after it
pub record OneFullLine (x : Placing) (p : Point) (v : FullValues) (took : List Answer) (q : Point) (w : FullValues) : Type 0 where
  pub there : LineAt x p
  pub made : FullValues
  pub takes : (meaning_at there).takes (environment_at there) v ((meaning_at there).own_of took) ≡ Some (made, [])
  pub effect : SameFullBut (temporaries_from there.entry there.line) made w
  pub leads : Leads x.job.lines x.code there.index (exit_from there.entry (environment_at there) there.line v.ints) q

-- one line after others, which take at least so many steps, and answers; it takes a step where it leads back
pub record OneMore
    (x : Placing) (Before : ℕ → List Answer → Point → FullValues → Type 0) (least : ℕ) (took : List Answer) (q : Point) (w : FullValues) : Type 0 where
  pub before_least : ℕ
  pub before_took : List Answer
  pub point : Point
  pub values : FullValues
  pub before : Before before_least before_took point values
  pub here_least : ℕ
  pub here_took : List Answer
  pub line : OneFullLine x point values here_took q w
  pub moved : IsBack line.there.index q → 1 ≤ here_least
  pub all_least : least ≡ before_least + here_least
  pub all_took : took ≡ before_took ++ here_took

-- so many lines, one after the other, from a point and values to a point and values
abbrev pub Lines : Placing → ℕ → Point → FullValues → ℕ → List Answer → Point → FullValues → Type 0
Lines x zero p v least took q w = (least ≡ 0) × (took ≡ []) × (q ≡ p) × (w ≡ v)
Lines x (suc k) p v least took q w = OneMore x (Lines x k p v) least took q w

-- ---- the machine

-- the machine has come where so many lines lead, with the same values, units and trace, and took the answers that they take
pub record Reached (x : Placing) (k : ℕ) (p : Point) (v : FullValues) (b : FullState) : Type 0 where
  pub steps : ℕ
  pub state : FullState
  pub ran : fiter x.job.flags steps b ≡ Some state
  pub point : Point
  pub values : FullValues
  pub least : ℕ
  pub took : List Answer
  pub lines : Lines x k p v least took point values
  pub moved : least ≤ steps
  pub answers : b.answers ≡ took ++ state.answers
  pub stands : StandsAt x point values state

-- in the line at a point it stops, where an operation takes an answer and those that are left don't begin with one of its kind; so the
-- line, where only its own operations ask, each once, takes nothing of them. It took fewer than twice as many as these operations take,
-- since before each at most one setting is put
pub record Stops (x : Placing) (p : Point) (v : FullValues) (b : FullState) : Type 0 where
  pub there : LineAt x p
  pub steps : ℕ
  pub state : FullState
  pub ran : fiter x.job.flags steps b ≡ Some state
  pub asks : fnext x.job.flags state ≡ Asks
  pub took : List Answer
  pub answers : b.answers ≡ took ++ state.answers
  pub lacks : (meaning_at there).asks_once ≡ true → (meaning_at there).takes (environment_at there) v ((meaning_at there).own_of b.answers) ≡ None
  pub few : length took < 2 * (meaning_at there).own_answers (environment_at there) v

-- one of these addresses is one of so many from another on
abbrev pub IsOn : ℕ → ℕ → List ℕ → Type 0
IsOn from size addresses = (k : ℕ) × (k < length addresses) × (from ≤ slice_index addresses k) × (slice_index addresses k < from + size)

-- the line at a point, with just the answers that it takes of those that are left, writes on the code
pub record Overwrites (x : Placing) (p : Point) (v : FullValues) (b : FullState) : Type 0 where
  pub there : LineAt x p
  pub took : List Answer
  pub left : List Answer
  pub answers : b.answers ≡ took ++ left
  pub made : FullValues
  pub takes : (meaning_at there).takes (environment_at there) v ((meaning_at there).own_of took) ≡ Some (made, [])
  pub on : IsOn x.base (length x.code.bytes) ((meaning_at there).writes (environment_at there) v ((meaning_at there).own_of took))

-- at these the listing's run ends
abbrev pub IsExit : Point → Type 0
IsExit (At i) = ⊥
IsExit (Returned i) = ⊥
IsExit (Out a) = Unit {0}
IsExit End = Unit {0}
IsExit (Stop i) = Unit {0}
IsExit (Trapped i at) = Unit {0}
IsExit (InData i) = Unit {0}

-- ---- runs of so many lines, from a point and values, and a machine there

-- It comes where so many lines lead, or fewer where the listing's run ends.
pub record ComesThere (x : Placing) (k : ℕ) (p : Point) (v : FullValues) (b : FullState) : Type 0 where
  pub count : ℕ
  pub within : count ≤ k
  pub reached : Reached x count p v b
  pub whole : (count ≡ k) ⊎ IsExit reached.point

-- Or it comes where fewer lead, and stops in the next one for want of an answer.
pub record WantsAnswer (x : Placing) (k : ℕ) (p : Point) (v : FullValues) (b : FullState) : Type 0 where
  pub count : ℕ
  pub before : count < k
  pub reached : Reached x count p v b
  pub stops : Stops x reached.point reached.values reached.state

-- Or it comes where fewer lead, and the next one writes on the code.
pub record WritesOnCode (x : Placing) (k : ℕ) (p : Point) (v : FullValues) (b : FullState) : Type 0 where
  pub count : ℕ
  pub before : count < k
  pub reached : Reached x count p v b
  pub overwrites : Overwrites x reached.point reached.values reached.state

abbrev pub RunsOn : Placing → ℕ → Point → FullValues → FullState → Type 0
RunsOn x k p v b = ComesThere x k p v b ⊎ (WantsAnswer x k p v b ⊎ WritesOnCode x k p v b)

-- the first line, and one that binds a label
abbrev pub begins : ℕ → Line → Bool
begins zero line = true
begins (suc i) (Bind label) = true
begins (suc i) (Put inst) = false

-- where a run may begin: at the first line, at one that binds a label, and where a call returns; and, where all lines are of the
-- integer core, at each line
abbrev pub IsEntry : Job → Point → Type 0
IsEntry job (At i) = (line : Line) × (slice_get job.lines i ≡ Some line) × ((begins i line || all_core job.frame job.lines) ≡ true)
IsEntry job (Returned i) = (inst : Inst) × (r : Return) × (slice_get job.lines i ≡ Some (Put inst)) × (return_of job.flags inst ≡ Some r)
IsEntry job (Out a) = ⊥
IsEntry job End = ⊥
IsEntry job (Stop i) = ⊥
IsEntry job (Trapped i at) = ⊥
IsEntry job (InData i) = ⊥

-- Wherever the code is placed and its symbols are, from each entry, with all values and answers, it runs on by any number of lines.
pub record FullRuns (job : Job) (code : Code) : Type 0 where
  pub from :
      (base : ℕ) (symbols slots : Addresses) (p : Point) (v : FullValues) (b : FullState) (k : ℕ) →
      IsEntry job p →
      StandsAt (record { job = job; code = code; base = base; symbols = symbols; slots = slots }) p v b →
      RunsOn (record { job = job; code = code; base = base; symbols = symbols; slots = slots }) k p v b

-- Wherever the code is placed, the machine with all units reads at the start of each line of one machine word the operation that stands
-- for it, in that operation's own form.
pub record HasFullOperations (job : Job) (code : Code) : Type 0 where
  pub each :
      (i : ℕ) (inst : Inst) (d : Decoded) (base : ℕ) (symbols slots : Addresses) (mem : Memory) →
      slice_get job.lines i ≡ Some (Put inst) →
      operation_of (context_of job) inst ≡ Some d →
      IsPlaced code base symbols slots mem →
      (decode job.flags (fetch mem (base + start_of code.lines i)) ≡ Some d) × IsOwnForm d (fetch mem (base + start_of code.lines i))
