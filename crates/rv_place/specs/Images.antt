-- What it is for an image to stand in a memory, and for code to run in every memory in which its image stands.
use Rattle.std.specs.Prelude.{◌≡◌, ℕ, ◌+◌, ◌<◌, true, List, length, slice_get, slice_index, Some}
use Rattle.rv_base.specs.declared.external_name.ExternalName.{ExternalName}
use Rattle.rv_inst.specs.Operands.{Return, return_of}
use Rattle.rv_inst.specs.Core.{is_integer, is_integer_line}
use Rattle.rv_inst.specs.declared.code.Code.{Code}
use Rattle.rv_inst.specs.declared.inst.Inst.{Inst}
use Rattle.rv_inst.specs.declared.inst.Line.{Line}
use Rattle.rv_inst.specs.declared.inst.Line.TheVariants.{Inst as Put}
use Rattle.rv_inst.specs.declared.job.Job.{Job}
use Rattle.rv_inst.specs.SameValues.{Same}
use Rattle.rv_machine.specs.State.{State, IsState, Values, AreValues, Memory, byte}
use Rattle.rv_asm.specs.Placed.{Addresses, IsPlaced}
use Rattle.rv_asm.specs.Simulation.{At, Returned, WritesOutside, Comes, Point, IsStopped, address_of, RunsAsListed}
use Rattle.rv_asm.specs.FullSimulation.{IsEntry, RunsOn}
use Rattle.rv_full.specs.Units.{FullState, FullValues, IsFullState, values_of}
use Rattle.rv_full.specs.Vectors.{is_legal}
use Rattle.rv_runs.specs.FullMeaning.{SameFull}
use Rattle.rv_fill.specs.declared.error.PlaceError.{PlaceError}
use Rattle.rv_fill.specs.declared.error.PlaceError.TheVariants.{BadBase, BadRecord, NoSymbol, OutOfReach, OutOfMemory}
use Rattle.rv_fill.specs.Filled.{table_of}

-- bytes stand in a memory from an address on
abbrev pub StandAt : ℕ → List ℕ → Memory → Type 0
StandAt base bytes mem = (k : ℕ) → k < length bytes → byte mem (base + k) ≡ slice_index bytes k

-- Code is placed in every memory in which its image stands from a base on.
abbrev pub PlacesIn : Code → ℕ → Addresses → Addresses → List ℕ → Type 0
PlacesIn code base symbols slots image = (mem : Memory) → StandAt base image mem → IsPlaced code base symbols slots mem

-- So it runs there as its job says: from the start of every line of the integer core, and from where each call of it returns, as
-- `RunsAsListed` does.
pub record RunsIn (job : Job) (code : Code) (base : ℕ) (symbols slots : Addresses) (image : List ℕ) : Type 0 where
  pub from :
      (i : ℕ) (line : Line) (s : State) (v : Values) →
      slice_get job.lines i ≡ Some line →
      is_integer_line job.frame line ≡ true →
      WritesOutside job code base symbols slots i line v →
      StandAt base image s.values.mem →
      IsState s →
      AreValues v →
      s.pc ≡ address_of code base (At i) →
      Same v s.values →
      Comes job code base symbols slots (At i) v s
  pub back :
      (i : ℕ) (inst : Inst) (r : Return) (s : State) (v : Values) →
      slice_get job.lines i ≡ Some (Put inst) →
      is_integer inst ≡ true →
      return_of job.flags inst ≡ Some r →
      StandAt base image s.values.mem →
      IsState s →
      AreValues v →
      s.pc ≡ address_of code base (Returned i) →
      Same v s.values →
      Comes job code base symbols slots (Returned i) v s

-- the machine with all units stands at a point beside values of the listing, with the image in its memory and a setting that is legal
pub record StandsIn (job : Job) (code : Code) (base : ℕ) (image : List ℕ) (p : Point) (v : FullValues) (b : FullState) : Type 0 where
  pub pc : b.state.pc ≡ address_of code base p
  pub stopped : IsStopped job.flags p b.state
  pub same : SameFull v (values_of b)
  pub is_state : IsFullState b
  pub are_values : AreValues v.ints
  pub legal : is_legal b.units.setting ≡ true
  pub there : StandAt base image b.state.values.mem

-- And it runs there on the machine with all units, from each entry, with all values and answers, by any number of lines, as `FullRuns` does.
pub record RunsFullyIn (job : Job) (code : Code) (base : ℕ) (symbols slots : Addresses) (image : List ℕ) : Type 0 where
  pub from :
      (p : Point) (v : FullValues) (b : FullState) (k : ℕ) →
      IsEntry job p →
      StandsIn job code base image p v b →
      RunsOn (record { job = job; code = code; base = base; symbols = symbols; slots = slots }) k p v b

-- an error that says nothing of a code's own records
abbrev pub IsOfPlace : PlaceError → Type 0
IsOfPlace BadBase = Unit {0}
IsOfPlace (BadRecord index) = ⊥
IsOfPlace (NoSymbol index) = Unit {0}
IsOfPlace (OutOfReach index) = Unit {0}
IsOfPlace OutOfMemory = Unit {0}
