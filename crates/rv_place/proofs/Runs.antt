-- Code that runs as listed does so where its image stands.
use Rattle.std.proofs.Common.{ℕ, List}
use Rattle.rv_inst.specs.declared.code.Code.{Code}
use Rattle.rv_inst.specs.declared.job.Job.{Job}
use Rattle.rv_asm.specs.Placed.{Addresses}
use Rattle.rv_asm.specs.Simulation.{RunsAsListed}
use Rattle.rv_asm.specs.FullSimulation.{FullRuns, StandsAt}
use Rattle.rv_full.specs.Units.{FullState, FullValues}
use Rattle.rv_asm.specs.Simulation.{Point}
use Rattle.rv_place.specs.Images.{PlacesIn, RunsFullyIn, RunsIn, StandsIn}

pub runs_in : (job : Job) (code : Code) (base : ℕ) (symbols slots : Addresses) (image : List ℕ) → PlacesIn code base symbols slots image → RunsAsListed job code → RunsIn job code base symbols slots image
runs_in job code base symbols slots image places runs = record {
  from = λ i line s v listed core outside stand is_state are_values stands same. runs.from base symbols slots i line s v listed core outside (places s.values.mem stand) is_state are_values stands same;
  back = λ i inst r s v listed core returns stand is_state are_values stands same. runs.back base symbols slots i inst r s v listed core returns (places s.values.mem stand) is_state are_values stands same;
}

-- where the image stands, the code does, placed
stands_at : (job : Job) (code : Code) (base : ℕ) (symbols slots : Addresses) (image : List ℕ) (p : Point) (v : FullValues) (b : FullState) → PlacesIn code base symbols slots image → StandsIn job code base image p v b →
    StandsAt (record { job = job; code = code; base = base; symbols = symbols; slots = slots }) p v b
stands_at job code base symbols slots image p v b places s = record {
  pc = s.pc;
  stopped = s.stopped;
  same = s.same;
  is_state = s.is_state;
  are_values = s.are_values;
  legal = s.legal;
  placed = places b.state.values.mem s.there;
}

pub runs_fully_in : (job : Job) (code : Code) (base : ℕ) (symbols slots : Addresses) (image : List ℕ) → PlacesIn code base symbols slots image → FullRuns job code → RunsFullyIn job code base symbols slots image
runs_fully_in job code base symbols slots image places runs = record {
  from = λ p v b k entry stands. runs.from base symbols slots p v b k entry (stands_at job code base symbols slots image p v b places stands);
}
