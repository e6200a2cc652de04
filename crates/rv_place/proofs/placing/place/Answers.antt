use Rattle.std.proofs.Common.{◌≡◌, ℕ, ◌<◌, List, sym, subst, slice_index}
use Rattle.rv_fill.specs.Filled.{table_of}
use Rattle.rv_place.specs.Images.{PlacesIn}
use Rattle.rv_place.proofs.Placements.{placed}
use Rattle.rv_place.proofs.Records.{of_place}
use Rattle.rv_place.proofs.Runs.{runs_fully_in, runs_in}
use Rattle.rv_place.proofs.placing.place.Goals as goal

pub returns-in-Ok-clause-placed : goal.returns-in-Ok-clause-placed
returns-in-Ok-clause-placed c =
    let old : (k : ℕ) → slice_index c.args.code.now.bytes k < 256 = subst (λ (s : List ℕ). (k : ℕ) → slice_index s k < 256) c.as_slice.ensures c.bytes_fit.ensures in
    placed c.args.code.now c.args.base (table_of c.args.syms.now) (table_of c.args.slots.now) c.in-Ok.ensures.refused old c.in-Ok.bytes c.in-Ok.ensures.filled c.in-Ok.ensures.bytes

pub returns-in-Ok-clause-runs : goal.returns-in-Ok-clause-runs
returns-in-Ok-clause-runs c = λ job runs. runs_in job c.args.code.now c.args.base (table_of c.args.syms.now) (table_of c.args.slots.now) c.in-Ok.bytes (returns-in-Ok-clause-placed c) runs

pub returns-in-Ok-clause-full_runs : goal.returns-in-Ok-clause-full_runs
returns-in-Ok-clause-full_runs c = λ job runs. runs_fully_in job c.args.code.now c.args.base (table_of c.args.syms.now) (table_of c.args.slots.now) c.in-Ok.bytes (returns-in-Ok-clause-placed c) runs

pub returns-in-Err-clause-sound : goal.returns-in-Err-clause-sound
returns-in-Err-clause-sound c = λ job reported. of_place job c.args.code.now reported c.args.base (table_of c.args.syms.now) (table_of c.args.slots.now) c.in-Err.error c.in-Err.ensures.refused
