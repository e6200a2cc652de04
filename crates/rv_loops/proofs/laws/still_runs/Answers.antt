use Rattle.rv_loops.proofs.SharedRuns.{still_runs}
use Rattle.rv_loops.proofs.laws.still_runs.Goals as goal

pub returns : goal.returns
returns c = still_runs
