use Rattle.rv_runs.proofs.InstRuns.{inst_runs}
use Rattle.rv_runs.proofs.laws.parts_run.Goals as goal

pub returns : goal.returns
returns c = inst_runs
