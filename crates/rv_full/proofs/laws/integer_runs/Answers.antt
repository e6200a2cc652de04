use Rattle.rv_full.proofs.LargerMachine.{integer_run}
use Rattle.rv_full.proofs.laws.integer_runs.Goals as goal

pub returns : goal.returns
returns c = integer_run
