use Rattle.rv_full.proofs.Runs.{undisturbed_run}
use Rattle.rv_full.proofs.laws.undisturbed_runs.Goals as goal

pub returns : goal.returns
returns c = undisturbed_run
