use Rattle.rv_full.proofs.SharedStates.{foreigns_keep, shared_run}
use Rattle.rv_full.proofs.StatesKept.{step_kept}
use Rattle.rv_full.proofs.laws.states_stay.Goals as goal

pub returns-clause-step : goal.returns-clause-step
returns-clause-step c = step_kept

pub returns-clause-written : goal.returns-clause-written
returns-clause-written c = foreigns_keep

pub returns-clause-run : goal.returns-clause-run
returns-clause-run c = shared_run
