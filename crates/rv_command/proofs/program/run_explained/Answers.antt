use Rattle.rv_command.proofs.Outcomes.{settled, runs_fully}
use Rattle.rv_command.proofs.program.run_explained.Goals as goal

pub returns-clause-settled : goal.returns-clause-settled
returns-clause-settled g c = settled _ c.outcome_of_call.result.outcome c.outcome_of_call.ensures.ended

pub returns-clause-full_runs : goal.returns-clause-full_runs
returns-clause-full_runs g c = runs_fully _ c.outcome_of_call.result.outcome c.outcome_of_call.ensures.ended
