use Rattle.std.proofs.lemmas.Result.{IfOk-weaker}
use Rattle.rv_run.proofs.Placing.{of_linked}
use Rattle.rv_run.proofs.program.outcome_of_program.Goals as goal

pub returns-in-Ok : goal.returns-in-Ok
returns-in-Ok g c = IfOk-weaker c.outcome_of_linked.result _ _ (λ outcome h. of_linked c.args.given.now c.args.settings.now c.args.program c.link.new.program outcome c.in-Ok.ensures.linked h) c.outcome_of_linked.ensures
