use Rattle.std.proofs.lemmas.Result.{IfOk-weaker}
use Rattle.rv_run.proofs.Placing.{of_program}
use Rattle.rv_run.proofs.program.outcome_of_input.Goals as goal

pub returns-in-Ok : goal.returns-in-Ok
returns-in-Ok g c = IfOk-weaker c.outcome_of_program.result _ _ (λ outcome h. of_program c.args.given.now c.args.settings.now c.args.input.now c.in-Ok.program outcome c.in-Ok.ensures h) c.outcome_of_program.ensures
