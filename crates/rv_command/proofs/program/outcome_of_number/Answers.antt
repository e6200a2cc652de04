use Rattle.std.proofs.lemmas.Result.{IfOk-weaker}
use Rattle.rv_command.specs.declared.words.Request.TheVariants.{Generated}
use Rattle.rv_command.specs.Outcomes.{call}
use Rattle.rv_command.proofs.Outcomes.{due_of_job, ended_answered}
use Rattle.rv_command.proofs.program.outcome_of_number.Goals as goal

pub returns-in-Ok : goal.returns-in-Ok
returns-in-Ok g c = λ words left faults is.
    let io = call words left left faults faults (g.K.Sink.taken c.args.sink.now) (g.K.Sink.taken c.write_answer.new.sink) (g.K.Sink.faults c.args.sink.now) (g.K.Sink.faults c.write_answer.new.sink) in
    ended_answered io c.answer_of_job.result c.write_answer.result.outcome
    (IfOk-weaker c.answer_of_job.result _ _ (λ answer means. due_of_job io (Generated c.args.number) c.in-Ok.job answer.outcome answer.text is c.in-Ok.ensures means) c.answer_of_job.ensures)
    c.write_answer.ensures
