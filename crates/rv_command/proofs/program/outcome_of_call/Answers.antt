use Rattle.std.proofs.Common.{map, refl}
use Rattle.std.specs.Prelude.{string_bytes}
use Rattle.std.proofs.lemmas.Result.{IfOk-weaker}
use Rattle.rv_command.specs.declared.outcome.Outcome.TheVariants as ends
use Rattle.rv_command.specs.Outcomes.{call, usage_line}
use Rattle.rv_command.proofs.Outcomes.{due_of_answer, ended_answered}
use Rattle.rv_command.proofs.program.outcome_of_call.Goals as goal

pub returns-in-Ok-Generated-clause-ended : goal.returns-in-Ok-Generated-clause-ended
returns-in-Ok-Generated-clause-ended g c = c.outcome_of_number.ensures (map string_bytes c.args.words.now) (g.S.Source.left c.args.source.now) (g.S.Source.faults c.args.source.now) (rw c.in-Ok-Generated.field-0-is at c.in-Ok-Generated.ensures)

pub returns-in-Err-Usage-clause-ended : goal.returns-in-Err-Usage-clause-ended
returns-in-Err-Usage-clause-ended g c =
    let io = call (map string_bytes c.args.words.now) (g.S.Source.left c.args.source.now) (g.S.Source.left c.args.source.now) (g.S.Source.faults c.args.source.now) (g.S.Source.faults c.args.source.now) (g.K.Sink.taken c.args.sink.now) (g.K.Sink.taken c.write_answer.new.sink) (g.K.Sink.faults c.args.sink.now) (g.K.Sink.faults c.write_answer.new.sink) in
    ended_answered io c.usage.result c.write_answer.result.outcome
    (IfOk-weaker c.usage.result _ _ (λ answer same. due_of_answer io ends.Usage usage_line answer same ((rw c.in-Err-Usage.field-0-is at c.in-Err-Usage.ensures), refl)) c.usage.ensures)
    c.write_answer.ensures
