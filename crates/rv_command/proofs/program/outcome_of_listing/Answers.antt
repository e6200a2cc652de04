use Rattle.std.proofs.Common.{refl}
use Rattle.std.proofs.lemmas.Result.{IfOk-weaker}
use Rattle.rv_command.specs.declared.outcome.Outcome.TheVariants as ends
use Rattle.rv_command.specs.Outcomes.{call, too_long_line}
use Rattle.rv_command.proofs.Outcomes.{due_of_answer, due_of_input, ended_answered}
use Rattle.rv_command.proofs.program.outcome_of_listing.Goals as goal

pub returns-in-Ok : goal.returns-in-Ok
returns-in-Ok g c = λ words is.
    let io = call words (g.S.Source.left c.args.source.now) (g.S.Source.left c.read_all.new.source) (g.S.Source.faults c.args.source.now) (g.S.Source.faults c.read_all.new.source) (g.K.Sink.taken c.args.sink.now) (g.K.Sink.taken c.write_answer.new.sink) (g.K.Sink.faults c.args.sink.now) (g.K.Sink.faults c.write_answer.new.sink) in
    ended_answered io c.answer_of_input.result c.write_answer.result.outcome
    (IfOk-weaker c.answer_of_input.result _ _ (λ answer means. due_of_input io c.args.texts c.in-Ok.input.items answer.outcome answer.text is (c.in-Ok.ensures.all, c.in-Ok.ensures.short, c.in-Ok.ensures.end) means) c.answer_of_input.ensures)
    c.write_answer.ensures

pub returns-in-Err-TooLong : goal.returns-in-Err-TooLong
returns-in-Err-TooLong g c = λ words is.
    let io = call words (g.S.Source.left c.args.source.now) (g.S.Source.left c.read_all.new.source) (g.S.Source.faults c.args.source.now) (g.S.Source.faults c.read_all.new.source) (g.K.Sink.taken c.args.sink.now) (g.K.Sink.taken c.write_answer-in-Err-TooLong.new.sink) (g.K.Sink.faults c.args.sink.now) (g.K.Sink.faults c.write_answer-in-Err-TooLong.new.sink) in
    ended_answered io c.too_long.result c.write_answer-in-Err-TooLong.result.outcome
    (IfOk-weaker c.too_long.result _ _ (λ answer same. due_of_answer io ends.TooLong too_long_line answer same ((c.args.texts, is), c.in-Err-TooLong.ensures.long (cc (c.in-Err-TooLong.field-0-is)), refl)) c.too_long.ensures)
    c.write_answer-in-Err-TooLong.ensures
