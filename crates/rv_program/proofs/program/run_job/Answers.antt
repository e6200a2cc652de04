use Rattle.std.proofs.Common.{inr}
use Rattle.rv_program.specs.Endings.{call, meaning, stream}
use Rattle.rv_program.proofs.Streams.{ended}
use Rattle.rv_program.proofs.program.run_job.Goals as goal

pub returns-in-Ok-answer : goal.returns-in-Ok-answer
returns-in-Ok-answer g c = λ words asks.
    let means = meaning g.P.Program.name g.P.Program.asks g.P.Program.answers in
    let source = stream (g.S.Source.left c.args.source.now) (g.S.Source.left c.read_all.new.source) (g.S.Source.faults c.args.source.now) (g.S.Source.faults c.read_all.new.source) in
    let sink = stream (g.K.Sink.taken c.args.sink.now) (g.K.Sink.taken c.conclude.new.sink) (g.K.Sink.faults c.args.sink.now) (g.K.Sink.faults c.conclude.new.sink) in
    let errors = stream (g.E.Sink.taken c.args.errors.now) (g.E.Sink.taken c.conclude.new.errors) (g.E.Sink.faults c.args.errors.now) (g.E.Sink.faults c.conclude.new.errors) in
    ended means (call words source sink errors) c.in-Ok-answer.answer c.conclude.result
    (inr (c.args.job.now, c.in-Ok.input.items, asks, (c.in-Ok.ensures.all, c.in-Ok.ensures.short, c.in-Ok.ensures.end), rw c.deref.ensures.value at c.in-Ok-answer.ensures))
    (rw c.name.ensures at c.conclude.ensures)
