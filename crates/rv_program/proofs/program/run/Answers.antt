use Rattle.std.proofs.Common.{inl, map}
use Rattle.std.specs.Prelude.{string_bytes}
use Rattle.rv_program.specs.Endings.{call, meaning, stream}
use Rattle.rv_program.proofs.Streams.{ended}
use Rattle.rv_program.proofs.program.run.Goals as goal

pub returns-in-Ok-Done-clause-ended : goal.returns-in-Ok-Done-clause-ended
returns-in-Ok-Done-clause-ended g c =
    let means = meaning g.P.Program.name g.P.Program.asks g.P.Program.answers in
    let source = stream (g.S.Source.left c.args.source.now) (g.S.Source.left c.args.source.now) (g.S.Source.faults c.args.source.now) (g.S.Source.faults c.args.source.now) in
    let sink = stream (g.K.Sink.taken c.args.sink.now) (g.K.Sink.taken c.conclude.new.sink) (g.K.Sink.faults c.args.sink.now) (g.K.Sink.faults c.conclude.new.sink) in
    let errors = stream (g.E.Sink.taken c.args.errors.now) (g.E.Sink.taken c.conclude.new.errors) (g.E.Sink.faults c.args.errors.now) (g.E.Sink.faults c.conclude.new.errors) in
    ended means (call (map string_bytes c.args.words.now) source sink errors) c.in-Ok-Done.answer c.conclude.result
    (inl (rw c.in-Ok-Done.field-0-is at c.in-Ok-Done.ensures))
    (rw c.name.ensures at c.conclude.ensures)
