use Rattle.std.proofs.Common.{map}
use Rattle.std.specs.Prelude.{string_bytes}
use Rattle.rv_program.specs.Endings.{call, meaning, stream}
use Rattle.rv_program.proofs.Streams.{started}
use Rattle.rv_program.proofs.program.run_on.Goals as goal

pub returns : goal.returns
returns g c =
    let means = meaning g.P.Program.name g.P.Program.asks g.P.Program.answers in
    let source = stream (g.S.Source.left c.args.source.now) (g.S.Source.left c.run.new.source) (g.S.Source.faults c.args.source.now) (g.S.Source.faults c.run.new.source) in
    let sink = stream (g.K.Sink.taken c.args.sink.now) (g.K.Sink.taken c.run.new.sink) (g.K.Sink.faults c.args.sink.now) (g.K.Sink.faults c.run.new.sink) in
    let errors = stream (g.E.Sink.taken c.args.errors.now) (g.E.Sink.taken c.run.new.errors) (g.E.Sink.faults c.args.errors.now) (g.E.Sink.faults c.run.new.errors) in
    started means (call (map string_bytes c.args.words.now) source sink errors) c.run.result c.run.ensures.ended
