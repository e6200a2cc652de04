use Rattle.std.proofs.Common.{◌++◌, List, ℕ, subst}
use Rattle.rv_program.specs.Endings.{stream, Writes}
use Rattle.rv_program.proofs.Streams.{tells}
use Rattle.rv_program.proofs.writing.tell.Goals as goal

pub returns : goal.returns
returns g c = λ before faults noted.
    let s = stream before (g.E.Sink.taken c.write_on-told.new.sink) faults (g.E.Sink.faults c.write_on-told.new.sink) in
    let answer = c.args.answer.now in
    let told = subst (λ (t : List ℕ). Writes s (answer.notes ++ t) c.write_on-told.result) c.as_slice.ensures (c.write_on-told.ensures before faults answer.notes noted) in
    rw c.ending_of.ensures (tells answer s c.write_on-told.result told)
