use Rattle.std.proofs.Common.{◌∙◌, ◌++◌, List, ℕ, ap₂, subst}
use Rattle.rv_program.specs.Endings.{stream, Writes, WroteFront}
use Rattle.rv_program.proofs.writing.fail.Goals as goal

pub returns-clause-says : goal.returns-clause-says
returns-clause-says g c =
    let before = g.E.Sink.taken c.args.errors.now in
    let faults = g.E.Sink.faults c.args.errors.now in
    let s = stream before (g.E.Sink.taken c.write_on.new.sink) faults (g.E.Sink.faults c.write_on.new.sink) in
    let named : Writes (stream before (g.E.Sink.taken c.write-named.new.sink) faults (g.E.Sink.faults c.write-named.new.sink)) c.as_bytes.result.now c.write-named.result =
    record { all = c.write-named.ensures.all; front = c.write-named.ensures.front; failed = c.write-named.ensures.failed; later = c.write-named.ensures.later } in
    let text = ap₂ (λ (xs ys : List ℕ). xs ++ ys) c.as_bytes.ensures.value (c.as_bytes-2.ensures.value ∙ c.fault_text.ensures) in
    let both = c.write_on.ensures before faults c.as_bytes.result.now named in
    subst (λ (t : List ℕ). WroteFront s t) text both.front
