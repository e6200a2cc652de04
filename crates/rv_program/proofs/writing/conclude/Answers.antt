use Rattle.std.proofs.Common.{List, ℕ, inl, subst}
use Rattle.rv_program.specs.Endings.{stream, Writes, Wrote, WroteFront}
use Rattle.rv_program.proofs.Streams.{concludes}
use Rattle.rv_program.proofs.writing.conclude.Goals as goal

pub returns-in-Ok : goal.returns-in-Ok
returns-in-Ok g c =
    let answer = c.args.answer.now in
    let sink = stream (g.K.Sink.taken c.args.sink.now) (g.K.Sink.taken c.write.new.sink) (g.K.Sink.faults c.args.sink.now) (g.K.Sink.faults c.write.new.sink) in
    let errors = stream (g.E.Sink.taken c.args.errors.now) (g.E.Sink.taken c.tell.new.errors) (g.E.Sink.faults c.args.errors.now) (g.E.Sink.faults c.tell.new.errors) in
    let noted : Writes (stream (g.E.Sink.taken c.args.errors.now) (g.E.Sink.taken c.write-noted.new.sink) (g.E.Sink.faults c.args.errors.now) (g.E.Sink.faults c.write-noted.new.sink)) c.as_slice.result.now c.write-noted.result =
    record { all = c.write-noted.ensures.all; front = c.write-noted.ensures.front; failed = c.write-noted.ensures.failed; later = c.write-noted.ensures.later } in
    concludes c.args.name.now answer sink errors c.tell.result
    (subst (λ (t : List ℕ). Wrote sink t) c.as_slice-2.ensures c.in-Ok.ensures.all)
    (subst (λ (t : List ℕ). WroteFront sink t) c.as_slice-2.ensures c.in-Ok.ensures.front)
    (c.tell.ensures _ _ (rw c.as_slice.ensures at noted))

pub returns-in-Err-Failed : goal.returns-in-Err-Failed
returns-in-Err-Failed g c =
    let answer = c.args.answer.now in
    let sink = stream (g.K.Sink.taken c.args.sink.now) (g.K.Sink.taken c.write.new.sink) (g.K.Sink.faults c.args.sink.now) (g.K.Sink.faults c.write.new.sink) in
    let noted : Writes (stream (g.E.Sink.taken c.args.errors.now) (g.E.Sink.taken c.write-noted.new.sink) (g.E.Sink.faults c.args.errors.now) (g.E.Sink.faults c.write-noted.new.sink)) c.as_slice.result.now c.write-noted.result =
    record { all = c.write-noted.ensures.all; front = c.write-noted.ensures.front; failed = c.write-noted.ensures.failed; later = c.write-noted.ensures.later } in
    let said = c.write_fault.ensures _ _ answer.notes (rw c.as_slice.ensures at noted) in
    let front = subst (λ (t : List ℕ). WroteFront sink t) c.as_slice-2.ensures c.in-Err-Failed.ensures.front in
    (inl (c.in-Err-Failed.ensures.failed (cc (c.in-Err-Failed.field-0-is))), (front, inl said.front))

pub returns-in-Err-OutOfMemory : goal.returns-in-Err-OutOfMemory
returns-in-Err-OutOfMemory g c =
    let answer = c.args.answer.now in
    let sink = stream (g.K.Sink.taken c.args.sink.now) (g.K.Sink.taken c.write.new.sink) (g.K.Sink.faults c.args.sink.now) (g.K.Sink.faults c.write.new.sink) in
    let noted : Writes (stream (g.E.Sink.taken c.args.errors.now) (g.E.Sink.taken c.write-noted.new.sink) (g.E.Sink.faults c.args.errors.now) (g.E.Sink.faults c.write-noted.new.sink)) c.as_slice.result.now c.write-noted.result =
    record { all = c.write-noted.ensures.all; front = c.write-noted.ensures.front; failed = c.write-noted.ensures.failed; later = c.write-noted.ensures.later } in
    let said = c.write_fault-in-Err-OutOfMemory.ensures _ _ answer.notes (rw c.as_slice.ensures at noted) in
    let front = subst (λ (t : List ℕ). WroteFront sink t) c.as_slice-2.ensures c.in-Err-OutOfMemory.ensures.front in
    (front, inl said.front)
