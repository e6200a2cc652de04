use Rattle.rv_program.proofs.Streams.{writes_more, writes_then}
use Rattle.rv_program.proofs.writing.write_on.Goals as goal

pub returns-in-Ok : goal.returns-in-Ok
returns-in-Ok g c = λ before faults xs first. writes_then _ _ _ _ _ _ xs c.args.text.now _ c.write.result (rw c.in-Ok.is at first) c.write.ensures.all c.write.ensures.front c.write.ensures.failed c.write.ensures.later

pub returns-in-Err : goal.returns-in-Err
returns-in-Err g c = λ before faults xs first. writes_more _ xs c.args.text.now c.in-Err.error (rw c.in-Err.is at first)
