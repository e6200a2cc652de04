use Rattle.std.proofs.Common.{◌++◌, take, arith}
use Rattle.std.proofs.KnownBytes.{Appends-trans}
use Rattle.rv_stream.proofs.Known.{moves_front, took_front}
use Rattle.rv_program.proofs.writing.write.Goals as goal

pub returns-in_err-n-clause-front : goal.returns-in_err-n-clause-front
returns-in_err-n-clause-front g c =
    let (done, split, appended, later) = c.writing.invariant in
    took_front _ _ _ _ done _ split appended c.in_err-n.ensures.bytes

pub writing-preserved : goal.writing-preserved
writing-preserved g c =
    let (done, split, appended, later) = c.writing.invariant in
    let rest = c.writing.rest.now in
    let n = c.in_ok-n.n in
    (done ++ take n rest, moves_front _ done rest n split, Appends-trans _ _ _ _ _ appended c.in_ok-n.ensures.bytes, omega (arith, c.in_ok-n.ensures.count.later))
