use Rattle.rv_emit.proofs.{TableCode.others, TableCode.others_fewer, TableCode.counted, TableCode.before_few, TableCode.table_put, Terms.length, Terms.arith, Terms.number_of, Terms.real_number}
use Rattle.rv_emit.proofs.table.put_table.Goals as goal

pub put_jumps-requires-clause-room : goal.put_jumps-requires-clause-room
put_jumps-requires-clause-room c =
    let tmp2 = number_of c.args.tmp2.reg in
    let n = length (others c.args.targets.now) in
    let first = rw (real_number c.writable_spilltmp_reg.result.reg _ 31 c.writable_spilltmp_reg.ensures) at c.in_ok-put_extend.ensures.slots in
    omega (arith, others_fewer c.args.targets.now c.requires.some, c.requires.room, before_few (number_of c.args.index) tmp2 n c.args.sink.now c.put_extend.new.sink c.put_number.new.sink (omega arith) first (counted tmp2 n (omega arith) c.in_ok-put_number.ensures.slots))

pub returns-clause-slots : goal.returns-clause-slots
returns-clause-slots c =
    let tmp2 = number_of c.args.tmp2.reg in
    let n = length (others c.args.targets.now) in
    let first = rw (real_number c.writable_spilltmp_reg.result.reg _ 31 c.writable_spilltmp_reg.ensures) at c.in_ok-put_extend.ensures.slots in
    table_put (number_of c.args.index) (number_of c.args.tmp1.reg) tmp2 c.args.targets.now _ c.args.sink.now c.put_extend.new.sink c.put_number.new.sink c.put_jumps.new.sink c.requires.some first (counted tmp2 n (omega (arith, others_fewer c.args.targets.now c.requires.some)) c.in_ok-put_number.ensures.slots) c.in_ok-put_jumps.ensures.slots
