use Rattle.rv_emit.proofs.{TailCallCode.real_int, TailCallCode.t0_put, Islands.room_left, Terms.alone_long, Terms.◌+◌, Terms.◌*◌, Terms.length, Terms.arith, Terms.real_number, Terms.return_most}
use Rattle.rv_emit.proofs.stack.put_tail_jump.Goals as goal

pub overflow_add-size : goal.overflow_add-size
overflow_add-size c = record { fits = omega (arith, return_most c.args.flags c.args.frame.now c.args.info.now.new_stack_arg_size, c.in_ok-size.ensures.size, c.requires.room) }

pub put_jalr-requires-clause-rd : goal.put_jalr-requires-clause-rd
put_jalr-requires-clause-rd c = real_int _ _ c.writable_zero_reg.ensures

pub put_jalr-requires-clause-room : goal.put_jalr-requires-clause-room
put_jalr-requires-clause-room c =
    let island = rw c.in_ok-size.ensures.same at c.in_ok-emit_island_if_needed.ensures.made in
    omega (arith, return_most c.args.flags c.args.frame.now c.args.info.now.new_stack_arg_size, room_left (c.in_ok-size.size + 4) (32 * length c.args.frame.now.clobbered_callee_saves + 96) c.args.sink.now c.emit_island_if_needed.new.sink c.in_ok-emit_island_if_needed.field-0 (omega (arith, c.requires.room)) island, alone_long _ c.emit_island_if_needed.new.sink c.put_return.new.sink c.in_ok-put_return.ensures.slots)

pub returns-clause-parts : goal.returns-clause-parts
returns-clause-parts c =
    t0_put c.args.frame.now c.args.info.now.new_stack_arg_size _ _ _ _ _ _ _ c.in_ok-emit_island_if_needed.field-0
    c.in_ok-size.ensures.size (real_number _ _ _ c.writable_zero_reg.ensures) c.requires.fifth
    (rw c.in_ok-size.ensures.same at c.in_ok-emit_island_if_needed.ensures.made) c.in_ok-put_return.ensures.slots c.in_ok-put_jalr.ensures.slots
