use Rattle.{rv_emit.proofs.{Islands.room_left, TailCallCode.real_int, TailCallCode.tail_put}, rv_emit.proofs.Terms.{◌+◌, ◌*◌, [], ◌∷◌, length, arith, no_flags, Records, real_number, alone_long, alone_sound, return_most}}
use Rattle.mach_records.specs.declared.records.Event.TheVariants as event
use Rattle.rv_emit.proofs.stack.put_tail_call.Goals as goal

pub overflow_add-size : goal.overflow_add-size
overflow_add-size c = record { fits = omega (arith, return_most c.args.flags c.args.frame.now c.args.info.now.new_stack_arg_size, c.in_ok-size.ensures.size, c.requires.room) }

pub put_call_to-requires : goal.put_call_to-requires
put_call_to-requires c =
    let island = rw c.in_ok-size.ensures.same at c.in_ok-emit_island_if_needed.ensures.made in
    record {
      link = real_int _ _ c.writable_zero_reg.ensures;
      tmp = real_int _ _ c.writable_spilltmp_reg.ensures;
      room = omega (arith, return_most c.args.flags c.args.frame.now c.args.info.now.new_stack_arg_size, alone_long _ c.emit_island_if_needed.new.sink c.put_return.new.sink c.in_ok-put_return.ensures.slots, room_left (c.in_ok-size.size + 8) (32 * length c.args.frame.now.clobbered_callee_saves + 96) c.args.sink.now c.emit_island_if_needed.new.sink c.in_ok-emit_island_if_needed.field-0 (omega (arith, c.requires.room)) island, alone_long {flags = no_flags} (Records event.CallSite ∷ []) c.put_return.new.sink c.put_call_site.new.sink (c.in_ok-put_call_site.ensures.slots no_flags));
      sound = alone_sound {flags = no_flags} _ _ _ (c.in_ok-put_call_site.ensures.slots no_flags);
    }

pub returns-clause-parts : goal.returns-clause-parts
returns-clause-parts c =
    tail_put c.args.frame.now c.args.info.now.new_stack_arg_size _ _ _ _ _ _ _ _ _ c.in_ok-emit_island_if_needed.field-0
    c.in_ok-size.ensures.size (real_number _ _ _ c.writable_zero_reg.ensures) (real_number _ _ _ c.writable_spilltmp_reg.ensures)
    (rw c.in_ok-size.ensures.same at c.in_ok-emit_island_if_needed.ensures.made) c.in_ok-put_return.ensures.slots (c.in_ok-put_call_site.ensures.slots c.args.flags) (c.in_ok-put_call_to.ensures.slots c.args.flags)
