use Rattle.{rv_emit.proofs.TailCallCode.{real_int, returned_long, call_begun}, rv_emit.proofs.Terms.{◌≡◌, ◌-◌, FitsSigned, rules, arith, to_z-of_z, w64, no_flags, call_size, real_number, alone_long, alone_sound, call_given}}
use Rattle.rv_emit.proofs.calls.begin_call.Goals as goal

pub put_call_to-requires : goal.put_call_to-requires
put_call_to-requires c = record { link = real_int _ _ c.writable_link_reg.ensures; tmp = real_int _ _ c.writable_link_reg-2.ensures; room = search rules; sound = search rules }

pub put_return-requires-clause-sound : goal.put_return-requires-clause-sound
put_return-requires-clause-sound c = alone_sound {flags = no_flags} _ _ _ (c.in_ok-put_call_to.ensures.slots no_flags)

pub put_stack_step-requires-clause-room : goal.put_stack_step-requires-clause-room
put_stack_step-requires-clause-room c = omega (arith, c.requires.room, alone_long {flags = no_flags} _ _ _ (c.in_ok-put_call_to.ensures.slots no_flags), returned_long c.args.frame.now _ _ _ _ (c.in_ok-put_return.ensures.slots no_flags))

pub put_stack_step-requires-clause-sound : goal.put_stack_step-requires-clause-sound
put_stack_step-requires-clause-sound c = alone_sound {flags = no_flags} _ _ _ (c.in_ok-put_return.ensures.slots no_flags)

pub overflow_sub-end : goal.overflow_sub-end
overflow_sub-end c =
    let info = call_given c.args.stack_map.now c.args.info.now in
    let fits : FitsSigned w64 c.fallen.result = search rules in
    let step = rw (to_z-of_z w64 c.fallen.result fits, c.fallen.ensures) at c.in_ok-put_stack_step.ensures.slots in
    omega (arith, alone_long {flags = no_flags} _ c.args.sink.now c.put_call_to.new.sink (c.in_ok-put_call_to.ensures.slots no_flags), returned_long c.args.frame.now info.stack_map info.try_call_info c.put_call_to.new.sink c.put_return.new.sink (c.in_ok-put_return.ensures.slots no_flags), alone_long _ c.put_return.new.sink c.put_stack_step.new.sink step, c.cur_offset-start.ensures, c.cur_offset-end.ensures)

pub returns-clause-slots : goal.returns-clause-slots
returns-clause-slots c =
    let info = call_given c.args.stack_map.now c.args.info.now in
    let flags = c.args.flags in
    let link = real_number c.writable_link_reg.result.reg _ 1 c.writable_link_reg.ensures in
    let tmp = real_number c.writable_link_reg-2.result.reg _ 1 c.writable_link_reg-2.ensures in
    let fits : FitsSigned w64 c.fallen.result = search rules in
    let step = rw (to_z-of_z w64 c.fallen.result fits, c.fallen.ensures) at c.in_ok-put_stack_step.ensures.slots in
    let size : c.cur_offset-end.result - c.cur_offset-start.result ≡ call_size flags 8 info.callee_pop_size =
    omega (arith, alone_long {flags = no_flags} _ c.args.sink.now c.put_call_to.new.sink (c.in_ok-put_call_to.ensures.slots no_flags), returned_long c.args.frame.now info.stack_map info.try_call_info c.put_call_to.new.sink c.put_return.new.sink (c.in_ok-put_return.ensures.slots no_flags), alone_long _ c.put_return.new.sink c.put_stack_step.new.sink step) in
    let patch = rw size at (c.in_ok-put_patchable.ensures.slots flags) in
    call_begun c.args.frame.now info _ _ c.args.sink.now c.put_call_to.new.sink c.put_return.new.sink c.put_stack_step.new.sink c.put_patchable.new.sink link tmp (c.in_ok-put_call_to.ensures.slots flags) (c.in_ok-put_return.ensures.slots flags) step patch
