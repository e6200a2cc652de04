use Rattle.rv_emit.proofs.{TailCallCode.saves_room, TailCallCode.loads_room, TailCallCode.return_put, Terms.FitsSigned, Terms.◌∙◌, Terms.ap, Terms.pos, Terms.rules, Terms.arith, Terms.to_z-of_z, Terms.w64, Terms.◌-ℤ◌, Terms.sp_to_fp_of, Terms.setup_loads, Terms.setup_short, Terms.setup_few}
use Rattle.rv_emit.proofs.stack.put_return.Goals as goal

pub put_setup-requires-clause-room : goal.put_setup-requires-clause-room
put_setup-requires-clause-room c =
    let saves = rw (c.sp_to_fp.ensures, c.as_slice.ensures) at c.in_ok-put_saves.ensures.slots in
    omega (arith, saves_room (pos (sp_to_fp_of c.args.frame.now) -ℤ pos 8) c.args.frame.now.clobbered_callee_saves c.args.sink.now c.put_saves.new.sink saves, c.requires.room)

pub put_stack_step-requires-clause-room : goal.put_stack_step-requires-clause-room
put_stack_step-requires-clause-room c =
    let saves = rw (c.sp_to_fp.ensures, c.as_slice.ensures) at c.in_ok-put_saves.ensures.slots in
    omega (arith, saves_room (pos (sp_to_fp_of c.args.frame.now) -ℤ pos 8) c.args.frame.now.clobbered_callee_saves c.args.sink.now c.put_saves.new.sink saves, loads_room (setup_loads c.args.frame.now) c.put_saves.new.sink c.put_setup.new.sink (setup_short c.args.flags c.args.frame.now) c.in_ok-put_setup.ensures.slots, setup_few c.args.frame.now, c.requires.room)

pub returns-clause-slots : goal.returns-clause-slots
returns-clause-slots c =
    let saves = rw (c.sp_to_fp.ensures, c.as_slice.ensures) at c.in_ok-put_saves.ensures.slots in
    let fits : FitsSigned w64 c.from.result = search rules in
    return_put c.args.frame.now c.args.arguments _ _ _ _ saves c.in_ok-put_setup.ensures.slots (rw (c.from.ensures ∙ ap pos c.frame_above.ensures) at (rw (to_z-of_z w64 c.from.result fits) at c.in_ok-put_stack_step.ensures.slots))
