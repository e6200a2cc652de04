use Rattle.{rv_emit.proofs.TailCallCode.{real_int, returned_long, call_ind_begun}, rv_emit.proofs.Terms.{[], ◌∷◌, pos, FitsSigned, rules, arith, to_z-of_z, w64, no_flags, number_of, short_jalr, Op, real_number, jalr_sized, alone_long, alone_sound, call_given}}
use Rattle.rv_emit.proofs.calls.begin_call_ind.Goals as goal

pub put_jalr-requires-clause-rd : goal.put_jalr-requires-clause-rd
put_jalr-requires-clause-rd c = real_int _ _ c.writable_link_reg.ensures

pub put_return-requires-clause-sound : goal.put_return-requires-clause-sound
put_return-requires-clause-sound c = alone_sound _ _ _ c.in_ok-put_jalr.ensures.slots

pub put_stack_step-requires-clause-room : goal.put_stack_step-requires-clause-room
put_stack_step-requires-clause-room c =
    let info = call_given c.args.stack_map.now c.args.info.now in
    let link = number_of c.writable_link_reg.result.reg in
    let few = (jalr_sized c.args.flags link (number_of info.dest) (pos 0)).few in
    omega (arith, alone_long (Op (short_jalr c.args.flags link (number_of info.dest) (pos 0)) ∷ []) c.args.sink.now c.put_jalr.new.sink c.in_ok-put_jalr.ensures.slots, returned_long c.args.frame.now info.stack_map info.try_call_info c.put_jalr.new.sink c.put_return.new.sink (c.in_ok-put_return.ensures.slots no_flags))

pub put_stack_step-requires-clause-sound : goal.put_stack_step-requires-clause-sound
put_stack_step-requires-clause-sound c = alone_sound {flags = no_flags} _ _ _ (c.in_ok-put_return.ensures.slots no_flags)

pub returns-clause-slots : goal.returns-clause-slots
returns-clause-slots c =
    let info = call_given c.args.stack_map.now c.args.info.now in
    let flags = c.args.flags in
    let link = real_number _ _ _ c.writable_link_reg.ensures in
    let fits : FitsSigned w64 c.fallen.result = search rules in
    let step = rw (to_z-of_z w64 c.fallen.result fits, c.fallen.ensures) at c.in_ok-put_stack_step.ensures.slots in
    call_ind_begun c.args.frame.now info _ _ _ _ _ (alone_sound _ _ _ step) link c.in_ok-put_jalr.ensures.slots (c.in_ok-put_return.ensures.slots flags) step
