use Rattle.rv_emit.proofs.{CallSlots.call_is, CallsPut.call_put, CallsPut.call_few_after, Terms.arith, Terms.alone_sound, Terms.call_given, Terms.context_by, Terms.[]}
use Rattle.rv_emit.proofs.calls.put_call.Goals as goal

pub put_continuation-requires-clause-room : goal.put_continuation-requires-clause-room
put_continuation-requires-clause-room c = omega (arith, c.requires.room, call_few_after _ _ (call_is (context_by c.args.flags c.args.frame.now []) (call_given c.args.stack_map.now c.args.info.now)) c.in_ok-begin_call.ensures.slots)

pub put_continuation-requires-clause-sound : goal.put_continuation-requires-clause-sound
put_continuation-requires-clause-sound c = alone_sound _ _ _ c.in_ok-begin_call.ensures.slots

pub returns-clause-slots : goal.returns-clause-slots
returns-clause-slots c = call_put _ _ _ _ (call_is (context_by c.args.flags c.args.frame.now []) (call_given c.args.stack_map.now c.args.info.now)) c.in_ok-begin_call.ensures.slots c.in_ok-put_continuation.ensures.slots
