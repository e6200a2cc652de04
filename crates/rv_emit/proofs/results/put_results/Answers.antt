use Rattle.rv_emit.proofs.{CallsPut.asked_put, MostBytes.all_load, TailCallCode.loads_room, Islands.room_left, Islands.room_sound, Terms.rules, Terms.arith, Terms.alone_sound, Terms.result_loads, Terms.results_short}
use Rattle.rv_emit.proofs.results.put_results.Goals as goal

pub put_loads-requires : goal.put_loads-requires
put_loads-requires c = record { results = search rules; room = omega (arith, room_left _ _ _ _ _ c.requires.room c.in_ok-emit_island_if_needed.ensures.made); sound = room_sound _ _ _ _ c.in_ok-emit_island_if_needed.ensures.made c.requires.sound }

pub put_continuation-requires-clause-room : goal.put_continuation-requires-clause-room
put_continuation-requires-clause-room c = omega (arith, room_left _ _ _ _ _ c.requires.room c.in_ok-emit_island_if_needed.ensures.made, loads_room (result_loads c.args.defs.now) _ _ (results_short c.args.flags _ c.requires.results) c.in_ok-put_loads.ensures.slots, all_load c.args.defs.now c.requires.results)

pub put_continuation-requires-clause-sound : goal.put_continuation-requires-clause-sound
put_continuation-requires-clause-sound c = alone_sound _ _ _ c.in_ok-put_loads.ensures.slots

pub returns-clause-parts : goal.returns-clause-parts
returns-clause-parts c = asked_put c.args.defs.now _ _ _ _ _ _ _ c.results_space-space.ensures c.in_ok-emit_island_if_needed.ensures.made c.in_ok-put_loads.ensures.slots c.in_ok-put_continuation.ensures.slots
