use Rattle.rv_emit.proofs.{TailCallCode.saved_more, TailCallCode.saves_room, Terms.pos, Terms.arith, Terms.◌-ℤ◌, Terms.alone_sound, Terms.none_put, Terms.take_all, Terms.take, Terms.length-take}
use Rattle.rv_emit.proofs.stack.put_saves.Goals as goal

pub loop-index-init : goal.loop-index-init
loop-index-init c = none_put _ _ c.requires.sound

pub put_save-requires-clause-room : goal.put_save-requires-clause-room
put_save-requires-clause-room c = omega (arith, c.loop-index-test.true, saves_room (pos c.args.below -ℤ pos 8) (take c.loop-index.index c.args.saves.now) c.args.sink.now c.loop-index.sink c.loop-index.invariant, length-take c.loop-index.index c.args.saves.now, c.requires.room)

pub put_save-requires-clause-sound : goal.put_save-requires-clause-sound
put_save-requires-clause-sound c = alone_sound _ _ _ c.loop-index.invariant

pub loop-index-preserved : goal.loop-index-preserved
loop-index-preserved c =
    let lt = c.loop-index-test.true in
    saved_more _ _ _ _ _ _ _ _ lt c.index-saves-index.is (omega arith) c.loop-index.invariant c.in_ok-put_save.ensures.slots

pub returns-clause-slots : goal.returns-clause-slots
returns-clause-slots c = rw (take_all c.loop-index.index c.args.saves.now (let at_end = c.loop-index-test.false in omega arith)) at c.loop-index.invariant
