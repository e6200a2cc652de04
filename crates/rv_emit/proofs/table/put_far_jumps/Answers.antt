use Rattle.rv_emit.proofs.{TableCode.each_listed, TableCode.one_more, TableCode.some_long, Terms.arith, Terms.alone_sound, Terms.none_put, Terms.take_all}
use Rattle.rv_emit.proofs.table.put_far_jumps.Goals as goal

pub loop-label-init : goal.loop-label-init
loop-label-init c = none_put _ _ c.requires.sound

pub put_far_jump-requires-clause-label : goal.put_far_jump-requires-clause-label
put_far_jump-requires-clause-label c = each_listed _ _ _ c.requires.listed c.loop-label-test.true

pub put_far_jump-requires-clause-room : goal.put_far_jump-requires-clause-room
put_far_jump-requires-clause-room c = omega (arith, c.loop-label-test.true, some_long _ _ _ _ _ (omega arith) c.loop-label.invariant, c.requires.room)

pub put_far_jump-requires-clause-sound : goal.put_far_jump-requires-clause-sound
put_far_jump-requires-clause-sound c = alone_sound _ _ _ c.loop-label.invariant

pub loop-label-preserved : goal.loop-label-preserved
loop-label-preserved c = one_more _ _ _ _ _ _ _ c.loop-label-test.true c.loop-label.invariant c.in_ok-put_far_jump.ensures.slots

pub returns-clause-slots : goal.returns-clause-slots
returns-clause-slots c = rw (take_all c.loop-label.label-index c.args.labels.now (let at_end = c.loop-label-test.false in omega arith)) at c.loop-label.invariant
