use Rattle.rv_emit.proofs.{CallsPut.result_put, CallsPut.results_long, CallsPut.each_fine, Terms.arith, Terms.alone_sound, Terms.none_put, Terms.take_all}
use Rattle.rv_emit.proofs.results.put_loads.Goals as goal

pub loop-def-init : goal.loop-def-init
loop-def-init c = none_put _ _ c.requires.sound

pub put_result-requires : goal.put_result-requires
put_result-requires c = record {
  fine = rw c.def-item.is (each_fine _ _ _ c.requires.results c.loop-def-test.true);
  room = omega (arith, results_long _ _ _ _ c.requires.results c.loop-def.invariant, c.requires.room);
  sound = alone_sound _ _ _ c.loop-def.invariant;
}

pub loop-def-preserved : goal.loop-def-preserved
loop-def-preserved c = result_put _ _ _ _ _ _ c.loop-def-test.true c.loop-def.invariant (rw c.def-item.is at c.in_ok-put_result.ensures.slots)

pub returns-clause-slots : goal.returns-clause-slots
returns-clause-slots c = rw (take_all c.loop-def.def-index c.args.defs.now (let at_end = c.loop-def-test.false in omega arith)) at c.loop-def.invariant
