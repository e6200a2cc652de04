use Rattle.rv_operands.proofs.Turns.{none_done, one_more}
use Rattle.rv_operands.proofs.pairs.hand_all.Goals as goal

pub loop-index-init : goal.loop-index-init
loop-index-init g c = none_done c.args.collector.now c.args.pairs.now

pub loop-index-preserved : goal.loop-index-preserved
loop-index-preserved g c = rw c.set.ensures (one_more c.loop-index.invariant c.get-pair.ensures c.in_ok-hand_over.ensures.handed c.in_ok-hand_over.ensures.same)
