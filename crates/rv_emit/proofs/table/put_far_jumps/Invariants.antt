use Rattle.rv_emit.proofs.Terms.{map, take, number_of, PutsAlone, far_jump}
use Rattle.rv_emit.proofs.table.put_far_jumps.Given as goal

abbrev pub invariant-loop-label : goal.invariant-loop-label
invariant-loop-label l = PutsAlone l.flags (map (far_jump (number_of l.tmp.reg)) (take l.label-index l.labels)) l.fn.sink l.sink
