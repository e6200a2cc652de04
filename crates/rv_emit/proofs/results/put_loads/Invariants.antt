use Rattle.rv_emit.proofs.Terms.{take, result_loads, PutsAlone, stack_load_slots}
use Rattle.rv_emit.proofs.results.put_loads.Given as goal

abbrev pub invariant-loop-def : goal.invariant-loop-def
invariant-loop-def l = PutsAlone l.flags (stack_load_slots l.flags (result_loads (take l.def-index l.defs))) l.fn.sink l.sink
