use Rattle.rv_emit.proofs.Terms.{take, pos, ◌-ℤ◌, saves_from, PutsAlone, stack_load_slots}
use Rattle.rv_emit.proofs.stack.put_saves.Given as goal

abbrev pub invariant-loop-index : goal.invariant-loop-index
invariant-loop-index l = PutsAlone l.flags (stack_load_slots l.flags (saves_from (pos l.below -ℤ pos 8) (take l.index l.saves))) l.fn.sink l.sink
