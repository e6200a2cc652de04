use Rattle.rv_asm.proofs.Words.{drop, is_in, unbound_among, ◌≡◌}
use Rattle.rv_asm.proofs.refusal.find_all_of.Given as goal

abbrev pub invariant-loop-label : goal.invariant-loop-label
invariant-loop-label l = unbound_among (is_in l.bound) (drop l.label-index l.labels) ≡ unbound_among (is_in l.bound) l.labels
