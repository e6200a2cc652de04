use Rattle.rv_asm.proofs.Words.{drop, handler_label, is_in, map, unbound_among, ◌≡◌}
use Rattle.rv_asm.proofs.refusal.find_handlers.Given as goal

abbrev pub invariant-loop-handler : goal.invariant-loop-handler
invariant-loop-handler l = unbound_among (is_in l.bound) (map handler_label (drop l.handler-index l.handlers)) ≡ unbound_among (is_in l.bound) (map handler_label l.handlers)
