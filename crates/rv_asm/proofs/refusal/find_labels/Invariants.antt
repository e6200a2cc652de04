use Rattle.rv_asm.proofs.Words.{drop, is_in, unbound_in, ◌≡◌}
use Rattle.rv_asm.proofs.refusal.find_labels.Given as goal

abbrev pub invariant-loop-line : goal.invariant-loop-line
invariant-loop-line l = unbound_in (is_in l.bound) (drop l.line-index l.lines) ≡ unbound_in (is_in l.bound) l.lines
