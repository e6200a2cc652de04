use Rattle.rv_asm.proofs.Words.{broken_from, drop, ◌≡◌}
use Rattle.rv_asm.proofs.refusal.check_rules.Given as goal

abbrev pub invariant-loop-index : goal.invariant-loop-index
invariant-loop-index l = broken_from l.context l.index (drop l.index l.lines) ≡ broken_from l.context 0 l.lines
