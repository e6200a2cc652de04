use Rattle.rv_asm.proofs.Words.{constants_sum, drop, size_limit, ◌+◌, ◌≡◌}
use Rattle.rv_asm.proofs.refusal.left_by_constants.Given as goal

abbrev pub invariant-loop-constant : goal.invariant-loop-constant
invariant-loop-constant l = l.left + constants_sum l.constants ≡ size_limit + constants_sum (drop l.constant-index l.constants)
