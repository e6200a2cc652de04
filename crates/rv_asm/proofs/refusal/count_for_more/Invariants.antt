use Rattle.rv_asm.proofs.Words.{Constant, context_by, drop, IsaFlags, lines_sum, List, ◌+◌, ◌≡◌}
use Rattle.rv_asm.proofs.refusal.count_for_more.Given as goal

abbrev pub invariant-loop-line : goal.invariant-loop-line
invariant-loop-line l = (flags : IsaFlags) (constants : List Constant) → l.left + lines_sum (context_by flags l.frame constants) l.lines ≡ l.fn.left + lines_sum (context_by flags l.frame constants) (drop l.line-index l.lines)
