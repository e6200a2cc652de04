use Rattle.rv_operands.proofs.Turns.{AreDone}
use Rattle.rv_operands.proofs.pairs.hand_all.Given as goal

abbrev pub invariant-loop-index : goal.invariant-loop-index
invariant-loop-index g l = AreDone g.V.OperandVisitor.recorded g.V.OperandVisitor.given g.P.Pair.operand g.P.Pair.shape l.fn.collector l.collector l.fn.pairs l.pairs l.index
