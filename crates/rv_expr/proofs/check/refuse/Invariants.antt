use Rattle.std.proofs.Common.{◌≡◌, drop}
use Rattle.rv_expr.specs.Refusal.{fault_from}
use Rattle.rv_expr.proofs.check.refuse.Given as goal

-- nothing is wrong so far: the first fault is that of what is left
abbrev pub invariant-loop-index : goal.invariant-loop-index
invariant-loop-index l = fault_from 0 l.ops ≡ fault_from l.index (drop l.index l.ops)
