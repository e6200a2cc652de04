use Rattle.std.proofs.Common.{◌≡◌}
use Rattle.rv_full.specs.Carry.{product}
use Rattle.rv_full.proofs.carry.product.Given as goal

abbrev pub invariant-loop-i : goal.invariant-loop-i
invariant-loop-i l = l.sum ≡ product l.x l.y l.i
