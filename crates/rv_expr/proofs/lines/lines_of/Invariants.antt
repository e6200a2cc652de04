use Rattle.std.proofs.Common.{◌≡◌, ◌++◌, ◌≤◌, drop, length, None}
use Rattle.rv_expr.specs.Listing.{lines_from}
use Rattle.rv_expr.specs.Refusal.{fault_from}
use Rattle.rv_expr.proofs.lines.lines_of.Given as goal

-- the lines so far are those of the operations so far, and none of the others is wrong
abbrev pub invariant-loop-index : goal.invariant-loop-index
invariant-loop-index l =
    record {
      few : length l.ops ≤ 254;
      faultless : fault_from l.index (drop l.index l.ops) ≡ None;
      listed : l.lines.items ++ lines_from l.index (drop l.index l.ops) ≡ lines_from 0 l.ops;
    }
