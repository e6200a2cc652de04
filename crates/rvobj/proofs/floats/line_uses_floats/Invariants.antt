use Rattle.std.proofs.Common.{◌+◌, ◌-◌, ◌≤◌, ◌^◌}
use Rattle.rvobj.proofs.floats.line_uses_floats.Given as goal

abbrev pub invariant-instructions : goal.invariant-instructions
invariant-instructions l = l.at ≤ 2 ^ 32 + 4

abbrev pub decreases-instructions : goal.decreases-instructions
decreases-instructions l = l.end - l.at
