use Rattle.std.proofs.Common.{◌≡◌, ◌+◌, ◌++◌, drop}
use Rattle.rv_run.specs.Output.{changes}
use Rattle.rv_run.proofs.output.put_changes.Given as goal

abbrev pub invariant-loop-n : goal.invariant-loop-n
invariant-loop-n l = l.out.items ++ changes (l.n + 1) (drop l.n l.before) (drop l.n l.after) ≡ l.initial.out.items ++ changes 1 l.before l.after
