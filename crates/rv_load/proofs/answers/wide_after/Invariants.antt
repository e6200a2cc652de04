use Rattle.std.proofs.Common.{◌≡◌, drop}
use Rattle.rv_load.specs.Answers.{wide_after}
use Rattle.rv_load.proofs.answers.wide_after.Given as goal

abbrev pub invariant-loop-c : goal.invariant-loop-c
invariant-loop-c l = wide_after l.n (drop l.c-index l.w) ≡ wide_after 0 l.w
