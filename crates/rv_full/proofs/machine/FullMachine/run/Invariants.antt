use Rattle.rv_full.specs.Steps.{Ran}
use Rattle.rv_full.proofs.machine.FullMachine.run.Given as goal

abbrev pub invariant-loop-done : goal.invariant-loop-done
invariant-loop-done l = Ran l.done l.fn.self l.self
