use Rattle.rv_machine.specs.Steps.{Ran}
use Rattle.rv_machine.proofs.machine.IntMachine.run.Given as goal

abbrev pub invariant-loop-done : goal.invariant-loop-done
invariant-loop-done l = Ran l.done l.fn.self l.self
