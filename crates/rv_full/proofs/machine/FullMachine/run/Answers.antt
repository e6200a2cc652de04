use Rattle.std.proofs.Common.{subst}
use Rattle.rv_full.specs.Steps.{FullSteps}
use Rattle.rv_full.proofs.Runs.{ran_none, ran_more}
use Rattle.rv_full.proofs.machine.FullMachine.run.Goals as goal

pub loop-done-init : goal.loop-done-init
loop-done-init c = ran_none c.args.self.now

pub loop-done-preserved : goal.loop-done-preserved
loop-done-preserved c =
    ran_more c.loop-done.done c.args.self.now c.loop-done.self c.step.new.self c.loop-done.invariant (subst (λ s. FullSteps s c.loop-done.self c.step.new.self) c.in-Stepped.is c.in_ok-step.ensures.ok)
