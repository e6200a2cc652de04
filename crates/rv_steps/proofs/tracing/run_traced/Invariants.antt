use Rattle.std.proofs.Common.{◌≤◌, true}
use Rattle.rv_steps.proofs.HostGoing.{Under}
use Rattle.rv_steps.proofs.tracing.run_traced.Given as goal

abbrev pub invariant-loop-done : goal.invariant-loop-done
invariant-loop-done g l = record {
  under : Under l.host true l.callees l.flags l.place.base l.place.len l.limit l.initial.machine.full l.done l.calls l.machine l.out.items;
  few : l.calls ≤ l.done;
}
