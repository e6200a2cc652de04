use Rattle.std.proofs.Common.{[], ◌≤◌, false}
use Rattle.rv_steps.proofs.HostGoing.{Under}
use Rattle.rv_steps.proofs.running.run_code.Given as goal

abbrev pub invariant-loop-done : goal.invariant-loop-done
invariant-loop-done g l = record {
  under : Under l.host false l.callees l.flags l.place.base l.place.len l.limit l.initial.machine.full l.done l.calls l.machine [];
  few : l.calls ≤ l.done;
}
