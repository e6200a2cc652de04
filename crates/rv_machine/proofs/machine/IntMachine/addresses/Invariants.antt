use Rattle.std.proofs.Common.{◌≡◌, ◌++◌}
use Rattle.rv_machine.proofs.machine.IntMachine.addresses.Given as goal

abbrev pub invariant-loop-address : goal.invariant-loop-address
invariant-loop-address l = l.addresses.items ++ l.address-iterator ≡ l.initial.address-iterator
