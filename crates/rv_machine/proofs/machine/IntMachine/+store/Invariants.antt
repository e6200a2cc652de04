use Rattle.std.proofs.Common.{length}
use Rattle.rv_machine.proofs.machine.IntMachine.+store.Given as goal

abbrev pub decreases-store : goal.decreases-store
decreases-store l = length l.bytes.now
