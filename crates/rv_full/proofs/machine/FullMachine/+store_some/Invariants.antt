use Rattle.std.proofs.Common.{length}
use Rattle.rv_full.proofs.machine.FullMachine.+store_some.Given as goal

abbrev pub decreases-store_some : goal.decreases-store_some
decreases-store_some l = length l.bytes.now
