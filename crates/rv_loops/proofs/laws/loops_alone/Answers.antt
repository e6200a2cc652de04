use Rattle.rv_loops.proofs.Alone.{alone_passes}
use Rattle.rv_loops.proofs.laws.loops_alone.Goals as goal

pub returns : goal.returns
returns c = alone_passes
