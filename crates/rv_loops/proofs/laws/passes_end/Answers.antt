use Rattle.rv_loops.proofs.Passes.{passes_end}
use Rattle.rv_loops.proofs.laws.passes_end.Goals as goal

pub returns : goal.returns
returns c = passes_end
