use Rattle.rv_loops.proofs.AtomicRuns.{atomic_loops_alone}
use Rattle.rv_loops.proofs.Passes.{passes_end}
use Rattle.rv_loops.proofs.laws.atomic_loops_alone.Goals as goal

pub returns : goal.returns
returns c = atomic_loops_alone passes_end
