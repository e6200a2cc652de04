use Rattle.rv_loops.proofs.AtomicRuns.{atomic_loops_run}
use Rattle.rv_loops.proofs.Passes.{passes_end}
use Rattle.rv_loops.proofs.laws.atomic_loops_run.Goals as goal

pub returns : goal.returns
returns c = atomic_loops_run passes_end
