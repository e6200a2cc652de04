use Rattle.rv_run.proofs.Settled.{settled}
use Rattle.rv_run.proofs.program.run.Goals as goal

pub returns-clause-settled : goal.returns-clause-settled
returns-clause-settled g c = settled _ c.run_words.result c.run_words.ensures.ended
