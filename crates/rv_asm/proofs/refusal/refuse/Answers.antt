use Rattle.{rv_asm.proofs.RefusalOrder.finds_unbound, rv_asm.specs.Job.job_in}
use Rattle.rv_asm.proofs.refusal.refuse.Goals as goal

pub returns-in-Some : goal.returns-in-Some
returns-in-Some c = finds_unbound (job_in c.args.lines.now c.args.context.now) c.in-Some.bound c.find_all.result c.in-Some.ensures c.find_all.ensures
