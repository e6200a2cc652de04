use Rattle.std.proofs.Common.{arith}
use Rattle.std.proofs.lemmas.Grind.{common_steps}
use Rattle.rv_listing.proofs.code_report.put_handlers.Goals as goal

pub loop-h-preserved : goal.loop-h-preserved
loop-h-preserved c = grind (arith, common_steps)
