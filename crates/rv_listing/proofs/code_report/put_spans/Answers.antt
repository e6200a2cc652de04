use Rattle.std.proofs.Common.{arith}
use Rattle.std.proofs.lemmas.Grind.{common_steps}
use Rattle.rv_listing.proofs.code_report.put_spans.Goals as goal

pub loop-l-preserved : goal.loop-l-preserved
loop-l-preserved c = grind (arith, common_steps)
