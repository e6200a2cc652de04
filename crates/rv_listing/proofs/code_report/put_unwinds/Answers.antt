use Rattle.std.proofs.Common.{arith}
use Rattle.std.proofs.lemmas.Grind.{common_steps}
use Rattle.rv_listing.proofs.code_report.put_unwinds.Goals as goal

pub loop-u-preserved : goal.loop-u-preserved
loop-u-preserved c = grind (arith, common_steps)
