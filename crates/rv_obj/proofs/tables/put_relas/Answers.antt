use Rattle.std.proofs.Common.{arith}
use Rattle.std.proofs.lemmas.Grind.{common_steps}
use Rattle.rv_obj.proofs.tables.put_relas.Goals as goal

pub loop-rela-preserved : goal.loop-rela-preserved
loop-rela-preserved c = grind (arith, common_steps)
