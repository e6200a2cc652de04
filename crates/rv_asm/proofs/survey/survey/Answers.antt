use Rattle.rv_asm.proofs.Words.{arith, common_steps}
use Rattle.rv_asm.proofs.survey.survey.Goals as goal

pub loop-line-preserved : goal.loop-line-preserved
loop-line-preserved c = record {
  fit = grind (arith, common_steps);
  rules = grind (arith, common_steps);
  once = grind (arith, common_steps);
  labels = grind (arith, common_steps);
  size = grind (arith, common_steps);
}
