use Rattle.rv_asm.proofs.Laws.{stack_stores_fine}
use Rattle.rv_asm.proofs.line_laws.stack_stores_fine.Goals as goal

pub returns : goal.returns
returns c = stack_stores_fine
