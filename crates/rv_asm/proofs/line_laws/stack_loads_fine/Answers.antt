use Rattle.rv_asm.proofs.Laws.{stack_loads_fine}
use Rattle.rv_asm.proofs.line_laws.stack_loads_fine.Goals as goal

pub returns : goal.returns
returns c = stack_loads_fine
