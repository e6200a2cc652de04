use Rattle.rv_operands.proofs.Units.{unit_asks}
use Rattle.rv_operands.proofs.get_operands.unit_operands.Goals as goal

pub returns-clause-handed : goal.returns-clause-handed
returns-clause-handed g c = λ family. c.described_operands.ensures.handed (unit_asks _ family)
