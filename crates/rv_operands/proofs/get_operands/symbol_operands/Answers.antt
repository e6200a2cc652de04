use Rattle.rv_operands.proofs.Units.{symbol_asks}
use Rattle.rv_operands.proofs.get_operands.symbol_operands.Goals as goal

pub returns-clause-handed : goal.returns-clause-handed
returns-clause-handed g c = λ family. c.described_operands.ensures.handed (symbol_asks _ family)
