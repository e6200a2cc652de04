use Rattle.rv_operands.proofs.Units.{memory_asks}
use Rattle.rv_operands.proofs.get_operands.memory_operands.Goals as goal

pub returns-in_default : goal.returns-in_default
returns-in_default g c =
    let n = c.in_default in
    record {
      handed = λ family. c.described_operands.ensures.handed (memory_asks _ n.not-Load n.not-Store n.not-LoadAddr family);
      same = λ family. c.described_operands.ensures.same;
    }
