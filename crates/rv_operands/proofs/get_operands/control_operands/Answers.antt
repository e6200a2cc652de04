use Rattle.rv_operands.proofs.Units.{control_asks}
use Rattle.rv_operands.proofs.get_operands.control_operands.Goals as goal

pub returns-in_default : goal.returns-in_default
returns-in_default g c =
    let n = c.in_default in
    record {
      handed = λ family. c.described_operands.ensures.handed (control_asks _ n.not-CondBr n.not-BrTable n.not-Jalr family);
      same = λ family. c.described_operands.ensures.same;
    }
