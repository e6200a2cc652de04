use Rattle.rv_operands.proofs.Units.{integer_asks}
use Rattle.rv_operands.proofs.get_operands.integer_operands.Goals as goal

pub returns-in_default : goal.returns-in_default
returns-in_default g c =
    let n = c.in_default in
    record {
      handed = λ family. c.described_operands.ensures.handed (integer_asks _ n.not-Lui n.not-AluRRR n.not-AluRRImm12 n.not-Mov n.not-MovFromPReg n.not-Select family);
      same = λ family. c.described_operands.ensures.same;
    }
