use Rattle.rv_base.proofs.RegEquality.{same_both_ways}
use Rattle.rv_base.proofs.class_regs.FReg.to_reg.Goals as goal

pub returns-clause-equal : goal.returns-clause-equal
returns-clause-equal c other = same_both_ways c.args.self.reg other.reg
