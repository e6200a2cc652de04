use Rattle.std.proofs.Common.{lit<}
use Rattle.rv_base.proofs.RegEquality.{int_reg_is}
use Rattle.rv_operands.proofs.calls.fifth.Goals as goal

pub returns : goal.returns
returns c = int_reg_is _ 5 (lit< tt) c.x_reg.ensures
