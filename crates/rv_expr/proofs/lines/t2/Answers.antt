use Rattle.std.proofs.Common.{lit<}
use Rattle.rv_asm.proofs.Laws.{register_is}
use Rattle.rv_expr.proofs.lines.t2.Goals as goal

pub returns : goal.returns
returns c = register_is c.x_reg.result 7 (lit< tt) c.x_reg.ensures
