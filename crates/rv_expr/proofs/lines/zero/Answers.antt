use Rattle.std.proofs.Common.{lit<}
use Rattle.rv_asm.proofs.Laws.{register_is}
use Rattle.rv_expr.proofs.lines.zero.Goals as goal

pub returns : goal.returns
returns c = register_is c.zero_reg.result 0 (lit< tt) c.zero_reg.ensures
