use Rattle.std.proofs.Common.{◌≡◌, ◌+◌, ◌%◌, arith, subst}
use Rattle.rv_base.specs.declared.regs.RegClass.TheVariants.{Int}
use Rattle.rv_asm.specs.Users.{IsReal}
use Rattle.rv_asm.proofs.Laws.{register_is}
use Rattle.rv_expr.proofs.lines.argument_register.Goals as goal

pub returns : goal.returns
returns c =
    let same : 10 + c.from.result ≡ 10 + c.args.argument % 8 = omega arith in
    register_is c.x_reg.result (10 + c.args.argument % 8) _ (subst (λ n. IsReal c.x_reg.result Int n) same c.x_reg.ensures)
