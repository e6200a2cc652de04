use Rattle.std.proofs.Common.{◌≡◌}
use Rattle.rv_base.specs.contracts.regs.RegPartialEq.TheImpl as reg_impl
use Rattle.rv_base.proofs.RegEquality.{same_both_ways}
use Rattle.rv_base.proofs.class_regs.FReg.eq_reg.Goals as goal

pub returns : goal.returns
returns c =
    let tested : c.eq.result ≡ (reg_impl.ghosts).eq c.args.self.reg c.args.reg = c.eq.ensures in
    rw tested (same_both_ways c.args.self.reg c.args.reg)
