use Rattle.std.proofs.Common.{ap, lit<}
use Rattle.rv_base.proofs.RegEquality.{int_reg_is}
use Rattle.rv_ops.specs.declared.alu.AluOPRRI.TheVariants.{Addi}
use Rattle.rv_inst.specs.declared.inst.Inst.TheVariants.{AluRRImm12}
use Rattle.rv_inst.proofs.inst.Inst.load_imm12.Goals as goal

pub returns : goal.returns
returns c = ap (λ rs. AluRRImm12 Addi c.args.rd rs c.args.imm) (int_reg_is c.zero_reg.result 0 (lit< tt) c.zero_reg.ensures)
