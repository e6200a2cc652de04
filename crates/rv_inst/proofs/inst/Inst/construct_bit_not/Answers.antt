use Rattle.std.proofs.Common.{ap}
use Rattle.rv_ops.specs.declared.alu.AluOPRRI.TheVariants.{Xori}
use Rattle.rv_inst.specs.declared.inst.Inst.TheVariants.{AluRRImm12}
use Rattle.rv_inst.specs.Fields.{minus_one}
use Rattle.rv_inst.proofs.RegisterParts.{imm12_is}
use Rattle.rv_inst.proofs.inst.Inst.construct_bit_not.Goals as goal

pub returns : goal.returns
returns c = ap (AluRRImm12 Xori c.args.rd c.args.rs) (imm12_is c.from_i16.result minus_one c.from_i16.ensures)
