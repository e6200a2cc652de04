use Rattle.rv_base.specs.Regs.{number_of}
use Rattle.rv_encode.proofs.Halfwords.{ci_decodes, without_zca}
use Rattle.rv_encode.proofs.compressed.encode_ci_type.Goals as goal

pub returns-clause-decodes : goal.returns-clause-decodes
returns-clause-decodes c = λ flags zca. ci_decodes flags c.args.op c.ci_half.result (number_of c.args.rd.reg) c.args.imm zca (rw (c.bits.ensures.value, c.op.ensures, c.from.ensures, c.bits-2.ensures.value, c.reg_to_gpr_num.ensures.value, c.funct3.ensures.value) at c.ci_half.ensures)

pub returns-clause-without : goal.returns-clause-without
returns-clause-without c = λ flags off. without_zca flags _ off
