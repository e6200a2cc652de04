use Rattle.rv_base.specs.Regs.{number_of}
use Rattle.rv_encode.proofs.FloatDecoding.{fli_decodes}
use Rattle.rv_encode.proofs.float.encode_fli.Goals as goal

pub returns-clause-layout : goal.returns-clause-layout
returns-clause-layout c = rw (c.opcode.ensures, c.reg_to_gpr_num.ensures.value, c.from.ensures, c.bits.ensures.value, c.funct7.ensures.value) at c.r_word.ensures

pub returns-clause-decodes : goal.returns-clause-decodes
returns-clause-decodes c =
    λ flags has. fli_decodes flags c.args.width c.r_word.result (number_of c.args.rd.reg) c.args.imm.value has
    (rw (c.opcode.ensures, c.reg_to_gpr_num.ensures.value, c.from.ensures, c.bits.ensures.value, c.funct7.ensures.value) at c.r_word.ensures)
