use Rattle.rv_base.specs.Regs.{number_of}
use Rattle.rv_encode.proofs.CsrDecoding.{csr_imm_decodes}
use Rattle.rv_encode.proofs.csr.encode_csr_imm.Goals as goal

pub returns-clause-layout : goal.returns-clause-layout
returns-clause-layout c = rw (c.opcode.ensures, c.reg_to_gpr_num.ensures.value, c.funct3.ensures.value, c.bits.ensures.value, c.bits-3.ensures.value, c.bits-2.ensures) at c.i_word.ensures

pub returns-clause-decodes : goal.returns-clause-decodes
returns-clause-decodes c =
    λ flags. csr_imm_decodes flags c.args.op c.args.csr c.i_word.result (number_of c.args.rd.reg) c.args.imm.value
    (rw (c.opcode.ensures, c.reg_to_gpr_num.ensures.value, c.funct3.ensures.value, c.bits.ensures.value, c.bits-3.ensures.value, c.bits-2.ensures) at c.i_word.ensures)
