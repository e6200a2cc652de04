use Rattle.rv_base.specs.Regs.{number_of}
use Rattle.rv_encode.proofs.CsrDecoding.{csr_reg_decodes}
use Rattle.rv_encode.proofs.csr.encode_csr_reg.Goals as goal

pub returns-clause-layout : goal.returns-clause-layout
returns-clause-layout c = rw (c.opcode.ensures, c.funct3.ensures.value, c.bits.ensures) at c.encode_i_type.ensures.layout

pub returns-clause-decodes : goal.returns-clause-decodes
returns-clause-decodes c =
    λ flags. csr_reg_decodes flags c.args.op c.args.csr c.encode_i_type.result (number_of c.args.rd.reg) (number_of c.args.rs)
    (rw (c.opcode.ensures, c.funct3.ensures.value, c.bits.ensures) at c.encode_i_type.ensures.layout)
