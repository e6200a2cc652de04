use Rattle.rv_base.specs.Regs.{number_of}
use Rattle.rv_encode.proofs.Decoding.{auipc_decodes}
use Rattle.rv_encode.proofs.jumps.enc_auipc.Goals as goal

pub returns-clause-decodes : goal.returns-clause-decodes
returns-clause-decodes c = λ flags. auipc_decodes flags c.u_word.result (number_of c.args.rd.reg) c.args.imm (rw (c.reg_to_gpr_num.ensures.value, c.bits.ensures.value) at c.u_word.ensures)
