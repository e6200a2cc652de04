use Rattle.rv_base.specs.Regs.{number_of}
use Rattle.rv_encode.proofs.Decoding.{jalr_decodes}
use Rattle.rv_encode.proofs.jumps.enc_jalr.Goals as goal

pub returns-clause-decodes : goal.returns-clause-decodes
returns-clause-decodes c = λ flags. jalr_decodes flags c.encode_i_type.result (number_of c.args.rd.reg) (number_of c.args.base) c.args.offset c.encode_i_type.ensures.layout
