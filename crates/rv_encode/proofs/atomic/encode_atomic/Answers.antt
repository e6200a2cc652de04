use Rattle.rv_base.specs.Regs.{number_of}
use Rattle.rv_encode.proofs.AtomicDecoding.{atomic_decodes}
use Rattle.rv_encode.proofs.atomic.encode_atomic.Goals as goal

pub returns-clause-layout : goal.returns-clause-layout
returns-clause-layout c = rw (c.op_code.ensures, c.funct3.ensures.value, c.funct7.ensures.value) at c.encode_r_type.ensures.layout

pub returns-clause-decodes : goal.returns-clause-decodes
returns-clause-decodes c =
    λ flags. atomic_decodes flags c.args.op c.args.amo c.encode_r_type.result (number_of c.args.rd.reg) (number_of c.args.addr) (number_of c.args.src)
    (rw (c.op_code.ensures, c.funct3.ensures.value, c.funct7.ensures.value) at c.encode_r_type.ensures.layout) c.requires.source
