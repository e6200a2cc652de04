use Rattle.rv_encode.proofs.Halfwords.{ca_decodes, ca_without}
use Rattle.rv_encode.proofs.Numbers.{less_8}
use Rattle.rv_encode.proofs.compressed.encode_ca_type.Goals as goal

pub returns-clause-layout : goal.returns-clause-layout
returns-clause-layout c =
    rw (c.bits.ensures.value, c.op.ensures, c.funct2.ensures.value, c.funct6.ensures.value, less_8 _ _ c.reg_to_compressed_gpr_num.ensures.value, less_8 _ _ c.reg_to_compressed_gpr_num-2.ensures.value) at c.ca_half.ensures

pub returns-clause-decodes : goal.returns-clause-decodes
returns-clause-decodes c =
    λ flags needs. rw (c.reg_to_compressed_gpr_num.ensures.value, c.reg_to_compressed_gpr_num-2.ensures.value) at
    (ca_decodes flags c.args.op c.ca_half.result c.reg_to_compressed_gpr_num.result c.reg_to_compressed_gpr_num-2.result needs (rw (c.bits.ensures.value, c.op.ensures, c.funct2.ensures.value, c.funct6.ensures.value) at c.ca_half.ensures))

pub returns-clause-without : goal.returns-clause-without
returns-clause-without c =
    λ flags off. ca_without flags c.args.op c.ca_half.result c.reg_to_compressed_gpr_num.result c.reg_to_compressed_gpr_num-2.result off (rw (c.bits.ensures.value, c.op.ensures, c.funct2.ensures.value, c.funct6.ensures.value) at c.ca_half.ensures)
