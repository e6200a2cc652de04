use Rattle.rv_encode.proofs.Halfwords.{cszn_decodes, cszn_without}
use Rattle.rv_encode.proofs.Numbers.{less_8}
use Rattle.rv_encode.proofs.compressed.encode_cszn_type.Goals as goal

pub returns-clause-layout : goal.returns-clause-layout
returns-clause-layout c =
    rw (c.bits.ensures.value, c.op.ensures, c.funct5.ensures.value, c.funct6.ensures.value, less_8 _ _ c.reg_to_compressed_gpr_num.ensures.value) at c.cu_half.ensures

pub returns-clause-decodes : goal.returns-clause-decodes
returns-clause-decodes c =
    λ flags needs. rw c.reg_to_compressed_gpr_num.ensures.value at
    (cszn_decodes flags c.args.op c.cu_half.result c.reg_to_compressed_gpr_num.result needs (rw (c.bits.ensures.value, c.op.ensures, c.funct5.ensures.value, c.funct6.ensures.value) at c.cu_half.ensures))

pub returns-clause-without : goal.returns-clause-without
returns-clause-without c =
    λ flags off. cszn_without flags c.args.op c.cu_half.result c.reg_to_compressed_gpr_num.result off (rw (c.bits.ensures.value, c.op.ensures, c.funct5.ensures.value, c.funct6.ensures.value) at c.cu_half.ensures)
