use Rattle.rv_encode.proofs.HalfwordsOfFloat.{fsd_decodes, fsd_without}
use Rattle.rv_encode.proofs.Numbers.{less_8}
use Rattle.rv_encode.proofs.compressed_float.encode_c_fsd.Goals as goal

pub returns-clause-layout : goal.returns-clause-layout
returns-clause-layout c =
    rw (c.bits.ensures.value, c.op.ensures, c.from.ensures, c.bits-2.ensures.value, c.funct3.ensures.value, less_8 _ _ c.reg_to_compressed_gpr_num.ensures.value, less_8 _ _ c.reg_to_compressed_gpr_num-2.ensures.value) at c.cld_half.ensures

pub returns-clause-decodes : goal.returns-clause-decodes
returns-clause-decodes c =
    λ flags zca zcd. rw (c.reg_to_compressed_gpr_num.ensures.value, c.reg_to_compressed_gpr_num-2.ensures.value) at
    (fsd_decodes flags c.cld_half.result c.reg_to_compressed_gpr_num.result c.reg_to_compressed_gpr_num-2.result c.args.imm.value zca zcd
    (rw (c.bits.ensures.value, c.op.ensures, c.from.ensures, c.bits-2.ensures.value, c.funct3.ensures.value) at c.cld_half.ensures))

pub returns-clause-without : goal.returns-clause-without
returns-clause-without c =
    λ flags off. fsd_without flags c.cld_half.result c.reg_to_compressed_gpr_num.result c.reg_to_compressed_gpr_num-2.result _ off
    (rw (c.bits.ensures.value, c.op.ensures, c.from.ensures, c.bits-2.ensures.value, c.funct3.ensures.value) at c.cld_half.ensures)
