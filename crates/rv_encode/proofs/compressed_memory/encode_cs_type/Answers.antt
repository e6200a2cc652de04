use Rattle.rv_encode.proofs.Halfwords.{without_zca}
use Rattle.rv_encode.proofs.HalfwordsOfMemory.{sw_decodes, sd_decodes}
use Rattle.rv_encode.proofs.HalfwordsOfMemory.{sw_layout, sd_layout}
use Rattle.rv_encode.proofs.Numbers.{less_8}
use Rattle.rv_encode.proofs.compressed_memory.encode_cs_type.Goals as goal

pub returns-in-CSw-clause-layout : goal.returns-in-CSw-clause-layout
returns-in-CSw-clause-layout c =
    sw_layout c.args.op c.clw_half.result _ _ c.args.imm.value c.in-CSw.is
    (rw (c.bits-space.ensures.value, c.op.ensures, c.from-number.ensures, c.bits.ensures.value, c.funct3.ensures.value, less_8 _ _ c.reg_to_compressed_gpr_num-src.ensures.value, less_8 _ _ c.reg_to_compressed_gpr_num-base.ensures.value) at c.clw_half.ensures)

pub returns-in-CSd-clause-layout : goal.returns-in-CSd-clause-layout
returns-in-CSd-clause-layout c =
    sd_layout c.args.op c.cld_half.result _ _ c.args.imm.value c.in-CSd.is
    (rw (c.bits-space.ensures.value, c.op.ensures, c.from-number.ensures, c.bits.ensures.value, c.funct3-in-CSd.ensures.value, less_8 _ _ c.reg_to_compressed_gpr_num-src.ensures.value, less_8 _ _ c.reg_to_compressed_gpr_num-base.ensures.value) at c.cld_half.ensures)

pub returns-in-CSw-clause-decodes : goal.returns-in-CSw-clause-decodes
returns-in-CSw-clause-decodes c =
    λ flags zca. rw (c.reg_to_compressed_gpr_num-src.ensures.value, c.reg_to_compressed_gpr_num-base.ensures.value) at
    (sw_decodes flags c.args.op c.clw_half.result c.reg_to_compressed_gpr_num-src.result c.reg_to_compressed_gpr_num-base.result c.args.imm.value c.in-CSw.is zca
    (rw (c.bits-space.ensures.value, c.op.ensures, c.from-number.ensures, c.bits.ensures.value, c.funct3.ensures.value) at c.clw_half.ensures))

pub returns-in-CSd-clause-decodes : goal.returns-in-CSd-clause-decodes
returns-in-CSd-clause-decodes c =
    λ flags zca. rw (c.reg_to_compressed_gpr_num-src.ensures.value, c.reg_to_compressed_gpr_num-base.ensures.value) at
    (sd_decodes flags c.args.op c.cld_half.result c.reg_to_compressed_gpr_num-src.result c.reg_to_compressed_gpr_num-base.result c.args.imm.value c.in-CSd.is zca
    (rw (c.bits-space.ensures.value, c.op.ensures, c.from-number.ensures, c.bits.ensures.value, c.funct3-in-CSd.ensures.value) at c.cld_half.ensures))

pub returns-in-CSw-clause-without : goal.returns-in-CSw-clause-without
returns-in-CSw-clause-without c = λ flags off. without_zca flags _ off

pub returns-in-CSd-clause-without : goal.returns-in-CSd-clause-without
returns-in-CSd-clause-without c = λ flags off. without_zca flags _ off
