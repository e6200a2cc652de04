use Rattle.rv_encode.proofs.Halfwords.{without_zca}
use Rattle.rv_encode.proofs.HalfwordsOfMemory.{lw_decodes, ld_decodes}
use Rattle.rv_encode.proofs.HalfwordsOfMemory.{lw_layout, ld_layout}
use Rattle.rv_encode.proofs.Numbers.{less_8}
use Rattle.rv_encode.proofs.compressed_memory.encode_cl_type.Goals as goal

pub returns-in-CLw-clause-layout : goal.returns-in-CLw-clause-layout
returns-in-CLw-clause-layout c =
    lw_layout c.args.op c.clw_half.result _ _ c.args.imm.value c.in-CLw.is
    (rw (c.bits-space.ensures.value, c.op.ensures, c.from-number.ensures, c.bits.ensures.value, c.funct3.ensures.value, less_8 _ _ c.reg_to_compressed_gpr_num-dest.ensures.value, less_8 _ _ c.reg_to_compressed_gpr_num-base.ensures.value) at c.clw_half.ensures)

pub returns-in-CLd-clause-layout : goal.returns-in-CLd-clause-layout
returns-in-CLd-clause-layout c =
    ld_layout c.args.op c.cld_half.result _ _ c.args.imm.value c.in-CLd.is
    (rw (c.bits-space.ensures.value, c.op.ensures, c.from-number.ensures, c.bits.ensures.value, c.funct3-in-CLd.ensures.value, less_8 _ _ c.reg_to_compressed_gpr_num-dest.ensures.value, less_8 _ _ c.reg_to_compressed_gpr_num-base.ensures.value) at c.cld_half.ensures)

pub returns-in-CLw-clause-decodes : goal.returns-in-CLw-clause-decodes
returns-in-CLw-clause-decodes c =
    λ flags zca. rw (c.reg_to_compressed_gpr_num-dest.ensures.value, c.reg_to_compressed_gpr_num-base.ensures.value) at
    (lw_decodes flags c.args.op c.clw_half.result c.reg_to_compressed_gpr_num-dest.result c.reg_to_compressed_gpr_num-base.result c.args.imm.value c.in-CLw.is zca
    (rw (c.bits-space.ensures.value, c.op.ensures, c.from-number.ensures, c.bits.ensures.value, c.funct3.ensures.value) at c.clw_half.ensures))

pub returns-in-CLd-clause-decodes : goal.returns-in-CLd-clause-decodes
returns-in-CLd-clause-decodes c =
    λ flags zca. rw (c.reg_to_compressed_gpr_num-dest.ensures.value, c.reg_to_compressed_gpr_num-base.ensures.value) at
    (ld_decodes flags c.args.op c.cld_half.result c.reg_to_compressed_gpr_num-dest.result c.reg_to_compressed_gpr_num-base.result c.args.imm.value c.in-CLd.is zca
    (rw (c.bits-space.ensures.value, c.op.ensures, c.from-number.ensures, c.bits.ensures.value, c.funct3-in-CLd.ensures.value) at c.cld_half.ensures))

pub returns-in-CLw-clause-without : goal.returns-in-CLw-clause-without
returns-in-CLw-clause-without c = λ flags off. without_zca flags _ off

pub returns-in-CLd-clause-without : goal.returns-in-CLd-clause-without
returns-in-CLd-clause-without c = λ flags off. without_zca flags _ off
