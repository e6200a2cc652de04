use Rattle.std.proofs.Common.{ap, ◌∙◌}
use Rattle.rv_ops.specs.Compressed.{space_bits}
use Rattle.rv_encode.proofs.HalfwordsOfMemory.{funct1_of, of_bytes, without_sign, bytes_decode, halfwords_decode, zcb_without}
use Rattle.rv_encode.proofs.HalfwordsOfMemory.{bytes_layout, halfwords_layout}
use Rattle.rv_encode.proofs.Numbers.{less_8}
use Rattle.rv_encode.proofs.compressed_memory.zcbmem_half.Goals as goal

pub returns-in-CLbu-clause-layout : goal.returns-in-CLbu-clause-layout
returns-in-CLbu-clause-layout c =
    bytes_layout c.args.op c.clb_half.result _ _ c.args.imm.value (of_bytes c.args.op c.in-CLbu.is)
    (rw (c.bits-space.ensures.value, c.op.ensures, c.from-number.ensures, c.bits.ensures.value, c.funct6.ensures.value, less_8 _ _ c.reg_to_compressed_gpr_num-dest_src.ensures.value, less_8 _ _ c.reg_to_compressed_gpr_num-base.ensures.value) at c.clb_half.ensures)

pub returns-in-CLhu-clause-layout : goal.returns-in-CLhu-clause-layout
returns-in-CLhu-clause-layout c =
    halfwords_layout c.args.op c.clh_half.result _ 0 _ c.args.imm.value (without_sign c.args.op c.in-CLhu.is)
    (rw (c.bits-space.ensures.value, c.op.ensures, c.from-number.ensures, c.bits.ensures.value, c.funct6-in-CLhu.ensures.value, less_8 _ _ c.reg_to_compressed_gpr_num-dest_src.ensures.value, less_8 _ _ c.reg_to_compressed_gpr_num-base.ensures.value) at c.clh_half.ensures)

pub returns-in-CLh-clause-layout : goal.returns-in-CLh-clause-layout
returns-in-CLh-clause-layout c =
    halfwords_layout c.args.op c.clh_half-in-CLh.result _ 1 _ c.args.imm.value (ap funct1_of c.in-CLh.is)
    (rw (c.bits-space.ensures.value, c.op.ensures, c.from-number.ensures, c.bits.ensures.value, c.funct6-in-CLh.ensures.value, less_8 _ _ c.reg_to_compressed_gpr_num-dest_src.ensures.value, less_8 _ _ c.reg_to_compressed_gpr_num-base.ensures.value) at c.clh_half-in-CLh.ensures)

pub returns-in-CLbu-clause-decodes : goal.returns-in-CLbu-clause-decodes
returns-in-CLbu-clause-decodes c =
    λ flags needs. rw (c.reg_to_compressed_gpr_num-dest_src.ensures.value, c.reg_to_compressed_gpr_num-base.ensures.value) at
    (bytes_decode flags c.args.op c.clb_half.result c.reg_to_compressed_gpr_num-dest_src.result c.reg_to_compressed_gpr_num-base.result c.args.imm.value (of_bytes c.args.op c.in-CLbu.is) needs
    (rw (c.bits-space.ensures.value, c.op.ensures, c.from-number.ensures, c.bits.ensures.value, c.funct6.ensures.value) at c.clb_half.ensures))

pub returns-in-CLhu-clause-decodes : goal.returns-in-CLhu-clause-decodes
returns-in-CLhu-clause-decodes c =
    λ flags needs. rw (c.reg_to_compressed_gpr_num-dest_src.ensures.value, c.reg_to_compressed_gpr_num-base.ensures.value) at
    (halfwords_decode flags c.args.op c.clh_half.result c.reg_to_compressed_gpr_num-dest_src.result 0 c.reg_to_compressed_gpr_num-base.result c.args.imm.value (without_sign c.args.op c.in-CLhu.is) needs
    (rw (c.bits-space.ensures.value, c.op.ensures, c.from-number.ensures, c.bits.ensures.value, c.funct6-in-CLhu.ensures.value) at c.clh_half.ensures))

pub returns-in-CLh-clause-decodes : goal.returns-in-CLh-clause-decodes
returns-in-CLh-clause-decodes c =
    λ flags needs. rw (c.reg_to_compressed_gpr_num-dest_src.ensures.value, c.reg_to_compressed_gpr_num-base.ensures.value) at
    (halfwords_decode flags c.args.op c.clh_half-in-CLh.result c.reg_to_compressed_gpr_num-dest_src.result 1 c.reg_to_compressed_gpr_num-base.result c.args.imm.value (ap funct1_of c.in-CLh.is) needs
    (rw (c.bits-space.ensures.value, c.op.ensures, c.from-number.ensures, c.bits.ensures.value, c.funct6-in-CLh.ensures.value) at c.clh_half-in-CLh.ensures))

pub returns-in-CLbu-clause-without : goal.returns-in-CLbu-clause-without
returns-in-CLbu-clause-without c =
    λ flags off. zcb_without flags c.args.op c.clb_half.result off (c.clb_half.ensures.op_is ∙ c.bits-space.ensures.value ∙ ap space_bits c.op.ensures) (c.clb_half.ensures.funct6_is ∙ c.funct6.ensures.value)

pub returns-in-CLhu-clause-without : goal.returns-in-CLhu-clause-without
returns-in-CLhu-clause-without c =
    λ flags off. zcb_without flags c.args.op c.clh_half.result off (c.clh_half.ensures.op_is ∙ c.bits-space.ensures.value ∙ ap space_bits c.op.ensures) (c.clh_half.ensures.funct6_is ∙ c.funct6-in-CLhu.ensures.value)

pub returns-in-CLh-clause-without : goal.returns-in-CLh-clause-without
returns-in-CLh-clause-without c =
    λ flags off. zcb_without flags c.args.op c.clh_half-in-CLh.result off (c.clh_half-in-CLh.ensures.op_is ∙ c.bits-space.ensures.value ∙ ap space_bits c.op.ensures) (c.clh_half-in-CLh.ensures.funct6_is ∙ c.funct6-in-CLh.ensures.value)
