use Rattle.rv_encode.proofs.Halfwords.{cb_decodes, without_zca}
use Rattle.rv_encode.proofs.Numbers.{less_8}
use Rattle.rv_encode.proofs.compressed.encode_cb_type.Goals as goal

pub returns-clause-layout : goal.returns-clause-layout
returns-clause-layout c =
    rw (c.bits.ensures.value, c.op.ensures, c.from.ensures, c.bits-2.ensures.value, c.funct2.ensures.value, c.funct3.ensures.value, less_8 _ _ c.reg_to_compressed_gpr_num.ensures.value) at c.cb_half.ensures

pub returns-clause-decodes : goal.returns-clause-decodes
returns-clause-decodes c =
    λ flags zca. rw c.reg_to_compressed_gpr_num.ensures.value at
    (cb_decodes flags c.args.op c.cb_half.result c.reg_to_compressed_gpr_num.result c.args.imm zca (rw (c.bits.ensures.value, c.op.ensures, c.from.ensures, c.bits-2.ensures.value, c.funct2.ensures.value, c.funct3.ensures.value) at c.cb_half.ensures))

pub returns-clause-without : goal.returns-clause-without
returns-clause-without c = λ flags off. without_zca flags _ off
