use Rattle.std.proofs.Common.{◌∙◌}
use Rattle.rv_encode.proofs.Halfwords.{cj_bits_are}
use Rattle.rv_encode.proofs.compressed.cj_half.Goals as goal

pub returns : goal.returns
returns c =
    let parts = c.cj_parts.ensures in
    record { op_is = parts.op_is; imm_is = cj_bits_are c.cj_parts.result c.args.bits c.requires.bits (parts.low_is ∙ c.cj_low.ensures.value) (parts.high_is ∙ c.cj_high.ensures.value); funct3_is = parts.funct3_is }
