use Rattle.std.proofs.Common.{ap, lit<, ◌∙◌, ◌*◌, ◌^◌}
use Rattle.rv_base.specs.Regs.{number_of}
use Rattle.rv_base.proofs.RegEquality.{int_reg_is}
use Rattle.rv_imms.specs.Bits.{low_bits}
use Rattle.rv_machine.specs.Compressed.{addi16sp_bits}
use Rattle.rv_encode.specs.Layouts.{IsCiType}
use Rattle.rv_encode.proofs.Halfwords.{addi16sp_decodes, without_zca}
use Rattle.rv_encode.proofs.compressed.encode_c_addi16sp.Goals as goal
use Rattle.rv_encode.proofs.compressed.encode_c_addi16sp.Goals.{After-addi16sp_half}

layout : (c : After-addi16sp_half) → IsCiType addi16sp_bits c.addi16sp_half.result 1 (16 * low_bits (2 ^ 6) c.args.imm.value) 2 3
layout c =
    let stack = c.reg_to_gpr_num.ensures.value ∙ ap number_of (int_reg_is c.stack_reg.result 2 (lit< tt) c.stack_reg.ensures) in
    rw (c.bits.ensures.value, c.op.ensures, c.from.ensures, c.bits-2.ensures.value, stack, c.funct3.ensures.value) at c.addi16sp_half.ensures

pub returns-clause-layout : goal.returns-clause-layout
returns-clause-layout c = layout (goal.at.returns-clause-layout c).After-addi16sp_half

pub returns-clause-decodes : goal.returns-clause-decodes
returns-clause-decodes c = λ flags zca some. addi16sp_decodes flags c.addi16sp_half.result c.args.imm zca some (layout (goal.at.returns-clause-decodes c).After-addi16sp_half)

pub returns-clause-without : goal.returns-clause-without
returns-clause-without c = λ flags off. without_zca flags _ off
