use Rattle.std.proofs.Common.{◌≡◌, ◌*◌, ◌-◌, arith, subst}
use Rattle.rv_base.specs.Regs.{number_of}
use Rattle.rv_ops.specs.Compressed.{space_bits, ciw_numbers}
use Rattle.rv_encode.specs.Layouts.{IsCiwType}
use Rattle.rv_encode.proofs.Halfwords.{ciw_decodes, without_zca}
use Rattle.rv_encode.proofs.compressed.encode_ciw_type.Goals as goal
use Rattle.rv_encode.proofs.compressed.encode_ciw_type.Goals.{After-ciw_half}

-- with the register's number as three bits hold it
layout : (c : After-ciw_half) → IsCiwType c.ciw_half.result (space_bits (ciw_numbers c.args.op).space) c.reg_to_compressed_gpr_num.result (4 * c.args.imm) (ciw_numbers c.args.op).funct3
layout c = rw (c.bits.ensures.value, c.op.ensures, c.from.ensures, c.funct3.ensures.value) at c.ciw_half.ensures

pub returns-clause-layout : goal.returns-clause-layout
returns-clause-layout c =
    let value = c.reg_to_compressed_gpr_num.ensures.value in
    let low : c.reg_to_compressed_gpr_num.result ≡ number_of c.args.rd.reg - 8 = omega (arith, value) in
    subst (λ n. IsCiwType c.ciw_half.result (space_bits (ciw_numbers c.args.op).space) n (4 * c.args.imm) (ciw_numbers c.args.op).funct3) low (layout (goal.at.returns-clause-layout c).After-ciw_half)

pub returns-clause-decodes : goal.returns-clause-decodes
returns-clause-decodes c =
    λ flags zca some. rw c.reg_to_compressed_gpr_num.ensures.value at
    (ciw_decodes flags c.args.op c.ciw_half.result c.reg_to_compressed_gpr_num.result c.args.imm zca some (layout (goal.at.returns-clause-decodes c).After-ciw_half))

pub returns-clause-without : goal.returns-clause-without
returns-clause-without c = λ flags off. without_zca flags _ off
