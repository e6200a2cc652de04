use Rattle.rv_base.specs.Regs.{number_of}
use Rattle.rv_encode.proofs.Halfwords.{cr2_decodes, without_zca}
use Rattle.rv_encode.proofs.compressed.encode_cr2_type.Goals as goal

pub returns-clause-decodes : goal.returns-clause-decodes
returns-clause-decodes c =
    λ flags zca. cr2_decodes flags c.args.op c.cr_half.result (number_of c.args.rs1) zca (rw (c.bits.ensures.value, c.op.ensures, c.reg_to_gpr_num.ensures.value, c.funct4.ensures.value) at c.cr_half.ensures)

pub returns-clause-without : goal.returns-clause-without
returns-clause-without c = λ flags off. without_zca flags _ off
