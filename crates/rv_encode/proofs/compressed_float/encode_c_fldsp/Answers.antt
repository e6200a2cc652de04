use Rattle.rv_base.specs.Regs.{number_of}
use Rattle.rv_encode.proofs.HalfwordsOfFloat.{fldsp_decodes, fldsp_without}
use Rattle.rv_encode.proofs.compressed_float.encode_c_fldsp.Goals as goal

pub returns-clause-layout : goal.returns-clause-layout
returns-clause-layout c =
    rw (c.bits.ensures.value, c.op.ensures, c.from.ensures, c.bits-2.ensures.value, c.funct3.ensures.value, c.reg_to_gpr_num.ensures.value) at c.ldsp_half.ensures

pub returns-clause-decodes : goal.returns-clause-decodes
returns-clause-decodes c =
    λ flags zca zcd. fldsp_decodes flags c.ldsp_half.result (number_of c.args.rd.reg) c.args.imm.value zca zcd
    (rw (c.bits.ensures.value, c.op.ensures, c.from.ensures, c.bits-2.ensures.value, c.funct3.ensures.value, c.reg_to_gpr_num.ensures.value) at c.ldsp_half.ensures)

pub returns-clause-without : goal.returns-clause-without
returns-clause-without c =
    λ flags off. fldsp_without flags c.ldsp_half.result (number_of c.args.rd.reg) _ off
    (rw (c.bits.ensures.value, c.op.ensures, c.from.ensures, c.bits-2.ensures.value, c.funct3.ensures.value, c.reg_to_gpr_num.ensures.value) at c.ldsp_half.ensures)
