use Rattle.rv_base.specs.Regs.{number_of}
use Rattle.rv_encode.proofs.HalfwordsOfFloat.{fsdsp_decodes, fsdsp_without}
use Rattle.rv_encode.proofs.compressed_float.encode_c_fsdsp.Goals as goal

pub returns-clause-layout : goal.returns-clause-layout
returns-clause-layout c =
    rw (c.bits.ensures.value, c.op.ensures, c.from.ensures, c.bits-2.ensures.value, c.funct3.ensures.value, c.reg_to_gpr_num.ensures.value) at c.sdsp_half.ensures

pub returns-clause-decodes : goal.returns-clause-decodes
returns-clause-decodes c =
    λ flags zca zcd. fsdsp_decodes flags c.sdsp_half.result (number_of c.args.src) c.args.imm.value zca zcd
    (rw (c.bits.ensures.value, c.op.ensures, c.from.ensures, c.bits-2.ensures.value, c.funct3.ensures.value, c.reg_to_gpr_num.ensures.value) at c.sdsp_half.ensures)

pub returns-clause-without : goal.returns-clause-without
returns-clause-without c =
    λ flags off. fsdsp_without flags c.sdsp_half.result (number_of c.args.src) _ off
    (rw (c.bits.ensures.value, c.op.ensures, c.from.ensures, c.bits-2.ensures.value, c.funct3.ensures.value, c.reg_to_gpr_num.ensures.value) at c.sdsp_half.ensures)
