use Rattle.rv_base.specs.Regs.{number_of}
use Rattle.rv_encode.proofs.FloatDecoding.{fpu_rr_decodes}
use Rattle.rv_encode.proofs.float.encode_fp_rr.Goals as goal

pub returns-clause-layout : goal.returns-clause-layout
returns-clause-layout c = rw (c.opcode.ensures, c.reg_to_gpr_num.ensures.value, c.as_u32.ensures.value, c.reg_to_gpr_num-2.ensures.value, c.rs2.ensures.value, c.funct7.ensures.value) at c.r_word.ensures

pub returns-clause-decodes : goal.returns-clause-decodes
returns-clause-decodes c =
    λ flags has takes. fpu_rr_decodes flags c.args.op c.args.width c.args.frm c.r_word.result (number_of c.args.rd.reg) (number_of c.args.rs) has takes
    (rw (c.opcode.ensures, c.reg_to_gpr_num.ensures.value, c.as_u32.ensures.value, c.reg_to_gpr_num-2.ensures.value, c.rs2.ensures.value, c.funct7.ensures.value) at c.r_word.ensures)
