use Rattle.rv_base.specs.Regs.{number_of}
use Rattle.rv_encode.proofs.FloatDecoding.{fpu_rrrr_decodes}
use Rattle.rv_encode.proofs.float.encode_fp_rrrr.Goals as goal

pub returns-clause-layout : goal.returns-clause-layout
returns-clause-layout c = rw (c.opcode.ensures.value, c.as_u32-2.ensures.value, c.with_source-funct7.ensures.value, c.reg_to_gpr_num.ensures.value, c.as_u32.ensures.value) at c.encode_r_type.ensures.layout

pub returns-clause-decodes : goal.returns-clause-decodes
returns-clause-decodes c =
    λ flags has. fpu_rrrr_decodes flags c.args.op c.args.width c.args.frm c.encode_r_type.result (number_of c.args.rd.reg) (number_of c.args.rs1) (number_of c.args.rs2) (number_of c.args.rs3) has
    (rw (c.opcode.ensures.value, c.as_u32-2.ensures.value, c.with_source-funct7.ensures.value, c.reg_to_gpr_num.ensures.value, c.as_u32.ensures.value) at c.encode_r_type.ensures.layout)
