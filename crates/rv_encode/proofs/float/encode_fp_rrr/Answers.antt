use Rattle.rv_base.specs.Regs.{number_of}
use Rattle.rv_encode.proofs.FloatDecoding.{fpu_rrr_decodes}
use Rattle.rv_encode.proofs.float.encode_fp_rrr.Goals as goal

pub returns-clause-layout : goal.returns-clause-layout
returns-clause-layout c = rw (c.opcode.ensures, c.as_u32.ensures.value, c.funct7.ensures.value) at c.encode_r_type.ensures.layout

pub returns-clause-decodes : goal.returns-clause-decodes
returns-clause-decodes c =
    λ flags has takes. fpu_rrr_decodes flags c.args.op c.args.width c.args.frm c.encode_r_type.result (number_of c.args.rd.reg) (number_of c.args.rs1) (number_of c.args.rs2) has takes
    (rw (c.opcode.ensures, c.as_u32.ensures.value, c.funct7.ensures.value) at c.encode_r_type.ensures.layout)
