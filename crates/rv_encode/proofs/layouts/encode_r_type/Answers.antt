use Rattle.rv_base.specs.Regs.{number_of}
use Rattle.rv_encode.proofs.ByFields.{r_alike}
use Rattle.rv_encode.proofs.FloatDecoding.{fli_by_row, fpu_rr_by_row, fpu_rrr_by_row, fpu_rrrr_by_row}
use Rattle.rv_encode.proofs.RegisterDecoding.{r_decodes}
use Rattle.rv_encode.proofs.layouts.encode_r_type.Goals as goal

pub returns-clause-decodes : goal.returns-clause-decodes
returns-clause-decodes c =
    λ flags op is. r_decodes flags op c.r_word.result c.args.opcode (number_of c.args.rd.reg) c.args.funct3 (number_of c.args.rs1) (number_of c.args.rs2) c.args.funct7 is
    (rw (c.reg_to_gpr_num.ensures.value, c.reg_to_gpr_num-2.ensures.value, c.reg_to_gpr_num-3.ensures.value) at c.r_word.ensures)

pub returns-clause-alike : goal.returns-clause-alike
returns-clause-alike c =
    λ flags word few h. r_alike flags c.r_word.result word c.args.opcode (number_of c.args.rd.reg) c.args.funct3 (number_of c.args.rs1) (number_of c.args.rs2) c.args.funct7 c.r_word.type_inv few
    (rw (c.reg_to_gpr_num.ensures.value, c.reg_to_gpr_num-2.ensures.value, c.reg_to_gpr_num-3.ensures.value) at c.r_word.ensures) h

pub returns-clause-floats : goal.returns-clause-floats
returns-clause-floats c =
    λ flags op width frm row. fpu_rrr_by_row flags op width frm c.r_word.result c.args.opcode (number_of c.args.rd.reg) c.args.funct3 (number_of c.args.rs1) (number_of c.args.rs2) c.args.funct7 row
    (rw (c.reg_to_gpr_num.ensures.value, c.reg_to_gpr_num-2.ensures.value, c.reg_to_gpr_num-3.ensures.value) at c.r_word.ensures)

pub returns-clause-floats_of_one : goal.returns-clause-floats_of_one
returns-clause-floats_of_one c =
    λ flags op width frm row. fpu_rr_by_row flags op width frm c.r_word.result c.args.opcode (number_of c.args.rd.reg) c.args.funct3 (number_of c.args.rs1) (number_of c.args.rs2) c.args.funct7 row
    (rw (c.reg_to_gpr_num.ensures.value, c.reg_to_gpr_num-2.ensures.value, c.reg_to_gpr_num-3.ensures.value) at c.r_word.ensures)

pub returns-clause-fused : goal.returns-clause-fused
returns-clause-fused c =
    λ flags op width frm rs3 row. fpu_rrrr_by_row flags op width frm rs3 c.r_word.result c.args.opcode (number_of c.args.rd.reg) c.args.funct3 (number_of c.args.rs1) (number_of c.args.rs2) c.args.funct7 row
    (rw (c.reg_to_gpr_num.ensures.value, c.reg_to_gpr_num-2.ensures.value, c.reg_to_gpr_num-3.ensures.value) at c.r_word.ensures)

pub returns-clause-constants : goal.returns-clause-constants
returns-clause-constants c =
    λ flags width row. fli_by_row flags width c.r_word.result c.args.opcode (number_of c.args.rd.reg) c.args.funct3 (number_of c.args.rs1) (number_of c.args.rs2) c.args.funct7 row
    (rw (c.reg_to_gpr_num.ensures.value, c.reg_to_gpr_num-2.ensures.value, c.reg_to_gpr_num-3.ensures.value) at c.r_word.ensures)
