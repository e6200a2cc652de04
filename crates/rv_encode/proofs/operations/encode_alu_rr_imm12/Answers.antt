use Rattle.rv_base.specs.Regs.{number_of}
use Rattle.rv_encode.proofs.Decoding.{rri_decodes}
use Rattle.rv_encode.proofs.operations.encode_alu_rr_imm12.Goals as goal

pub returns : goal.returns
returns c =
    λ flags. rri_decodes flags c.args.op c.i_word.result (number_of c.args.rd.reg) (number_of c.args.rs) c.args.imm12
    (rw (c.op_code.ensures.value, c.reg_to_gpr_num.ensures.value, c.funct3.ensures.value, c.reg_to_gpr_num-2.ensures.value, c.imm12.ensures.value) at c.i_word.ensures)
