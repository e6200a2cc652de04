use Rattle.std.specs.Prelude.{◌^◌}
use Rattle.rv_base.specs.Regs.{number_of}
use Rattle.rv_imms.specs.Bits.{low_bits}
use Rattle.rv_encode.proofs.ByFields.{i_alike, i_decodes, load_by_row, row_decodes}
use Rattle.rv_encode.proofs.CsrDecoding.{csr_imm_by_row, csr_reg_by_row}
use Rattle.rv_encode.proofs.layouts.encode_i_type.Goals as goal

pub returns-clause-decodes : goal.returns-clause-decodes
returns-clause-decodes c =
    λ flags op is. i_decodes flags op c.i_word.result c.args.opcode (number_of c.args.rd.reg) c.args.width (number_of c.args.rs1) c.args.offset is
    (rw (c.reg_to_gpr_num.ensures.value, c.reg_to_gpr_num-2.ensures.value, c.bits.ensures.value) at c.i_word.ensures)

pub returns-clause-alike : goal.returns-clause-alike
returns-clause-alike c =
    λ flags word few h. i_alike flags c.i_word.result word c.args.opcode (number_of c.args.rd.reg) c.args.width (number_of c.args.rs1) (low_bits (2 ^ 12) c.args.offset.value) c.i_word.type_inv few
    (rw (c.reg_to_gpr_num.ensures.value, c.reg_to_gpr_num-2.ensures.value, c.bits.ensures.value) at c.i_word.ensures) h

pub returns-clause-rows : goal.returns-clause-rows
returns-clause-rows c =
    λ flags op imm row. row_decodes flags op c.i_word.result c.args.opcode (number_of c.args.rd.reg) c.args.width (number_of c.args.rs1) _ imm row
    (rw (c.reg_to_gpr_num.ensures.value, c.reg_to_gpr_num-2.ensures.value, c.bits.ensures.value) at c.i_word.ensures)

pub returns-clause-loads : goal.returns-clause-loads
returns-clause-loads c =
    λ flags op has this that. load_by_row flags op c.i_word.result c.args.opcode (number_of c.args.rd.reg) c.args.width (number_of c.args.rs1) c.args.offset has this that
    (rw (c.reg_to_gpr_num.ensures.value, c.reg_to_gpr_num-2.ensures.value, c.bits.ensures.value) at c.i_word.ensures)

pub returns-clause-csr_registers : goal.returns-clause-csr_registers
returns-clause-csr_registers c =
    λ flags op csr row. csr_reg_by_row flags op csr c.i_word.result c.args.opcode (number_of c.args.rd.reg) c.args.width (number_of c.args.rs1) (low_bits (2 ^ 12) c.args.offset.value) row
    (rw (c.reg_to_gpr_num.ensures.value, c.reg_to_gpr_num-2.ensures.value, c.bits.ensures.value) at c.i_word.ensures)

pub returns-clause-csr_immediates : goal.returns-clause-csr_immediates
returns-clause-csr_immediates c =
    λ flags op csr row. csr_imm_by_row flags op csr c.i_word.result c.args.opcode (number_of c.args.rd.reg) c.args.width (number_of c.args.rs1) (low_bits (2 ^ 12) c.args.offset.value) row
    (rw (c.reg_to_gpr_num.ensures.value, c.reg_to_gpr_num-2.ensures.value, c.bits.ensures.value) at c.i_word.ensures)
