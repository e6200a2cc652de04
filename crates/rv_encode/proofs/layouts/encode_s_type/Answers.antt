use Rattle.std.specs.Prelude.{◌^◌}
use Rattle.rv_base.specs.Regs.{number_of}
use Rattle.rv_imms.specs.Bits.{low_bits}
use Rattle.rv_encode.proofs.ByFields.{s_alike, s_decodes, store_by_row}
use Rattle.rv_encode.proofs.layouts.encode_s_type.Goals as goal

pub returns-clause-decodes : goal.returns-clause-decodes
returns-clause-decodes c =
    λ flags op is. s_decodes flags op c.s_word.result c.args.opcode c.args.width (number_of c.args.base) (number_of c.args.src) c.args.offset is
    (rw (c.reg_to_gpr_num.ensures.value, c.reg_to_gpr_num-2.ensures.value, c.bits.ensures.value) at c.s_word.ensures)

pub returns-clause-alike : goal.returns-clause-alike
returns-clause-alike c =
    λ flags word few h. s_alike flags c.s_word.result word c.args.opcode c.args.width (number_of c.args.base) (number_of c.args.src) (low_bits (2 ^ 12) c.args.offset.value) c.s_word.type_inv few
    (rw (c.reg_to_gpr_num.ensures.value, c.reg_to_gpr_num-2.ensures.value, c.bits.ensures.value) at c.s_word.ensures) h

pub returns-clause-stores : goal.returns-clause-stores
returns-clause-stores c =
    λ flags op has this that. store_by_row flags op c.s_word.result c.args.opcode c.args.width (number_of c.args.base) (number_of c.args.src) c.args.offset has this that
    (rw (c.reg_to_gpr_num.ensures.value, c.reg_to_gpr_num-2.ensures.value, c.bits.ensures.value) at c.s_word.ensures)
