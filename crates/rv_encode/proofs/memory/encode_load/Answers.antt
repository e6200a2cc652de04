use Rattle.rv_base.specs.Regs.{number_of}
use Rattle.rv_encode.proofs.Decoding.{i_imm_is}
use Rattle.rv_encode.proofs.MemoryDecoding.{load_decodes}
use Rattle.rv_encode.proofs.memory.encode_load.Goals as goal

pub returns : goal.returns
returns c = λ flags has.
    let h = rw (c.op_code.ensures.value, c.funct3.ensures.value) at c.encode_i_type.ensures.layout in
    load_decodes flags c.args.op c.encode_i_type.result (number_of c.args.rd.reg) (number_of c.args.base) _ c.args.offset.value has h (i_imm_is c.encode_i_type.result c.args.offset c.encode_i_type.ensures.layout.imm_is)
