use Rattle.rv_base.specs.Regs.{number_of}
use Rattle.rv_encode.proofs.MemoryDecoding.{s_imm_is, store_decodes}
use Rattle.rv_encode.proofs.memory.encode_store.Goals as goal

pub returns : goal.returns
returns c = λ flags has.
    let h = rw (c.op_code.ensures.value, c.funct3.ensures.value) at c.encode_s_type.ensures.layout in
    store_decodes flags c.args.op c.encode_s_type.result (number_of c.args.base) (number_of c.args.src) _ c.args.offset.value has h (s_imm_is c.encode_s_type.result c.args.offset c.encode_s_type.ensures.layout.imm_is)
