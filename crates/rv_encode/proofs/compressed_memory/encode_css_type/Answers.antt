use Rattle.rv_base.specs.Regs.{number_of}
use Rattle.rv_encode.proofs.Halfwords.{without_zca}
use Rattle.rv_encode.proofs.HalfwordsOfMemory.{swsp_decodes, sdsp_decodes}
use Rattle.rv_encode.proofs.HalfwordsOfMemory.{swsp_layout, sdsp_layout}
use Rattle.rv_encode.proofs.compressed_memory.encode_css_type.Goals as goal

pub returns-in-CSwsp-clause-layout : goal.returns-in-CSwsp-clause-layout
returns-in-CSwsp-clause-layout c =
    swsp_layout c.args.op c.swsp_half.result (number_of c.args.src) c.args.imm.value c.in-CSwsp.is
    (rw (c.bits-space.ensures.value, c.op.ensures, c.reg_to_gpr_num-src.ensures.value, c.from-number.ensures, c.bits.ensures.value, c.funct3.ensures.value) at c.swsp_half.ensures)

pub returns-in-CSdsp-clause-layout : goal.returns-in-CSdsp-clause-layout
returns-in-CSdsp-clause-layout c =
    sdsp_layout c.args.op c.sdsp_half.result (number_of c.args.src) c.args.imm.value c.in-CSdsp.is
    (rw (c.bits-space.ensures.value, c.op.ensures, c.reg_to_gpr_num-src.ensures.value, c.from-number.ensures, c.bits.ensures.value, c.funct3-in-CSdsp.ensures.value) at c.sdsp_half.ensures)

pub returns-in-CSwsp-clause-decodes : goal.returns-in-CSwsp-clause-decodes
returns-in-CSwsp-clause-decodes c =
    λ flags zca. swsp_decodes flags c.args.op c.swsp_half.result (number_of c.args.src) c.args.imm.value c.in-CSwsp.is zca
    (rw (c.bits-space.ensures.value, c.op.ensures, c.reg_to_gpr_num-src.ensures.value, c.from-number.ensures, c.bits.ensures.value, c.funct3.ensures.value) at c.swsp_half.ensures)

pub returns-in-CSdsp-clause-decodes : goal.returns-in-CSdsp-clause-decodes
returns-in-CSdsp-clause-decodes c =
    λ flags zca. sdsp_decodes flags c.args.op c.sdsp_half.result (number_of c.args.src) c.args.imm.value c.in-CSdsp.is zca
    (rw (c.bits-space.ensures.value, c.op.ensures, c.reg_to_gpr_num-src.ensures.value, c.from-number.ensures, c.bits.ensures.value, c.funct3-in-CSdsp.ensures.value) at c.sdsp_half.ensures)

pub returns-in-CSwsp-clause-without : goal.returns-in-CSwsp-clause-without
returns-in-CSwsp-clause-without c = λ flags off. without_zca flags _ off

pub returns-in-CSdsp-clause-without : goal.returns-in-CSdsp-clause-without
returns-in-CSdsp-clause-without c = λ flags off. without_zca flags _ off
