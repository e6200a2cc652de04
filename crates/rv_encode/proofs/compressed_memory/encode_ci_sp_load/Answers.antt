use Rattle.std.proofs.Common.{arith}
use Rattle.std.proofs.lemmas.Bool.Decides.{nat_tests}
use Rattle.rv_base.specs.Regs.{number_of}
use Rattle.rv_encode.proofs.Halfwords.{without_zca}
use Rattle.rv_encode.proofs.HalfwordsOfMemory.{lwsp_layout, ldsp_layout, sp_load_decodes}
use Rattle.rv_encode.proofs.compressed_memory.encode_ci_sp_load.Goals as goal

pub returns-in-CLwsp-clause-layout : goal.returns-in-CLwsp-clause-layout
returns-in-CLwsp-clause-layout c =
    lwsp_layout c.args.op c.lwsp_half.result (number_of c.args.rd.reg) c.args.imm.value c.in-CLwsp.is
    (rw (c.bits-space.ensures.value, c.op.ensures, c.from-number.ensures, c.bits.ensures.value, c.reg_to_gpr_num-rd.ensures.value, c.funct3.ensures.value) at c.lwsp_half.ensures)

pub returns-in-CLwsp-clause-decodes : goal.returns-in-CLwsp-clause-decodes
returns-in-CLwsp-clause-decodes c =
    λ flags load zca loaded some. sp_load_decodes flags c.args.op load c.lwsp_half.result (number_of c.args.rd.reg) c.args.imm.value zca loaded some
    (lwsp_layout c.args.op c.lwsp_half.result (number_of c.args.rd.reg) c.args.imm.value c.in-CLwsp.is
    (rw (c.bits-space.ensures.value, c.op.ensures, c.from-number.ensures, c.bits.ensures.value, c.reg_to_gpr_num-rd.ensures.value, c.funct3.ensures.value) at c.lwsp_half.ensures) load loaded)

pub returns-in_default : goal.returns-in_default
returns-in_default c =
    let op = c.ldsp_half.ensures.op_is in
    let layout = ldsp_layout c.args.op c.ldsp_half.result (number_of c.args.rd.reg) c.args.imm.value c.in_default.not-CLwsp
    (rw (c.bits-space.ensures.value, c.op.ensures, c.from-number.ensures, c.bits.ensures.value, c.reg_to_gpr_num-rd.ensures.value, c.funct3-in_default.ensures.value) at c.ldsp_half.ensures) in
    record {
      layout = layout;
      decodes = λ flags load zca loaded some. sp_load_decodes flags c.args.op load c.ldsp_half.result (number_of c.args.rd.reg) c.args.imm.value zca loaded some (layout load loaded);
      without = λ flags off. without_zca flags _ off;
      narrow = grind (arith, nat_tests, op);
    }

pub returns-in-CLwsp-clause-without : goal.returns-in-CLwsp-clause-without
returns-in-CLwsp-clause-without c = λ flags off. without_zca flags _ off
