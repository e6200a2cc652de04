use Rattle.std.proofs.Common.{sym, ◌∙◌}
use Rattle.rv_base.specs.Regs.{number_of}
use Rattle.rv_encode.proofs.RegisterDecoding.{rrr_straight, rrr_exchanged}
use Rattle.rv_encode.proofs.operations.encode_alu_rrr.Goals as goal

pub returns-then-reverse_rs : goal.returns-then-reverse_rs
returns-then-reverse_rs c =
    λ flags. rrr_exchanged flags c.args.op c.encode_r_type.result (number_of c.args.rd.reg) (number_of c.args.rs1) (number_of c.args.rs2) (sym c.reverse_rs.ensures ∙ c.if-reverse_rs.true)
    (rw (c.op_code.ensures.value, c.funct3.ensures.value, c.funct7.ensures.value) at c.encode_r_type.ensures.layout)

pub returns : goal.returns
returns c =
    λ flags. rrr_straight flags c.args.op c.encode_r_type-2.result (number_of c.args.rd.reg) (number_of c.args.rs1) (number_of c.args.rs2) (sym c.reverse_rs.ensures ∙ c.if-reverse_rs.false)
    (rw (c.op_code-2.ensures.value, c.funct3-2.ensures.value, c.funct7-2.ensures.value) at c.encode_r_type-2.ensures.layout)
