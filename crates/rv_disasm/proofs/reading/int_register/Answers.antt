use Rattle.std.proofs.Common.{◌≡◌, sym, ◌∙◌, below_more, lt_of_lt_of_le}
use Rattle.std.proofs.lemmas.Bool.{both_ways}
use Rattle.std.proofs.lemmas.Slice.Eq.{bytes_eq-Decides}
use Rattle.rv_base.specs.declared.regs.RegClass.TheVariants.{Int}
use Rattle.rv_base.specs.RegNames.{real_name}
use Rattle.rv_disasm.proofs.Tokens.{int_same, found}
use Rattle.rv_disasm.proofs.reading.int_register.Goals as goal

pub returns-then-eq : goal.returns-then-eq
returns-then-eq c = λ n low e. found n c.loop-number.number c.loop-number-test.true (int_same n c.loop-number.number low c.loop-number-test.true (sym e ∙ (sym ((bytes_eq-Decides c.as_bytes.result.now c.args.token.now).0 (sym c.eq.ensures ∙ c.if-eq.true)) ∙ c.as_bytes.ensures.value ∙ c.int_reg_name.ensures)))

pub loop-number-preserved : goal.loop-number-preserved
loop-number-preserved c = below_more (λ k. c.args.token.now ≡ real_name Int k → ⊥) c.loop-number.number c.loop-number.invariant (λ e. both_ways c.eq.result c.if-eq.false (c.eq.ensures ∙ (bytes_eq-Decides c.as_bytes.result.now c.args.token.now).1 (c.as_bytes.ensures.value ∙ c.int_reg_name.ensures ∙ sym e)))

pub returns : goal.returns
returns c = λ n low e. absurd (c.loop-number.invariant n (lt_of_lt_of_le low c.loop-number-test.false) e)
