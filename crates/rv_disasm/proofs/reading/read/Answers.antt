use Rattle.std.proofs.Common.{◌≡◌, subst}
use Rattle.rv_base.specs.declared.regs.RegClass.TheVariants.{Int, Float, Vector}
use Rattle.rv_base.specs.RegNames.{real_name}
use Rattle.rv_disasm.specs.Text.{IsNamed, number_text}
use Rattle.rv_disasm.proofs.Tokens.{from_register}
use Rattle.rv_disasm.proofs.reading.read.Goals as goal

pub returns-in-X : goal.returns-in-X
returns-in-X c = λ z named small e. from_register (real_name Int) c.args.token.now c.int_register.result c.int_register.ensures z (subst (λ f. IsNamed f z) c.in-X.is named) (subst (λ f. c.args.token.now ≡ number_text f z) c.in-X.is e)

pub returns-in-F : goal.returns-in-F
returns-in-F c = λ z named small e. from_register (real_name Float) c.args.token.now c.float_register.result c.float_register.ensures z (subst (λ f. IsNamed f z) c.in-F.is named) (subst (λ f. c.args.token.now ≡ number_text f z) c.in-F.is e)

pub returns-in-V : goal.returns-in-V
returns-in-V c = λ z named small e. from_register (real_name Vector) c.args.token.now c.vector_register.result c.vector_register.ensures z (subst (λ f. IsNamed f z) c.in-V.is named) (subst (λ f. c.args.token.now ≡ number_text f z) c.in-V.is e)
