use Rattle.{rv_asm.proofs.RefusalOrder.plain_line, rv_asm.proofs.Words.{IsPlainLine, subst, sym}}
use Rattle.rv_asm.proofs.survey.is_plain.Goals as goal

pub returns-in-Inst : goal.returns-in-Inst
returns-in-Inst c = λ context h. subst (IsPlainLine context) (sym c.in-Inst.is) (plain_line context c.in-Inst.inst (c.is_plain.ensures.rules h))
