use Rattle.std.proofs.Common.{sym, ◌∙◌}
use Rattle.rv_inst.proofs.PlainInsts.{breaks_none}
use Rattle.rv_inst.proofs.inst.Inst.is_plain.Goals as goal

pub returns-clause-rules : goal.returns-clause-rules
returns-clause-rules c = λ h. breaks_none c.args.self.now (sym c.is_usual.ensures ∙ h)
