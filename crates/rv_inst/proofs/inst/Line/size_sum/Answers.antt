use Rattle.std.proofs.Common.{ap, sym, ◌∙◌}
use Rattle.rv_inst.specs.Context.{context_by}
use Rattle.rv_inst.specs.Sizes.{line_sum}
use Rattle.rv_inst.proofs.inst.Line.size_sum.Goals as goal

pub returns-in-Inst : goal.returns-in-Inst
returns-in-Inst c = λ flags constants. c.size_sum.ensures flags constants ∙ ap (line_sum (context_by flags c.args.frame.now constants)) (sym c.in-Inst.is)
