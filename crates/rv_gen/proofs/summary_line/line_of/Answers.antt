use Rattle.std.proofs.Common.{append_assoc}
use Rattle.rv_gen.proofs.summary_line.line_of.Goals as goal

pub returns : goal.returns
returns c = simp append_assoc c.in_ok-text.ensures.ok
