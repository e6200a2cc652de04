use Rattle.std.proofs.Common.{sym, ◌∙◌}
use Rattle.rv_operands.proofs.Units.{sequence_handed, sequence_shape_kept}
use Rattle.rv_operands.proofs.get_operands.loop_operands.Goals as goal

pub returns-in-Some-clause-handed : goal.returns-in-Some-clause-handed
returns-in-Some-clause-handed g c = λ family. rw c.with_sequence.ensures.same_kind (sequence_handed _ _ _ (sym c.sequence.ensures ∙ c.in-Some.is) c.reads_and_computes-handed.ensures.same c.reads_and_computes-handed.ensures.handed)

pub returns-in-Some-clause-same : goal.returns-in-Some-clause-same
returns-in-Some-clause-same g c = λ family. rw c.with_sequence.ensures.same_kind (sequence_shape_kept _ _ _ (sym c.sequence.ensures ∙ c.in-Some.is) c.reads_and_computes-handed.ensures.same)
