use Rattle.std.proofs.Common.{ap, ◌∙◌}
use Rattle.rv_operands.specs.Shapes.{blank_regs}
use Rattle.rv_operands.proofs.Units.{regs_handed, shape_kept}
use Rattle.rv_operands.proofs.get_operands.described_operands.Goals as goal

pub returns-clause-handed : goal.returns-clause-handed
returns-clause-handed g c = λ asks. rw c.with_registers.ensures.same_kind (regs_handed _ _ asks (c.reads_sources_and_writes-handed.ensures.same ∙ ap blank_regs c.described_regs-registers.ensures) (rw c.described_regs-registers.ensures at c.reads_sources_and_writes-handed.ensures.handed))

pub returns-clause-same : goal.returns-clause-same
returns-clause-same g c = rw c.with_registers.ensures.same_kind (shape_kept _ _ (c.reads_sources_and_writes-handed.ensures.same ∙ ap blank_regs c.described_regs-registers.ensures))
