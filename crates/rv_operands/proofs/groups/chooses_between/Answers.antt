use Rattle.rv_operands.proofs.Requests.{both_after, ends_within}
use Rattle.rv_operands.proofs.groups.chooses_between.Goals as goal

pub returns-in_err-reads_value-clause-handed : goal.returns-in_err-reads_value-clause-handed
returns-in_err-reads_value-clause-handed g c = ends_within _ c.from_residual.ensures.0 c.in_err-reads_value.ensures.handed

pub returns-in_err-reads_value-2-clause-handed : goal.returns-in_err-reads_value-2-clause-handed
returns-in_err-reads_value-2-clause-handed g c = both_after c.in_ok-reads_value.ensures.handed (ends_within _ c.from_residual-in_err-reads_value-2.ensures.0 c.in_err-reads_value-2.ensures.handed)

pub returns-clause-handed : goal.returns-clause-handed
returns-clause-handed g c = both_after c.in_ok-reads_value.ensures.handed (both_after c.in_ok-reads_value-2.ensures.handed c.writes_value.ensures.handed)
