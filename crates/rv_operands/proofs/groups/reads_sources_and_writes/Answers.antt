use Rattle.rv_operands.proofs.Requests.{both_after, ends_within}
use Rattle.rv_operands.proofs.groups.reads_sources_and_writes.Goals as goal

pub returns-in_err-reads_any-clause-handed : goal.returns-in_err-reads_any-clause-handed
returns-in_err-reads_any-clause-handed g c = ends_within _ c.from_residual.ensures.0 c.in_err-reads_any.ensures.handed

pub returns-in_err-reads_any-2-clause-handed : goal.returns-in_err-reads_any-2-clause-handed
returns-in_err-reads_any-2-clause-handed g c = both_after c.in_ok-reads_any.ensures.handed (ends_within _ c.from_residual-in_err-reads_any-2.ensures.0 c.in_err-reads_any-2.ensures.handed)

pub returns-in_err-reads_any-3-clause-handed : goal.returns-in_err-reads_any-3-clause-handed
returns-in_err-reads_any-3-clause-handed g c = both_after c.in_ok-reads_any.ensures.handed (both_after c.in_ok-reads_any-2.ensures.handed (ends_within _ c.from_residual-in_err-reads_any-3.ensures.0 c.in_err-reads_any-3.ensures.handed))

pub returns-clause-handed : goal.returns-clause-handed
returns-clause-handed g c = both_after c.in_ok-reads_any.ensures.handed (both_after c.in_ok-reads_any-2.ensures.handed (both_after c.in_ok-reads_any-3.ensures.handed c.writes_any.ensures.handed))
