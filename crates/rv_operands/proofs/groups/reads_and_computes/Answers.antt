use Rattle.rv_operands.proofs.Requests.{both_after, ends_within, goes_on, stops_at}
use Rattle.rv_operands.proofs.groups.reads_and_computes.Goals as goal

pub returns-in_err-reads-clause-handed : goal.returns-in_err-reads-clause-handed
returns-in_err-reads-clause-handed g c = stops_at _ c.from_residual.ensures.0 c.in_err-reads.ensures.handed

pub returns-in_err-writes_two_early-clause-handed : goal.returns-in_err-writes_two_early-clause-handed
returns-in_err-writes_two_early-clause-handed g c = goes_on c.in_ok-reads.ensures.handed (ends_within _ c.from_residual-in_err-writes_two_early.ensures.0 c.in_err-writes_two_early.ensures.handed)

pub returns-in_err-writes_any_early-clause-handed : goal.returns-in_err-writes_any_early-clause-handed
returns-in_err-writes_any_early-clause-handed g c = goes_on c.in_ok-reads.ensures.handed (both_after c.in_ok-writes_two_early.ensures.handed (ends_within _ c.from_residual-in_err-writes_any_early.ensures.0 c.in_err-writes_any_early.ensures.handed))

pub returns-clause-handed : goal.returns-clause-handed
returns-clause-handed g c = goes_on c.in_ok-reads.ensures.handed (both_after c.in_ok-writes_two_early.ensures.handed (both_after c.in_ok-writes_any_early.ensures.handed c.writes_one_early.ensures.handed))
