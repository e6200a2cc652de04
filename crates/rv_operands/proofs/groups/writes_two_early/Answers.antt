use Rattle.rv_operands.proofs.Requests.{stops_at, goes_on, only_one}
use Rattle.rv_operands.proofs.groups.writes_two_early.Goals as goal

pub returns-in_err-writes_early-clause-handed : goal.returns-in_err-writes_early-clause-handed
returns-in_err-writes_early-clause-handed g c = stops_at _ c.from_residual.ensures.0 c.in_err-writes_early.ensures.handed

pub returns-clause-handed : goal.returns-clause-handed
returns-clause-handed g c = goes_on c.in_ok-writes_early.ensures.handed (only_one c.writes_early-2.ensures.handed)
