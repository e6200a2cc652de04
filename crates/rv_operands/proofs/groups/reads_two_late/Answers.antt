use Rattle.rv_operands.proofs.Requests.{stops_at, goes_on, only_one}
use Rattle.rv_operands.proofs.groups.reads_two_late.Goals as goal

pub returns-in_err-reads_late-clause-handed : goal.returns-in_err-reads_late-clause-handed
returns-in_err-reads_late-clause-handed g c = stops_at _ c.from_residual.ensures.0 c.in_err-reads_late.ensures.handed

pub returns-clause-handed : goal.returns-clause-handed
returns-clause-handed g c = goes_on c.in_ok-reads_late.ensures.handed (only_one c.reads_late-2.ensures.handed)
