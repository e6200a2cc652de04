use Rattle.rv_operands.proofs.Requests.{ends_within, both_after, only_one}
use Rattle.rv_operands.proofs.groups.addresses_and_reads.Goals as goal

pub returns-in_err-addresses-clause-handed : goal.returns-in_err-addresses-clause-handed
returns-in_err-addresses-clause-handed g c = ends_within _ c.from_residual.ensures.0 c.in_err-addresses.ensures.handed

pub returns-clause-handed : goal.returns-clause-handed
returns-clause-handed g c = both_after c.in_ok-addresses.ensures.handed (only_one c.reads.ensures.handed)
