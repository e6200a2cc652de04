use Rattle.rv_operands.proofs.Requests.{only_one}
use Rattle.rv_operands.proofs.groups.writes_one_early.Goals as goal

pub returns-clause-handed : goal.returns-clause-handed
returns-clause-handed g c = only_one c.writes_early.ensures.handed
