use Rattle.rv_operands.proofs.Requests.{only_one}
use Rattle.rv_operands.proofs.groups.reads_one.Goals as goal

pub returns-clause-handed : goal.returns-clause-handed
returns-clause-handed g c = only_one c.reads.ensures.handed
