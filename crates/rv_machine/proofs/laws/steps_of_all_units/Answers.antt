use Rattle.rv_machine.proofs.UnitOperations.{same_step}
use Rattle.rv_machine.proofs.laws.steps_of_all_units.Goals as goal

pub returns : goal.returns
returns c = same_step
