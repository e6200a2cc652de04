use Rattle.rv_operands.proofs.Temporaries.{temporaries}
use Rattle.rv_operands.proofs.laws.temporaries_are_scratched.Goals as goal

pub returns : goal.returns
returns c = temporaries
