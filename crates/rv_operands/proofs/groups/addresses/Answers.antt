use Rattle.rv_operands.proofs.Parts.{address_handed}
use Rattle.rv_operands.proofs.groups.addresses.Goals as goal

pub returns-clause-handed : goal.returns-clause-handed
returns-clause-handed g c = address_handed _ _ c.get_operands.ensures.ok c.get_operands.ensures.given c.get_operands.ensures.err c.get_operands.ensures.none_given c.get_operands.ensures.kept
