use Rattle.rv_operands.proofs.RulesKept.{keeps}
use Rattle.rv_operands.proofs.laws.chosen_registers_keep_rules.Goals as goal

pub returns : goal.returns
returns c = keeps
