use Rattle.rv_formula.proofs.Fronts.{no_formula_begins_so}
use Rattle.rv_formula.proofs.laws.no_formula_begins_so.Goals as goal

pub returns : goal.returns
returns c = no_formula_begins_so
