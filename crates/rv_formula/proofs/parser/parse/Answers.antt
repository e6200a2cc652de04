use Rattle.std.proofs.lemmas.Result.{IfOk-weaker}
use Rattle.rv_formula.specs.Formula.{IsProgramOf}
use Rattle.rv_formula.specs.Parsing.{IsAll}
use Rattle.rv_formula.proofs.Fronts.{program_found, formulas_given}
use Rattle.rv_formula.proofs.parser.parse.Goals as goal

pub returns-clause-found : goal.returns-clause-found
returns-clause-found c = IfOk-weaker c.read_all.result (λ v. IsAll c.args.text.now v.items) (λ v. IsProgramOf c.args.text.now v.items) (λ v. program_found c.args.text.now v.items) c.read_all.ensures.all

pub returns-clause-formulas : goal.returns-clause-formulas
returns-clause-formulas c = formulas_given (λ v. v.items) c.read_all.result c.args.text.now c.read_all.ensures.exact
