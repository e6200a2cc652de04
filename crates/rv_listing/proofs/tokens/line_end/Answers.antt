use Rattle.rv_listing.proofs.Cuts.{first_at, first_nowhere}
use Rattle.rv_listing.proofs.tokens.line_end.Goals as goal

pub returns-in-Some-clause-place : goal.returns-in-Some-clause-place
returns-in-Some-clause-place c = first_at 10 c.args.text.now c.in-Some.at c.in-Some.ensures

pub returns-in-None-clause-place : goal.returns-in-None-clause-place
returns-in-None-clause-place c = first_nowhere 10 c.args.text.now c.in-None.ensures
