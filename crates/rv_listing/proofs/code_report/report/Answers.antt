use Rattle.std.proofs.Common.{◌∙◌}
use Rattle.rv_listing.proofs.OneReport.{same_code}
use Rattle.rv_listing.proofs.code_report.report.Goals as goal

pub returns-clause-one_code : goal.returns-clause-one_code
returns-clause-one_code c = λ other own fits same. same_code other c.args.code.now fits own (same ∙ c.in_ok-text.ensures)
