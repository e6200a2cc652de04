use Rattle.rv_ops.specs.Fli.{fli_format}
use Rattle.rv_ops.proofs.Rows.{row_found, no_row}
use Rattle.rv_ops.proofs.fli.FliConstant.maybe_from_u64.Goals as goal

pub returns-in-Some-clause-found : goal.returns-in-Some-clause-found
returns-in-Some-clause-found c = row_found (fli_format c.args.ty) c.args.imm _ c.in-Some.ensures.row

pub returns-in-None-clause-none : goal.returns-in-None-clause-none
returns-in-None-clause-none c = λ none row. no_row (fli_format c.args.ty) c.args.imm row c.in-None.ensures.row
