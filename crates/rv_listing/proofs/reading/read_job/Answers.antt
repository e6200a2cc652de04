use Rattle.rv_listing.proofs.FirstBadLine.{bad_line_is}
use Rattle.rv_listing.proofs.reading.read_job.Goals as goal

pub returns-clause-bad_line : goal.returns-clause-bad_line
returns-clause-bad_line c = bad_line_is c.args.text.now c.read_lines.result c.read_lines.ensures
