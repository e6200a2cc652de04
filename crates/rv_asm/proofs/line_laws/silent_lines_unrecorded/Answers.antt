use Rattle.rv_asm.proofs.Laws.{silent_lines_unrecorded}
use Rattle.rv_asm.proofs.line_laws.silent_lines_unrecorded.Goals as goal

pub returns : goal.returns
returns c = silent_lines_unrecorded
