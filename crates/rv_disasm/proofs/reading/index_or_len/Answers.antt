use Rattle.std.proofs.Common.{None}
use Rattle.rv_disasm.proofs.Cuts.{place_found, place_within}
use Rattle.rv_disasm.proofs.reading.index_or_len.Goals as goal

pub returns-in-None-clause-place : goal.returns-in-None-clause-place
returns-in-None-clause-place c = place_found _ _ None (place_within c.args.byte c.args.text.now) c.in-None.ensures
