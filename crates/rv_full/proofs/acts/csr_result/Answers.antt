use Rattle.std.proofs.Common.{arith}
use Rattle.std.proofs.lemmas.Nat.{or_lt}
use Rattle.rv_full.proofs.acts.csr_result.Goals as goal

pub returns-in-Csrrs-clause-below : goal.returns-in-Csrrs-clause-below
returns-in-Csrrs-clause-below c = or_lt 3 _ _ c.requires.old (omega arith)

pub returns-in-Csrrsi-clause-below : goal.returns-in-Csrrsi-clause-below
returns-in-Csrrsi-clause-below c = or_lt 3 _ _ c.requires.old (omega arith)
