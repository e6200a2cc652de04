use Rattle.rv_sequences.proofs.Terms.{sym, ◌∙◌}
use Rattle.rv_sequences.proofs.halves.put_load_line.Goals as goal

pub returns-then-has_load-clause-slots : goal.returns-then-has_load-clause-slots
returns-then-has_load-clause-slots c = rw (sym c.has_load.ensures ∙ c.if-has_load.true) c.put_load.ensures.slots

pub returns-else-has_load-clause-slots : goal.returns-else-has_load-clause-slots
returns-else-has_load-clause-slots c = rw (sym c.has_load.ensures ∙ c.if-has_load.false) c.put_half_load.ensures.slots
