use Rattle.rv_sequences.proofs.Terms.{sym, ◌∙◌}
use Rattle.rv_sequences.proofs.halves.put_store_line.Goals as goal

pub returns-then-has_store-clause-slots : goal.returns-then-has_store-clause-slots
returns-then-has_store-clause-slots c = rw (sym c.has_store.ensures ∙ c.if-has_store.true) c.put_store.ensures.slots

pub returns-else-has_store-clause-slots : goal.returns-else-has_store-clause-slots
returns-else-has_store-clause-slots c = rw (sym c.has_store.ensures ∙ c.if-has_store.false) c.put_half_store.ensures.slots
