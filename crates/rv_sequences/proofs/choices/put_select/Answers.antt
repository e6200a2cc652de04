use Rattle.rv_sequences.proofs.Terms.{sym, ◌∙◌}
use Rattle.rv_sequences.proofs.choices.put_select.Goals as goal

pub returns-then-are_results-clause-slots : goal.returns-then-are_results-clause-slots
returns-then-are_results-clause-slots c = rw (sym c.are_results.ensures ∙ c.if-are_results.true) (rw c.inverse.ensures at c.put_choice.ensures.slots)

pub returns-else-are_results-clause-slots : goal.returns-else-are_results-clause-slots
returns-else-are_results-clause-slots c = rw (sym c.are_results.ensures ∙ c.if-are_results.false) c.put_choice-else-are_results.ensures.slots
