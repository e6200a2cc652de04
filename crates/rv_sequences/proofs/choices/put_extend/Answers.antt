use Rattle.rv_sequences.proofs.Terms.{sym, ◌∙◌}
use Rattle.rv_sequences.proofs.choices.put_extend.Goals as goal

pub returns-then-is_byte-clause-slots : goal.returns-then-is_byte-clause-slots
returns-then-is_byte-clause-slots c = rw (sym c.is_byte.ensures ∙ c.if-is_byte.true) (rw c.low_byte.ensures at c.put_rri.ensures.slots)

pub returns-else-is_byte-clause-slots : goal.returns-else-is_byte-clause-slots
returns-else-is_byte-clause-slots c = rw (sym c.is_byte.ensures ∙ c.if-is_byte.false) (rw (c.others.ensures, c.right_shift.ensures) at c.put_shifts.ensures.slots)
