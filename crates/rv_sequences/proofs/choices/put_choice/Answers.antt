use Rattle.rv_sequences.proofs.choices.put_choice.Goals as goal

pub returns-in-One-One-One-clause-slots : goal.returns-in-One-One-One-clause-slots
returns-in-One-One-One-clause-slots c =
    rw (c.in-One-One-One.is-0, c.in-One-One-One.is-1, c.in-One-One-One.is-2)
    (rw c.choice_of_one.ensures.pieces at c.put_code.ensures.slots)

pub returns-in-Two-Two-Two-clause-slots : goal.returns-in-Two-Two-Two-clause-slots
returns-in-Two-Two-Two-clause-slots c =
    rw (c.in-Two-Two-Two.is-0, c.in-Two-Two-Two.is-1, c.in-Two-Two-Two.is-2)
    (rw c.choice_of_two.ensures.pieces at c.put_code-in-Two-Two-Two.ensures.slots)
