use Rattle.rv_sequences.proofs.atomics.put_choice.Goals as goal

pub returns-clause-slots : goal.returns-clause-slots
returns-clause-slots c = rw c.choice_code.ensures.pieces at c.put_code.ensures.slots
