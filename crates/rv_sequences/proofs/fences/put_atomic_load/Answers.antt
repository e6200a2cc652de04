use Rattle.rv_sequences.proofs.fences.put_atomic_load.Goals as goal

pub returns-clause-slots : goal.returns-clause-slots
returns-clause-slots c = rw c.atomic_load_code.ensures.pieces at c.put_code.ensures.slots
