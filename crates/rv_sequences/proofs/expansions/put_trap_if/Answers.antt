use Rattle.rv_sequences.proofs.expansions.put_trap_if.Goals as goal

pub returns-clause-slots : goal.returns-clause-slots
returns-clause-slots c = rw c.trap_if_code.ensures.pieces at c.put_code.ensures.slots
