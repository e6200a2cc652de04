use Rattle.rv_sequences.proofs.probes.put_probe_loop.Goals as goal

pub returns-clause-slots : goal.returns-clause-slots
returns-clause-slots c = rw c.probe_code.ensures.pieces at c.put_code.ensures.slots
