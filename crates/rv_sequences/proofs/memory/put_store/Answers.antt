use Rattle.rv_sequences.proofs.Terms.{rules, FitsSigned, w64, to_z-of_z}
use Rattle.rv_sequences.proofs.memory.put_store.Goals as goal

pub returns-in-Based-clause-slots : goal.returns-in-Based-clause-slots
returns-in-Based-clause-slots c = let f : FitsSigned w64 c.in-Based.offset = search rules in rw c.in-Based.is (rw (to_z-of_z w64 c.in-Based.offset f) at c.put_based_store.ensures.slots)

pub returns-in-AtLabel-clause-slots : goal.returns-in-AtLabel-clause-slots
returns-in-AtLabel-clause-slots c = rw c.in-AtLabel.is (rw c.in-AtLabel.is at c.put_far_store.ensures.slots)
