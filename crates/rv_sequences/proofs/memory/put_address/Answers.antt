use Rattle.rv_sequences.proofs.Terms.{rules, OnOk, FitsSigned, sym, subst, w64, to_z-of_z, on_ok_weaker, number_of, PutsAlone, location_at, address_slots}
use Rattle.rv_sequences.proofs.memory.put_address.Goals as goal

pub returns-in-Based-clause-slots : goal.returns-in-Based-clause-slots
returns-in-Based-clause-slots c = let f : FitsSigned w64 c.in-Based.offset = search rules in rw c.in-Based.is (rw (to_z-of_z w64 c.in-Based.offset f) at c.put_based_address.ensures.slots)

pub returns-in-AtLabel-clause-slots : goal.returns-in-AtLabel-clause-slots
returns-in-AtLabel-clause-slots c =
    subst (λ place. OnOk c.put_label_address.result (PutsAlone c.args.flags (address_slots c.args.flags (number_of c.args.rd.reg) (location_at place)) c.args.sink.now c.put_label_address.new.sink)) (sym c.in-AtLabel.is) (on_ok_weaker c.put_label_address.result (λ p. p c.args.flags) c.put_label_address.ensures.slots)
