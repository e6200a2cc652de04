use Rattle.rv_sequences.{proofs.AddressCode.piece_put, proofs.Terms.{rules, OnOk, FitsSigned, sym, subst, w64, to_z-of_z, on_ok_weaker, number_of, PutsAlone, location_at, load_slots}}
use Rattle.rv_sequences.proofs.memory.put_load.Goals as goal

pub returns-in-Based-clause-slots : goal.returns-in-Based-clause-slots
returns-in-Based-clause-slots c = let f : FitsSigned w64 c.in-Based.offset = search rules in rw c.in-Based.is (rw (to_z-of_z w64 c.in-Based.offset f) at c.put_based_load.ensures.slots)

pub returns-in-AtLabel-clause-slots : goal.returns-in-AtLabel-clause-slots
returns-in-AtLabel-clause-slots c =
    subst (λ place. OnOk c.put_label_load.result (PutsAlone c.args.flags (load_slots c.args.flags (number_of c.args.rd.reg) c.args.op c.args.trap (location_at place)) c.args.sink.now c.put_label_load.new.sink)) (sym c.in-AtLabel.is)
    (on_ok_weaker c.put_label_load.result (λ p. piece_put _ _ _ (rw c.label_base.ensures.number at (p c.args.flags c.requires.has))) c.put_label_load.ensures.slots)
