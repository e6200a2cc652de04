use Rattle.rv_sequences.proofs.{AddressCode.{near_put, far_put}, Terms.{[], ◌∷◌, ◌∙◌, to_z-of_z, w64, on_ok_weaker, number_of, Addi, Do, Rri}}
use Rattle.rv_sequences.proofs.memory.put_based_address.Goals as goal

pub returns-in-Some-clause-slots : goal.returns-in-Some-clause-slots
returns-in-Some-clause-slots c =
    let r = number_of c.args.base in
    let n = c.in-Some.offset in
    on_ok_weaker c.put_rri.result (λ p. near_put (λ x. Do (Rri Addi (number_of c.args.rd.reg) r x) ∷ []) _ _ _ _ _ (c.in-Some.ensures ∙ to_z-of_z w64 c.args.offset c.ranges.offset) n.low n.high p) c.put_rri.ensures.slots

pub returns-in-None-clause-slots : goal.returns-in-None-clause-slots
returns-in-None-clause-slots c =
    on_ok_weaker c.put_far_address.result (λ p. far_put _ _ _ _ _ (rw (to_z-of_z w64 c.args.offset c.ranges.offset) at c.in-None.ensures) p) (rw (to_z-of_z w64 c.args.offset c.ranges.offset) at c.put_far_address.ensures.slots)
