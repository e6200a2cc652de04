use Rattle.rv_sequences.proofs.{AddressCode.{near_put, far_put}, Terms.{[], ◌∷◌, ◌++◌, ◌∙◌, on_ok_weaker, w64, to_z-of_z, number_of, Do, Load, access_pieces}}
use Rattle.rv_sequences.proofs.memory.put_based_load.Goals as goal

pub returns-in-Some-clause-slots : goal.returns-in-Some-clause-slots
returns-in-Some-clause-slots c =
    let n = c.in-Some.offset in
    on_ok_weaker c.put_near_load.result (λ p. near_put (λ x. access_pieces c.args.trap ++ Do (Load c.args.op (number_of c.args.rd.reg) (number_of c.args.base) x) ∷ []) _ _ _ _ _
    (c.in-Some.ensures ∙ to_z-of_z w64 c.args.offset c.ranges.offset) n.low n.high p) c.put_near_load.ensures.slots

pub returns-in-None-clause-slots : goal.returns-in-None-clause-slots
returns-in-None-clause-slots c =
    on_ok_weaker c.put_far_load.result (λ p. far_put _ _ _ _ _ (rw (to_z-of_z w64 c.args.offset c.ranges.offset) at c.in-None.ensures) p) (rw (to_z-of_z w64 c.args.offset c.ranges.offset) at c.put_far_load.ensures.slots)
