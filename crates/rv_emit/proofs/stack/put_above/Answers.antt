use Rattle.rv_emit.proofs.Terms.{FitsSigned, rules, w64, to_z-of_z, on_ok_weaker}
use Rattle.rv_emit.proofs.stack.put_above.Goals as goal

pub returns-clause-slots : goal.returns-clause-slots
returns-clause-slots c =
    let f : FitsSigned w64 c.from.result = search rules in
    on_ok_weaker c.put_stack_load.result (λ p. rw c.from.ensures at p) (rw (to_z-of_z w64 c.from.result f) at c.put_stack_load.ensures.slots)
