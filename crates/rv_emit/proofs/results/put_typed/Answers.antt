use Rattle.rv_emit.proofs.{CallsPut.typed_is, CallsPut.typed_put, Terms.FitsSigned, Terms.rules, Terms.◌∙◌, Terms.w64, Terms.to_z-of_z, Terms.on_ok_weaker}
use Rattle.rv_emit.proofs.results.put_typed.Goals as goal

pub returns-clause-slots : goal.returns-clause-slots
returns-clause-slots c =
    let f : FitsSigned w64 c.from.result = search rules in
    on_ok_weaker c.put_stack_load.result (λ p. typed_put _ _ _ _ _ _ (typed_is _ ∙ c.from_type.ensures) (rw c.from.ensures at p))
    (rw (to_z-of_z w64 c.from.result f) at c.put_stack_load.ensures.slots)
