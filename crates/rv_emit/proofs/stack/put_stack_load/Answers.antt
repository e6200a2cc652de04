use Rattle.rv_emit.proofs.Terms.{sym, ◌∙◌, w64, to_z-of_z, on_ok_weaker, real_number}
use Rattle.rv_emit.proofs.stack.put_stack_load.Goals as goal

pub returns-then-has_load-clause-slots : goal.returns-then-has_load-clause-slots
returns-then-has_load-clause-slots c =
    on_ok_weaker c.put_based_load.result (λ p. rw (sym c.has_load.ensures ∙ c.if-has_load.true) (rw (real_number _ _ _ c.stack_reg.ensures) at p))
    (rw (to_z-of_z w64 c.args.offset c.ranges.offset) at c.put_based_load.ensures.slots)

pub returns-else-has_load-clause-slots : goal.returns-else-has_load-clause-slots
returns-else-has_load-clause-slots c =
    on_ok_weaker c.put_half_load.result (λ p. rw (sym c.has_load.ensures ∙ c.if-has_load.false) (rw (real_number _ _ _ c.stack_reg-else-has_load.ensures) at p))
    (rw (to_z-of_z w64 c.args.offset c.ranges.offset) at c.put_half_load.ensures.slots)
