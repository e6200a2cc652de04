use Rattle.rv_emit.proofs.{TailCallCode.some_step, Terms.true, Terms.false, Terms.ap, Terms.sym, Terms.is_near, Terms.◌∙◌, Terms.w64, Terms.to_z-of_z, Terms.on_ok_weaker, Terms.real_number, Terms.near, Terms.far}
use Rattle.rv_emit.proofs.stack.put_some_step.Goals as goal

pub returns-in-Some-clause-slots : goal.returns-in-Some-clause-slots
returns-in-Some-clause-slots c =
    let n = c.in-Some.imm12 in
    let is = c.in-Some.ensures ∙ to_z-of_z w64 c.args.size c.ranges.size in
    on_ok_weaker c.put_rri.result (λ p. some_step _ _ true _ _ c.ranges.size c.requires.some (ap is_near (sym is) ∙ near _ n.low n.high) (rw (real_number _ _ _ c.writable_stack_reg.ensures, real_number _ _ _ c.stack_reg.ensures, is) at p)) c.put_rri.ensures.slots

pub returns-in-None-clause-slots : goal.returns-in-None-clause-slots
returns-in-None-clause-slots c =
    on_ok_weaker c.put_far_step.result (some_step _ _ false _ _ c.ranges.size c.requires.some (far _ (rw (to_z-of_z w64 c.args.size c.ranges.size) at c.in-None.ensures))) (rw (to_z-of_z w64 c.args.size c.ranges.size) at c.put_far_step.ensures.slots)
