use Rattle.rv_emit.proofs.Terms.{sym, ap, ◌∙◌, to_z-of_z, w64, low64, none_put, ◌≡◌, ◌==◌, true}
use Rattle.rv_emit.proofs.stack.put_stack_step.Goals as goal

pub put_some_step-requires-clause-some : goal.put_some_step-requires-clause-some
put_some_step-requires-clause-some c = λ e. c.if-size-eq0.false (ap low64 (sym (to_z-of_z w64 c.args.size c.ranges.size) ∙ e))

pub returns-then-size-eq0-clause-slots : goal.returns-then-size-eq0-clause-slots
returns-then-size-eq0-clause-slots c = let e : (low64 c.args.size == 0) ≡ true = ap (λ n. n == 0) c.if-size-eq0.true in rw e (none_put _ _ c.requires.sound)

pub returns-clause-slots : goal.returns-clause-slots
returns-clause-slots c = rw (to_z-of_z w64 c.args.size c.ranges.size) at c.put_some_step.ensures.slots
