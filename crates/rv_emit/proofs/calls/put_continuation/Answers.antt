use Rattle.rv_emit.proofs.Terms.{OnOk, sym, subst, on_ok_weaker, PutsAlone, try_slots, alone, none_put}
use Rattle.rv_emit.proofs.calls.put_continuation.Goals as goal

pub returns-in-Some-clause-slots : goal.returns-in-Some-clause-slots
returns-in-Some-clause-slots c = subst (λ t. OnOk c.put_jump.result (PutsAlone c.args.flags (try_slots c.args.flags t) c.args.sink.now c.put_jump.new.sink)) (sym c.in-Some.is) (on_ok_weaker c.put_jump.result alone c.put_jump.ensures.slot)

pub returns-in-None-clause-slots : goal.returns-in-None-clause-slots
returns-in-None-clause-slots c = rw c.in-None.is (none_put _ _ c.requires.sound)
