use Rattle.rv_emit.proofs.Terms.{none_put}
use Rattle.rv_emit.proofs.results.put_result.Goals as goal

pub returns-in-Reg-clause-slots : goal.returns-in-Reg-clause-slots
returns-in-Reg-clause-slots c = rw c.in-Reg.is (none_put _ _ c.requires.sound)

pub returns-in-Stack-clause-slots : goal.returns-in-Stack-clause-slots
returns-in-Stack-clause-slots c = rw c.in-Stack.is c.put_typed.ensures.slots
