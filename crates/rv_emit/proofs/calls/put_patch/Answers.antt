use Rattle.rv_emit.proofs.TableCode.{note_put}
use Rattle.rv_emit.proofs.calls.put_patch.Goals as goal

pub returns-clause-slots : goal.returns-clause-slots
returns-clause-slots c = λ flags. note_put _ _ _ _ tt c.in_ok-add_patchable_call_site.ensures.recorded.2 c.in_ok-add_patchable_call_site.ensures.sound
