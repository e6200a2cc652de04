use Rattle.rv_operands.proofs.Requests.{both_after, ends_within, only_one}
use Rattle.rv_operands.proofs.calls.passes.Goals as goal

pub returns-in_err-hand_all-clause-handed : goal.returns-in_err-hand_all-clause-handed
returns-in_err-hand_all-clause-handed g c = ends_within _ c.from_residual.ensures.0 c.in_err-hand_all.ensures.handed

pub returns-in_err-hand_all-2-clause-handed : goal.returns-in_err-hand_all-2-clause-handed
returns-in_err-hand_all-2-clause-handed g c = both_after c.in_ok-hand_all.ensures.handed (ends_within _ c.from_residual-in_err-hand_all-2.ensures.0 c.in_err-hand_all-2.ensures.handed)

pub returns-clause-handed : goal.returns-clause-handed
returns-clause-handed g c = both_after c.in_ok-hand_all.ensures.handed (both_after c.in_ok-hand_all-2.ensures.handed (only_one c.clobbers.ensures))
