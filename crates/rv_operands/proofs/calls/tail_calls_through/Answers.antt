use Rattle.rv_operands.proofs.Requests.{stops_at, goes_on}
use Rattle.rv_operands.proofs.calls.tail_calls_through.Goals as goal

pub returns-in_err-reads_in-clause-handed : goal.returns-in_err-reads_in-clause-handed
returns-in_err-reads_in-clause-handed g c = stops_at _ c.from_residual.ensures.0 (rw c.fifth-fixed.ensures at c.in_err-reads_in.ensures.handed)

pub returns-clause-handed : goal.returns-clause-handed
returns-clause-handed g c = goes_on (rw c.fifth-fixed.ensures at c.in_ok-reads_in.ensures.handed) c.hand_all.ensures.handed
