use Rattle.rv_sequences.proofs.{AddressCode.{lower_alone_put, both_immediates_put}, Terms.{ap, cast_unsigned, w32, on_ok_weaker, number_of, real_number}}
use Rattle.rv_sequences.proofs.numbers.put_made_number.Goals as goal

pub returns-then-upper-eq0-clause-slots : goal.returns-then-upper-eq0-clause-slots
returns-then-upper-eq0-clause-slots c =
    on_ok_weaker c.put_rri.result (λ p. lower_alone_put (number_of c.args.rd.reg) _ _ _ _ c.args.upper.low c.args.upper.high c.args.lower.low c.args.lower.high c.if-upper-eq0.true (rw (real_number _ _ _ c.zero_reg.ensures) at p)) c.put_rri.ensures.slots

pub returns-clause-slots : goal.returns-clause-slots
returns-clause-slots c =
    on_ok_weaker c.put_immediates.result (λ p. both_immediates_put _ _ _ _ _ c.args.upper.low c.args.upper.high c.args.lower.low c.args.lower.high (λ e. c.if-upper-eq0.false (ap (cast_unsigned w32) e)) p) c.put_immediates.ensures.slots
