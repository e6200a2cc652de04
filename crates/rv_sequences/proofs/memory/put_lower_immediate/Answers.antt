use Rattle.rv_sequences.proofs.{AddressCode.{bits_zero, lower_zero_put, lower_put}, Terms.{ap, cast_unsigned, w16, on_ok_weaker, number_of}}
use Rattle.rv_sequences.proofs.memory.put_lower_immediate.Goals as goal

pub returns-then-lower-eq0-clause-slots : goal.returns-then-lower-eq0-clause-slots
returns-then-lower-eq0-clause-slots c = lower_zero_put _ (number_of c.args.rd.reg) _ _ (bits_zero _ c.args.lower.low c.if-lower-eq0.true) c.requires.sound

pub returns-clause-slots : goal.returns-clause-slots
returns-clause-slots c = on_ok_weaker c.put_rri.result (λ p. lower_put (number_of c.args.rd.reg) _ _ _ c.args.lower.low c.args.lower.high (λ e. c.if-lower-eq0.false (ap (cast_unsigned w16) e)) p) c.put_rri.ensures.slots
