use Rattle.rv_sequences.proofs.{PartsCode.{other_mask}, SlotsPut.both_alone, Terms.{real_number}}
use Rattle.rv_sequences.proofs.parts.put_mask.Goals as goal

pub returns-then-bits-eq8-clause-slots : goal.returns-then-bits-eq8-clause-slots
returns-then-bits-eq8-clause-slots c = rw c.if-bits-eq8.true (rw (real_number c.zero_reg.result _ 0 c.zero_reg.ensures, c.low_byte.ensures) at c.put_rri.ensures.slots)

pub returns-then-bits-eq64-clause-slots : goal.returns-then-bits-eq64-clause-slots
returns-then-bits-eq64-clause-slots c = rw c.if-bits-eq64.true (rw (real_number c.zero_reg-then-bits-eq64.result _ 0 c.zero_reg-then-bits-eq64.ensures, c.minus_one.ensures) at c.put_rri-then-bits-eq64.ensures.slots)

pub returns-clause-slots : goal.returns-clause-slots
returns-clause-slots c =
    other_mask _ _ _ _ c.if-bits-eq8.false c.if-bits-eq64.false
    (both_alone _ _ _ _ _ tt (rw (real_number c.zero_reg-2.result _ 0 c.zero_reg-2.ensures, c.minus_one-2.ensures) at c.in_ok-put_rri.ensures.slots) c.in_ok-put_extend.ensures.slots)
