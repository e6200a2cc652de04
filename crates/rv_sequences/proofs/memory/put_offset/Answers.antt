use Rattle.rv_sequences.proofs.{AddressCode.{immediates_put, constant_put}, Terms.{◌∙◌, on_ok_weaker, cast_signed, cast_unsigned, w64, to_z-of_z}}
use Rattle.rv_sequences.proofs.memory.put_offset.Goals as goal

pub returns-in-Some-clause-slots : goal.returns-in-Some-clause-slots
returns-in-Some-clause-slots c =
    let u = c.in-Some.upper in
    let l = c.in-Some.lower in
    let same = to_z-of_z w64 c.args.offset c.ranges.offset in
    let e = c.in-Some.ensures ∙ (λ i. cast_signed w64 (c.cast_unsigned.ensures i)) ∙ (λ i. cast_signed w64 (cast_unsigned w64 (same i))) ∙ same in
    on_ok_weaker c.put_immediates.result (λ p. immediates_put _ _ _ _ _ _ u.low u.high l.low l.high e p) c.put_immediates.ensures.slots

pub returns-in-None-clause-slots : goal.returns-in-None-clause-slots
returns-in-None-clause-slots c =
    let same = to_z-of_z w64 c.args.offset c.ranges.offset in
    let e = (λ i. cast_signed w64 (c.cast_unsigned.ensures i)) ∙ (λ i. cast_signed w64 (cast_unsigned w64 (same i))) ∙ same in
    on_ok_weaker c.put_double_constant.result (λ p. constant_put _ _ _ _ (rw e at c.in-None.ensures) (rw (c.cast_unsigned-in-None.ensures, same) at p)) c.put_double_constant.ensures.slots
