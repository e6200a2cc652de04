use Rattle.rv_sequences.proofs.{AddressCode.{constant_put, unsplit_put}, Terms.{sym, w64, of_z-to_z, on_ok_weaker}}
use Rattle.rv_sequences.proofs.numbers.put_number.Goals as goal

pub returns-in-Some-clause-slots : goal.returns-in-Some-clause-slots
returns-in-Some-clause-slots c = on_ok_weaker c.put_made_number.result (λ p. rw c.in-Some.ensures at p) c.put_made_number.ensures.slots

pub returns-in-None-clause-slots : goal.returns-in-None-clause-slots
returns-in-None-clause-slots c =
    on_ok_weaker c.put_double_constant.result (λ p. unsplit_put _ _ _ _ c.in-None.ensures (constant_put _ _ _ _ c.in-None.ensures (rw (sym (of_z-to_z w64 c.args.value c.ranges.value.fits)) at p))) c.put_double_constant.ensures.slots
