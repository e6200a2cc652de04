use Rattle.rv_emit.proofs.{TableCode.note_put, Terms.Some, Terms.◌∙◌, Terms.shape_of, Terms.with_record, Terms.TryCallSite}
use Rattle.rv_emit.proofs.calls.put_site.Goals as goal

pub returns-in_ok-add_try_call_site-in-Some-clause-slots : goal.returns-in_ok-add_try_call_site-in-Some-clause-slots
returns-in_ok-add_try_call_site-in-Some-clause-slots c =
    let recorded = c.in_ok-add_try_call_site-in-Some.ensures.recorded.2 ∙ (λ i. with_record (TryCallSite (Some (c.sp_to_fp.ensures i)) (c.as_slice.ensures i)) (shape_of c.args.sink.now)) in
    λ flags. rw c.in-Some.is (note_put _ _ _ _ tt recorded c.in_ok-add_try_call_site-in-Some.ensures.sound)

pub returns-in-None-clause-slots : goal.returns-in-None-clause-slots
returns-in-None-clause-slots c = rw c.in-None.is c.put_call_site.ensures.slots
