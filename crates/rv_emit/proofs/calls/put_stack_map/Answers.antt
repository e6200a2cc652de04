use Rattle.rv_emit.proofs.{TableCode.note_put, Terms.◌∙◌, Terms.shape_of, Terms.with_record, Terms.StackMap, Terms.none_put}
use Rattle.rv_emit.proofs.calls.put_stack_map.Goals as goal

pub returns-in_ok-push_user_stack_map-in-Some-clause-slots : goal.returns-in_ok-push_user_stack_map-in-Some-clause-slots
returns-in_ok-push_user_stack_map-in-Some-clause-slots c =
    λ flags. rw c.in-Some.is (note_put _ _ _ _ tt (c.in_ok-push_user_stack_map-in-Some.ensures.recorded.2 ∙ (λ i. with_record (StackMap (c.sp_to_fp.ensures i) c.in-Some.map) (shape_of c.args.sink.now))) c.in_ok-push_user_stack_map-in-Some.ensures.sound)

pub returns-in-None-clause-slots : goal.returns-in-None-clause-slots
returns-in-None-clause-slots c = λ flags. rw c.in-None.is (none_put _ _ c.requires.sound)
