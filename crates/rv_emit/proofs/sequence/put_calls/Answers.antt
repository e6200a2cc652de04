use Rattle.rv_emit.proofs.{StackMaps.space_given, CallSlots.call_is, CallSlots.call_ind_is, CallSlots.call_emits, Terms.ap, Terms.◌∙◌, Terms.on_ok_weaker, Terms.context_by, Terms.call_usable, Terms.kept, Terms.listed_try, Terms.with_map}
use Rattle.rv_emit.proofs.sequence.put_calls.Goals as goal

pub returns-in-Call-clause-parts : goal.returns-in-Call-clause-parts
returns-in-Call-clause-parts c =
    λ family constants asks. on_ok_weaker c.put_call.result (call_emits _ _ _ (call_is (context_by c.args.flags c.args.frame.now constants) _) (ap (with_map c.args.stack_map.now) c.in-Call.is)
    (space_given c.args.stack_map.now (context_by c.args.flags c.args.frame.now constants) c.args.inst.now ∙ asks)) (rw c.as_ref.ensures at c.put_call.ensures.slots)

pub returns-in-CallInd-clause-parts : goal.returns-in-CallInd-clause-parts
returns-in-CallInd-clause-parts c =
    λ family constants asks. on_ok_weaker c.put_call_ind.result (call_emits _ _ _ (call_ind_is (context_by c.args.flags c.args.frame.now constants) _) (ap (with_map c.args.stack_map.now) c.in-CallInd.is)
    (space_given c.args.stack_map.now (context_by c.args.flags c.args.frame.now constants) c.args.inst.now ∙ asks)) (rw c.as_ref-in-CallInd.ensures at c.put_call_ind.ensures.slots)

pub put_call-requires-clause-fine : goal.put_call-requires-clause-fine
put_call-requires-clause-fine c = rw c.as_ref.ensures (listed_try c.in-Call.info.try_call_info (kept c.in-Call.is c.requires.rule).listed_try)

pub put_call_ind-requires-clause-fine : goal.put_call_ind-requires-clause-fine
put_call_ind-requires-clause-fine c = rw c.as_ref-in-CallInd.ensures (listed_try c.in-CallInd.info.try_call_info (kept c.in-CallInd.is c.requires.rule).listed_try)

pub put_call_ind-requires-clause-dest : goal.put_call_ind-requires-clause-dest
put_call_ind-requires-clause-dest c = rw c.as_ref-in-CallInd.ensures (call_usable _ (kept c.in-CallInd.is c.requires.rule)).0
