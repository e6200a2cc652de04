use Rattle.rv_emit.proofs.{CallSlots.call_ind_is, CallsPut.call_begins, CallsPut.loading_put, Terms.ap, Terms.arith, Terms.rules, Terms.on_ok_weaker, Terms.count_by, Terms.is_stacked, Terms.call_ind_pieces, Terms.call_given, Terms.context_by, Terms.[]}
use Rattle.rv_emit.proofs.calls.put_loading_call_ind.Goals as goal

pub put_results-requires : goal.put_results-requires
put_results-requires c =
    let b = call_begins _ _ (call_ind_is (context_by c.args.flags c.args.frame.now []) (call_given c.args.stack_map.now c.args.info.now)) c.requires.calm c.in_ok-begin_call_ind.ensures.slots in
    let few = c.requires.few in
    let room = c.requires.room in
    let same = ap (count_by is_stacked) c.as_slice.ensures in
    record { results = search rules; fine = search rules; reach = b.reach; few = omega arith; room = omega arith; sound = b.sound }

pub returns-clause-parts : goal.returns-clause-parts
returns-clause-parts c =
    on_ok_weaker c.put_results.result (loading_put (call_ind_pieces c.args.frame.now (call_given c.args.stack_map.now c.args.info.now)) _ _ _ _ _ c.in_ok-begin_call_ind.ensures.slots) (rw c.as_slice.ensures at c.put_results.ensures.parts)
