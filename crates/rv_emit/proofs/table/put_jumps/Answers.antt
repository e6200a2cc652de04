use Rattle.rv_emit.proofs.Terms.{refl, number_of, bound_op, both_alone}
use Rattle.rv_emit.proofs.table.put_jumps.Goals as goal

pub returns-clause-slots : goal.returns-clause-slots
returns-clause-slots c =
    let flags = c.args.flags in
    let tmp2 = number_of c.args.tmp2.reg in
    both_alone _ _ _ _ _ tt (c.in_ok-put_word.ensures.slot flags (bound_op tmp2) refl (c.bound_word.ensures flags))
    (both_alone _ _ _ _ _ tt c.in_ok-put_far_jump.ensures.slots
    (both_alone _ _ _ _ _ tt c.in_ok-put_entry.ensures.slots c.in_ok-put_far_jumps.ensures.slots))
