use Rattle.{rv_emit.proofs.TailCallCode.{no_setup, setup_put, real_any}, rv_emit.proofs.Terms.{◌+◌, pos, arith, number_of, real_number, none_put, alone_long, eight_short}}
use Rattle.rv_emit.proofs.stack.put_setup.Goals as goal

pub returns-then-frame-eq0-clause-slots : goal.returns-then-frame-eq0-clause-slots
returns-then-frame-eq0-clause-slots c = no_setup _ c.args.frame.now _ _ c.if-frame-eq0.true (none_put _ _ c.requires.sound)

pub put_above-requires-2-clause-rd : goal.put_above-requires-2-clause-rd
put_above-requires-2-clause-rd c = real_any _ _ c.writable_fp_reg.ensures

pub put_above-requires-2-clause-room : goal.put_above-requires-2-clause-room
put_above-requires-2-clause-room c = omega (arith, alone_long _ _ _ c.in_ok-put_above.ensures.slots, eight_short c.args.flags (number_of c.writable_link_reg.result.reg) (pos (c.sp_to_fp-below.result + 8)), c.requires.room)

pub returns-clause-slots : goal.returns-clause-slots
returns-clause-slots c =
    setup_put _ c.args.frame.now _ _ _ c.if-frame-eq0.false (rw (real_number _ _ _ c.writable_link_reg.ensures, c.sp_to_fp-below.ensures) at c.in_ok-put_above.ensures.slots)
    (rw (real_number _ _ _ c.writable_fp_reg.ensures, c.sp_to_fp-below.ensures) at c.in_ok-put_above-2.ensures.slots)
