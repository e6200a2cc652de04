use Rattle.rv_sequences.proofs.Terms.{ap, arith, cast_signed, low_word, own_word, pos, real_number, refl, small_signed, sym, w64, ◌*◌, ◌∙◌, ◌≡◌}
use Rattle.rv_sequences.proofs.probes.probe_code.Goals as goal

pub returns-clause-pieces : goal.returns-clause-pieces
returns-clause-pieces c =
    let guard_own = own_word _ c.ranges.guard_size.fits in
    let count_own = own_word _ c.ranges.probe_count.fits in
    let far : cast_signed w64 c.farthest_probe.result ≡ cast_signed w64 (low_word c.args.guard_size * low_word c.args.probe_count) = ap (cast_signed w64) (c.farthest_probe.ensures ∙ (λ i. sym guard_own i * sym count_own i)) in
    let near : cast_signed w64 c.from.result ≡ pos (low_word c.args.guard_size) = ap (cast_signed w64) (c.from.ensures ∙ sym guard_own) ∙ small_signed _ (omega arith) in
    rw (c.number.ensures.is, c.number-2.ensures.is, c.bind.ensures.is, c.branch-is_near.ensures.is, c.rrr.ensures.is, c.store.ensures.is, c.rrr-2.ensures.is, c.jump.ensures.is, c.bind-2.ensures.is)
    (rw (far, near, c.is_near.ensures.kind, c.is_near.ensures.size, c.is_near.ensures.left)
    (rw (real_number _ _ _ c.writable_spilltmp_reg-left.ensures, real_number _ _ _ c.writable_spilltmp_reg2-address.ensures, real_number _ _ _ c.stack_reg.ensures)
    (rw (real_number _ _ _ c.spilltmp_reg.ensures, real_number _ _ _ c.spilltmp_reg2.ensures, real_number _ _ _ c.zero_reg.ensures, real_number _ _ _ c.spilltmp_reg-2.ensures) refl)))
