use Rattle.rv_emit.proofs.{TableCode.pair_patchable, TableCode.far_put, Terms.arith, Terms.real_number}
use Rattle.rv_emit.proofs.table.put_far_jump.Goals as goal

pub returns-clause-slots : goal.returns-clause-slots
returns-clause-slots c =
    let far = rw (real_number _ _ _ c.writable_zero_reg.ensures) at c.far_word.ensures in
    far_put _ _ _ _ c.put_use.new.sink _ _ _ (pair_patchable _ _ _ _ _ (omega arith) (omega arith) c.enc_auipc.ensures.layout far) c.in_ok-put_use.ensures.added (omega arith) c.in_ok-put4.ensures.put.2 c.in_ok-put4.ensures.sound
