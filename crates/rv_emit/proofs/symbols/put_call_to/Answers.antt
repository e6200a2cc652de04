use Rattle.rv_emit.proofs.{TableCode.call_put, TableCode.pair_patchable, Terms.arith}
use Rattle.rv_emit.proofs.symbols.put_call_to.Goals as goal

pub returns-clause-slots : goal.returns-clause-slots
returns-clause-slots c =
    λ flags. call_put _ _ _ _ c.add_reloc.new.self c.put4.new.self _ _ _ (pair_patchable _ _ _ _ _ (omega arith) (omega arith) c.enc_auipc.ensures.layout c.far_word.ensures) c.in_ok-add_reloc.ensures.recorded.2 (omega arith) c.in_ok-put4.ensures.put.2
    (omega arith) c.in_ok-put4-2.ensures.put.2 c.in_ok-put4-2.ensures.sound
