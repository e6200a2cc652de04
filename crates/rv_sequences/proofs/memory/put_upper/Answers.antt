use Rattle.rv_sequences.proofs.{AddressCode.aim_put, Encoded.upper_patchable, Terms.arith}
use Rattle.rv_sequences.proofs.memory.put_upper.Goals as goal

pub returns-clause-slots : goal.returns-clause-slots
returns-clause-slots c =
    λ flags. aim_put _ _ _ _ _ _ _ (upper_patchable _ _ _ (omega arith) c.enc_auipc.ensures.layout) c.in_ok-put_use.ensures.added c.in_ok-put_use.ensures.sound
