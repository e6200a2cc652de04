use Rattle.rv_sequences.proofs.{OwnForms.rri_own, Terms.on_ok_weaker}
use Rattle.rv_sequences.proofs.shortest.put_rri.Goals as goal

pub returns-clause-slots : goal.returns-clause-slots
returns-clause-slots c = on_ok_weaker c.put_encoded.result (λ puts. puts c.args.flags _ c.encoded_rri.ensures.holds (rri_own c.args.flags _ _ _ _ _ c.encoded_rri.ensures.first)) c.put_encoded.ensures.slot
