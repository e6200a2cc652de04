use Rattle.rv_sequences.proofs.{OwnForms.{other_own, ebreak_other}, Terms.on_ok_weaker}
use Rattle.rv_sequences.proofs.shortest.put_ebreak.Goals as goal

pub returns-clause-slots : goal.returns-clause-slots
returns-clause-slots c = on_ok_weaker c.put_encoded.result (λ puts. puts c.args.flags _ c.encoded_ebreak.ensures (other_own _ _ (ebreak_other c.args.flags))) c.put_encoded.ensures.slot
