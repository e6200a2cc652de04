use Rattle.rv_sequences.proofs.{OwnForms.{other_own, store_other}, Terms.on_ok_weaker}
use Rattle.rv_sequences.proofs.shortest.put_store_word.Goals as goal

pub returns-clause-slots : goal.returns-clause-slots
returns-clause-slots c = on_ok_weaker c.put_encoded.result (λ puts. puts c.args.flags _ c.encoded_store.ensures (other_own _ _ (store_other c.args.flags c.args.op _ _ _))) c.put_encoded.ensures.slot
