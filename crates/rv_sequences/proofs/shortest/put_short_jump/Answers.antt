use Rattle.rv_sequences.proofs.{OwnForms.{other_own, jump_other}, Terms.on_ok_weaker}
use Rattle.rv_sequences.proofs.shortest.put_short_jump.Goals as goal

pub returns-clause-slots : goal.returns-clause-slots
returns-clause-slots c = on_ok_weaker c.put_encoded.result (λ puts. puts c.args.flags _ c.encoded_jump.ensures (other_own _ _ (jump_other c.args.flags _))) c.put_encoded.ensures.slot
