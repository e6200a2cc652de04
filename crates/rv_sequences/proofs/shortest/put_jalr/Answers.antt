use Rattle.rv_sequences.proofs.{OwnForms.{other_own, jalr_other}, Terms.{on_ok_weaker, number_of}}
use Rattle.rv_sequences.proofs.shortest.put_jalr.Goals as goal

pub returns-clause-slots : goal.returns-clause-slots
returns-clause-slots c = on_ok_weaker c.put_encoded.result (λ puts. puts c.args.flags _ c.encoded_jalr.ensures (other_own _ _ (jalr_other c.args.flags (number_of c.args.rd.reg) (number_of c.args.base) c.args.offset.value))) c.put_encoded.ensures.slot
