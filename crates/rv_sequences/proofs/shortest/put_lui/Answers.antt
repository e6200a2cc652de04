use Rattle.rv_sequences.proofs.{OwnForms.{other_own, lui_other}, Terms.{on_ok_weaker, number_of}}
use Rattle.rv_sequences.proofs.shortest.put_lui.Goals as goal

pub returns-clause-slots : goal.returns-clause-slots
returns-clause-slots c = on_ok_weaker c.put_encoded.result (λ puts. puts c.args.flags _ c.encoded_lui.ensures (other_own _ _ (lui_other c.args.flags (number_of c.args.rd.reg) c.args.imm.value))) c.put_encoded.ensures.slot
