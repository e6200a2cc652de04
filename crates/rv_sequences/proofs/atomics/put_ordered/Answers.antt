use Rattle.std.proofs.Common.{refl}
use Rattle.rv_sequences.proofs.Terms.{on_ok_weaker}
use Rattle.rv_sequences.proofs.atomics.put_ordered.Goals as goal

pub returns-clause-slots : goal.returns-clause-slots
returns-clause-slots c = on_ok_weaker c.put_word.result (λ put. put c.args.flags _ refl (c.encode_atomic.ensures.decodes c.args.flags)) c.put_word.ensures.slot
