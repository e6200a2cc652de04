use Rattle.rv_sequences.proofs.{SlotsPut.{constant_word, constant_double}, Terms.{sym, ◌∙◌, on_ok_weaker}}
use Rattle.rv_sequences.proofs.expansions.put_constant.Goals as goal

pub returns-then-bits-eq32-clause-slots : goal.returns-then-bits-eq32-clause-slots
returns-then-bits-eq32-clause-slots c = on_ok_weaker c.put_word_constant.result (λ p. constant_word _ _ _ _ _ (sym c.bits.ensures ∙ c.if-bits-eq32.true) p) c.put_word_constant.ensures.slots

pub returns-else-bits-eq32-clause-slots : goal.returns-else-bits-eq32-clause-slots
returns-else-bits-eq32-clause-slots c = on_ok_weaker c.put_double_constant.result (λ p. constant_double _ _ _ _ _ (λ e. c.if-bits-eq32.false (c.bits.ensures ∙ e)) p) c.put_double_constant.ensures.slots
