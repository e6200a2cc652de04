use Rattle.rv_sequences.proofs.{SlotsPut.{move_same, move_other}, Terms.{sym, ◌∙◌, on_ok_weaker}}
use Rattle.rv_sequences.proofs.moves.put_move.Goals as goal

pub returns-then-number_of-clause-slots : goal.returns-then-number_of-clause-slots
returns-then-number_of-clause-slots c = move_same _ _ _ _ _ _ c.requires.sound (sym c.number_of.ensures ∙ c.if-number_of.true ∙ c.number_of-2.ensures)

pub returns-clause-slots : goal.returns-clause-slots
returns-clause-slots c = on_ok_weaker c.put_other.result (λ p. move_other _ _ _ _ _ _ (λ e. c.if-number_of.false (c.number_of.ensures ∙ e ∙ sym c.number_of-2.ensures)) p) c.put_other.ensures.slots
