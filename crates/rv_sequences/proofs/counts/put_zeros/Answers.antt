use Rattle.rv_sequences.proofs.Terms.{ap, sym, ◌∙◌, bits_of, number_of, zeros_pieces}
use Rattle.rv_sequences.proofs.counts.put_zeros.Goals as goal

pub returns-then-leading-clause-slots : goal.returns-then-leading-clause-slots
returns-then-leading-clause-slots c = rw (c.leading_zeros_code.ensures.pieces ∙ ap (λ l. zeros_pieces l (number_of c.args.sum.reg) (number_of c.args.tmp.reg) (number_of c.args.step.reg) (number_of c.args.rs) (bits_of c.args.ty)) (sym c.if-leading.true)) at c.put_code.ensures.slots

pub returns-else-leading-clause-slots : goal.returns-else-leading-clause-slots
returns-else-leading-clause-slots c = rw (c.trailing_zeros_code.ensures.pieces ∙ ap (λ l. zeros_pieces l (number_of c.args.sum.reg) (number_of c.args.tmp.reg) (number_of c.args.step.reg) (number_of c.args.rs) (bits_of c.args.ty)) (sym c.if-leading.false)) at c.put_code-else-leading.ensures.slots
