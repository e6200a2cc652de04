use Rattle.rv_sequences.proofs.{LoopCode.{doubleword_swapped, field_swapped, narrow, word_swapped}, Terms.{[], ◌∷◌, ◌∙◌, sym, OnOk, bits_of, number_of, slots_of, subst}}
use Rattle.rv_code.specs.AtomicLoops.{loop_load}
use Rattle.rv_code.specs.Pieces.{Bind, New}
use Rattle.rv_sequences.specs.Parts.{PutsAlone}
use Rattle.rv_sequences.proofs.atomics.put_swap.Goals as goal

pub returns-then-bits-eq64-clause-slots : goal.returns-then-bits-eq64-clause-slots
returns-then-bits-eq64-clause-slots c = subst (λ ps. OnOk c.put_code.result (PutsAlone c.args.flags (slots_of c.args.flags ps) c.args.sink.now c.put_code.new.sink)) (c.doubleword_code.ensures.pieces ∙ doubleword_swapped (New ∷ New ∷ Bind 0 ∷ loop_load (bits_of c.args.l.ty) (number_of c.args.l.dst.reg) (number_of c.args.l.address) ∷ []) (number_of c.args.expected) (bits_of c.args.l.ty) (number_of c.args.l.dst.reg) (number_of c.args.l.offset) (number_of c.args.l.address) (number_of c.args.l.operand) (number_of c.args.l.t0.reg) (sym c.field_bits-bits.ensures.value ∙ c.if-bits-eq64.true)) c.put_code.ensures.slots

pub returns-then-bits-eq32-clause-slots : goal.returns-then-bits-eq32-clause-slots
returns-then-bits-eq32-clause-slots c = subst (λ ps. OnOk c.put_code-then-bits-eq32.result (PutsAlone c.args.flags (slots_of c.args.flags ps) c.args.sink.now c.put_code-then-bits-eq32.new.sink)) (c.word_code.ensures.pieces ∙ word_swapped (New ∷ New ∷ Bind 0 ∷ loop_load (bits_of c.args.l.ty) (number_of c.args.l.dst.reg) (number_of c.args.l.address) ∷ []) (number_of c.args.expected) (bits_of c.args.l.ty) (number_of c.args.l.dst.reg) (number_of c.args.l.offset) (number_of c.args.l.address) (number_of c.args.l.operand) (number_of c.args.l.t0.reg) (sym c.field_bits-bits.ensures.value ∙ c.if-bits-eq32.true)) c.put_code-then-bits-eq32.ensures.slots

pub returns-clause-slots : goal.returns-clause-slots
returns-clause-slots c = subst (λ ps. OnOk c.put_code-2.result (PutsAlone c.args.flags (slots_of c.args.flags ps) c.args.sink.now c.put_code-2.new.sink)) (c.swap_code.ensures.pieces ∙ field_swapped (New ∷ New ∷ Bind 0 ∷ loop_load (bits_of c.args.l.ty) (number_of c.args.l.dst.reg) (number_of c.args.l.address) ∷ []) (number_of c.args.expected) (bits_of c.args.l.ty) (number_of c.args.l.dst.reg) (number_of c.args.l.offset) (number_of c.args.l.address) (number_of c.args.l.operand) (number_of c.args.l.t0.reg) (narrow c.args.l.ty c.requires.ty (λ e. c.if-bits-eq64.false (c.field_bits-bits.ensures.value ∙ e)) (λ e. c.if-bits-eq32.false (c.field_bits-bits.ensures.value ∙ e)))) c.put_code-2.ensures.slots
