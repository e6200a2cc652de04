use Rattle.rv_sequences.proofs.{LoopCode.{field_nand, is_wide_below, is_wide_from, whole_nand}, Terms.{[], ◌∷◌, ◌∙◌, sym, OnOk, bits_of, number_of, slots_of, subst}}
use Rattle.rv_code.specs.AtomicLoops.{loop_load}
use Rattle.rv_code.specs.Pieces.{Bind, New}
use Rattle.rv_sequences.specs.Parts.{PutsAlone}
use Rattle.rv_sequences.proofs.atomics.put_nand.Goals as goal

pub returns-then-bits-ge32-clause-slots : goal.returns-then-bits-ge32-clause-slots
returns-then-bits-ge32-clause-slots c = subst (λ ps. OnOk c.put_code.result (PutsAlone c.args.flags (slots_of c.args.flags ps) c.args.sink.now c.put_code.new.sink)) (c.whole_nand_code.ensures.pieces ∙ whole_nand (New ∷ Bind 0 ∷ loop_load (bits_of c.args.l.ty) (number_of c.args.l.dst.reg) (number_of c.args.l.address) ∷ []) (bits_of c.args.l.ty) (number_of c.args.l.dst.reg) (number_of c.args.l.offset) (number_of c.args.l.address) (number_of c.args.l.operand) (number_of c.args.l.t0.reg) (is_wide_from _ _ c.bits.ensures c.if-bits-ge32.true)) c.put_code.ensures.slots

pub returns-else-bits-ge32-clause-slots : goal.returns-else-bits-ge32-clause-slots
returns-else-bits-ge32-clause-slots c = subst (λ ps. OnOk c.put_code-else-bits-ge32.result (PutsAlone c.args.flags (slots_of c.args.flags ps) c.args.sink.now c.put_code-else-bits-ge32.new.sink)) (c.nand_code.ensures.pieces ∙ field_nand (New ∷ Bind 0 ∷ loop_load (bits_of c.args.l.ty) (number_of c.args.l.dst.reg) (number_of c.args.l.address) ∷ []) (bits_of c.args.l.ty) (number_of c.args.l.dst.reg) (number_of c.args.l.offset) (number_of c.args.l.address) (number_of c.args.l.operand) (number_of c.args.l.t0.reg) (is_wide_below _ _ c.bits.ensures c.if-bits-ge32.false)) c.put_code-else-bits-ge32.ensures.slots
