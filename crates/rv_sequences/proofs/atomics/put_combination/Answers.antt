use Rattle.rv_sequences.proofs.{LoopCode.field_changed, Terms.{◌≡◌, [], ◌∷◌, ◌++◌, ◌∙◌, ap, sym, Do, List, Piece, OnOk, bits_of, false, true, number_of, slots_of, subst}}
use Rattle.rv_base.specs.declared.condcodes.IntCC.TheVariants.{SignedGreaterThan, SignedLessThan, UnsignedGreaterThan, UnsignedLessThan}
use Rattle.rv_code.specs.AtomicLoops.{choose_pieces, combining, labels_for, loop_load}
use Rattle.rv_code.specs.Pieces.{Bind, New, Rrr}
use Rattle.rv_inst.specs.declared.atomic_loop.AtomicLoop.{AtomicLoop}
use Rattle.rv_ops.specs.declared.alu.AluOPRRR.TheVariants as alu
use Rattle.rv_ops.specs.declared.atomic.AtomicRmwOp.{AtomicRmwOp}
use Rattle.rv_sequences.specs.Parts.{PutsAlone}
use Rattle.rv_sequences.proofs.atomics.put_combination.Goals as goal

-- the loop of an operation
abbrev code_of : AtomicLoop → AtomicRmwOp → List Piece
code_of l op =
    labels_for op ++ Bind 0 ∷ loop_load (bits_of l.ty) (number_of l.dst.reg) (number_of l.address) ∷ combining op (bits_of l.ty) (number_of l.dst.reg) (number_of l.offset) (number_of l.address) (number_of l.operand) (number_of l.t0.reg)

pub returns-in-Add-clause-slots : goal.returns-in-Add-clause-slots
returns-in-Add-clause-slots c = subst (λ ps. OnOk c.put_code.result (PutsAlone c.args.flags (slots_of c.args.flags ps) c.args.sink.now c.put_code.new.sink)) (c.simple_code.ensures.pieces ∙ field_changed (New ∷ Bind 0 ∷ loop_load (bits_of c.args.l.ty) (number_of c.args.l.dst.reg) (number_of c.args.l.address) ∷ []) (Do (Rrr alu.Add (number_of c.args.l.t0.reg) (number_of c.args.l.dst.reg) (number_of c.args.l.operand)) ∷ []) false (bits_of c.args.l.ty) (number_of c.args.l.dst.reg) (number_of c.args.l.offset) (number_of c.args.l.address) (number_of c.args.l.t0.reg) (number_of c.args.l.t0.reg) ∙ ap (code_of c.args.l) (sym c.in-Add.is)) c.put_code.ensures.slots

pub returns-in-Sub-clause-slots : goal.returns-in-Sub-clause-slots
returns-in-Sub-clause-slots c = subst (λ ps. OnOk c.put_code-in-Sub.result (PutsAlone c.args.flags (slots_of c.args.flags ps) c.args.sink.now c.put_code-in-Sub.new.sink)) (c.simple_code-in-Sub.ensures.pieces ∙ field_changed (New ∷ Bind 0 ∷ loop_load (bits_of c.args.l.ty) (number_of c.args.l.dst.reg) (number_of c.args.l.address) ∷ []) (Do (Rrr alu.Sub (number_of c.args.l.t0.reg) (number_of c.args.l.dst.reg) (number_of c.args.l.operand)) ∷ []) false (bits_of c.args.l.ty) (number_of c.args.l.dst.reg) (number_of c.args.l.offset) (number_of c.args.l.address) (number_of c.args.l.t0.reg) (number_of c.args.l.t0.reg) ∙ ap (code_of c.args.l) (sym c.in-Sub.is)) c.put_code-in-Sub.ensures.slots

pub returns-in-And-clause-slots : goal.returns-in-And-clause-slots
returns-in-And-clause-slots c = subst (λ ps. OnOk c.put_code-in-And.result (PutsAlone c.args.flags (slots_of c.args.flags ps) c.args.sink.now c.put_code-in-And.new.sink)) (c.simple_code-in-And.ensures.pieces ∙ field_changed (New ∷ Bind 0 ∷ loop_load (bits_of c.args.l.ty) (number_of c.args.l.dst.reg) (number_of c.args.l.address) ∷ []) (Do (Rrr alu.And (number_of c.args.l.t0.reg) (number_of c.args.l.dst.reg) (number_of c.args.l.operand)) ∷ []) false (bits_of c.args.l.ty) (number_of c.args.l.dst.reg) (number_of c.args.l.offset) (number_of c.args.l.address) (number_of c.args.l.t0.reg) (number_of c.args.l.t0.reg) ∙ ap (code_of c.args.l) (sym c.in-And.is)) c.put_code-in-And.ensures.slots

pub returns-in-Or-clause-slots : goal.returns-in-Or-clause-slots
returns-in-Or-clause-slots c = subst (λ ps. OnOk c.put_code-in-Or.result (PutsAlone c.args.flags (slots_of c.args.flags ps) c.args.sink.now c.put_code-in-Or.new.sink)) (c.simple_code-in-Or.ensures.pieces ∙ field_changed (New ∷ Bind 0 ∷ loop_load (bits_of c.args.l.ty) (number_of c.args.l.dst.reg) (number_of c.args.l.address) ∷ []) (Do (Rrr alu.Or (number_of c.args.l.t0.reg) (number_of c.args.l.dst.reg) (number_of c.args.l.operand)) ∷ []) false (bits_of c.args.l.ty) (number_of c.args.l.dst.reg) (number_of c.args.l.offset) (number_of c.args.l.address) (number_of c.args.l.t0.reg) (number_of c.args.l.t0.reg) ∙ ap (code_of c.args.l) (sym c.in-Or.is)) c.put_code-in-Or.ensures.slots

pub returns-in-Xor-clause-slots : goal.returns-in-Xor-clause-slots
returns-in-Xor-clause-slots c = subst (λ ps. OnOk c.put_code-in-Xor.result (PutsAlone c.args.flags (slots_of c.args.flags ps) c.args.sink.now c.put_code-in-Xor.new.sink)) (c.simple_code-in-Xor.ensures.pieces ∙ field_changed (New ∷ Bind 0 ∷ loop_load (bits_of c.args.l.ty) (number_of c.args.l.dst.reg) (number_of c.args.l.address) ∷ []) (Do (Rrr alu.Xor (number_of c.args.l.t0.reg) (number_of c.args.l.dst.reg) (number_of c.args.l.operand)) ∷ []) false (bits_of c.args.l.ty) (number_of c.args.l.dst.reg) (number_of c.args.l.offset) (number_of c.args.l.address) (number_of c.args.l.t0.reg) (number_of c.args.l.t0.reg) ∙ ap (code_of c.args.l) (sym c.in-Xor.is)) c.put_code-in-Xor.ensures.slots

pub returns-in-Xchg-clause-slots : goal.returns-in-Xchg-clause-slots
returns-in-Xchg-clause-slots c = subst (λ ps. OnOk c.put_code-in-Xchg.result (PutsAlone c.args.flags (slots_of c.args.flags ps) c.args.sink.now c.put_code-in-Xchg.new.sink)) (c.exchange_code.ensures.pieces ∙ field_changed (New ∷ Bind 0 ∷ loop_load (bits_of c.args.l.ty) (number_of c.args.l.dst.reg) (number_of c.args.l.address) ∷ []) [] false (bits_of c.args.l.ty) (number_of c.args.l.dst.reg) (number_of c.args.l.offset) (number_of c.args.l.address) (number_of c.args.l.operand) (number_of c.args.l.t0.reg) ∙ ap (code_of c.args.l) (sym c.in-Xchg.is)) c.put_code-in-Xchg.ensures.slots

pub returns-in-Nand-clause-slots : goal.returns-in-Nand-clause-slots
returns-in-Nand-clause-slots c = subst (λ ps. OnOk c.put_nand.result (PutsAlone c.args.flags (slots_of c.args.flags ps) c.args.sink.now c.put_nand.new.sink)) (ap (code_of c.args.l) (sym c.in-Nand.is)) c.put_nand.ensures.slots

pub returns-in-Umin-clause-slots : goal.returns-in-Umin-clause-slots
returns-in-Umin-clause-slots c = subst (λ ps. OnOk c.put_choice.result (PutsAlone c.args.flags (slots_of c.args.flags ps) c.args.sink.now c.put_choice.new.sink)) (field_changed (New ∷ New ∷ New ∷ Bind 0 ∷ loop_load (bits_of c.args.l.ty) (number_of c.args.l.dst.reg) (number_of c.args.l.address) ∷ []) (choose_pieces UnsignedLessThan (number_of c.args.l.t0.reg) (number_of c.args.l.dst.reg) (number_of c.args.l.operand)) false (bits_of c.args.l.ty) (number_of c.args.l.dst.reg) (number_of c.args.l.offset) (number_of c.args.l.address) (number_of c.args.l.t0.reg) (number_of c.args.l.t0.reg) ∙ ap (code_of c.args.l) (sym c.in-Umin.is)) c.put_choice.ensures.slots

pub returns-in-Umax-clause-slots : goal.returns-in-Umax-clause-slots
returns-in-Umax-clause-slots c = subst (λ ps. OnOk c.put_choice-in-Umax.result (PutsAlone c.args.flags (slots_of c.args.flags ps) c.args.sink.now c.put_choice-in-Umax.new.sink)) (field_changed (New ∷ New ∷ New ∷ Bind 0 ∷ loop_load (bits_of c.args.l.ty) (number_of c.args.l.dst.reg) (number_of c.args.l.address) ∷ []) (choose_pieces UnsignedGreaterThan (number_of c.args.l.t0.reg) (number_of c.args.l.dst.reg) (number_of c.args.l.operand)) false (bits_of c.args.l.ty) (number_of c.args.l.dst.reg) (number_of c.args.l.offset) (number_of c.args.l.address) (number_of c.args.l.t0.reg) (number_of c.args.l.t0.reg) ∙ ap (code_of c.args.l) (sym c.in-Umax.is)) c.put_choice-in-Umax.ensures.slots

pub returns-in-Smin-clause-slots : goal.returns-in-Smin-clause-slots
returns-in-Smin-clause-slots c = subst (λ ps. OnOk c.put_choice-in-Smin.result (PutsAlone c.args.flags (slots_of c.args.flags ps) c.args.sink.now c.put_choice-in-Smin.new.sink)) (field_changed (New ∷ New ∷ New ∷ Bind 0 ∷ loop_load (bits_of c.args.l.ty) (number_of c.args.l.dst.reg) (number_of c.args.l.address) ∷ []) (choose_pieces SignedLessThan (number_of c.args.l.t0.reg) (number_of c.args.l.dst.reg) (number_of c.args.l.operand)) true (bits_of c.args.l.ty) (number_of c.args.l.dst.reg) (number_of c.args.l.offset) (number_of c.args.l.address) (number_of c.args.l.t0.reg) (number_of c.args.l.t0.reg) ∙ ap (code_of c.args.l) (sym c.in-Smin.is)) c.put_choice-in-Smin.ensures.slots

pub returns-in-Smax-clause-slots : goal.returns-in-Smax-clause-slots
returns-in-Smax-clause-slots c = subst (λ ps. OnOk c.put_choice-in-Smax.result (PutsAlone c.args.flags (slots_of c.args.flags ps) c.args.sink.now c.put_choice-in-Smax.new.sink)) (field_changed (New ∷ New ∷ New ∷ Bind 0 ∷ loop_load (bits_of c.args.l.ty) (number_of c.args.l.dst.reg) (number_of c.args.l.address) ∷ []) (choose_pieces SignedGreaterThan (number_of c.args.l.t0.reg) (number_of c.args.l.dst.reg) (number_of c.args.l.operand)) true (bits_of c.args.l.ty) (number_of c.args.l.dst.reg) (number_of c.args.l.offset) (number_of c.args.l.address) (number_of c.args.l.t0.reg) (number_of c.args.l.t0.reg) ∙ ap (code_of c.args.l) (sym c.in-Smax.is)) c.put_choice-in-Smax.ensures.slots
