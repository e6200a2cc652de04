use Rattle.rv_sequences.proofs.Terms.{◌≡◌, ap, sym, ◌∷◌, ◌++◌, bits_of, number_of, slots_of, subst, OnOk}
use Rattle.rv_code.specs.AtomicLoops.{changing, loop_labels, loop_load, loop_pieces}
use Rattle.rv_code.specs.Pieces.{Bind}
use Rattle.rv_inst.specs.declared.atomic_loop.AtomicLoop.{AtomicLoop}
use Rattle.rv_inst.specs.declared.atomic_loop.Change.{Change}
use Rattle.rv_sequences.specs.Parts.{PutsAlone}
use Rattle.rv_sequences.proofs.atomics.put_atomic_loop.Goals as goal

by_change : (l : AtomicLoop) (change : Change) → l.change ≡ change →
    loop_labels change ++ Bind 0 ∷ loop_load (bits_of l.ty) (number_of l.dst.reg) (number_of l.address) ∷ changing change (bits_of l.ty) (number_of l.dst.reg) (number_of l.offset) (number_of l.address) (number_of l.operand) (number_of l.t0.reg) ≡ loop_pieces l
by_change l change e = ap (λ (k : Change). loop_labels k ++ Bind 0 ∷ loop_load (bits_of l.ty) (number_of l.dst.reg) (number_of l.address) ∷ changing k (bits_of l.ty) (number_of l.dst.reg) (number_of l.offset) (number_of l.address) (number_of l.operand) (number_of l.t0.reg)) (sym e)

pub returns-in-Combines-clause-slots : goal.returns-in-Combines-clause-slots
returns-in-Combines-clause-slots c = subst (λ ps. OnOk c.put_combination.result (PutsAlone c.args.flags (slots_of c.args.flags ps) c.args.sink.now c.put_combination.new.sink)) (by_change c.args.l _ c.in-Combines.is) c.put_combination.ensures.slots

pub returns-in-Swaps-clause-slots : goal.returns-in-Swaps-clause-slots
returns-in-Swaps-clause-slots c = subst (λ ps. OnOk c.put_swap.result (PutsAlone c.args.flags (slots_of c.args.flags ps) c.args.sink.now c.put_swap.new.sink)) (by_change c.args.l _ c.in-Swaps.is) c.put_swap.ensures.slots
