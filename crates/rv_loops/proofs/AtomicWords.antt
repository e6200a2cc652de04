-- The load and the store of an atomic loop, as actions of pieces, are each one word.
use Rattle.rv_base.specs.declared.flags.IsaFlags.{IsaFlags}
use Rattle.rv_machine.specs.declared.ops.AtomicWidth.{AtomicWidth}
use Rattle.rv_machine.specs.declared.ops.AtomicWidth.TheVariants.{W, D}
use Rattle.rv_loops.specs.Laws.{AtomicWords}
use Rattle.std.proofs.Common.{ℕ, refl}

pub are_words : (flags : IsaFlags) (width : AtomicWidth) (addr : ℕ) → AtomicWords flags width addr
are_words flags W addr = record { load = λ dst. record { slots = refl; size = refl }; store = λ t0 src. record { slots = refl; size = refl } }
are_words flags D addr = record { load = λ dst. record { slots = refl; size = refl }; store = λ t0 src. record { slots = refl; size = refl } }
