-- Atomic operations by their mnemonics, and orderings by their names.
use Rattle.std.specs.Prelude.{ℕ, List, [], ◌∷◌, Option, codes}
use Rattle.std.specs.List.{find}
use Rattle.std.specs.Str.{bytes_eq}
use Rattle.rv_ops.specs.declared.atomic.AMO.{AMO}
use Rattle.rv_ops.specs.declared.atomic.AMO.TheVariants.{Relax, Release, Acquire, SeqCst}
use Rattle.rv_ops.specs.declared.atomic.AtomicOP.{AtomicOP}
use Rattle.rv_ops.specs.declared.atomic.AtomicOP.TheVariants.{LrW, ScW, AmoswapW, AmoaddW, AmoxorW, AmoandW, AmoorW, AmominW, AmomaxW, AmominuW, AmomaxuW, LrD, ScD, AmoswapD, AmoaddD, AmoxorD, AmoandD, AmoorD, AmominD, AmomaxD, AmominuD, AmomaxuD}
use Rattle.rv_ops.specs.Atomic.{atomic_name}

unfoldable pub every_atomic : List AtomicOP
every_atomic =
    LrW ∷ ScW ∷ AmoswapW ∷ AmoaddW ∷ AmoxorW ∷ AmoandW ∷ AmoorW ∷ AmominW ∷ AmomaxW ∷ AmominuW ∷ AmomaxuW ∷
    LrD ∷ ScD ∷ AmoswapD ∷ AmoaddD ∷ AmoxorD ∷ AmoandD ∷ AmoorD ∷ AmominD ∷ AmomaxD ∷ AmominuD ∷ AmomaxuD ∷ []

-- the operation that has this mnemonic, without an ordering
unfoldable pub atomic_op : List ℕ → Option AtomicOP
atomic_op w = find (λ op. bytes_eq w (atomic_name op)) every_atomic

-- an ordering: none, what came before, what comes after, and both
abbrev pub amo_name : AMO → List ℕ
amo_name Relax = codes "relax"
amo_name Release = codes "rel"
amo_name Acquire = codes "acq"
amo_name SeqCst = codes "seqcst"

unfoldable pub amo : List ℕ → Option AMO
amo w = find (λ a. bytes_eq w (amo_name a)) (Relax ∷ Release ∷ Acquire ∷ SeqCst ∷ [])
