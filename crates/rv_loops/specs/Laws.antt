-- What pieces and atomic loops do on the machine with all units, wherever they stand in finished code and whatever others write meanwhile.
use Rattle.std.specs.Prelude.{◌≡◌, ℕ, ◌^◌, ◌<◌, Bool, true, List, [], ◌∷◌, length, Some}
use Rattle.rv_base.specs.declared.flags.IsaFlags.{IsaFlags}
use Rattle.rv_machine.specs.State.{reg_of}
use Rattle.rv_machine.specs.declared.ops.AtomicWidth.{AtomicWidth}
use Rattle.rv_ops.specs.declared.atomic.AMO.TheVariants.{SeqCst}
use Rattle.rv_inst.specs.Meaning.{AreOutside, addresses_from}
use Rattle.rv_full.specs.declared.answer.Answer.{Answer}
use Rattle.rv_full.specs.declared.units.Reservation.{Reservation}
use Rattle.rv_full.specs.Atomics.{width_bytes}
use Rattle.rv_full.specs.Shared.{Shared}
use Rattle.rv_full.specs.Units.{Units}
use Rattle.rv_code.specs.AtomicLoops.{load_reserved, store_conditional}
use Rattle.rv_code.specs.Evaluation.{Point, StandIn, evaluate}
use Rattle.rv_code.specs.InstRuns.{environment}
use Rattle.rv_code.specs.Pieces.{Amo, Do, Piece, after}
use Rattle.rv_code.specs.Sites.{Site}
use Rattle.rv_loops.specs.Alone.{AlonePasses}
use Rattle.rv_loops.specs.SharedLoops.{EachMiddle, IsWord, LoopEnds, Passes, load_word, store_word, stores}
use Rattle.rv_loops.specs.SharedRuns.{AllClear, AreQuiet, ComesStill, Keeps, OnPieces}

-- what an evaluation gives of quiet pieces is what the machine comes to in as many steps at most, whatever others write between them
abbrev pub StillRuns : Type 0
StillRuns =
    (site : Site) (first last allocated start end : ℕ) (whole : List Piece) →
    StandIn site allocated start end whole →
    AreQuiet whole →
    (u : Units) (answers : List Answer) (r : Reservation) (held : ℕ → ℕ) →
    r.address < 2 ^ 64 →
    (n : ℕ) (p q : Point) (touched : Bool) (a : Shared) →
    p.written ≡ [] →
    AreQuiet p.ahead →
    evaluate (environment site first last) n whole p ≡ Some q →
    OnPieces site allocated start end p.ahead p.values.regs u answers a.full →
    AllClear site a.later →
    Keeps r held touched a.full →
    ComesStill n site allocated start end q.ahead q.values.regs u answers r held touched a

-- A loop of a load, quiet pieces, a store and a branch back ends, for every list of answers, with one change of the number, with none, or
-- asking: where the registers at the start of a pass keep what is said of them, and a pass comes from its load to its store, or leaves, by
-- an evaluation of at most so many pieces.
abbrev pub LoopRuns : (List ℕ → Type 0) → Type 0
LoopRuns Again =
    (site : Site) (first last allocated start end most : ℕ) (load store : Piece) (whole ps tail leave : List Piece) →
    (width : AtomicWidth) (dst addr src t0 address : ℕ) →
    StandIn site allocated start end whole →
    AreQuiet whole →
    AreQuiet ps →
    AreQuiet tail →
    after 0 whole ≡ Some (load ∷ ps) →
    IsWord site.context.flags load (load_word width dst addr) →
    IsWord site.context.flags store (store_word width t0 addr src) →
    dst < 32 →
    0 < t0 →
    t0 < 32 →
    address < 2 ^ 64 →
    AreOutside site.base (length site.bytes) (addresses_from address (width_bytes width)) →
    ((regs : List ℕ) → Again regs → reg_of regs addr ≡ address) →
    EachMiddle (environment site first last) most whole ps (stores store t0 tail) leave dst addr t0 address Again →
    (u : Units) (answers : List Answer) (regs : List ℕ) (a : Shared) →
    OnPieces site allocated start end (load ∷ ps) regs u answers a.full →
    AllClear site a.later →
    Again regs →
    LoopEnds site (environment site first last) allocated start end most store whole ps tail leave width dst src t0 address Again u answers a

-- whatever tests of the registers say it; the lemma `loop_runs` is for whatever types do
abbrev pub LoopsRun : Type 0
LoopsRun = (test : ℕ → List ℕ → Bool) → LoopRuns (λ regs. (k : ℕ) → test k regs ≡ true)

-- where no one else writes, passes that failed are a run of the machine alone, and each was told to fail
abbrev pub LoopsAlone : Type 0
LoopsAlone =
    (flags : IsaFlags) (r : Reservation) (most : ℕ) (took : List Answer) (a b : Shared) →
    a.later ≡ [] →
    Passes flags r most took a b →
    AlonePasses flags most took a b

-- the load and the store as actions of pieces are each one word
pub record AtomicWords (flags : IsaFlags) (width : AtomicWidth) (addr : ℕ) : Type 0 where
  pub load : (dst : ℕ) → IsWord flags (Do (Amo (load_reserved width) SeqCst dst addr 0)) (load_word width dst addr)
  pub store : (t0 src : ℕ) → IsWord flags (Do (Amo (store_conditional width) SeqCst t0 addr src)) (store_word width t0 addr src)

-- under all flags, of both widths, at the address in any register
abbrev pub AreAtomicWords : Type 0
AreAtomicWords = (flags : IsaFlags) (width : AtomicWidth) (addr : ℕ) → AtomicWords flags width addr
