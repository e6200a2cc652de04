-- Atomic loops: a number is loaded and reserved, another is computed on registers alone, and it is stored where no one else wrote to it
-- meanwhile; otherwise the loop begins again. Links of the proof.
use Rattle.std.specs.Prelude.{◌≡◌, ◌⊎◌, ℕ, zero, suc, ◌+◌, ◌^◌, ◌<◌, ◌≤◌, Bool, true, false, List, [], ◌∷◌, ◌++◌, Some, None, pos}
use Rattle.rv_base.specs.declared.condcodes.IntCC.TheVariants.{NotEqual}
use Rattle.rv_base.specs.declared.flags.IsaFlags.{IsaFlags}
use Rattle.rv_machine.specs.declared.ops.AtomicOp.TheVariants.{Lr, Sc}
use Rattle.rv_machine.specs.declared.ops.AtomicWidth.{AtomicWidth}
use Rattle.rv_machine.specs.State.{AreValues, Memory, Values, byte, reg_of, set_reg_of, wrap}
use Rattle.rv_inst.specs.Meaning.{Environment}
use Rattle.rv_full.specs.declared.answer.Answer.{Answer}
use Rattle.rv_full.specs.declared.answer.Answer.TheVariants.{Success}
use Rattle.rv_full.specs.declared.units.Reservation.{Reservation}
use Rattle.rv_full.specs.Atomics.{number_at, number_put, width_bytes}
use Rattle.rv_full.specs.Shared.{Shared, interfere}
use Rattle.rv_full.specs.Steps.{Asks, fnext, fstep}
use Rattle.rv_full.specs.Units.{FullState, Units}
use Rattle.rv_code.specs.Evaluation.{evaluate, point}
use Rattle.rv_code.specs.Pieces.{Branch, Piece, piece_size, slots_for}
use Rattle.rv_code.specs.Slots.{Op}
use Rattle.rv_encode.specs.Operations.{decoded}
use Rattle.rv_machine.specs.declared.decoding.Decoded.{Decoded}
use Rattle.rv_machine.specs.declared.ops.MOp.TheVariants.{Atomic}
use Rattle.rv_loops.specs.SharedRuns.{Keeps, OnPieces, Still}
use Rattle.rv_code.specs.Sites.{Site}

-- ---- the code

-- a piece that is put as one word, and is as long
pub record IsWord (flags : IsaFlags) (p : Piece) (d : Decoded) : Type 0 where
  pub slots : slots_for flags p ≡ Op d ∷ []
  pub size : piece_size flags p ≡ d.len

-- the load: the number at a register's address goes to a register and is reserved, with both ordering bits
abbrev pub load_word : AtomicWidth → ℕ → ℕ → Decoded
load_word width dst addr = decoded (Atomic Lr width) dst addr 0 (pos 3)

-- the store of a register there, which tells in t0 whether it failed
abbrev pub store_word : AtomicWidth → ℕ → ℕ → ℕ → Decoded
store_word width t0 addr src = decoded (Atomic Sc width) t0 addr src (pos 3)

-- the store and what follows: where it failed a pass begins again at own label 0
abbrev pub stores : Piece → ℕ → List Piece → List Piece
stores store t0 tail = store ∷ Branch NotEqual t0 0 0 ∷ tail

-- from these values, in at most so many pieces, a pass comes to its store, where its register still has the address and after which another
-- may begin, or it leaves
pub data Middle (env : Environment) (most : ℕ) (whole ps store_on leave : List Piece) (addr t0 address : ℕ) (Again : List ℕ → Type 0) (v : Values) : Type 0 where
  Stores : (n : ℕ) (w : Values) →
      n ≤ most →
      evaluate env n whole (point ps v) ≡ Some (point store_on w) →
      reg_of w.regs addr ≡ address →
      ((x : ℕ) → Again (set_reg_of w.regs t0 x)) →
      Middle env most whole ps store_on leave addr t0 address Again v
  Leaves : (n : ℕ) (w : Values) →
      n ≤ most →
      evaluate env n whole (point ps v) ≡ Some (point leave w) →
      Middle env most whole ps store_on leave addr t0 address Again v

-- from wherever a pass may begin, and whatever number it loads
abbrev pub EachMiddle : Environment → ℕ → List Piece → List Piece → List Piece → List Piece → ℕ → ℕ → ℕ → ℕ → (List ℕ → Type 0) → Type 0
EachMiddle env most whole ps store_on leave dst addr t0 address Again =
    (regs : List ℕ) (n : ℕ) (mem : Memory) →
    Again regs →
    n < 2 ^ 64 →
    AreValues (record { regs = set_reg_of regs dst n; mem = mem }) →
    Middle env most whole ps store_on leave addr t0 address Again (record { regs = set_reg_of regs dst n; mem = mem })

-- ---- its run

-- so many of the machine's own steps, each of which leaves memory as it was
abbrev pub Quiet : IsaFlags → ℕ → Shared → Shared → Type 0
Quiet flags zero a b = a ≡ b
Quiet flags (suc n) a b =
    (c : FullState) ×
    (fstep flags a.full ≡ Some c) ×
    (c.state.values.mem ≡ a.full.state.values.mem) ×
    Quiet flags n (interfere a.later c) b

-- the reservation of a number
abbrev pub reservation_at : AtomicWidth → ℕ → Reservation
reservation_at width a = record { address = a; size = width_bytes width }

-- a pass whose store failed, since it was told to or since others wrote to the bytes meanwhile, and which begins again: no step of it
-- writes memory
pub record FailedPass (flags : IsaFlags) (r : Reservation) (most : ℕ) (x : Bool) (a b : Shared) : Type 0 where
  pub between : ℕ
  pub touched : Bool
  pub last : Shared
  pub still : Still flags r between a touched last
  pub failed : FullState
  pub step : fstep flags last.full ≡ Some failed
  pub mem : failed.state.values.mem ≡ last.full.state.values.mem
  pub rest : ℕ
  pub again : Quiet flags rest (interfere last.later failed) b
  pub few : between + suc rest ≤ most + 3
  pub why : (x ≡ false) ⊎ (touched ≡ true)

-- passes that failed, one after the other, each with its answer
abbrev pub Passes : IsaFlags → Reservation → ℕ → List Answer → Shared → Shared → Type 0
Passes flags r most [] a b = a ≡ b
Passes flags r most (answer ∷ took) a b =
    (x : Bool) ×
    (c : Shared) ×
    (answer ≡ Success x) ×
    FailedPass flags r most x a c ×
    Passes flags r most took c b

-- the last pass: it begins after others, whose stores failed; its load gives the number that is there, and from the registers then its
-- pieces make those at its store, or where it leaves
pub record LastPass (site : Site) (env : Environment) (most : ℕ) (whole ps qs : List Piece) (width : AtomicWidth) (dst address : ℕ) (Again : List ℕ → Type 0) (took : List Answer) (a : Shared) : Type 0 where
  pub first : Shared
  pub earlier : Passes site.context.flags (reservation_at width address) most took a first
  pub regs : List ℕ
  pub again : Again regs
  pub loaded : Values
  pub with_number : loaded.regs ≡ set_reg_of regs dst (number_at width first.full.state.values.mem address)
  pub fits : AreValues loaded
  pub count : ℕ
  pub values : Values
  pub ran : evaluate env count whole (point ps loaded) ≡ Some (point qs values)
  pub between : ℕ
  pub touched : Bool
  pub last : Shared
  pub still : Still site.context.flags (reservation_at width address) between first touched last
  pub short : between ≤ suc most
  pub keeps : Keeps (reservation_at width address) (λ j. byte first.full.state.values.mem (wrap (address + j))) touched last.full

-- a loop that changes the number: one step writes memory, the last store, where the bytes still are what the last load found; and after it
-- at most one step leaves
pub record OneChange (site : Site) (env : Environment) (allocated start end most : ℕ) (store : Piece) (whole ps tail : List Piece) (width : AtomicWidth) (dst src t0 address : ℕ) (Again : List ℕ → Type 0) (u : Units) (answers : List Answer) (a : Shared) : Type 0 where
  pub took : List Answer
  pub more : List Answer
  pub parted : answers ≡ took ++ Success true ∷ more
  pub pass : LastPass site env most whole ps (stores store t0 tail) width dst address Again took a
  pub same : (k : ℕ) → k < width_bytes width → byte pass.last.full.state.values.mem (wrap (address + k)) ≡ byte pass.first.full.state.values.mem (wrap (address + k))
  pub stored : FullState
  pub stores_it : fstep site.context.flags pass.last.full ≡ Some stored
  pub memory : stored.state.values.mem ≡ number_put width (reg_of pass.values.regs src) pass.last.full.state.values.mem address
  pub final : Shared
  pub rest : ℕ
  pub little : rest ≤ 1
  pub leaves : Quiet site.context.flags rest (interfere pass.last.later stored) final
  pub there : OnPieces site allocated start end tail (set_reg_of pass.values.regs t0 0) u more final.full
  pub none : final.full.units.reserved ≡ None

-- a loop that leaves before its store: no step writes memory
pub record OneRead (site : Site) (env : Environment) (allocated start end most : ℕ) (whole ps tail : List Piece) (width : AtomicWidth) (dst address : ℕ) (Again : List ℕ → Type 0) (u : Units) (answers : List Answer) (a : Shared) : Type 0 where
  pub took : List Answer
  pub more : List Answer
  pub parted : answers ≡ took ++ more
  pub pass : LastPass site env most whole ps tail width dst address Again took a
  pub there : OnPieces site allocated start end tail pass.values.regs u more pass.last.full

-- a loop that asks at a store, since no answer of its kind is first among those that are left
pub record OneAsks (site : Site) (env : Environment) (most : ℕ) (whole ps qs : List Piece) (width : AtomicWidth) (dst address : ℕ) (Again : List ℕ → Type 0) (answers : List Answer) (a : Shared) : Type 0 where
  pub took : List Answer
  pub more : List Answer
  pub parted : answers ≡ took ++ more
  pub pass : LastPass site env most whole ps qs width dst address Again took a
  pub asks : fnext site.context.flags pass.last.full ≡ Asks
  pub left : pass.last.full.answers ≡ more

-- how a loop ends
abbrev pub LoopEnds :
    Site → Environment → ℕ → ℕ → ℕ → ℕ → Piece → List Piece → List Piece → List Piece → List Piece →
    AtomicWidth → ℕ → ℕ → ℕ → ℕ → (List ℕ → Type 0) → Units → List Answer → Shared → Type 0
LoopEnds site env allocated start end most store whole ps tail leave width dst src t0 address Again u answers a =
    OneChange site env allocated start end most store whole ps tail width dst src t0 address Again u answers a
    ⊎ (OneRead site env allocated start end most whole ps leave width dst address Again u answers a
    ⊎ OneAsks site env most whole ps (stores store t0 tail) width dst address Again answers a)
