-- Pieces on the machine with all units, between whose steps others write to its memory: links of the proof.
use Rattle.std.specs.Prelude.{◌≡◌, ◌⊎◌, ℕ, zero, suc, ◌+◌, ◌<◌, ◌≤◌, ◌||◌, Bool, true, false, List, [], ◌∷◌, length, Some, None}
use Rattle.std.specs.List.{AllByRecursion}
use Rattle.rv_base.specs.declared.flags.IsaFlags.{IsaFlags}
use Rattle.rv_machine.specs.State.{Memory, Values, byte, wrap}
use Rattle.rv_inst.specs.Meaning.{AreOutside}
use Rattle.rv_full.specs.declared.answer.Answer.{Answer}
use Rattle.rv_full.specs.declared.units.Reservation.{Reservation}
use Rattle.rv_full.specs.Shared.{Shared, Write, interfere, is_reserved}
use Rattle.rv_full.specs.Steps.{fstep}
use Rattle.rv_full.specs.Units.{FullState, Units, set_reserved}
use Rattle.rv_code.specs.Evaluation.{IsAtPoint, point}
use Rattle.rv_code.specs.Pieces.{Action, Rrr, Rri, Lui, Load, Store, Copy, Frr, Fence, Amo, Piece, Do, Constant, Take, LoadFrom, Note, Name, Branch, Jump, New, Bind, Go, Call, Jalr, Trap}
use Rattle.rv_code.specs.Sites.{Site}

-- ---- what others write

-- a write of a byte that is none of the code's
abbrev pub IsClear : Site → Write → Type 0
IsClear site w = (w.1 < 256) × AreOutside site.base (length site.bytes) (w.0 ∷ [])

-- those after one step
abbrev pub AreClear : Site → List Write → Type 0
AreClear site ws = AllByRecursion (IsClear site) ws

-- and after each step
abbrev pub AllClear : Site → List (List Write) → Type 0
AllClear site later = AllByRecursion (AreClear site) later

-- those after the next step
abbrev pub next_writes : List (List Write) → List Write
next_writes [] = []
next_writes (ws ∷ later) = ws

-- whether one of these bytes is reserved
abbrev pub touches : Reservation → List Write → Bool
touches r [] = false
touches r (w ∷ ws) = is_reserved w.0 r || touches r ws

-- ---- steps that leave memory as it was

-- so many of the machine's own steps lead from one state to another, and whether others wrote to these bytes after one of them
abbrev pub Still : IsaFlags → Reservation → ℕ → Shared → Bool → Shared → Type 0
Still flags r zero a touched b = (a ≡ b) × (touched ≡ false)
Still flags r (suc n) a touched b =
    (c : FullState) ×
    (later : Bool) ×
    (fstep flags a.full ≡ Some c) ×
    (c.state.values.mem ≡ a.full.state.values.mem) ×
    (touched ≡ (touches r (next_writes a.later) || later)) ×
    Still flags r n (interfere a.later c) later b

-- ---- pieces

-- an operation that reads and writes no memory, or is a unit's, at which an evaluation stops
abbrev pub is_still : Action → Bool
is_still (Rrr op rd a b) = true
is_still (Rri op rd rs imm) = true
is_still (Lui rd imm) = true
is_still (Load op rd base offset) = false
is_still (Store op base src offset) = false
is_still (Copy width rd rs) = true
is_still (Frr op width rd rs) = true
is_still (Fence pred succ) = true
is_still (Amo op amo rd addr src) = true

-- a piece that reads and writes no memory, or at which an evaluation stops
abbrev pub is_quiet : Piece → Bool
is_quiet (Do a) = is_still a
is_quiet (Constant rd l) = false
is_quiet (Take rd to) = false
is_quiet (LoadFrom op rd trap l) = false
is_quiet (Note event) = true
is_quiet (Name k) = true
is_quiet (Branch how a b k) = true
is_quiet (Jump k) = true
is_quiet New = true
is_quiet (Bind k) = true
is_quiet (Go l) = true
is_quiet (Call link tmp name) = true
is_quiet (Jalr link rs offset) = true
is_quiet (Trap code) = true

-- each of them is
abbrev pub AreQuiet : List Piece → Type 0
AreQuiet ps = AllByRecursion (λ p. is_quiet p ≡ true) ps

-- ---- the machine

-- values with another memory
abbrev pub with_mem : Memory → Values → Values
with_mem mem v = record { regs = v.regs; mem = mem }

-- it is where these pieces are ahead, with these registers, units that are these but for a reservation, and these answers left
pub record OnPieces (site : Site) (allocated start end : ℕ) (ps : List Piece) (regs : List ℕ) (u : Units) (left : List Answer) (b : FullState) : Type 0 where
  pub ints : IsAtPoint site allocated start end (point ps (record { regs = regs; mem = b.state.values.mem })) b.state
  pub units : set_reserved b.units None ≡ set_reserved u None
  pub answers : b.answers ≡ left

-- a reservation of bytes that held these: it is there and they hold them still, or it is gone, and then others wrote to one of them
pub record Keeps (r : Reservation) (held : ℕ → ℕ) (touched : Bool) (b : FullState) : Type 0 where
  pub left : (b.units.reserved ≡ None) ⊎ ((b.units.reserved ≡ Some r) × ((k : ℕ) → k < r.size → byte b.state.values.mem (wrap (r.address + k)) ≡ held k))
  pub alive : touched ≡ false → b.units.reserved ≡ Some r

-- in at most so many steps, each of which leaves memory as it was, it comes there; and the reservation is kept, or others ended it, and none
-- is made
pub record ComesStill (most : ℕ) (site : Site) (allocated start end : ℕ) (ps : List Piece) (regs : List ℕ) (u : Units) (answers : List Answer) (r : Reservation) (held : ℕ → ℕ) (before : Bool) (a : Shared) : Type 0 where
  pub steps : ℕ
  pub touched : Bool
  pub state : Shared
  pub few : steps ≤ most
  pub ran : Still site.context.flags r steps a touched state
  pub there : OnPieces site allocated start end ps regs u answers state.full
  pub clear : AllClear site state.later
  pub keeps : Keeps r held (before || touched) state.full
  pub none : a.full.units.reserved ≡ None → state.full.units.reserved ≡ None
