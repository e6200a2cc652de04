-- The machine with others that write to its memory between its steps: what they write is a schedule, a list of writes for each
-- of the next steps.
use Rattle.std.specs.Prelude.{ℕ, zero, suc, ◌+◌, ◌-◌, ◌^◌, ◌<◌, Bool, if◌then◌else◌, nat_lt, List, [], ◌∷◌, Option, Some, None}
use Rattle.std.specs.FinMap as map
use Rattle.std.specs.List.{AllByRecursion}
use Rattle.rv_base.specs.declared.flags.IsaFlags.{IsaFlags}
use Rattle.rv_machine.specs.State.{State, at, wrap}
use Rattle.rv_full.specs.declared.units.Reservation.{Reservation}
use Rattle.rv_full.specs.Units.{FullState, IsFullState, set_reserved}
use Rattle.rv_full.specs.Steps.{fstep}

-- an address, and the byte that is written there
abbrev pub Write : Type 0
Write = ℕ × ℕ

-- each in its range
abbrev pub IsWrite : Write → Type 0
IsWrite w = (w.0 < 2 ^ 64) × (w.1 < 256)

abbrev pub AreWrites : List Write → Type 0
AreWrites ws = AllByRecursion IsWrite ws

-- whether a byte is one of those reserved; addresses wrap
abbrev pub is_reserved : ℕ → Reservation → Bool
is_reserved a r = nat_lt (wrap (a + (2 ^ 64 - r.address))) r.size

-- the reservation after a write at an address: one of whose bytes is written ends
abbrev pub left_by : ℕ → Option Reservation → Option Reservation
left_by a None = None
left_by a (Some r) = if is_reserved a r then None else Some r

abbrev pub written : State → ℕ → ℕ → State
written s a byte = at s.pc (record { regs = s.values.regs; mem = map.insert s.values.mem a byte })

-- another hart writes a byte
abbrev pub foreign : Write → FullState → FullState
foreign w b = record { state = written b.state w.0 w.1; units = set_reserved b.units (left_by w.0 b.units.reserved); answers = b.answers }

abbrev pub foreigns : List Write → FullState → FullState
foreigns [] b = b
foreigns (w ∷ ws) b = foreigns ws (foreign w b)

-- a state, and what others write after each of the next steps
pub record Shared : Type 0 where
  pub full : FullState
  pub later : List (List Write)

-- each number of it is in its range
pub record IsShared (a : Shared) : Type 0 where
  pub full : IsFullState a.full
  pub later : AllByRecursion AreWrites a.later

abbrev pub interfere : List (List Write) → FullState → Shared
interfere [] b = record { full = b; later = [] }
interfere (ws ∷ later) b = record { full = foreigns ws b; later = later }

abbrev pub shared_by : List (List Write) → Option FullState → Option Shared
shared_by later None = None
shared_by later (Some b) = Some (interfere later b)

-- one step of the machine, and what others write after it
abbrev pub astep : IsaFlags → Shared → Option Shared
astep flags a = shared_by a.later (fstep flags a.full)

abbrev pub then_astep : IsaFlags → Option Shared → Option Shared
then_astep flags None = None
then_astep flags (Some a) = astep flags a

-- the state after so many steps
unfoldable pub aiter : IsaFlags → ℕ → Shared → Option Shared
aiter flags zero a = Some a
aiter flags (suc n) a = then_astep flags (aiter flags n a)
