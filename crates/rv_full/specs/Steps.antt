-- Steps of the machine with all units, one and many.
use Rattle.std.specs.Prelude.{◌≡◌, ℕ, zero, suc, ◌+◌, ◌%◌, nat_eq, if◌then◌else◌, List, [], Option, Some, None}
use Rattle.rv_base.specs.declared.flags.IsaFlags.{IsaFlags}
use Rattle.rv_machine.specs.declared.decoding.Decoded.{Decoded}
use Rattle.rv_machine.specs.State.{State, wrap, at, store, set_reg}
use Rattle.rv_machine.specs.Decode.{decode}
use Rattle.rv_machine.specs.Steps.{istep, fetch}
use Rattle.rv_full.specs.declared.answer.Answer.{Answer}
use Rattle.rv_full.specs.declared.machine.FullStep.{FullStep}
use Rattle.rv_full.specs.declared.machine.FullStep.TheVariants.{Stepped, Stopped, NeedsAnswer}
use Rattle.rv_full.specs.Units.{FullValues, FullState, Units, values_of, put, full_at, with_units}
use Rattle.rv_full.specs.Rows.{Kind, fits, Row, Absent, Does, Takes, first, rest}
use Rattle.rv_full.specs.UnitRows.{unit_row}
use Rattle.rv_full.specs.Rows.{entry_of, noted}
use Rattle.rv_full.specs.Vectors.{store_some}
use Rattle.rv_full.specs.declared.answer.Answer.TheVariants.{Stored}

-- what comes next: a state, an answer that is wanted, or nothing
pub data Next : Type 0 where
  Goes : FullState → Next
  Asks : Next
  Halts : Next

abbrev pub taken : ℕ → Kind → (Answer → FullValues) → Option Answer → List Answer → Next
taken pc kind f None more = Asks
taken pc kind f (Some a) more = if fits kind a then Goes (full_at pc (f a) more) else Asks

-- after a row, at the address after its word
abbrev pub row_next : ℕ → Row → List Answer → Next
row_next pc Absent answers = Halts
row_next pc (Does v) answers = Goes (full_at pc v answers)
row_next pc (Takes kind f) answers = taken pc kind f (first answers) (rest answers)

abbrev pub unit_on : Option Decoded → FullState → Next
unit_on None b = Halts
unit_on (Some d) b = row_next (wrap (b.state.pc + d.len)) (unit_row d (values_of b)) b.answers

-- what the unit of the operation at the pc does
abbrev pub unit_next : IsaFlags → FullState → Next
unit_next flags b = if nat_eq (b.state.pc % 2) 0 then unit_on (decode flags (fetch b.state.values.mem b.state.pc)) b else Halts

abbrev pub next_by : IsaFlags → Option State → FullState → Next
next_by flags None b = unit_next flags b
next_by flags (Some t) b = Goes (put t b)

-- an integer operation acts on the integer part alone; where the integer machine has no step, a unit's row does
unfoldable pub fnext : IsaFlags → FullState → Next
fnext flags b = next_by flags (istep flags b.state) b

abbrev pub stepped : Next → Option FullState
stepped (Goes b) = Some b
stepped Asks = None
stepped Halts = None

-- one step, where there is one and an answer that it takes is there
abbrev pub fstep : IsaFlags → FullState → Option FullState
fstep flags b = stepped (fnext flags b)

abbrev pub then_fstep : IsaFlags → Option FullState → Option FullState
then_fstep flags None = None
then_fstep flags (Some b) = fstep flags b

-- the state after so many steps, each of which exists
unfoldable pub fiter : IsaFlags → ℕ → FullState → Option FullState
fiter flags zero b = Some b
fiter flags (suc n) b = then_fstep flags (fiter flags n b)

-- a machine: its flags, and the state that it is in
pub record Machine : Type 0 where
  pub flags : IsaFlags
  pub full : FullState

abbrev pub with_full : Machine → FullState → Machine
with_full m b = record { flags = m.flags; full = b }

-- what is answered where what comes next is known: that the machine is in that state, or that there is none and nothing changed
abbrev pub Answers : FullStep → Next → Machine → Machine → Type 0
Answers Stepped next m n = (next ≡ Goes n.full) × (n.flags ≡ m.flags)
Answers Stopped next m n = (next ≡ Halts) × (n ≡ m)
Answers NeedsAnswer next m n = (next ≡ Asks) × (n ≡ m)

-- the address after an operation's word
abbrev pub next_of : Decoded → Machine → ℕ
next_of d m = wrap (m.full.state.pc + d.len)

-- what is answered where a row's operation is at the pc
abbrev pub Acts : FullStep → Row → Decoded → Machine → Machine → Type 0
Acts step row d m n = Answers step (row_next (next_of d m) row m.full.answers) m n

-- values, at the address after an operation's word
abbrev pub goes_on : Machine → Decoded → FullValues → List Answer → Machine
goes_on m d v answers = with_full m (full_at (next_of d m) v answers)

-- what a step returns
abbrev pub FullSteps : FullStep → Machine → Machine → Type 0
FullSteps step m n = Answers step (fnext m.flags m.full) m n

-- so many steps of a machine
pub record Ran (k : ℕ) (m n : Machine) : Type 0 where
  pub steps : fiter m.flags k m.full ≡ Some n.full
  pub flags_stay : n.flags ≡ m.flags

-- ---- a machine with one part changed

abbrev pub with_state : Machine → State → Machine
with_state m s = with_full m (put s m.full)

abbrev pub with_pc : Machine → ℕ → Machine
with_pc m pc = with_state m (at pc m.full.state.values)

abbrev pub with_reg : Machine → ℕ → ℕ → Machine
with_reg m n x = with_state m (at m.full.state.pc (set_reg m.full.state.values n x))

-- bytes put at an address and on
abbrev pub with_bytes : Machine → ℕ → List ℕ → Machine
with_bytes m a bytes = with_state m (at m.full.state.pc (record { regs = m.full.state.values.regs; mem = store m.full.state.values.mem a bytes }))

abbrev pub with_own : Machine → Units → Machine
with_own m u = with_full m (with_units m.full u)

abbrev pub with_answers : Machine → List Answer → Machine
with_answers m answers = with_full m (record { state = m.full.state; units = m.full.units; answers = answers })

-- bytes put at an address and on, where there is one, and an entry more
abbrev pub stored_some : Machine → ℕ → List (Option ℕ) → Decoded → List ℕ → List (Option ℕ) → Machine
stored_some m a bytes d inputs answer =
    with_full m (record {
      state = at m.full.state.pc (record { regs = m.full.state.values.regs; mem = store_some m.full.state.values.mem a bytes });
      units = noted (entry_of d m.full.units inputs [] (Stored answer)) m.full.units;
      answers = m.full.answers;
    })
