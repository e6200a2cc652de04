-- The state of the machine with all units: "Programmers' Model" of the chapters "RV32I", "F" and "V", and the reservation of
-- "Zalrsc". A floating-point register has 64 bits and a vector register 128.
use Rattle.std.specs.Prelude.{◌≡◌, ◌⊎◌, ℕ, ◌^◌, ◌<◌, List, length, slice_index, slice_set, Option, IfSome}
use Rattle.std.specs.List.{AllByRecursion}
use Rattle.rv_machine.specs.State.{State, Values, IsState, at}
use Rattle.rv_full.specs.declared.answer.Answer.{Answer}
use Rattle.rv_full.specs.declared.answer.Answer.TheVariants.{Bits, Vectors, Stored, Success, Length}
use Rattle.rv_full.specs.declared.answer.Entry.{Entry}
use Rattle.rv_full.specs.declared.units.Setting.{Setting}
use Rattle.rv_full.specs.declared.units.Reservation.{Reservation}

-- f0 to f31, v0 to v31, the rounding mode, the reservation if there is one, the vector setting, and the steps that took an
-- answer, the earliest first
pub record Units : Type 0 where
  pub floats : List ℕ
  pub vectors : List ℕ
  pub frm : ℕ
  pub reserved : Option Reservation
  pub setting : Setting
  pub trace : List Entry

-- what operations read and write: the integer registers, the memory and the units
pub record FullValues : Type 0 where
  pub ints : Values
  pub units : Units

-- the integer machine's state, the units, and the answers that are left
pub record FullState : Type 0 where
  pub state : State
  pub units : Units
  pub answers : List Answer

abbrev pub values_of : FullState → FullValues
values_of b = record { ints = b.state.values; units = b.units }

-- another integer state, all else as it was
abbrev pub put : State → FullState → FullState
put t b = record { state = t; units = b.units; answers = b.answers }

-- values and answers, at an address
abbrev pub full_at : ℕ → FullValues → List Answer → FullState
full_at pc v answers = record { state = at pc v.ints; units = v.units; answers = answers }

abbrev pub with_units : FullState → Units → FullState
with_units b u = record { state = b.state; units = u; answers = b.answers }

abbrev pub freg : Units → ℕ → ℕ
freg u n = slice_index u.floats n

abbrev pub vreg : Units → ℕ → ℕ
vreg u n = slice_index u.vectors n

abbrev pub set_freg : Units → ℕ → ℕ → Units
set_freg u n x = record { floats = slice_set u.floats n x; vectors = u.vectors; frm = u.frm; reserved = u.reserved; setting = u.setting; trace = u.trace }

abbrev pub set_vreg : Units → ℕ → ℕ → Units
set_vreg u n x = record { floats = u.floats; vectors = slice_set u.vectors n x; frm = u.frm; reserved = u.reserved; setting = u.setting; trace = u.trace }

abbrev pub set_frm : Units → ℕ → Units
set_frm u x = record { floats = u.floats; vectors = u.vectors; frm = x; reserved = u.reserved; setting = u.setting; trace = u.trace }

abbrev pub set_reserved : Units → Option Reservation → Units
set_reserved u r = record { floats = u.floats; vectors = u.vectors; frm = u.frm; reserved = r; setting = u.setting; trace = u.trace }

abbrev pub set_setting : Units → Setting → Units
set_setting u s = record { floats = u.floats; vectors = u.vectors; frm = u.frm; reserved = u.reserved; setting = s; trace = u.trace }

abbrev pub with_trace : Units → List Entry → Units
with_trace u trace = record { floats = u.floats; vectors = u.vectors; frm = u.frm; reserved = u.reserved; setting = u.setting; trace = trace }

-- ---- each number is in its range

-- a word's or a doubleword's bytes, at an address
pub record IsReservation (r : Reservation) : Type 0 where
  pub address : r.address < 2 ^ 64
  pub size : (r.size ≡ 4) ⊎ (r.size ≡ 8)

pub record AreUnits (u : Units) : Type 0 where
  pub float_count : length u.floats ≡ 32
  pub float_fits : (n : ℕ) → freg u n < 2 ^ 64
  pub vector_count : length u.vectors ≡ 32
  pub vector_fits : (n : ℕ) → vreg u n < 2 ^ 128
  pub frm_fits : u.frm < 8
  pub reserved_fits : IfSome u.reserved IsReservation
  pub avl_fits : u.setting.avl < 32
  pub vtype_fits : u.setting.vtype < 2 ^ 8

-- a register's number and bits, and a byte where there is one
abbrev pub RegisterFits : ℕ × ℕ → Type 0
RegisterFits r = (r.0 < 2 ^ 8) × (r.1 < 2 ^ 128)

abbrev pub StoredFits : Option ℕ → Type 0
StoredFits stored = IfSome stored (λ byte. byte < 2 ^ 8)

abbrev pub AnswerFits : Answer → Type 0
AnswerFits (Bits x) = x < 2 ^ 64
AnswerFits (Vectors rs) = AllByRecursion RegisterFits rs
AnswerFits (Stored bs) = AllByRecursion StoredFits bs
AnswerFits (Success b) = Unit {0}
AnswerFits (Length n) = n < 2 ^ 8

pub record IsFullState (b : FullState) : Type 0 where
  pub state : IsState b.state
  pub units : AreUnits b.units
  pub answers : AllByRecursion AnswerFits b.answers
