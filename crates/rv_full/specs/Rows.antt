-- What an operation of a unit does: a function on values, and where it takes an answer, one for each answer of its kind.
use Rattle.std.specs.Prelude.{ℕ, ◌+◌, Bool, true, false, if◌then◌else◌, ◌&&◌, nat_eq, nat_lt, not, List, [], ◌∷◌, ◌++◌, length, Option, Some, None}
use Rattle.rv_machine.specs.State.{Memory, reg, set_reg, wrap, low64}
use Rattle.rv_machine.specs.declared.decoding.Decoded.{Decoded}
use Rattle.rv_full.specs.declared.answer.Answer.{Answer}
use Rattle.rv_full.specs.declared.answer.Answer.TheVariants.{Bits, Vectors, Stored, Success, Length}
use Rattle.rv_full.specs.declared.answer.Entry.{Entry}
use Rattle.rv_full.specs.Units.{FullValues, Units, set_freg, with_trace}

-- one number, vector registers, an option for each of so many bytes, whether a store went through, or a length of at most so many
pub data Kind : Type 0 where
  OneNumber : Kind
  Registers : Kind
  BytesOf : ℕ → Kind
  Whether : Kind
  AtMost : ℕ → Kind

-- each names a register of a file of 32
abbrev pub all_low : List (ℕ × ℕ) → Bool
all_low [] = true
all_low (r ∷ rs) = nat_lt r.0 32 && all_low rs

abbrev pub fits : Kind → Answer → Bool
fits OneNumber (Bits x) = true
fits OneNumber (Vectors rs) = false
fits OneNumber (Stored bs) = false
fits OneNumber (Success b) = false
fits OneNumber (Length n) = false
fits Registers (Bits x) = false
fits Registers (Vectors rs) = all_low rs
fits Registers (Stored bs) = false
fits Registers (Success b) = false
fits Registers (Length n) = false
fits (BytesOf n) (Bits x) = false
fits (BytesOf n) (Vectors rs) = false
fits (BytesOf n) (Stored bs) = nat_eq (length bs) n
fits (BytesOf n) (Success b) = false
fits (BytesOf n) (Length k) = false
fits Whether (Bits x) = false
fits Whether (Vectors rs) = false
fits Whether (Stored bs) = false
fits Whether (Success b) = true
fits Whether (Length n) = false
fits (AtMost most) (Bits x) = false
fits (AtMost most) (Vectors rs) = false
fits (AtMost most) (Stored bs) = false
fits (AtMost most) (Success b) = false
fits (AtMost most) (Length n) = not (nat_lt most n)

-- no unit has the operation here, it does this, or it takes an answer of a kind and does what that gives
pub data Row : Type 0 where
  Absent : Row
  Does : FullValues → Row
  Takes : Kind → (Answer → FullValues) → Row

-- ---- the first answer of those that are left

abbrev pub first : List Answer → Option Answer
first [] = None
first (a ∷ more) = Some a

abbrev pub rest : List Answer → List Answer
rest [] = []
rest (a ∷ more) = more

-- what a row gives on values, with the first answer where it takes one, and the answers that are left then
abbrev pub take_first : Kind → (Answer → FullValues) → Option Answer → List Answer → Option (FullValues × List Answer)
take_first kind f None more = None
take_first kind f (Some a) more = if fits kind a then Some (f a, more) else None

abbrev pub row_takes : Row → List Answer → Option (FullValues × List Answer)
row_takes Absent answers = None
row_takes (Does v) answers = Some (v, answers)
row_takes (Takes kind f) answers = take_first kind f (first answers) (rest answers)

-- ---- what an answer holds, where it is of its kind

abbrev pub bits_of : Answer → Option ℕ
bits_of (Bits x) = Some x
bits_of (Vectors rs) = None
bits_of (Stored bs) = None
bits_of (Success b) = None
bits_of (Length n) = None

abbrev pub vectors_of : Answer → Option (List (ℕ × ℕ))
vectors_of (Bits x) = None
vectors_of (Vectors rs) = Some rs
vectors_of (Stored bs) = None
vectors_of (Success b) = None
vectors_of (Length n) = None

abbrev pub stored_of : Answer → Option (List (Option ℕ))
stored_of (Bits x) = None
stored_of (Vectors rs) = None
stored_of (Stored bs) = Some bs
stored_of (Success b) = None
stored_of (Length n) = None

abbrev pub success_of : Answer → Option Bool
success_of (Bits x) = None
success_of (Vectors rs) = None
success_of (Stored bs) = None
success_of (Success b) = Some b
success_of (Length n) = None

abbrev pub length_of : Answer → Option ℕ
length_of (Bits x) = None
length_of (Vectors rs) = None
length_of (Stored bs) = None
length_of (Success b) = None
length_of (Length n) = Some n

-- ---- values with one part changed

-- the value of the integer register rs1, and of rs2
abbrev pub x_of : Decoded → FullValues → ℕ
x_of d v = reg v.ints d.rs1

abbrev pub y_of : Decoded → FullValues → ℕ
y_of d v = reg v.ints d.rs2

-- the address of a load or a store
abbrev pub address_of : Decoded → FullValues → ℕ
address_of d v = wrap (x_of d v + low64 d.imm)

-- a value goes to the integer register rd
abbrev pub put_x : Decoded → ℕ → FullValues → FullValues
put_x d x v = record { ints = set_reg v.ints d.rd x; units = v.units }

-- a value goes to the floating-point register rd
abbrev pub put_f : Decoded → ℕ → FullValues → FullValues
put_f d x v = record { ints = v.ints; units = set_freg v.units d.rd x }

abbrev pub put_units : Units → FullValues → FullValues
put_units u v = record { ints = v.ints; units = u }

abbrev pub put_memory : Memory → FullValues → FullValues
put_memory mem v = record { ints = record { regs = v.ints.regs; mem = mem }; units = v.units }

-- a step that took an answer: its operation, the registers that are read, the setting and frm, the bytes that a vector load reads,
-- and the answer
abbrev pub entry_of : Decoded → Units → List ℕ → List ℕ → Answer → Entry
entry_of d u inputs span answer =
    record { decoded = d; inputs = inputs; avl = u.setting.avl; vtype = u.setting.vtype; frm = u.frm; span = span; answer = answer }

abbrev pub noted : Entry → Units → Units
noted e u = with_trace u (u.trace ++ e ∷ [])
