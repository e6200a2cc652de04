-- What is said of an instruction's code: its size, where it asks for an island, its operation and its records.
use Rattle.std.specs.Prelude.{ℕ, ◌≡◌, ◌≤◌, ◌==◌, if◌then◌else◌, Option, Some, None, pos, Bool, false, not, ◌&&◌, List, []}
use Rattle.rv_base.specs.declared.flags.IsaFlags.{IsaFlags}
use Rattle.mach_records.specs.declared.records.MachRecord.{MachRecord}
use Rattle.rv_machine.specs.declared.decoding.Decoded.{Decoded}
use Rattle.rv_ops.specs.declared.alu.AluOPRRI.TheVariants as rri
use Rattle.rv_inst.specs.Forms.{short_rri}

-- a number of bytes: exactly so many, or at most
pub data Size : Type 0 where
  Exactly : ℕ → Size
  AtMost : ℕ → Size

abbrev pub IsOfSize : Size → ℕ → Type 0
IsOfSize (Exactly n) bytes = bytes ≡ n
IsOfSize (AtMost n) bytes = bytes ≤ n

abbrev pub most_of : Size → ℕ
most_of (Exactly n) = n
most_of (AtMost n) = n

-- An island that an instruction asks for among its own bytes, where one is needed: how many of these stand before it; before how many bytes
-- it is needed, by how many of them follow it; and what the instruction counts for beside what each line does.
pub record Request : Type 0 where
  pub first : Size
  pub space : ℕ → ℕ
  pub extra : ℕ

-- How many bytes an instruction puts, an island apart; where it asks for one; of one machine word, the operation that stands for it, in
-- sixteen bits where it has such a form; what it records, by the offsets where its bytes begin and end; and whether a word of four bytes
-- stands before those that take its label or its constant.
pub record InstCode : Type 0 where
  pub size : Size
  pub request : Option Request
  pub operation : Option Decoded
  pub records : ℕ → ℕ → List MachRecord
  pub led : Bool

abbrev pub words : Size → InstCode
words size = record { size = size; request = None; operation = None; records = λ start end. []; led = false }

abbrev pub one_word : Decoded → InstCode
one_word d = record (words (AtMost 4)) { operation = Some d }

-- the bytes of a trap, which are all 0
abbrev pub trap_size : IsaFlags → ℕ
trap_size flags = if flags.has_zca then 2 else 4

-- the low byte, zero-extended
abbrev pub is_byte : Bool → ℕ → Bool
is_byte signed bits = not signed && bits == 8

-- the low byte, zero-extended, is andi of 255; any other extension takes two shifts
abbrev pub extend_operation : IsaFlags → ℕ → ℕ → Bool → ℕ → Option Decoded
extend_operation flags rd rn signed bits = if is_byte signed bits then Some (short_rri flags rri.Andi rd rn (pos 255)) else None
