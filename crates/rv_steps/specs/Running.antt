-- A run of code on the integer machine: its steps, and why it goes no further.
use Rattle.std.specs.Prelude.{◌≡◌, ℕ, ◌-◌, ◌%◌, ◌<◌, Bool, true, false, ◌&&◌, nat_le, nat_lt, ◌==◌, if◌then◌else◌, Option, Some, None, is_some}
use Rattle.std.specs.Option.{option_map_or}
use Rattle.rv_base.specs.declared.flags.IsaFlags.{IsaFlags}
use Rattle.rv_machine.specs.declared.ops.MOp.{MOp}
use Rattle.rv_machine.specs.declared.ops.MOp.TheVariants.{Base, Load, Store, Alu, Carry, Atomic, Csr, FloatLoad, FloatStore, Float, VecMem, Vec}
use Rattle.rv_machine.specs.declared.ops.BaseOp.{BaseOp}
use Rattle.rv_machine.specs.declared.ops.BaseOp.TheVariants.{Lui, Auipc, Jal, Jalr, Beq, Bne, Blt, Bge, Bltu, Bgeu, Fence, Ebreak}
use Rattle.rv_machine.specs.Decode.{int_decode}
use Rattle.rv_machine.specs.State.{State}
use Rattle.rv_machine.specs.Steps.{fetch, istep, iter}
use Rattle.rv_steps.specs.declared.ending.Ending.{Ending}
use Rattle.rv_steps.specs.declared.ending.Ending.TheVariants.{Left, Limit, Break, NoOperation}

-- the offset of an address in code of so many bytes that stands at the base
abbrev pub offset_in : ℕ → ℕ → ℕ → Option ℕ
offset_in base len address = if nat_le base address && nat_lt (address - base) len then Some (address - base) else None

abbrev pub is_break_base : BaseOp → Bool
is_break_base Lui = false
is_break_base Auipc = false
is_break_base Jal = false
is_break_base Jalr = false
is_break_base Beq = false
is_break_base Bne = false
is_break_base Blt = false
is_break_base Bge = false
is_break_base Bltu = false
is_break_base Bgeu = false
is_break_base Fence = false
is_break_base Ebreak = true

abbrev pub is_break_op : MOp → Bool
is_break_op (Base op) = is_break_base op
is_break_op (Load op) = false
is_break_op (Store op) = false
is_break_op (Alu op) = false
is_break_op (Carry op) = false
is_break_op (Atomic op width) = false
is_break_op (Csr op) = false
is_break_op (FloatLoad format) = false
is_break_op (FloatStore format) = false
is_break_op (Float format op) = false
is_break_op (VecMem op) = false
is_break_op (Vec funct6 funct3) = false

-- the word at the program counter
abbrev pub word_at : State → ℕ
word_at s = fetch s.values.mem s.pc

-- ebreak stands at the program counter
abbrev pub is_break : IsaFlags → State → Bool
is_break flags s = s.pc % 2 == 0 && option_map_or (λ d. is_break_op d.op) (int_decode flags (word_at s)) false

-- why the machine has no step from a state
abbrev pub stop_of : IsaFlags → ℕ → State → Ending
stop_of flags offset s = if is_break flags s then Break offset else NoOperation offset (word_at s)

-- why a run goes no further within the code, if it doesn't
abbrev pub ending_inside : IsaFlags → ℕ → ℕ → State → ℕ → Option Ending
ending_inside flags limit k s offset =
    if k == limit then Some Limit else
    if is_some (istep flags s) then None else
    Some (stop_of flags offset s)

abbrev pub ending_by : IsaFlags → ℕ → ℕ → State → Option ℕ → Option Ending
ending_by flags limit k s None = Some (Left s.pc)
ending_by flags limit k s (Some offset) = ending_inside flags limit k s offset

-- Why a run of at most so many steps goes no further after k of them; None where it does.
abbrev pub ending_of : IsaFlags → ℕ → ℕ → ℕ → ℕ → State → Option Ending
ending_of flags base len limit k s = ending_by flags limit k s (offset_in base len s.pc)

-- A run of code at the base, from one state to another: k steps, after which it first goes no further, for this cause.
pub record Runs (flags : IsaFlags) (base len limit : ℕ) (first : State) (k : ℕ) (last : State) (ending : Ending) : Type 0 where
  pub steps : iter flags k first ≡ Some last
  pub ends : ending_of flags base len limit k last ≡ Some ending
  pub on : (j : ℕ) (s : State) → j < k → iter flags j first ≡ Some s → ending_of flags base len limit j s ≡ None
