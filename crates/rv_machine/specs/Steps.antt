-- Steps of the machine, one and many.
use Rattle.std.specs.Prelude.{◌≡◌, ℕ, zero, suc, ◌+◌, ◌*◌, ◌%◌, ◌^◌, ◌<◌, nat_eq, if◌then◌else◌, List, length, slice_index, Option, Some, None, replicate}
use Rattle.std.specs.FinMap as map
use Rattle.rv_base.specs.declared.flags.IsaFlags.{IsaFlags}
use Rattle.rv_machine.specs.declared.decoding.Decoded.{Decoded}
use Rattle.rv_machine.specs.declared.ops.MOp.TheVariants.{Base}
use Rattle.rv_machine.specs.declared.ops.BaseOp.TheVariants.{Ebreak}
use Rattle.rv_machine.specs.declared.machine.Step.{Step}
use Rattle.rv_machine.specs.declared.machine.Step.TheVariants.{Stepped, Stopped}
use Rattle.rv_machine.specs.State.{Memory, State, byte, store, wrap, at, set_reg}
use Rattle.rv_machine.specs.Decode.{int_decode, decode}
use Rattle.rv_machine.specs.Effects.{act}

-- four bytes, the lowest first
abbrev pub fetch : Memory → ℕ → ℕ
fetch mem pc = byte mem pc + byte mem (wrap (pc + 1)) * 2 ^ 8 + byte mem (wrap (pc + 2)) * 2 ^ 16 + byte mem (wrap (pc + 3)) * 2 ^ 24

-- an ebreak stands there, of four bytes or of two
pub record IsBreak (flags : IsaFlags) (mem : Memory) (pc : ℕ) : Type 0 where
  pub d : Decoded
  pub there : int_decode flags (fetch mem pc) ≡ Some d
  pub is : d.op ≡ Base Ebreak

-- The halfword 0 stands there, which the manual sets aside as no instruction of any extension ("1.5 Base Instruction-Length
-- Encoding"). A law says that it decodes to none.
abbrev pub IsZeroHalf : Memory → ℕ → Type 0
IsZeroHalf mem pc = fetch mem pc % 2 ^ 16 ≡ 0

abbrev pub step_on : Option Decoded → State → Option State
step_on None s = None
step_on (Some d) s = act d s

-- one step, where the pc is even and the word there is an integer operation that has one
unfoldable pub istep : IsaFlags → State → Option State
istep flags s = if nat_eq (s.pc % 2) 0 then step_on (int_decode flags (fetch s.values.mem s.pc)) s else None

-- The same step over the operations of all units, none of which has one on this machine. A law says that it is the same.
abbrev pub step_of_all : IsaFlags → State → Option State
step_of_all flags s = if nat_eq (s.pc % 2) 0 then step_on (decode flags (fetch s.values.mem s.pc)) s else None

abbrev pub then_step : IsaFlags → Option State → Option State
then_step flags None = None
then_step flags (Some s) = istep flags s

-- the state after so many steps, each of which exists
unfoldable pub iter : IsaFlags → ℕ → State → Option State
iter flags zero s = Some s
iter flags (suc n) s = then_step flags (iter flags n s)

-- a machine: its flags, and the state that it is in
pub record Machine : Type 0 where
  pub flags : IsaFlags
  pub state : State

-- all registers 0, and every byte 0
abbrev pub zero_at : ℕ → State
zero_at pc = at pc (record { regs = replicate 31 0; mem = map.empty })

abbrev pub with_state : Machine → State → Machine
with_state m s = record { flags = m.flags; state = s }

abbrev pub with_pc : Machine → ℕ → Machine
with_pc m pc = with_state m (at pc m.state.values)

abbrev pub with_reg : Machine → ℕ → ℕ → Machine
with_reg m n x = with_state m (at m.state.pc (set_reg m.state.values n x))

abbrev pub with_memory : Machine → Memory → Machine
with_memory m mem = with_state m (at m.state.pc (record { regs = m.state.values.regs; mem = mem }))

-- bytes put at an address and on
abbrev pub with_bytes : Machine → ℕ → List ℕ → Machine
with_bytes m at bytes = with_memory m (store m.state.values.mem at bytes)

-- these bytes stand at an address and on
abbrev pub HasBytes : Machine → ℕ → List ℕ → Type 0
HasBytes m at bytes = (k : ℕ) → k < length bytes → byte m.state.values.mem (at + k) ≡ slice_index bytes k

-- what is answered where the next state is known: that the machine is in it, or that there is none and nothing changed
abbrev pub Goes : Step → Option State → Machine → Machine → Type 0
Goes Stepped next m n = (next ≡ Some n.state) × (n.flags ≡ m.flags)
Goes Stopped next m n = (next ≡ None) × (n ≡ m)

-- what a step returns
abbrev pub Steps : Step → Machine → Machine → Type 0
Steps step m n = Goes step (istep m.flags m.state) m n

-- so many steps of a machine
pub record Ran (k : ℕ) (m n : Machine) : Type 0 where
  pub steps : iter m.flags k m.state ≡ Some n.state
  pub flags_stay : n.flags ≡ m.flags
