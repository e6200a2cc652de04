-- What it is for code to compute the value of a program.
use Rattle.std.specs.Prelude.{◌≡◌, ℕ, ◌+◌, ◌*◌, ◌/◌, ◌^◌, ◌<◌, ◌≤◌, ◌⊎◌, List, length, slice_index, Some}
use Rattle.rv_base.specs.declared.flags.IsaFlags.{IsaFlags}
use Rattle.rv_inst.specs.declared.code.Code.{Code}
use Rattle.rv_machine.specs.State.{State, IsState, byte, reg}
use Rattle.rv_machine.specs.Steps.{iter}
use Rattle.rv_asm.specs.Placed.{Addresses, IsPlaced}
use Rattle.rv_expr.specs.declared.ops.ExprOp.{ExprOp}
use Rattle.rv_expr.specs.Value.{value}
use Rattle.rv_expr.specs.Frame.{frame_size, IsOutside}

-- The machine is about to run code that writes so many bytes below the stack pointer, which is x2: the code is placed and has none
-- of these bytes, the program counter is at its start, and the arguments are in a0 to a7, which are x10 to x17.
pub record IsEntered (code : Code) (base : ℕ) (symbols slots : Addresses) (size : ℕ) (inputs : List ℕ) (s : State) : Type 0 where
  pub state : IsState s
  pub placed : IsPlaced code base symbols slots s.values.mem
  pub start : s.pc ≡ base
  pub args : (k : ℕ) → k < 8 → reg s.values (10 + k) ≡ slice_index inputs k
  pub apart : (k : ℕ) → k < length code.bytes → IsOutside (reg s.values 2) size (base + k)

-- ra, sp, gp and tp; s0 and s1; s2 to s11
abbrev pub IsKept : ℕ → Type 0
IsKept n = (n ≤ 4) ⊎ ((8 ≤ n) × (n ≤ 9)) ⊎ ((18 ≤ n) × (n ≤ 27))

-- In some steps the machine returns to the address in ra, which is x1, with a number in a0. Registers that a callee keeps are as at the
-- entry, and so is the memory but for so many bytes below the stack pointer.
pub record Returns (flags : IsaFlags) (size number : ℕ) (s : State) : Type 0 where
  pub steps : ℕ
  pub state : State
  pub ran : iter flags steps s ≡ Some state
  pub left : state.pc ≡ reg s.values 1 / 2 * 2
  pub answer : reg state.values 10 ≡ number
  pub kept : (n : ℕ) → IsKept n → reg state.values n ≡ reg s.values n
  pub memory : (a : ℕ) → a < 2 ^ 64 → IsOutside (reg s.values 2) size a → byte state.values.mem a ≡ byte s.values.mem a

-- Wherever the code is placed, and from every state in which it is entered, it returns the value of the program.
pub record Computes (flags : IsaFlags) (ops : List ExprOp) (code : Code) : Type 0 where
  pub from :
      (base : ℕ) (symbols slots : Addresses) (args : List ℕ) (s : State) →
      IsEntered code base symbols slots (frame_size (length ops)) args s →
      Returns flags (frame_size (length ops)) (value ops args) s
