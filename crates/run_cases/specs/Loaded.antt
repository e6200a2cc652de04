-- Code in the machine of this project, at its start.
use Rattle.std.specs.Prelude.{◌≡◌, ℕ}
use Rattle.rv_inst.specs.declared.code.Code.{Code}
use Rattle.rv_inst.specs.SameValues.{Same}
use Rattle.rv_machine.specs.State.{IsState, AreValues}
use Rattle.rv_machine.specs.Steps.{Machine}
use Rattle.rv_asm.specs.Placed.{Addresses, IsPlaced}
use Rattle.rv_asm.specs.Simulation.{At, address_of}

-- what the headline asks of a state before a line, beside values that are the same as its own
pub record IsBefore (code : Code) (base i : ℕ) (m : Machine) : Type 0 where
  pub placed : (symbols slots : Addresses) → IsPlaced code base symbols slots m.state.values.mem
  pub state : IsState m.state
  pub values : AreValues m.state.values
  pub same : Same m.state.values m.state.values
  pub pc : m.state.pc ≡ address_of code base (At i)
