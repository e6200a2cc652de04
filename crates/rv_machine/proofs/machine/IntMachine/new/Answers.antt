use Rattle.std.proofs.Common.{sym, subst}
use Rattle.std.specs.Prelude.{replicate}
use Rattle.std.specs.FinMap as map
use Rattle.rv_machine.specs.State.{IsState, at}
use Rattle.rv_machine.proofs.States.{zero_state}
use Rattle.rv_machine.proofs.machine.IntMachine.new.Goals as goal
use Rattle.rv_machine.proofs.machine.IntMachine.new.Goals.{After-new}

-- the map of no entries is the empty one
begins : (c : After-new) → IsState (at c.args.pc (record { regs = replicate 31 0; mem = map.from_entries c.new.result.entries }))
begins c = subst (λ es. IsState (at c.args.pc (record { regs = replicate 31 0; mem = map.from_entries es }))) (sym c.new.ensures.empty) (zero_state c.args.pc c.ranges.pc.fits)

pub invariant_of-result : goal.invariant_of-result
invariant_of-result c = begins (goal.at.invariant_of-result c).After-new

pub returns-clause-state : goal.returns-clause-state
returns-clause-state c = begins (goal.at.returns-clause-state c).After-new
