use Rattle.std.proofs.Common.{ap, sym, subst, ◌∙◌}
use Rattle.std.specs.FinMap as map
use Rattle.rv_machine.specs.View.{machine_of}
use Rattle.rv_machine.specs.State.{Memory, IsState, at}
use Rattle.rv_machine.specs.Steps.{Machine, with_memory}
use Rattle.rv_machine.proofs.Memory.{removed}
use Rattle.rv_machine.proofs.States.{clear_byte_state}
use Rattle.rv_machine.proofs.machine.IntMachine.clear_byte.Goals as goal

pub returns : goal.returns
returns c =
    let old = machine_of c.self.inside.flags c.self.inside.pc c.self.inside.regs c.self.inside.bytes.entries in
    ap (λ (mem : Memory). with_memory old mem) (removed c.self.inside.bytes.entries c.remove.new.self.entries c.args.at c.remove.ensures.updates.0)
    ∙ ap (λ (m : Machine). with_memory m (map.remove m.state.values.mem c.args.at)) c.self.view_is

pub invariant_of-self : goal.invariant_of-self
invariant_of-self c =
    let old = c.self.inside in
    subst (λ (mem : Memory). IsState (at old.pc (record { regs = old.regs; mem = mem })))
    (sym (removed old.bytes.entries c.remove.new.self.entries c.args.at c.remove.ensures.updates.0))
    (clear_byte_state (machine_of old.flags old.pc old.regs old.bytes.entries).state c.args.at c.self.invariant)
