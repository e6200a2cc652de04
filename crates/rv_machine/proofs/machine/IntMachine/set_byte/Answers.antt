use Rattle.std.proofs.Common.{ap, sym, subst, ◌∙◌}
use Rattle.std.specs.FinMap as map
use Rattle.rv_machine.specs.View.{machine_of}
use Rattle.rv_machine.specs.State.{Memory, IsState, at}
use Rattle.rv_machine.specs.Steps.{Machine, with_memory}
use Rattle.rv_machine.proofs.Memory.{get_at, inserted, on_err}
use Rattle.rv_machine.proofs.States.{set_byte_state}
use Rattle.rv_machine.proofs.machine.IntMachine.set_byte.Goals as goal

pub returns-clause-ok : goal.returns-clause-ok
returns-clause-ok c =
    let old = machine_of c.self.inside.flags c.self.inside.pc c.self.inside.regs c.self.inside.bytes.entries in
    ap (λ (mem : Memory). with_memory old mem) (inserted c.self.inside.bytes.entries c.insert.new.self.entries c.args.at c.args.byte c.in_ok-before.ensures.updates.0)
    ∙ ap (λ (m : Machine). with_memory m (map.insert m.state.values.mem c.args.at c.args.byte)) c.self.view_is

pub invariant_of-self-2 : goal.invariant_of-self-2
invariant_of-self-2 c =
    let old = c.self.inside in
    subst (λ (mem : Memory). IsState (at old.pc (record { regs = old.regs; mem = mem })))
    (sym (inserted old.bytes.entries c.insert.new.self.entries c.args.at c.args.byte c.in_ok-before.ensures.updates.0))
    (set_byte_state (machine_of old.flags old.pc old.regs old.bytes.entries).state c.args.at c.args.byte c.self.invariant c.ranges.byte.fits)

pub returns-clause-before : goal.returns-clause-before
returns-clause-before c =
    c.in_ok-before.ensures.old
    ∙ sym (get_at c.self.inside.bytes.entries c.args.at)
    ∙ ap (λ (m : Machine). map.get m.state.values.mem c.args.at) c.self.view_is

pub returns-in_err-before-clause-absent : goal.returns-in_err-before-clause-absent
returns-in_err-before-clause-absent c =
    on_err c.from_residual.result
    (ap (λ (m : Machine). map.get m.state.values.mem c.args.at) (sym c.self.view_is)
    ∙ get_at c.self.inside.bytes.entries c.args.at
    ∙ c.in_err-before.ensures.absent)
