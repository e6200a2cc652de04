use Rattle.std.proofs.Common.{rules, ◌≡◌, ◌++◌, ◌-◌, Option, subst}
use Rattle.rv_steps.specs.declared.ending.Ending.{Ending}
use Rattle.rv_steps.specs.Callees.{callee_at}
use Rattle.rv_steps.specs.Computed.{Turns}
use Rattle.rv_steps.specs.Running.{word_at}
use Rattle.rv_steps.specs.Tracing.{line_after}
use Rattle.rv_steps.proofs.HostGoing.{line_of_turn}
use Rattle.rv_steps.proofs.tracing.traced_turn.Goals as goal

pub returns-in_ok-put_line-in-None : goal.returns-in_ok-put_line-in-None
returns-in_ok-put_line-in-None c =
    let callees = c.args.callees.now in
    let flags = c.args.flags in
    let base = c.args.place.base in
    let old = c.args.machine.now in
    let new = c.host_turn.new.machine in
    let text = c.args.out.now.items in
    let new_text = c.put_line.new.out.items in
    let TurnsTo : Option Ending → Type 0 = λ stop. Turns c.args.host callees base c.args.place.len c.args.limit c.args.done old new stop in
    let turns = subst TurnsTo c.in-None.is c.in_ok-ending.ensures in
    let put : new_text ≡ text ++ line_after (callee_at callees old.full.state.pc) flags (old.full.state.pc - base) (word_at old.full.state) old.full.units.vectors new.full = search rules in
    record { turns = turns; line = line_of_turn callees flags base turns.due old new text new_text c.requires.flags turns.turned.1 put }
