use Rattle.std.proofs.Common.{rules, ◌≡◌, ℕ, Option, true, arith, subst}
use Rattle.rv_steps.specs.declared.ending.Ending.{Ending}
use Rattle.rv_steps.specs.Computed.{TurnsTraced}
use Rattle.rv_steps.proofs.HostGoing.{Under, under_none, under_traced, traced_ends, limit_ends, of_machine}
use Rattle.rv_steps.proofs.tracing.run_traced.Goals as goal

pub loop-done-init : goal.loop-done-init
loop-done-init g c =
    record { under = under_none c.args.host true c.args.callees.now c.args.flags _ _ _ c.args.machine.now c.args.out.now.items c.requires.flags c.requires.empty; few = omega arith }

pub loop-done-preserved : goal.loop-done-preserved
loop-done-preserved g c =
    let callees = c.args.callees.now in
    let old = c.loop-done.machine in
    let new = c.traced_turn.new.machine in
    let text = c.loop-done.out.items in
    let TurnsTo : Option Ending → Type 0 =
    λ stop. TurnsTraced c.args.host callees c.args.flags c.args.place.base c.args.place.len c.args.limit c.loop-done.done old new text c.traced_turn.new.out.items stop in
    record {
      under = under_traced c.args.host callees c.args.flags c.args.place.base c.args.place.len c.args.limit c.args.machine.now.full c.loop-done.done c.loop-done.calls old new
          c.call_at-call.result c.call_at-call.ensures.is text c.traced_turn.new.out.items c.loop-done.invariant.under (subst TurnsTo c.in-None.is c.in_ok-traced_turn.ensures);
      few = omega (arith, c.loop-done.invariant.few, c.call_at-call.ensures.few);
    }

pub returns-in-Some : goal.returns-in-Some
returns-in-Some g c =
    let callees = c.args.callees.now in
    let old = c.loop-done.machine in
    let new = c.traced_turn.new.machine in
    let text = c.loop-done.out.items in
    let TurnsTo : Option Ending → Type 0 =
    λ stop. TurnsTraced c.args.host callees c.args.flags c.args.place.base c.args.place.len c.args.limit c.loop-done.done old new text c.traced_turn.new.out.items stop in
    of_machine c.loop-done.invariant.few c.requires.flags
    (traced_ends c.args.host callees c.args.flags c.args.place.base c.args.place.len c.args.limit c.args.machine.now.full c.loop-done.done c.loop-done.calls old new text c.traced_turn.new.out.items
    c.in-Some.ending c.loop-done.invariant.under (subst TurnsTo c.in-Some.is c.in_ok-traced_turn.ensures))

pub returns : goal.returns
returns g c =
    let callees = c.args.callees.now in
    let UnderAt : ℕ → Type 0 =
    λ k. Under c.args.host true callees c.args.flags c.args.place.base c.args.place.len c.args.limit c.args.machine.now.full k c.loop-done.calls c.loop-done.machine c.loop-done.out.items in
    let all : c.loop-done.done ≡ c.args.limit = search rules in
    of_machine (omega (arith, c.loop-done.invariant.few, all)) c.requires.flags
    (limit_ends c.args.host true callees c.args.flags c.args.place.base c.args.place.len c.args.limit c.args.machine.now.full c.loop-done.calls c.loop-done.machine c.loop-done.out.items c.last_ending.result
    (subst UnderAt all c.loop-done.invariant.under) c.last_ending.ensures.ends c.last_ending.ensures.unanswered)
