use Rattle.std.proofs.Common.{rules, ◌≡◌, ℕ, Option, [], false, arith, refl, subst}
use Rattle.rv_steps.specs.declared.ending.Ending.{Ending}
use Rattle.rv_steps.specs.Computed.{Turns}
use Rattle.rv_steps.proofs.HostGoing.{Under, under_none, under_turn, turn_ends, limit_ends, of_machine}
use Rattle.rv_steps.proofs.running.run_code.Goals as goal

pub loop-done-init : goal.loop-done-init
loop-done-init g c = record { under = under_none c.args.host false c.args.callees.now c.args.flags _ _ _ c.args.machine.now [] c.requires refl; few = omega arith }

pub loop-done-preserved : goal.loop-done-preserved
loop-done-preserved g c =
    let callees = c.args.callees.now in
    let TurnsTo : Option Ending → Type 0 = λ stop. Turns c.args.host callees c.args.place.base c.args.place.len c.args.limit c.loop-done.done c.loop-done.machine c.host_turn.new.machine stop in
    record {
      under = under_turn c.args.host callees c.args.flags c.args.place.base c.args.place.len c.args.limit c.args.machine.now.full c.loop-done.done c.loop-done.calls c.loop-done.machine c.host_turn.new.machine
          c.call_at-call.result c.call_at-call.ensures.is c.loop-done.invariant.under (subst TurnsTo c.in-None.is c.in_ok-host_turn.ensures);
      few = omega (arith, c.loop-done.invariant.few, c.call_at-call.ensures.few);
    }

pub returns-in-Some : goal.returns-in-Some
returns-in-Some g c =
    let callees = c.args.callees.now in
    let TurnsTo : Option Ending → Type 0 = λ stop. Turns c.args.host callees c.args.place.base c.args.place.len c.args.limit c.loop-done.done c.loop-done.machine c.host_turn.new.machine stop in
    of_machine c.loop-done.invariant.few c.requires
    (turn_ends c.args.host callees c.args.flags c.args.place.base c.args.place.len c.args.limit c.args.machine.now.full c.loop-done.done c.loop-done.calls c.loop-done.machine c.host_turn.new.machine
    false [] c.in-Some.ending c.loop-done.invariant.under (subst TurnsTo c.in-Some.is c.in_ok-host_turn.ensures))

pub returns : goal.returns
returns g c =
    let callees = c.args.callees.now in
    let UnderAt : ℕ → Type 0 = λ k. Under c.args.host false callees c.args.flags c.args.place.base c.args.place.len c.args.limit c.args.machine.now.full k c.loop-done.calls c.loop-done.machine [] in
    let all : c.loop-done.done ≡ c.args.limit = search rules in
    of_machine (omega (arith, c.loop-done.invariant.few, all)) c.requires
    (limit_ends c.args.host false callees c.args.flags c.args.place.base c.args.place.len c.args.limit c.args.machine.now.full c.loop-done.calls c.loop-done.machine [] c.last_ending.result
    (subst UnderAt all c.loop-done.invariant.under) c.last_ending.ensures.ends c.last_ending.ensures.unanswered)
