use Rattle.std.proofs.Common.{rules, ◌≡◌, ◌∙◌, Option, Some, true, ap, sym, subst}
use Rattle.std.proofs.lemmas.Result.{IfOk-weaker}
use Rattle.rv_base.specs.declared.flags.IsaFlags.{IsaFlags}
use Rattle.rv_full.specs.Steps.{Machine}
use Rattle.rv_steps.specs.Callees.{StepOrEnding}
use Rattle.rv_steps.specs.Computed.{computed, is_wanting, with_due}
use Rattle.rv_steps.proofs.HostGoing.{is_wanted, turns_answered}
use Rattle.rv_steps.proofs.host.host_turn.Goals as goal

pub returns-in_ok-give-in-Some : goal.returns-in_ok-give-in-Some
returns-in_ok-give-in-Some c =
    let host = c.args.host in
    let callees = c.args.callees.now in
    let base = c.args.place.base in
    let len = c.args.place.len in
    let limit = c.args.limit in
    let done = c.args.done in
    let old = c.args.machine.now in
    let mid = c.turn.new.machine in
    let new = c.turn-in-Some.new.machine in
    let answer = c.in-Some.answer in
    let wanted = c.in_ok-stop.stop in
    let is : is_wanting wanted ≡ true = search rules in
    let turned = c.in_ok-stop.ensures in
    let same : mid ≡ old = (is_wanted host callees base len limit done old mid new answer wanted is turned).1 in
    let flags : c.args.flags ≡ mid.flags = sym (ap (λ (m : Machine). m.flags) same ∙ c.requires.flags) in
    let answers : computed host mid.flags mid.full ≡ Some answer = subst (λ (f : IsaFlags). computed host f mid.full ≡ Some answer) flags (sym c.in-Some.ensures) in
    let given : c.give.new.self ≡ with_due (Some answer) mid = c.in_ok-give-in-Some.ensures.ok in
    IfOk-weaker c.turn-in-Some.result _ _
    (λ result h.
    turns_answered host callees base len limit done old mid new answer wanted result is turned answers
    (subst (λ (m : Machine). StepOrEnding callees base len limit done m new result) given h))
    c.turn-in-Some.ensures
