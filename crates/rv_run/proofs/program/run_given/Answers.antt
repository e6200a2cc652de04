use Rattle.std.proofs.Common.{List, ℕ, rules, subst}
use Rattle.rv_run.specs.declared.outcome.Outcome.TheVariants as ends
use Rattle.rv_run.specs.Outcomes.{Call, Means, call, taken}
use Rattle.rv_run.proofs.Writing.{ended_written, due_read}
use Rattle.rv_run.proofs.program.run_given.Goals as goal

pub returns-in-Err-TooLong : goal.returns-in-Err-TooLong
returns-in-Err-TooLong g c words asked =
    ended_written _ ends.TooLong _ ((c.args.given.now, c.args.settings.now, asked), search rules) c.tell.ensures

pub returns-in-Ok-outcome_of_input : goal.returns-in-Ok-outcome_of_input
returns-in-Ok-outcome_of_input g c words asked =
    let MeansOf : List ℕ → Type 0 = λ input. Means c.args.given.now c.args.settings.now input c.in-Ok-outcome_of_input.outcome in
    let the_call : Call = call words (g.S.Source.left c.args.source.now) (g.S.Source.left c.read_all.new.source) (g.S.Source.faults c.args.source.now) (g.S.Source.faults c.read_all.new.source)
    (taken (g.K.Sink.taken c.args.sink.now) (g.K.Sink.taken c.tell-in-Ok-outcome_of_input.new.sink) (g.K.Sink.faults c.args.sink.now) (g.K.Sink.faults c.tell-in-Ok-outcome_of_input.new.sink))
    (taken (g.E.Sink.taken c.args.errors.now) (g.E.Sink.taken c.tell-in-Ok-outcome_of_input.new.errors) (g.E.Sink.faults c.args.errors.now) (g.E.Sink.faults c.tell-in-Ok-outcome_of_input.new.errors)) in
    ended_written the_call c.in-Ok-outcome_of_input.outcome _
    (due_read the_call c.in-Ok-outcome_of_input.outcome (c.args.given.now, c.args.settings.now, asked, c.in-Ok.input.items, c.in-Ok.ensures.all, c.in-Ok.ensures.short, subst MeansOf c.deref.ensures.value c.in-Ok-outcome_of_input.ensures))
    c.tell-in-Ok-outcome_of_input.ensures
