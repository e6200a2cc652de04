use Rattle.std.proofs.Common.{ap, sym, ◌∙◌}
use Rattle.rv_full.specs.Rows.{rest}
use Rattle.rv_full.specs.Steps.{Machine, with_answers}
use Rattle.rv_full.specs.View.{machine_of, units_of}
use Rattle.rv_full.proofs.FirstAnswers.{rest_drop}
use Rattle.rv_full.proofs.machine.FullMachine.take.Goals as goal

pub returns-then-self-len : goal.returns-then-self-len
returns-then-self-len c =
    let m = c.self.inside in
    let old = machine_of m.integers (units_of m.floats m.vectors m.frm m.reserved m.setting m.trace) m.answers.items m.answers_taken in
    ap (with_answers old) (sym (rest_drop m.answers.items m.answers_taken))
    ∙ ap (λ (n : Machine). with_answers n (rest n.full.answers)) c.self.view_is
