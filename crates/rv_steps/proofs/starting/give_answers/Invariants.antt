use Rattle.std.proofs.Common.{◌≡◌, drop}
use Rattle.rv_steps.specs.Starting.{with_answers_of}
use Rattle.rv_steps.proofs.starting.give_answers.Given as goal

abbrev pub invariant-loop-answer : goal.invariant-loop-answer
invariant-loop-answer l = record {
  given : with_answers_of l.machine (drop l.answer-index l.answers) ≡ with_answers_of l.initial.machine l.answers;
  flags : l.machine.flags ≡ l.initial.machine.flags;
}
