use Rattle.std.proofs.Common.{inl}
use Rattle.rv_run.specs.declared.outcome.Outcome.TheVariants as ends
use Rattle.rv_run.proofs.Writing.{ended_written}
use Rattle.rv_run.proofs.program.run_words.Goals as goal

pub returns-in-Err-Help-clause-ended : goal.returns-in-Err-Help-clause-ended
returns-in-Err-Help-clause-ended g c = ended_written _ (ends.Help c.in-Err-Help.text) _ (rw c.in-Err-Help.field-0-is at c.in-Err-Help.ensures) c.tell.ensures

pub returns-in-Err-Version-clause-ended : goal.returns-in-Err-Version-clause-ended
returns-in-Err-Version-clause-ended g c = ended_written _ (ends.Version c.in-Err-Version.text) _ (rw c.in-Err-Version.field-0-is at c.in-Err-Version.ensures) c.tell-in-Err-Version.ensures

pub returns-in-Err-Wrong-clause-ended : goal.returns-in-Err-Wrong-clause-ended
returns-in-Err-Wrong-clause-ended g c = ended_written _ (ends.Usage c.in-Err-Wrong.text) _ (rw c.in-Err-Wrong.field-0-is at c.in-Err-Wrong.ensures) c.tell-in-Err-Wrong.ensures

pub returns-in-Ok-word_text-clause-ended : goal.returns-in-Ok-word_text-clause-ended
returns-in-Ok-word_text-clause-ended g c =
    ended_written _ (ends.BadWord c.in-Err-Bad.word c.in-Ok-word_text.word) _
    (inl (c.in-Ok.given, c.in-Ok.ensures, (rw c.in-Err-Bad.field-0-is at c.in-Err-Bad.ensures), c.in-Ok-word_text.ensures)) c.tell-in-Ok-word_text.ensures
