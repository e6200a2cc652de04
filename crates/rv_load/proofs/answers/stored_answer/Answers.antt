use Rattle.std.proofs.Common.{[], Some}
use Rattle.rv_full.specs.declared.answer.Answer.TheVariants.{Stored}
use Rattle.rv_load.specs.Answers.{stored_after}
use Rattle.rv_load.proofs.Making.{no_more}
use Rattle.rv_load.proofs.answers.stored_answer.Goals as goal

pub returns-in-Err : goal.returns-in-Err
returns-in-Err c = no_more c.args.word (stored_after [] c.args.w.now) (λ bs. Some (Stored bs)) c.in-Err.error c.in-Err.ensures
