use Rattle.std.proofs.Common.{◌≡◌, Err, None, refl, subst}
use Rattle.std.proofs.lemmas.Result.{IfOk-weaker}
use Rattle.rv_inst.specs.declared.job.Job.{Job}
use Rattle.rv_asm.specs.Job.{job_of}
use Rattle.rv_asm.specs.Refusal.{Finds, refusal}
use Rattle.rv_command.specs.declared.outcome.Outcome.TheVariants as ends
use Rattle.rv_command.specs.Outcomes.{error_line}
use Rattle.rv_command.proofs.Outcomes.{is_refused, means_of_answer}
use Rattle.rv_command.proofs.answer.answer_of_job.Goals as goal

pub answer_of_accepted-requires : goal.answer_of_accepted-requires
answer_of_accepted-requires c =
    let job = c.args.job in
    let same : job_of c.as_slice.result.now job.flags job.frame c.as_slice-2.result.now ≡ job = λ i. job_of (c.as_slice.ensures i) job.flags job.frame (c.as_slice-2.ensures i) in
    subst (λ (j : Job). refusal j ≡ None) same c.in-Ok.ensures

pub returns-in-Err : goal.returns-in-Err
returns-in-Err c =
    let job = c.args.job in
    let error = c.in-Err.error in
    let same : job_of c.as_slice.result.now job.flags job.frame c.as_slice-2.result.now ≡ job = λ i. job_of (c.as_slice.ensures i) job.flags job.frame (c.as_slice-2.ensures i) in
    let own : Finds {X = Unit {0}} (refusal job) (Err error) = subst (λ (j : Job). Finds {X = Unit {0}} (refusal j) (Err error)) same c.in-Err.ensures in
    IfOk-weaker c.refused.result _ _ (λ answer is. means_of_answer c.args.request job (ends.Refused error) (error_line error) answer is.1 (is_refused job error is.0 own, refl)) c.refused.ensures
