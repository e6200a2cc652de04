use Rattle.std.proofs.Common.{◌≡◌, None, refl, subst, sym}
use Rattle.std.proofs.lemmas.Result.{IfOk-weaker}
use Rattle.rv_inst.specs.declared.job.Job.{Job}
use Rattle.rv_asm.specs.Job.{job_of}
use Rattle.rv_asm.specs.Refusal.{refusal}
use Rattle.rv_command.specs.declared.outcome.Outcome.TheVariants as ends
use Rattle.rv_command.specs.Outcomes.{IsCodeOf, wanted}
use Rattle.rv_command.proofs.Outcomes.{means_of_answer}
use Rattle.rv_command.proofs.answer.answer_of_accepted.Goals as goal

pub assemble_checked-requires : goal.assemble_checked-requires
assemble_checked-requires c =
    let job = c.args.job in
    let same : job_of c.as_slice.result.now job.flags job.frame c.as_slice-2.result.now ≡ job = λ i. job_of (c.as_slice.ensures i) job.flags job.frame (c.as_slice-2.ensures i) in
    record { accepted = subst (λ (j : Job). refusal j ≡ None) (sym same) c.requires }

pub returns : goal.returns
returns c =
    let job = c.args.job in
    let code = c.in_ok-code.code in
    let facts = c.in_ok-code.ensures in
    let same : job_of c.as_slice.result.now job.flags job.frame c.as_slice-2.result.now ≡ job = λ i. job_of (c.as_slice.ensures i) job.flags job.frame (c.as_slice-2.ensures i) in
    let accepted : refusal (job_of c.as_slice.result.now job.flags job.frame c.as_slice-2.result.now) ≡ None = subst (λ (j : Job). refusal j ≡ None) (sym same) c.requires in
    let own : IsCodeOf job code = subst (λ (j : Job). IsCodeOf j code) same (accepted, facts.reported, facts.runs, facts.full_runs, facts.operations, facts.full_operations, facts.ranges) in
    IfOk-weaker c.done.result _ _ (λ answer is. means_of_answer c.args.request job (ends.Done code) (wanted c.args.request job code) answer is (own, refl)) c.done.ensures
