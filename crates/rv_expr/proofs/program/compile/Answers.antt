use Rattle.std.proofs.Common.{◌≡◌, ◌∙◌, [], None, rules, subst, sym}
use Rattle.rv_inst.specs.declared.job.Job.{Job}
use Rattle.rv_asm.specs.FineLines.{plain_job}
use Rattle.rv_asm.specs.Job.{job_of}
use Rattle.rv_asm.specs.Refusal as asm
use Rattle.rv_asm.specs.Reported.{Reported}
use Rattle.rv_asm.specs.Simulation.{RunsAsListed}
use Rattle.rv_asm.proofs.Laws.{only_memory_left}
use Rattle.rv_expr.specs.Listing.{listing}
use Rattle.rv_expr.specs.Refusal.{refusal}
use Rattle.rv_expr.proofs.Accepted.{accepted}
use Rattle.rv_expr.proofs.Programs.{computes_value, whole}
use Rattle.rv_expr.proofs.Validity.{not_refused}
use Rattle.rv_expr.proofs.program.compile.Goals as goal

pub returns-in-Ok-clause-computes : goal.returns-in-Ok-clause-computes
returns-in-Ok-clause-computes c =
    let none : refusal c.args.ops.now ≡ None = search rules in
    let listed : c.deref.result.now ≡ listing c.args.ops.now = c.deref.ensures.value ∙ c.in_ok-lines.ensures in
    let job : job_of c.deref.result.now c.args.flags c.none-frame.result [] ≡ plain_job (listing c.args.ops.now) c.args.flags = λ i. job_of (listed i) c.args.flags (c.none-frame.ensures i) [] in
    computes_value c.args.flags c.args.ops.now c.in-Ok.code (accepted c.args.ops.now none)
    (subst (λ (j : Job). Reported j c.in-Ok.code) job c.in-Ok.ensures.reported)
    (subst (λ (j : Job). RunsAsListed j c.in-Ok.code) job c.in-Ok.ensures.runs)

pub returns-in-Ok-clause-whole : goal.returns-in-Ok-clause-whole
returns-in-Ok-clause-whole c =
    let listed : c.deref.result.now ≡ listing c.args.ops.now = c.deref.ensures.value ∙ c.in_ok-lines.ensures in
    let job : job_of c.deref.result.now c.args.flags c.none-frame.result [] ≡ plain_job (listing c.args.ops.now) c.args.flags = λ i. job_of (listed i) c.args.flags (c.none-frame.ensures i) [] in
    whole c.args.flags c.args.ops.now c.in-Ok.code (subst (λ (j : Job). Reported j c.in-Ok.code) job c.in-Ok.ensures.reported)

pub no_memory-requires : goal.no_memory-requires
no_memory-requires c =
    let none : refusal c.args.ops.now ≡ None = search rules in
    let listed : c.deref.result.now ≡ listing c.args.ops.now = c.deref.ensures.value ∙ c.in_ok-lines.ensures in
    let job : job_of c.deref.result.now c.args.flags c.none-frame.result [] ≡ plain_job (listing c.args.ops.now) c.args.flags = λ i. job_of (listed i) c.args.flags (c.none-frame.ensures i) [] in
    let valid : asm.refusal (job_of c.deref.result.now c.args.flags c.none-frame.result []) ≡ None = subst (λ (j : Job). asm.refusal j ≡ None) (sym job) (not_refused c.args.flags c.args.ops.now (accepted c.args.ops.now none)) in
    only_memory_left _ c.in-Err.error valid c.in-Err.ensures.refused
