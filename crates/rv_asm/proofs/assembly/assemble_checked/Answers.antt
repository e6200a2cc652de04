use Rattle.std.proofs.lemmas.Result.{IfOk-weaker}
use Rattle.{rv_asm.proofs.FinishedCode.{finished_full_operations, finished_full_runs, finished_operations, finished_ranges, finished_reported, finished_runs}, rv_asm.proofs.RefusalOrder.{accepted_frame, accepted_lines}, rv_asm.specs.Job.job_of}
use Rattle.rv_asm.proofs.assembly.assemble_checked.Goals as goal

pub build-requires-clause-frame : goal.build-requires-clause-frame
build-requires-clause-frame c = accepted_frame (job_of c.args.lines.now c.args.flags c.args.frame.now c.args.constants.now) c.requires.accepted

pub build-requires-clause-accepted : goal.build-requires-clause-accepted
build-requires-clause-accepted c = accepted_lines (job_of c.args.lines.now c.args.flags c.args.frame.now c.args.constants.now) c.requires.accepted

pub returns : goal.returns
returns c =
    let job = job_of c.args.lines.now c.args.flags c.args.frame.now c.args.constants.now in
    let accepted = c.requires.accepted in
    let built = c.build.result in
    record {
      reported = IfOk-weaker built _ _ (λ code f. finished_reported job code accepted f) c.build.ensures;
      runs = IfOk-weaker built _ _ (λ code f. finished_runs job code accepted f) c.build.ensures;
      full_runs = IfOk-weaker built _ _ (λ code f. finished_full_runs job code accepted f) c.build.ensures;
      operations = IfOk-weaker built _ _ (λ code f. finished_operations job code accepted f) c.build.ensures;
      full_operations = IfOk-weaker built _ _ (λ code f. finished_full_operations job code accepted f) c.build.ensures;
      ranges = IfOk-weaker built _ _ (λ code f. finished_ranges job code accepted f) c.build.ensures;
    }
