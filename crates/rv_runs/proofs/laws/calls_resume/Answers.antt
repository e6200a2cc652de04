use Rattle.rv_runs.proofs.CallRuns.{inst_resumes}
use Rattle.rv_runs.proofs.laws.calls_resume.Goals as goal

pub returns : goal.returns
returns c = inst_resumes
