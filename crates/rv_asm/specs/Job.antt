-- The job that a call of `assemble` is given.
use Rattle.std.specs.Prelude.{List}
use Rattle.rv_base.specs.declared.constant.Constant.{Constant}
use Rattle.rv_base.specs.declared.flags.IsaFlags.{IsaFlags}
use Rattle.rv_base.specs.declared.frame.FrameLayout.{FrameLayout}
use Rattle.rv_inst.specs.Context.{Context}
use Rattle.rv_inst.specs.declared.inst.Line.{Line}
use Rattle.rv_inst.specs.declared.job.Job.{Job}

abbrev pub job_of : List Line → IsaFlags → FrameLayout → List Constant → Job
job_of lines flags frame constants = record { lines = lines; flags = flags; frame = frame; constants = constants }

-- of these lines in a context
abbrev pub job_in : List Line → Context → Job
job_in lines context = job_of lines context.flags context.frame context.constants
