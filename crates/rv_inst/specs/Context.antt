-- What a line of a job is read in: the machine's flags, the frame and the constants.
use Rattle.std.specs.Prelude.{List}
use Rattle.rv_base.specs.declared.constant.Constant.{Constant}
use Rattle.rv_base.specs.declared.flags.IsaFlags.{IsaFlags}
use Rattle.rv_base.specs.declared.frame.FrameLayout.{FrameLayout}
use Rattle.rv_inst.specs.declared.job.Job.{Job}

pub record Context : Type 0 where
  pub flags : IsaFlags
  pub frame : FrameLayout
  pub constants : List Constant

-- by the flags, the frame and the constants
abbrev pub context_by : IsaFlags → FrameLayout → List Constant → Context
context_by flags frame constants = record { flags = flags; frame = frame; constants = constants }

-- the context of a job's lines
abbrev pub context_of : Job → Context
context_of job = context_by job.flags job.frame job.constants
