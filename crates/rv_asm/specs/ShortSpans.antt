-- How long the span of a line is at most: a law, which follows from what is reported.
use Rattle.std.specs.Prelude.{◌≡◌, ℕ, ◌+◌, ◌≤◌, slice_get, Some, None}
use Rattle.rv_inst.specs.Context.{Context, context_of}
use Rattle.rv_inst.specs.declared.inst.Line.{Line}
use Rattle.rv_inst.specs.declared.inst.Line.TheVariants.{Inst as Put, Bind}
use Rattle.rv_inst.specs.declared.job.Job.{Job}
use Rattle.rv_inst.specs.declared.code.Code.{Code}
use Rattle.rv_inst.specs.Sizes.{most_bytes, request_of}
use Rattle.rv_asm.specs.Reported.{Reported, start_of, end_of}

-- the span of an instruction that asks for no island itself has at most as many bytes as its kind may have
abbrev pub IsShort : Context → Line → ℕ → ℕ → Type 0
IsShort context (Put inst) start end = request_of context inst ≡ None → end ≤ start + most_bytes context inst
IsShort context (Bind label) start end = end ≡ start

-- the spans of the lines of a job are so in its code
abbrev pub SpansAreShort : Type 0
SpansAreShort =
    (job : Job) (code : Code) →
    Reported job code →
    (i : ℕ) (line : Line) →
    slice_get job.lines i ≡ Some line →
    IsShort (context_of job) line (start_of code.lines i) (end_of code.lines i)
