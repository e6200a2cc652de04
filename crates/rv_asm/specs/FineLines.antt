-- Lines for which a job is refused for no cause, and lines that leave nothing to fill: each law is the contract of a function of `line_laws`.
use Rattle.std.specs.Prelude.{◌≡◌, ℕ, ◌+◌, ◌*◌, ◌<◌, ◌≤◌, Bool, false, List, [], length, None, Err, ℤ}
use Rattle.std.specs.List.{AllByRecursion}
use Rattle.rv_base.specs.Frame.{no_frame}
use Rattle.rv_base.specs.Regs.{int_reg}
use Rattle.rv_base.specs.declared.amode.AMode.TheVariants.{SPOffset}
use Rattle.rv_base.specs.declared.flags.IsaFlags.{IsaFlags}
use Rattle.rv_base.specs.declared.mem_flags.MemFlagsData.{MemFlagsData}
use Rattle.rv_ops.specs.declared.memory.LoadOP.TheVariants.{Ld}
use Rattle.rv_ops.specs.declared.memory.StoreOP.TheVariants.{Sd}
use Rattle.rv_inst.specs.Addresses.{is_distant}
use Rattle.rv_inst.specs.Context.{Context, context_of}
use Rattle.rv_inst.specs.Frames.{is_bad_frame}
use Rattle.rv_inst.specs.Operands.{named_labels}
use Rattle.rv_inst.specs.Rules.{broken_rule}
use Rattle.rv_inst.specs.Sizes.{line_size, line_sum}
use Rattle.rv_inst.specs.declared.code.Code.{Code}
use Rattle.rv_inst.specs.declared.error.EmitError.{EmitError}
use Rattle.rv_inst.specs.declared.error.EmitError.TheVariants.{OutOfMemory, BadFrame, Malformed, LabelTwice, UnboundLabel, TooLarge}
use Rattle.rv_inst.specs.declared.inst.Inst.TheVariants.{Load, Store}
use Rattle.rv_inst.specs.declared.inst.Line.{Line}
use Rattle.rv_inst.specs.declared.inst.Line.TheVariants.{Inst as Put}
use Rattle.rv_inst.specs.declared.job.Job.{Job}
use Rattle.rv_asm.specs.Job.{job_of}
use Rattle.rv_asm.specs.Refusal.{is_unfit, twice_in, constants_sum, size_limit, refusal, Finds}
use Rattle.rv_asm.specs.Reported.{Reported, line_records}

-- the job of lines for a machine with these flags, with no frame and no constants
abbrev pub plain_job : List Line → IsaFlags → Job
plain_job lines flags = job_of lines flags no_frame []

-- a line that breaks no rule, can restore the frame, has to do with no label, and counts for no more than each line does
pub record IsFine (context : Context) (line : Line) : Type 0 where
  pub rule : broken_rule context line ≡ None
  pub fit : is_unfit context.frame line ≡ false
  pub binds_none : (bound : ℕ → Bool) → twice_in bound line ≡ None
  pub names_none : named_labels line ≡ []
  pub size : line_sum context line ≤ line_size

abbrev pub AreFine : Context → List Line → Type 0
AreFine context lines = AllByRecursion (IsFine context) lines

-- wherever the line stands, nothing is recorded of it
abbrev pub IsSilent : Context → Line → Type 0
IsSilent context line = (start end : ℕ) → line_records context start end line ≡ []

abbrev pub AreSilent : Context → List Line → Type 0
AreSilent context lines = AllByRecursion (IsSilent context) lines

-- code with no record: above all there is nothing that a linker fills
pub record HasNoRecords (code : Code) : Type 0 where
  pub relocs : code.relocs ≡ []
  pub traps : code.traps ≡ []
  pub call_sites : code.call_sites ≡ []
  pub try_call_sites : code.try_call_sites ≡ []
  pub patchable_call_sites : code.patchable_call_sites ≡ []
  pub stack_maps : code.stack_maps ≡ []
  pub unwinds : code.unwinds ≡ []

-- the one error that a job may give which is refused for no cause
abbrev pub IsOutOfMemory : EmitError → Type 0
IsOutOfMemory OutOfMemory = Unit {0}
IsOutOfMemory BadFrame = ⊥
IsOutOfMemory (Malformed index rule) = ⊥
IsOutOfMemory (LabelTwice label) = ⊥
IsOutOfMemory (UnboundLabel label) = ⊥
IsOutOfMemory TooLarge = ⊥

-- ---- laws

-- fine lines are refused for no cause, up to some eight million, and with constants up to as many fewer as these take place
abbrev pub FineLinesAccepted : Type 0
FineLinesAccepted =
    (job : Job) →
    is_bad_frame job.frame ≡ false →
    AreFine (context_of job) job.lines →
    constants_sum job.constants + line_size * length job.lines ≤ size_limit →
    refusal job ≡ None

-- a job that is refused for no cause has no error but out of memory
abbrev pub OnlyMemoryLeft : Type 0
OnlyMemoryLeft = (job : Job) (error : EmitError) → refusal job ≡ None → Finds {X = Code} (refusal job) (Err error) → IsOutOfMemory error

-- the code of silent lines has no record
abbrev pub SilentLinesUnrecorded : Type 0
SilentLinesUnrecorded = (job : Job) (code : Code) → Reported job code → AreSilent (context_of job) job.lines → HasNoRecords code

-- a load of eight bytes at a distance from the stack pointer into one of x0 to x29, and a store of one, are fine; the distance is well within
-- 64 bits
abbrev pub StackLoadsFine : Type 0
StackLoadsFine =
    (context : Context) (flags : MemFlagsData) (n : ℕ) (in_file : n < 32) (distance : ℤ) →
    n < 30 →
    is_distant distance ≡ false →
    IsFine context (Put (Load (record { reg = int_reg n in_file }) Ld flags (SPOffset distance)))

abbrev pub StackStoresFine : Type 0
StackStoresFine =
    (context : Context) (flags : MemFlagsData) (n : ℕ) (in_file : n < 32) (distance : ℤ) →
    n < 30 →
    is_distant distance ≡ false →
    IsFine context (Put (Store (int_reg n in_file) Sd flags (SPOffset distance)))
