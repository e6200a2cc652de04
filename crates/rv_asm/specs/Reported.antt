-- What the code reports of its lines.
use Rattle.std.specs.Prelude.{◌≡◌, ◌≢◌, ℕ, suc, ◌+◌, ◌<◌, ◌≤◌, ◌⊎◌, List, [], ◌∷◌, ◌++◌, length, map, slice_get, Option, Some, None}
use Rattle.rv_base.specs.declared.constant.Constant.{Constant}
use Rattle.rv_base.specs.declared.trap.TrapCode.{TrapCode}
use Rattle.rv_inst.specs.Context.{Context, context_of}
use Rattle.rv_inst.specs.Descriptions.{recorded_of}
use Rattle.rv_inst.specs.Records.{TrapAfter}
use Rattle.rv_inst.specs.declared.inst.Inst.{Inst}
use Rattle.rv_inst.specs.declared.inst.Inst.TheVariants.{RawData, Udf}
use Rattle.rv_inst.specs.declared.inst.Line.{Line}
use Rattle.rv_inst.specs.declared.inst.Line.TheVariants.{Inst as Put, Bind}
use Rattle.rv_inst.specs.declared.job.Job.{Job}
use Rattle.rv_inst.specs.Operands.{Return, return_of}
use Rattle.rv_inst.specs.Sizes.{trap_size, inst_records}
use Rattle.rv_base.specs.declared.flags.IsaFlags.{IsaFlags}
use Rattle.rv_inst.specs.declared.code.Code.{Code}
use Rattle.rv_inst.specs.declared.code.LineSpan.{LineSpan}
use Rattle.rv_inst.specs.declared.code.CallReturn.{CallReturn}
use Rattle.mach_uses.specs.declared.uses.LabelPlace.{LabelPlace}
use Rattle.mach_records.specs.declared.records.MachRecord.{MachRecord}
use Rattle.mach_records.specs.Records.{relocs_in, traps_in, calls_in, tries_in, patches_in, maps_in, unwinds_in}
use Rattle.mach_records.specs.declared.records.ConstPlace.{ConstPlace}
use Rattle.mach_buffer.specs.Constants.{HasConstants, zeros}
use Rattle.mach_uses.specs.Windows.{window, IsApart}
use Rattle.mach_records.specs.declared.records.MachReloc.{MachReloc}
use Rattle.rv_inst.specs.Relocations.{field_size, IsOutside}
use Rattle.rv_asm.specs.Jumps.{HasJumps}
use Rattle.rv_asm.specs.Reach.{InReach}
pub use Rattle.rv_asm.specs.Spans.{Gap, IsGap, IsSized, IsSpan, binding_line, constants_named, end_before, end_of, from_of, label_start, start_of, to_of}

-- the binds among lines, the first of which has index i: each label with the start of its line
abbrev pub binds_from : List LineSpan → ℕ → List Line → List LabelPlace
binds_from spans i [] = []
binds_from spans i (Bind l ∷ lines) = (record { label = l; offset = start_of spans i }) ∷ binds_from spans (suc i) lines
binds_from spans i (Put inst ∷ lines) = binds_from spans (suc i) lines

-- the records of a line that starts and ends at offsets
abbrev pub line_records : Context → ℕ → ℕ → Line → List MachRecord
line_records context start end (Put inst) = inst_records context start end inst
line_records context start end (Bind label) = []

-- the records of lines, the first of which has index i
abbrev pub records_from : Context → List LineSpan → ℕ → List Line → List MachRecord
records_from context spans i [] = []
records_from context spans i (line ∷ lines) = line_records context (start_of spans i) (end_of spans i) line ++ records_from context spans (suc i) lines

-- where the call of a line that starts at an offset returns, where it is one
abbrev pub return_from : ℕ → ℕ → Option Return → List CallReturn
return_from i start None = []
return_from i start (Some r) = record { index = i; offset = start + r.offset } ∷ []

abbrev pub line_returns : IsaFlags → ℕ → ℕ → Line → List CallReturn
line_returns flags i start (Put inst) = return_from i start (return_of flags inst)
line_returns flags i start (Bind label) = []

-- the returns of lines, the first of which has index i
abbrev pub returns_from : IsaFlags → List LineSpan → ℕ → List Line → List CallReturn
returns_from flags spans i [] = []
returns_from flags spans i (line ∷ lines) = line_returns flags i (start_of spans i) line ++ returns_from flags spans (suc i) lines

-- two stretches of code share no byte
abbrev pub AreApart : ℕ → ℕ → ℕ → ℕ → Type 0
AreApart start end from to = (end ≤ from) ⊎ (to ≤ start)

-- constants that stand there have no byte between two offsets
abbrev pub StandOutside : List Constant → List ConstPlace → ℕ → ℕ → Type 0
StandOutside registered constants start end =
    (j : ℕ) (c : ConstPlace) (k : Constant) →
    slice_get constants j ≡ Some c →
    slice_get registered c.constant.number ≡ Some k →
    AreApart start end c.offset (c.offset + length k.bytes)

-- nor has one a byte among the bytes of an instruction: those before its gap, and those after
abbrev pub StandApart : Context → List Line → List LineSpan → List Gap → List ConstPlace → Type 0
StandApart context lines spans gaps constants =
    (i : ℕ) (inst : Inst) →
    slice_get lines i ≡ Some (Put inst) →
    StandOutside context.constants constants (start_of spans i) (from_of gaps i) ×
    StandOutside context.constants constants (to_of gaps i) (end_of spans i)

-- the bytes that a relocation fills are all in the span of one of the lines
abbrev pub FillsInLine : List LineSpan → MachReloc → Type 0
FillsInLine spans r = (i : ℕ) × (i < length spans) × (start_of spans i ≤ r.offset) × (r.offset + field_size r.kind ≤ end_of spans i)

-- these bytes stand in the code at an offset, and no relocation fills one of them
pub record Stands (code : Code) (at : ℕ) (bytes : List ℕ) : Type 0 where
  pub there : window code.bytes at (length bytes) ≡ bytes
  pub unfilled : IsOutside code.relocs at (length bytes)

-- Every line has one span, in order, as long as the line may be. The first starts at 0; between two stands nothing, or an island.
-- The code's end is that of the last line, its labels are the binds, its returns are those of the calls, each within its line, and its
-- records are those of the lines: what a linker fills, traps, call sites, those of calls that may throw, each handler with the offset of its label,
-- calls that may be patched, values on the stack, and steps in the making of the frame.
-- Each constant that a line names has one offset, a multiple of its alignment, at which its bytes stand, and no other constant
-- has one; they are in the order of their first use. In this order each ends before the next one begins, and none has a byte
-- among an instruction's bytes, so their bytes are those of islands, or come after all lines. The bytes that a relocation fills
-- are in the span of a line, and neither a constant nor another relocation has one of them. Data stand as they are listed, and traps
-- are zero bytes, two or four, where a `Udf` stands and where another line records one. Islands and the end of the code are as `InReach`
-- says, and jumps and branches go as `HasJumps` says.
pub record Reported (job : Job) (code : Code) : Type 0 where
  pub gaps : List Gap
  pub count : length code.lines ≡ length job.lines
  pub indices : (i : ℕ) (span : LineSpan) → slice_get code.lines i ≡ Some span → span.index ≡ i
  pub first : start_of code.lines 0 ≡ 0
  pub long :
      (i : ℕ) (line : Line) →
      slice_get job.lines i ≡ Some line →
      IsSpan (context_of job) code.bytes line (start_of code.lines i) (from_of gaps i) (to_of gaps i) (end_of code.lines i)
  pub joined : (i : ℕ) → suc i < length job.lines → IsGap job.flags code.bytes (end_of code.lines i) (start_of code.lines (suc i))
  pub last : (i : ℕ) → suc i ≡ length job.lines → code.end ≡ end_of code.lines i
  pub none : length job.lines ≡ 0 → code.end ≡ 0
  pub within : code.end ≤ length code.bytes
  pub returns : code.returns ≡ returns_from job.flags code.lines 0 job.lines
  pub returns_within :
      (i : ℕ) (inst : Inst) (r : Return) →
      slice_get job.lines i ≡ Some (Put inst) →
      return_of job.flags inst ≡ Some r →
      start_of code.lines i + r.offset ≤ end_of code.lines i
  pub labels : code.labels ≡ binds_from code.lines 0 job.lines
  pub constants : map (λ (c : ConstPlace). c.constant) code.constants ≡ constants_named job.lines
  pub placed : HasConstants job.constants code.bytes code.constants
  pub ascend :
      (i j : ℕ) (c d : ConstPlace) (k : Constant) →
      i < j →
      slice_get code.constants i ≡ Some c →
      slice_get code.constants j ≡ Some d →
      slice_get job.constants c.constant.number ≡ Some k →
      c.offset + length k.bytes ≤ d.offset
  pub unfilled :
      (j : ℕ) (c : ConstPlace) (k : Constant) →
      slice_get code.constants j ≡ Some c →
      slice_get job.constants c.constant.number ≡ Some k →
      IsOutside code.relocs c.offset (length k.bytes)
  pub apart : StandApart (context_of job) job.lines code.lines gaps code.constants
  pub relocs : code.relocs ≡ relocs_in (records_from (context_of job) code.lines 0 job.lines)
  pub traps : code.traps ≡ traps_in (records_from (context_of job) code.lines 0 job.lines)
  pub call_sites : code.call_sites ≡ calls_in (records_from (context_of job) code.lines 0 job.lines)
  pub try_call_sites : code.try_call_sites ≡ tries_in (label_start code.lines job.lines) (records_from (context_of job) code.lines 0 job.lines)
  pub patchable_call_sites : code.patchable_call_sites ≡ patches_in (records_from (context_of job) code.lines 0 job.lines)
  pub stack_maps : code.stack_maps ≡ maps_in (records_from (context_of job) code.lines 0 job.lines)
  pub unwinds : code.unwinds ≡ unwinds_in (records_from (context_of job) code.lines 0 job.lines)
  pub fields : (j : ℕ) (r : MachReloc) → slice_get code.relocs j ≡ Some r → FillsInLine code.lines r
  pub fields_apart :
      (j k : ℕ) (r s : MachReloc) →
      j ≢ k →
      slice_get code.relocs j ≡ Some r →
      slice_get code.relocs k ≡ Some s →
      IsApart r.offset (field_size r.kind) s.offset (field_size s.kind)
  pub raw_data : (i : ℕ) (bytes : List ℕ) → slice_get job.lines i ≡ Some (Put (RawData bytes)) → Stands code (start_of code.lines i) bytes
  pub udf : (i : ℕ) (cause : TrapCode) → slice_get job.lines i ≡ Some (Put (Udf cause)) → Stands code (start_of code.lines i) (zeros (trap_size job.flags))
  pub trap_after :
      (i : ℕ) (inst : Inst) (after : ℕ) (cause : TrapCode) →
      slice_get job.lines i ≡ Some (Put inst) →
      recorded_of inst ≡ TrapAfter after cause →
      Stands code (start_of code.lines i + after) (zeros (trap_size job.flags))
  pub reach : InReach job code gaps
  pub jumps : HasJumps job code gaps
