-- Islands by the reported spans and gaps: that none stands earlier than it must, what waits for one, and how long code may be.
use Rattle.std.specs.Prelude.{◌≡◌, ℕ, zero, suc, ◌+◌, ◌-◌, ◌*◌, ◌<◌, ◌≤◌, true, nat_eq, if◌then◌else◌, List, [], ◌∷◌, ◌++◌, length, take, drop, Option, Some, None, slice_get}
use Rattle.rv_base.specs.declared.constant.Constant.{Constant}
use Rattle.rv_base.specs.declared.constant.VCodeConstant.{VCodeConstant}
use Rattle.mach_records.specs.declared.records.ConstPlace.{ConstPlace}
use Rattle.mach_buffer.specs.Constants.{constants_end}
use Rattle.mach_buffer.specs.Islands.{aligned, island_end}
use Rattle.rv_inst.specs.Context.{Context, context_of}
use Rattle.rv_inst.specs.declared.inst.Line.{Line}
use Rattle.rv_inst.specs.declared.inst.Line.TheVariants.{Inst as Put, Bind}
use Rattle.rv_inst.specs.declared.job.Job.{Job}
use Rattle.rv_inst.specs.declared.code.Code.{Code}
use Rattle.rv_inst.specs.declared.code.LineSpan.{LineSpan}
use Rattle.rv_inst.specs.declared.label_use.LabelUse.{LabelUse}
use Rattle.rv_inst.specs.declared.label_use.LabelUse.TheVariants.{Jal20}
use Rattle.rv_inst.specs.LabelUse.{label_kinds, forward_of}
use Rattle.mach_uses.specs.declared.uses.Use.{Use}
use Rattle.mach_uses.specs.Reach.{is_pending, deadlines, is_needed}
use Rattle.rv_inst.specs.Sizes.{line_space, request_of, space_in}
use Rattle.rv_inst.specs.declared.inst.Inst.{Inst}
use Rattle.rv_inst.specs.Uses.{uses_in}
use Rattle.rv_asm.specs.Spans.{Gap, constants_named, end_before, end_of, first_after_island, from_of, start_of, to_of}
use Rattle.rv_asm.specs.Refusal.{size_sum}

-- ---- what waits for an island

-- the uses of lines, the first of which has an index
abbrev pub uses_from : Context → List LineSpan → ℕ → List Line → List (Use LabelUse)
uses_from context spans i [] = []
uses_from context spans i (Put inst ∷ lines) = uses_in context (start_of spans i) (end_of spans i) inst ++ uses_from context spans (suc i) lines
uses_from context spans i (Bind label ∷ lines) = uses_from context spans (suc i) lines

-- the uses after which no island stands
abbrev pub uses_after_island : Context → List Line → List LineSpan → List Gap → List (Use LabelUse)
uses_after_island context lines spans gaps =
    uses_from context spans (first_after_island spans gaps (length lines)) (drop (first_after_island spans gaps (length lines)) lines)

-- where lines, the first of which has an index, bind a label
abbrev pub bound_by : List LineSpan → ℕ → List Line → ℕ → Option ℕ
bound_by spans i [] label = None
bound_by spans i (Bind l ∷ lines) label = if nat_eq l.number label then Some (start_of spans i) else bound_by spans (suc i) lines label
bound_by spans i (Put inst ∷ lines) label = bound_by spans (suc i) lines label

-- how far those of these uses reach that go by a veneer: those of jumps and branches whose label these lines don't bind, or not within
-- reach
abbrev pub waiting : Context → List Line → List LineSpan → List Gap → List ℕ
waiting context lines spans gaps = deadlines (is_pending label_kinds (bound_by spans 0 lines)) label_kinds (uses_after_island context lines spans gaps)

-- the constants that islands took, and those that lines named since
abbrev pub constants_taken : Context → List Line → List LineSpan → List Gap → List VCodeConstant
constants_taken context lines spans gaps = constants_named (take (first_after_island spans gaps (length lines)) lines)

abbrev pub constants_waiting : Context → List Line → List LineSpan → List Gap → List VCodeConstant
constants_waiting context lines spans gaps = drop (length (constants_taken context lines spans gaps)) (constants_named lines)

-- where an island ends that begins at an offset after these lines: after its jump, which may have a veneer of its own, the veneers, and
-- those constants
abbrev pub island_after : Context → List Line → List LineSpan → List Gap → ℕ → ℕ
island_after context lines spans gaps from =
    island_end
    (constants_end context.constants (constants_waiting context lines spans gaps))
    (aligned (from + 4))
    (length (waiting context lines spans gaps))
    (from + forward_of Jal20)

-- ---- no island stands early

-- An island between two offsets, before the line of an index or in it, is due: some use that waits there might miss its deadline, were the
-- island put only after so many bytes and two uses more. And nothing stands in it but what it must have.
pub record IsDue (context : Context) (lines : List Line) (spans : List LineSpan) (gaps : List Gap) (i from to distance : ℕ) : Type 0 where
  pub needed : is_needed from distance (waiting context (take i lines) spans gaps) ≡ true
  pub ends : to ≡ island_after context (take i lines) spans gaps from

-- no island stands before or in a line unless it is due there, nor is it longer than it must be
pub record NotEarly (context : Context) (lines : List Line) (spans : List LineSpan) (gaps : List Gap) : Type 0 where
  pub before :
      (i : ℕ) →
      i < length lines →
      end_before spans i < start_of spans i →
      IsDue context lines spans gaps i (end_before spans i) (start_of spans i) line_space
  pub within :
      (i : ℕ) (inst : Inst) (space : ℕ) →
      slice_get lines i ≡ Some (Put inst) →
      from_of gaps i < to_of gaps i →
      space_in (request_of context inst) (end_of spans i - to_of gaps i) ≡ Some space →
      IsDue context lines spans gaps i (from_of gaps i) (to_of gaps i) space

-- ---- after the last line

-- where so many veneers end that begin at an offset
abbrev pub veneers_end : ℕ → ℕ → ℕ
veneers_end zero from = from
veneers_end (suc n) from = aligned from + 8 * suc n

-- What follows the last line: a veneer for each use that waits for one, after zero bytes to a multiple of four where there is one; then
-- each constant that no island took, after zero bytes to its alignment; and nothing else.
pub record HasTail (job : Job) (code : Code) (gaps : List Gap) : Type 0 where
  pub before :
      (j : ℕ) (c : ConstPlace) (k : Constant) →
      j < length (constants_taken (context_of job) job.lines code.lines gaps) →
      slice_get code.constants j ≡ Some c →
      slice_get job.constants c.constant.number ≡ Some k →
      c.offset + length k.bytes ≤ code.end
  pub long :
      length code.bytes ≡
      constants_end
      job.constants
      (constants_waiting (context_of job) job.lines code.lines gaps)
      (veneers_end (length (waiting (context_of job) job.lines code.lines gaps)) code.end)

-- ---- all of it

-- no island is early or too long, nothing else follows the last line, and the code is no longer than its lines and constants allow
pub record InReach (job : Job) (code : Code) (gaps : List Gap) : Type 0 where
  pub early : NotEarly (context_of job) job.lines code.lines gaps
  pub tail : HasTail job code gaps
  pub short : length code.bytes ≤ size_sum (context_of job) job.lines + 16
