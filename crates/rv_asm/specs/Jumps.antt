-- The words of jumps and branches, and where they go.
use Rattle.std.specs.Prelude.{◌≡◌, ◌⊎◌, ℕ, ◌+◌, ◌≤◌, Some, ℤ, pos, ◌-ℤ◌, slice_get, List}
use Rattle.rv_base.specs.declared.label.MachLabel.{MachLabel}
use Rattle.rv_encode.specs.Operations.{decoded_branch}
use Rattle.rv_machine.specs.Decode.{int_decode}
use Rattle.rv_machine.specs.State.{Memory}
use Rattle.rv_machine.specs.Steps.{fetch}
use Rattle.rv_machine.specs.declared.decoding.Decoded.{Decoded}
use Rattle.rv_ops.specs.declared.compare.IntegerCompare.{IntegerCompare}
use Rattle.rv_inst.specs.Forms.{jump_kind}
use Rattle.rv_inst.specs.Islands.{GoesOn}
use Rattle.rv_inst.specs.LabelUse.{forward_of, backward_of}
use Rattle.rv_inst.specs.declared.code.Code.{Code}
use Rattle.rv_inst.specs.declared.inst.CondBrTarget.{CondBrTarget}
use Rattle.rv_inst.specs.declared.inst.CondBrTarget.TheVariants.{Label}
use Rattle.rv_inst.specs.declared.inst.Inst.TheVariants.{Jal, CondBr}
use Rattle.rv_inst.specs.declared.inst.Line.TheVariants.{Inst as Put}
use Rattle.rv_inst.specs.declared.job.Job.{Job}
use Rattle.rv_inst.specs.declared.label_use.LabelUse.{LabelUse}
use Rattle.rv_inst.specs.declared.label_use.LabelUse.TheVariants.{B12}
use Rattle.rv_code.specs.Operations.{short_jump}
use Rattle.rv_asm.specs.Placed.{Addresses, IsPlaced}
use Rattle.rv_asm.specs.Spans.{Gap, binding_line, first_after_island, label_start, start_of}

-- At an offset of line i the machine reads the operation by some distance, which goes to the label's place or to a veneer that goes
-- there. It goes straight where the place is in reach, and no island stands between the line and the one that binds the label.
pub record GoesTo
    (job : Job) (code : Code) (gaps : List Gap) (base : ℕ) (mem : Memory) (i at : ℕ)
    (kind : LabelUse) (operation : ℤ → Decoded) (label : MachLabel) : Type 0 where
  pub target : ℕ
  pub reads : int_decode job.flags (fetch mem (base + at)) ≡ Some (operation (pos target -ℤ pos at))
  pub leads : (target ≡ label_start code.lines job.lines label.number) ⊎ GoesOn job.flags code.bytes target (label_start code.lines job.lines label.number)
  pub straight :
      first_after_island code.lines gaps (binding_line job.lines label.number) ≤ i →
      label_start code.lines job.lines label.number ≤ at + forward_of kind →
      at ≤ label_start code.lines job.lines label.number + backward_of kind →
      target ≡ label_start code.lines job.lines label.number

-- Wherever the code is placed: a jump at the start of a `Jal`, in two bytes where it has such a form; a branch at the start of a
-- `CondBr`, to its first label; and after it, where there is a second label, a jump there.
pub record HasJumps (job : Job) (code : Code) (gaps : List Gap) : Type 0 where
  pub jal :
      (i : ℕ) (label : MachLabel) (base : ℕ) (symbols slots : Addresses) (mem : Memory) →
      slice_get job.lines i ≡ Some (Put (Jal label)) →
      IsPlaced code base symbols slots mem →
      GoesTo job code gaps base mem i (start_of code.lines i) (jump_kind job.flags) (short_jump job.flags) label
  pub branch :
      (i : ℕ) (t : MachLabel) (not_taken : CondBrTarget) (kind : IntegerCompare) (base : ℕ) (symbols slots : Addresses) (mem : Memory) →
      slice_get job.lines i ≡ Some (Put (CondBr (Label t) not_taken kind)) →
      IsPlaced code base symbols slots mem →
      GoesTo job code gaps base mem i (start_of code.lines i) B12 (decoded_branch kind) t
  pub other :
      (i : ℕ) (t f : MachLabel) (kind : IntegerCompare) (base : ℕ) (symbols slots : Addresses) (mem : Memory) →
      slice_get job.lines i ≡ Some (Put (CondBr (Label t) (Label f) kind)) →
      IsPlaced code base symbols slots mem →
      GoesTo job code gaps base mem i (start_of code.lines i + 4) (jump_kind job.flags) (short_jump job.flags) f
