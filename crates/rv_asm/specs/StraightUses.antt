-- Which uses still have no veneer in the buffer: a link of the proof.
use Rattle.std.specs.Prelude.{◌≡◌, ℕ, ◌≤◌, true, List, Some, slice_get}
use Rattle.rv_base.specs.declared.label.MachLabel.{MachLabel}
use Rattle.rv_inst.specs.Context.{Context}
use Rattle.rv_inst.specs.declared.code.LineSpan.{LineSpan}
use Rattle.rv_inst.specs.declared.inst.Inst.{Inst}
use Rattle.rv_inst.specs.declared.inst.Line.{Line}
use Rattle.rv_inst.specs.declared.inst.Line.TheVariants.{Inst as Put, Bind}
use Rattle.rv_inst.specs.declared.label_use.LabelUse.{LabelUse}
use Rattle.rv_inst.specs.LabelUse.{label_kinds, has_veneer_of}
use Rattle.rv_inst.specs.Uses.{uses_in}
use Rattle.mach_uses.specs.declared.uses.Use.{Use}
use Rattle.mach_uses.specs.Reach.{is_reached}
use Rattle.mach_buffer.specs.Buffer.{uses_of}
use Rattle.rv_sequences.specs.Emitted.{Buffer}
use Rattle.rv_asm.specs.Spans.{Gap, end_of, first_after_island, start_of}

-- a use is among these
pub record IsIn (uses : List (Use LabelUse)) (u : Use LabelUse) : Type 0 where
  pub index : ℕ
  pub there : slice_get uses index ≡ Some u

-- a use of a line whose label is bound within its reach, with no island between that line and the one that binds it, is in the buffer
-- as it was put, without a veneer
pub record GoStraight (context : Context) (lines : List Line) (spans : List LineSpan) (gaps : List Gap) (b : Buffer) : Type 0 where
  pub each :
      (i : ℕ) (inst : Inst) (k : ℕ) (u : Use LabelUse) (m : ℕ) (l : MachLabel) →
      slice_get lines i ≡ Some (Put inst) →
      slice_get (uses_in context (start_of spans i) (end_of spans i) inst) k ≡ Some u →
      has_veneer_of u.kind ≡ true →
      slice_get lines m ≡ Some (Bind l) →
      l.number ≡ u.label.number →
      is_reached label_kinds (Some (start_of spans m)) u ≡ true →
      first_after_island spans gaps m ≤ i →
      IsIn (uses_of b) u
