-- What a caller keeps of a buffer from one item of code to the next.
use Rattle.std.specs.Prelude.{◌≡◌, ℕ, ◌<◌, ◌≤◌, ◌⊎◌, true, length, Some, is_some, slice_get}
use Rattle.rv_base.specs.LabelUse.{Kinds}
use Rattle.mach_uses.specs.declared.uses.Use.{Use}
use Rattle.mach_buffer.specs.declared.buffer.MachBuffer.{MachBuffer}
use Rattle.mach_uses.specs.Reach.{HasSlack}
use Rattle.mach_buffer.specs.Buffer.{shape_of, bytes_of, uses_of, pending_of, IsSound}
use Rattle.mach_buffer.specs.Shape.{Shape, IsConstantLabel}
use Rattle.mach_buffer.specs.Constants.{AllStand}
use Rattle.mach_buffer.specs.Windows.{AreWindows}
use Rattle.mach_buffer.specs.Islands.{is_far}

-- a label is one of the first `labels`, or is bound, or is that of a constant that was named
abbrev pub IsMet : {L : Type 0} → ℕ → Shape L → ℕ → Type 0
IsMet labels s label = (label < labels) ⊎ ((is_some (s.place label) ≡ true) ⊎ IsConstantLabel s.named label)

-- it is sound, its windows are fresh and apart, Reach holds, each use may go by a veneer or reaches all code, each label that is named is
-- one of the first `labels`, or is bound, or a constant's, and the constants stand
pub record IsKept {L : Type 0} (kinds : Kinds L) (labels : ℕ) (b : MachBuffer L) : Type 0 where
  pub sound : IsSound kinds b
  pub windows : AreWindows kinds (bytes_of b) (uses_of b)
  pub slack : HasSlack (length (bytes_of b)) 14 (pending_of kinds b)
  pub supported : (j : ℕ) (u : Use L) → slice_get (uses_of b) j ≡ Some u → (kinds.has_veneer u.kind ≡ true) ⊎ (is_far kinds u ≡ true)
  pub named : (j : ℕ) (u : Use L) → slice_get (uses_of b) j ≡ Some u → IsMet labels (shape_of b) u.label.number
  pub stand : AllStand kinds (shape_of b)
