-- What was put into a buffer stands in whatever the buffer has become since: links of the proof.
use Rattle.std.specs.Prelude.{◌≡◌, ◌⊎◌, ℕ, ◌+◌, ◌≤◌, List, [], ◌∷◌, length, Some}
use Rattle.rv_base.specs.declared.flags.IsaFlags.{IsaFlags}
use Rattle.rv_base.specs.declared.label.MachLabel.{MachLabel}
use Rattle.rv_inst.specs.declared.label_use.LabelUse.{LabelUse}
use Rattle.rv_inst.specs.LabelUse.{label_kinds}
use Rattle.mach_buffer.specs.Shape.{Shape}
use Rattle.mach_buffer.specs.Windows.{AreWindows}
use Rattle.mach_buffer.specs.Finish.{CanFinish, Finishes}
use Rattle.mach_buffer.specs.Growth.{Lasts}
use Rattle.rv_code.specs.Slots.{Label, Slot, Part, Ask, Slots}
use Rattle.rv_sequences.specs.Images.{FieldsEnd}
use Rattle.rv_sequences.specs.Puts.{AllBytes, Puts}
use Rattle.rv_code.specs.InstParts.{wide_jump_to}

-- slots were put between two offsets
pub record SlotsIn (flags : IsaFlags) (slots : List Slot) (f : Shape LabelUse) (start end : ℕ) : Type 0 where
  pub old : Shape LabelUse
  pub new : Shape LabelUse
  pub puts : Puts flags old.allocated slots old new
  pub windows : AreWindows label_kinds old.bytes old.uses
  pub fields : FieldsEnd old
  pub starts : start ≡ length old.bytes
  pub ends : end ≡ length new.bytes
  pub lasts : Lasts label_kinds new f

-- an island was put between two offsets: first a jump to a label that is bound at the second
pub record IslandIn (flags : IsaFlags) (f : Shape LabelUse) (from to : ℕ) : Type 0 where
  pub after_island : MachLabel
  pub jump : SlotsIn flags (wide_jump_to (Label after_island) ∷ []) f from (from + 4)
  pub bound : f.place after_island.number ≡ Some to
  pub longer : from + 4 ≤ to

-- nothing, or an island
abbrev pub GapStandsIn : IsaFlags → Shape LabelUse → ℕ → ℕ → Type 0
GapStandsIn flags f from to = (from ≡ to) ⊎ IslandIn flags f from to

-- parts were put between two offsets
abbrev pub PartsIn : IsaFlags → List Part → Shape LabelUse → ℕ → ℕ → Type 0
PartsIn flags [] f start end = start ≡ end
PartsIn flags (Ask space ∷ parts) f start end = (mid : ℕ) × GapStandsIn flags f start mid × PartsIn flags parts f mid end
PartsIn flags (Slots slots ∷ parts) f start end = (mid : ℕ) × SlotsIn flags slots f start mid × PartsIn flags parts f mid end

-- what a buffer shows was finished to these bytes
pub record IsFinishedTo (f : Shape LabelUse) (bytes : List ℕ) : Type 0 where
  pub can : CanFinish label_kinds f
  pub finishes : Finishes label_kinds f bytes
  pub all_bytes : AllBytes bytes
