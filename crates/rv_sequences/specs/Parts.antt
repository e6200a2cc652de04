-- Slots and parts were put into a buffer: links of the proof.
use Rattle.std.specs.Prelude.{◌≡◌, Bool, List, [], ◌∷◌}
use Rattle.rv_base.specs.declared.flags.IsaFlags.{IsaFlags}
use Rattle.mach_buffer.specs.Buffer.{shape_of, allocated_of}
use Rattle.rv_code.specs.InstParts.{slots_alone}
use Rattle.rv_code.specs.Slots.{Slot, Part, Ask, Slots}
use Rattle.rv_sequences.specs.Emitted.{Buffer, IsSoundBuffer, IslandIfNeeded}
use Rattle.rv_sequences.specs.Puts.{Puts}

-- slots were put
pub record PutsSlots (flags : IsaFlags) (slots : List Slot) (old new : Buffer) : Type 0 where
  pub puts : Puts flags (allocated_of old) slots (shape_of old) (shape_of new)
  pub sound : IsSoundBuffer new

-- parts were put one after the other
abbrev pub PutsParts : IsaFlags → List Part → Buffer → Buffer → Type 0
PutsParts flags [] old new = new ≡ old
PutsParts flags (Ask space ∷ parts) old new = (mid : Buffer) × (made : Bool) × IslandIfNeeded space old mid made × PutsParts flags parts mid new
PutsParts flags (Slots slots ∷ parts) old new = (mid : Buffer) × PutsSlots flags slots old mid × PutsParts flags parts mid new

-- slots were put, alone
abbrev pub PutsAlone : IsaFlags → List Slot → Buffer → Buffer → Type 0
PutsAlone flags slots old new = PutsParts flags (slots_alone slots) old new
