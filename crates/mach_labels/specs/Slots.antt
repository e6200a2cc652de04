-- Values by index in a list that may have gaps.
use Rattle.std.specs.Prelude.{ℕ, List, Option, None, slice_index_or}

-- what stands at an index, where something does
abbrev pub slot_of : {T : Type 0} → List (Option T) → ℕ → Option T
slot_of slots index = slice_index_or slots index None
