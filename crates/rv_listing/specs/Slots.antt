-- Names by a table of slots.
use Rattle.std.specs.Prelude.{ℕ, ◌+◌, ◌-◌, ◌*◌, ◌/◌, ◌%◌, ◌^◌, List, Option, Some, None, if◌then◌else◌, length, slice_get, slice_index}
use Rattle.std.specs.Str.{bytes_eq}

-- the number of a word: its first three bytes, its last two, where a byte that it lacks is 0, and how many it has
unfoldable pub key : List ℕ → ℕ
key w =
    slice_index w 0 + slice_index w 1 * 2 ^ 8 + slice_index w 2 * 2 ^ 16 + slice_index w (length w - 2) * 2 ^ 24 + slice_index w (length w - 1) * 2 ^ 32 + length w % 2 ^ 8 * 2 ^ 40

-- the upper eight bits of the number times the factor, in 64 bits
unfoldable pub slot : ℕ → List ℕ → ℕ
slot factor w = key w * factor % 2 ^ 64 / 2 ^ 56

-- what the word's slot names
unfoldable pub candidate : {A : Type 0} → List A → List ℕ → ℕ → List ℕ → Option A
candidate every slots factor w = slice_get every (slice_index slots (slot factor w))

-- what may have this name, where it has
unfoldable pub checked : {A : Type 0} → (A → List ℕ) → List ℕ → Option A → Option A
checked name w None = None
checked name w (Some a) = if bytes_eq w (name a) then Some a else None
