-- The bytes of memory that a run changed, in rows of 16.
use Rattle.std.specs.Prelude.{ℕ, zero, suc, ◌+◌, ◌*◌, ◌/◌, nat_eq, Bool, not, List, [], ◌∷◌, ◌++◌, map, codes}
use Rattle.std.specs.List.{dedup, filter}
use Rattle.std.specs.FinMap as map
use Rattle.hex.specs.Hex.{encode_lower}
use Rattle.rv_machine.specs.State.{Memory, byte, wrap}
use Rattle.rv_steps.specs.Files.{hex}

-- so many bytes from an address on, each in two hexadecimal digits
abbrev pub row_bytes : Memory → ℕ → ℕ → List ℕ
row_bytes mem at zero = []
row_bytes mem at (suc n) = row_bytes mem at n ++ encode_lower (byte mem (wrap (at + n)) ∷ [])

-- the row's first address, and its bytes
abbrev pub row_line : Memory → ℕ → List ℕ
row_line mem at = codes "memory 0x" ++ hex at ++ codes ": " ++ row_bytes mem at 16 ++ codes "\n"

abbrev pub row_lines : Memory → List ℕ → List ℕ
row_lines mem [] = []
row_lines mem (at ∷ ats) = row_line mem at ++ row_lines mem ats

-- whether the byte at an address is another after a run
abbrev pub is_changed : Memory → Memory → ℕ → Bool
is_changed before after at = not (nat_eq (byte before at) (byte after at))

-- the first address of the row of 16 bytes that an address lies in
abbrev pub row_of : ℕ → ℕ
row_of at = at / 16 * 16

-- the rows of these addresses, of those that changed
abbrev pub rows_of : Memory → Memory → List ℕ → List ℕ
rows_of before after ats = map row_of (filter (is_changed before after) ats)

-- a line for each row in which a byte changed, of those that have one written after the run, in order
abbrev pub memory_lines : Memory → Memory → List ℕ
memory_lines before after = row_lines after (dedup nat_eq (rows_of before after (map.keys after)))
