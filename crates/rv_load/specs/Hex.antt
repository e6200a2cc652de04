-- Hexadecimal digits as bytes.
use Rattle.std.specs.Prelude.{◌≡◌, ℕ, Bool, not, ◌||◌, ◌==◌, List, [], filter, option_map, Option, Some, None, Result, Ok, Err}
use Rattle.rv_listing.specs.HexDigits.{hex_bytes}
use Rattle.rv_load.specs.declared.program.Program.{Program}
use Rattle.rv_load.specs.declared.program.ProgramError.{ProgramError}
use Rattle.rv_load.specs.declared.program.ProgramError.TheVariants as errors

-- a space, a tab or an end of line
abbrev pub is_blank : ℕ → Bool
is_blank c = c == 32 || c == 10 || c == 13 || c == 9

abbrev pub is_mark : ℕ → Bool
is_mark c = not (is_blank c)

-- the bytes that a text of digits gives, wherever blanks stand
abbrev pub reads_hex : List ℕ → Option (List ℕ)
reads_hex text = hex_bytes (filter is_mark text)

abbrev pub code_only : List ℕ → Program
code_only bytes = record { bytes = bytes; lines = []; labels = []; relocs = [] }

-- what a reader of such a text returned; being out of memory says nothing
abbrev pub ReadsHex : List ℕ → Result Program ProgramError → Type 0
ReadsHex text (Ok program) = option_map code_only (reads_hex text) ≡ Some program
ReadsHex text (Err errors.NotHex) = reads_hex text ≡ None
ReadsHex text (Err (errors.NotReport n)) = ⊥
ReadsHex text (Err errors.OutOfMemory) = Unit {0}
