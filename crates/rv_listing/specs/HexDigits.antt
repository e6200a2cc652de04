-- Bytes in hexadecimal digits.
use Rattle.std.specs.Prelude.{ℕ, List, length, Option, Some, None, Result, Ok, Err, ◌==◌, if◌then◌else◌}
use Rattle.hex.specs.Hex.{decode_of}
use Rattle.rv_listing.specs.Tokens.{◌>>=◌}

abbrev pub ok_of : {A E : Type 0} → Result A E → Option A
ok_of (Ok x) = Some x
ok_of (Err e) = None

-- the bytes of digits in pairs, of either case
abbrev pub hex_bytes : List ℕ → Option (List ℕ)
hex_bytes w = ok_of (decode_of w)

abbrev pub not_none : List ℕ → Option (List ℕ)
not_none bytes = if length bytes == 0 then None else Some bytes

-- the same, one byte at least
unfoldable pub some_bytes : List ℕ → Option (List ℕ)
some_bytes w = hex_bytes w >>= not_none
