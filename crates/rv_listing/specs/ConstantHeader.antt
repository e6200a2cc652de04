-- The header line of a constant.
use Rattle.std.specs.Prelude.{ℕ, List, Option, Some, None, ◌==◌, if◌then◌else◌}
use Rattle.rv_base.specs.declared.constant.ConstAlign.{ConstAlign}
use Rattle.rv_base.specs.declared.constant.ConstAlign.TheVariants.{A1, A2, A4, A8, A16}
use Rattle.rv_base.specs.declared.constant.Constant.{Constant}
use Rattle.rv_listing.specs.Tokens.{◌>>=◌, natural}
use Rattle.rv_listing.specs.Fields.{done, ◌⊛◌, whole}
use Rattle.rv_listing.specs.HexDigits.{some_bytes}

-- the alignment of so many bytes
abbrev pub align_of : ℕ → Option ConstAlign
align_of n = if n == 1 then Some A1 else if n == 2 then Some A2 else if n == 4 then Some A4 else if n == 8 then Some A8 else if n == 16 then Some A16 else None

-- a number that is one
unfoldable pub alignment : List ℕ → Option ConstAlign
alignment w = natural w >>= align_of

abbrev pub constant_of : ConstAlign → List ℕ → Constant
constant_of align bytes = record { bytes = bytes; align = align }

-- an alignment, and one byte at least
unfoldable pub constant_form : List (List ℕ) → Option Constant
constant_form = whole (done constant_of ⊛ alignment ⊛ some_bytes)
