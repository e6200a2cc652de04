-- The one line that is written of a generated job's code.
use Rattle.std.specs.Prelude.{ℕ, ◌+◌, ◌*◌, ◌%◌, ◌^◌, List, [], ◌∷◌, ◌++◌, codes, length}
use Rattle.std.specs.Fmt.{decimal}
use Rattle.rv_inst.specs.declared.code.Code.{Code}

-- each byte times its place, from this place on
abbrev pub weighted : ℕ → List ℕ → ℕ
weighted place [] = 0
weighted place (byte ∷ bytes) = place * byte + weighted (place + 1) bytes

-- places count from 1
abbrev pub checksum : List ℕ → ℕ
checksum bytes = weighted 1 bytes % 2 ^ 32

abbrev pub line_of : ℕ → ℕ → ℕ → ℕ → List ℕ
line_of n bytes end sum =
    codes "gen " ++ decimal n ++ codes " lines 1300 bytes " ++ decimal bytes ++ codes " labels 100 end " ++ decimal end ++ codes " sum " ++ decimal sum ++ codes "\n"

abbrev pub summary : ℕ → Code → List ℕ
summary n c = line_of n (length c.bytes) c.end (checksum c.bytes)
