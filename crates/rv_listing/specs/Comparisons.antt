-- Comparisons by their names.
use Rattle.std.specs.Prelude.{ℕ, List, [], ◌∷◌, Option}
use Rattle.std.specs.List.{find}
use Rattle.std.specs.Str.{bytes_eq}
use Rattle.rv_base.specs.declared.condcodes.IntCC.{IntCC}
use Rattle.rv_base.specs.declared.condcodes.IntCC.TheVariants.{Equal, NotEqual, SignedLessThan, SignedGreaterThanOrEqual, SignedGreaterThan, SignedLessThanOrEqual, UnsignedLessThan, UnsignedGreaterThanOrEqual, UnsignedGreaterThan, UnsignedLessThanOrEqual}
use Rattle.rv_base.specs.CondCodes.{name_of}

unfoldable pub every : List IntCC
every =
    Equal ∷ NotEqual ∷ SignedLessThan ∷ SignedGreaterThanOrEqual ∷ SignedGreaterThan ∷ SignedLessThanOrEqual ∷
    UnsignedLessThan ∷ UnsignedGreaterThanOrEqual ∷ UnsignedGreaterThan ∷ UnsignedLessThanOrEqual ∷ []

-- the comparison that has this name
unfoldable pub cond_code : List ℕ → Option IntCC
cond_code w = find (λ code. bytes_eq w (name_of code)) every
