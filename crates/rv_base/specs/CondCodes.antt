-- Comparisons of integers: their names, when each holds, and which holds where another doesn't.
use Rattle.std.specs.Prelude.{ℕ, ℤ, Bool, not, nat_eq, nat_lt, int_lt, List, codes}
use Rattle.std.specs.Int.{cast_signed}
use mir.Syntax.{w64}
use Rattle.rv_base.specs.declared.condcodes.IntCC.{IntCC}
use Rattle.rv_base.specs.declared.condcodes.IntCC.TheVariants.{Equal, NotEqual, SignedLessThan, SignedGreaterThanOrEqual, SignedGreaterThan, SignedLessThanOrEqual, UnsignedLessThan, UnsignedGreaterThanOrEqual, UnsignedGreaterThan, UnsignedLessThanOrEqual}

abbrev pub complement_of : IntCC → IntCC
complement_of Equal = NotEqual
complement_of NotEqual = Equal
complement_of SignedLessThan = SignedGreaterThanOrEqual
complement_of SignedGreaterThanOrEqual = SignedLessThan
complement_of SignedGreaterThan = SignedLessThanOrEqual
complement_of SignedLessThanOrEqual = SignedGreaterThan
complement_of UnsignedLessThan = UnsignedGreaterThanOrEqual
complement_of UnsignedGreaterThanOrEqual = UnsignedLessThan
complement_of UnsignedGreaterThan = UnsignedLessThanOrEqual
complement_of UnsignedLessThanOrEqual = UnsignedGreaterThan

abbrev pub name_of : IntCC → List ℕ
name_of Equal = codes "eq"
name_of NotEqual = codes "ne"
name_of SignedLessThan = codes "slt"
name_of SignedGreaterThanOrEqual = codes "sge"
name_of SignedGreaterThan = codes "sgt"
name_of SignedLessThanOrEqual = codes "sle"
name_of UnsignedLessThan = codes "ult"
name_of UnsignedGreaterThanOrEqual = codes "uge"
name_of UnsignedGreaterThan = codes "ugt"
name_of UnsignedLessThanOrEqual = codes "ule"

-- 64 bits, read as a signed integer
abbrev pub signed64 : ℕ → ℤ
signed64 x = cast_signed w64 x

-- x is below y, both of 64 bits and read as signed integers
abbrev pub signed_below : ℕ → ℕ → Bool
signed_below x y = int_lt (signed64 x) (signed64 y)

-- the comparison of x with y, both of 64 bits
abbrev pub holds : IntCC → ℕ → ℕ → Bool
holds Equal x y = nat_eq x y
holds NotEqual x y = not (nat_eq x y)
holds SignedLessThan x y = signed_below x y
holds SignedGreaterThanOrEqual x y = not (signed_below x y)
holds SignedGreaterThan x y = signed_below y x
holds SignedLessThanOrEqual x y = not (signed_below y x)
holds UnsignedLessThan x y = nat_lt x y
holds UnsignedGreaterThanOrEqual x y = not (nat_lt x y)
holds UnsignedGreaterThan x y = nat_lt y x
holds UnsignedLessThanOrEqual x y = not (nat_lt y x)
