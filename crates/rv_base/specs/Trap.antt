-- The names of trap codes in a listing.
use Rattle.std.specs.Prelude.{ℕ, ◌≡◌, List, ◌++◌, codes}
use Rattle.std.specs.Fmt.{decimal}
use Rattle.rv_base.specs.declared.trap.TrapCode.{TrapCode}
use Rattle.rv_base.specs.declared.trap.TrapCode.TheVariants.{StackOverflow, HeapOutOfBounds, IntegerOverflow, IntegerDivisionByZero, BadConversionToInteger, User}

abbrev pub name_of : TrapCode → List ℕ
name_of StackOverflow = codes "stk_ovf"
name_of HeapOutOfBounds = codes "heap_oob"
name_of IntegerOverflow = codes "int_ovf"
name_of IntegerDivisionByZero = codes "int_divz"
name_of BadConversionToInteger = codes "bad_toint"
name_of (User trap) = codes "user" ++ decimal trap.number

-- the user's code of this number
abbrev pub IsUserOf : ℕ → TrapCode → Type 0
IsUserOf number StackOverflow = ⊥
IsUserOf number HeapOutOfBounds = ⊥
IsUserOf number IntegerOverflow = ⊥
IsUserOf number IntegerDivisionByZero = ⊥
IsUserOf number BadConversionToInteger = ⊥
IsUserOf number (User trap) = trap.number ≡ number
