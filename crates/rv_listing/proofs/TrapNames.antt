-- Each cause of a trap is read by its name.
use Rattle.std.proofs.Common.{◌≡◌, ℕ, List, Option, Some, refl, sym, ap, ◌∙◌, arith}
use Rattle.rv_base.specs.declared.trap.TrapCode.{TrapCode}
use Rattle.rv_base.specs.declared.trap.TrapCode.TheVariants.{StackOverflow, HeapOutOfBounds, IntegerOverflow, IntegerDivisionByZero, BadConversionToInteger, User}
use Rattle.rv_base.specs.Trap.{name_of}
use Rattle.rv_listing.specs.Tokens.{◌>>=◌}
use Rattle.rv_listing.specs.Traps.{user_of, user, constant, trap_named}
use Rattle.rv_listing.proofs.Ranges.{user_itself}
use Rattle.rv_listing.proofs.DecimalNumbers.{decimal_read}

pub trap_found : (code : TrapCode) → trap_named (name_of code) ≡ Some code
unfolding trap_named constant user
trap_found StackOverflow = refl
trap_found HeapOutOfBounds = refl
trap_found IntegerOverflow = refl
trap_found IntegerDivisionByZero = refl
trap_found BadConversionToInteger = refl
trap_found (User trap) = let high = trap.high in ap (λ o. o >>= user_of) (decimal_read trap.number (omega arith)) ∙ sym (user_itself trap)

pub trap_by_name : (w : List ℕ) (r : Option TrapCode) → r ≡ trap_named w → (code : TrapCode) → w ≡ name_of code → r ≡ Some code
trap_by_name w r reads code same = reads ∙ ap trap_named same ∙ trap_found code

-- causes of one name are one
pub same_trap : (x y : TrapCode) → name_of x ≡ name_of y → x ≡ y
same_trap x y e = some_same (sym (trap_found x) ∙ ap trap_named e ∙ trap_found y)
  where
    some_same : Some x ≡ Some y → x ≡ y
    some_same f = cc
