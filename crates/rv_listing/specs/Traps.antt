-- The causes of traps by their names.
use Rattle.std.specs.Prelude.{ℕ, List, [], ◌∷◌, Option, Some, None, nat_le, take, drop, if◌then◌else◌, codes}
use Rattle.std.specs.List.{find}
use Rattle.std.specs.Str.{bytes_eq}
use lib.Dec.{leb→le}
use Rattle.rv_base.specs.declared.mem_flags.MemFlagsData.{MemFlagsData}
use Rattle.rv_base.specs.declared.trap.TrapCode.{TrapCode}
use Rattle.rv_base.specs.declared.trap.TrapCode.TheVariants.{StackOverflow, HeapOutOfBounds, IntegerOverflow, IntegerDivisionByZero, BadConversionToInteger, User}
use Rattle.rv_base.specs.Trap.{name_of}
use Rattle.rv_listing.specs.Tokens.{◌>>=◌, or_else, where_true, decimal}

-- the user's cause of this number, from 1 to 250
unfoldable pub user_of : ℕ → Option TrapCode
user_of n = where_true (nat_le 1 n) (λ low. where_true (nat_le n 250) (λ high. Some (User (record { number = n; low = leb→le 1 n low; high = leb→le n 250 high }))))

-- user and the number
unfoldable pub user : List ℕ → Option TrapCode
user w = if bytes_eq (take 4 w) (codes "user") then (decimal (drop 4 w) >>= user_of) else None

-- a cause that is no user's
unfoldable pub constant : List ℕ → Option TrapCode
constant w = find (λ code. bytes_eq w (name_of code)) (StackOverflow ∷ HeapOutOfBounds ∷ IntegerOverflow ∷ IntegerDivisionByZero ∷ BadConversionToInteger ∷ [])

-- the cause that has this name
unfoldable pub trap_named : List ℕ → Option TrapCode
trap_named w = or_else (constant w) (user w)

-- the cause of an access's trap, or - for none
unfoldable pub access_flags : List ℕ → Option MemFlagsData
access_flags w = if bytes_eq w (codes "-") then Some (record { trap = None }) else trap_named w >>= λ code. Some (record { trap = Some code })
