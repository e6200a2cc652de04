-- Registers by name: x, f or v and a number, the names of the calling convention, and virtual ones.
use Rattle.std.specs.Prelude.{ℕ, ◌+◌, ◌==◌, ◌&&◌, List, [], ◌∷◌, Option, Some, None, drop, nat_lt, nat_le, if◌then◌else◌, codes}
use Rattle.std.specs.Str.{bytes_eq}
use lib.Dec.{ltb→lt, leb→le}
use Rattle.rv_base.specs.declared.regs.RegClass.{RegClass}
use Rattle.rv_base.specs.declared.regs.RegClass.TheVariants.{Int, Float, Vector}
use Rattle.rv_base.specs.declared.regs.Reg.{Reg}
use Rattle.rv_base.specs.declared.regs.Reg.TheVariants.{Real, Virtual}
use Rattle.rv_listing.specs.Tokens.{◌>>=◌, where_true, starts, decimal}

-- a register of the machine; each class has 32
unfoldable pub real : RegClass → ℕ → Option Reg
real class n = where_true (nat_lt n 32) (λ low. Some (Real (record { class = class; number = n; in_file = ltb→lt n 32 low })))

-- an integer register that none of the machine's was chosen for
unfoldable pub virtual_register : ℕ → Option Reg
virtual_register n = where_true (nat_le 192 n) (λ low. where_true (nat_lt n 2097152) (λ high. Some (Virtual Int (record { value = n; low = leb→le 192 n low; high = ltb→lt n 2097152 high }))))

-- a0 to a7 are x10 to x17, and so for fa
abbrev pub argument : ℕ → Option ℕ
argument n = if nat_lt n 8 then Some (10 + n) else None

-- t0 to t2 are x5 to x7, and t3 to t6 are x28 to x31
abbrev pub temporary : ℕ → Option ℕ
temporary n = if nat_lt n 3 then Some (5 + n) else if nat_lt n 7 then Some (25 + n) else None

-- s1 is x9, and s2 to s11 are x18 to x27; x8 is fp
abbrev pub saved : ℕ → Option ℕ
saved n = if n == 1 then Some 9 else if nat_le 2 n && nat_lt n 12 then Some (16 + n) else None

-- ft0 to ft7 are f0 to f7, and ft8 to ft11 are f28 to f31
abbrev pub float_temporary : ℕ → Option ℕ
float_temporary n = if nat_lt n 8 then Some n else if nat_lt n 12 then Some (20 + n) else None

-- fs0 and fs1 are f8 and f9, and fs2 to fs11 are f18 to f27
abbrev pub float_saved : ℕ → Option ℕ
float_saved n = if nat_lt n 2 then Some (8 + n) else if nat_lt n 12 then Some (16 + n) else None

-- a name of the class of floats, without its f
unfoldable pub float : List ℕ → Option Reg
float w =
    if starts 116 w then (decimal (drop 1 w) >>= float_temporary >>= real Float) else
    if starts 115 w then (decimal (drop 1 w) >>= float_saved >>= real Float) else
    if starts 97 w then (decimal (drop 1 w) >>= argument >>= real Float) else (decimal w >>= real Float)

-- what stands after a letter; fp is x8, tp is x4 and sp is x2
unfoldable pub after_f : List ℕ → Option Reg
after_f w = if bytes_eq w (codes "p") then real Int 8 else float w

unfoldable pub after_t : List ℕ → Option Reg
after_t w = if bytes_eq w (codes "p") then real Int 4 else (decimal w >>= temporary >>= real Int)

unfoldable pub after_s : List ℕ → Option Reg
after_s w = if bytes_eq w (codes "p") then real Int 2 else (decimal w >>= saved >>= real Int)

-- the one name of its letter
unfoldable pub fixed : List ℕ → ℕ → List ℕ → Option Reg
fixed name n w = if bytes_eq w name then real Int n else None

-- zero, ra and gp
unfoldable pub single : ℕ → List ℕ → Option Reg
single letter w =
    if letter == 122 then fixed (codes "ero") 0 w else
    if letter == 114 then fixed (codes "a") 1 w else
    if letter == 103 then fixed (codes "p") 3 w else None

-- a name that begins with f or v, or with %, or is one of a kind
unfoldable pub by_other_letter : ℕ → List ℕ → Option Reg
by_other_letter letter w =
    if letter == 102 then after_f w else
    if letter == 118 then (decimal w >>= real Vector) else
    if letter == 37 then (decimal w >>= virtual_register) else single letter w

-- a name by its first letter; x, a, t and s are the integer registers'
unfoldable pub by_letter : ℕ → List ℕ → Option Reg
by_letter letter w =
    if letter == 120 then (decimal w >>= real Int) else
    if letter == 97 then (decimal w >>= argument >>= real Int) else
    if letter == 116 then after_t w else
    if letter == 115 then after_s w else by_other_letter letter w

unfoldable pub register : List ℕ → Option Reg
register [] = None
register (letter ∷ w) = by_letter letter w
