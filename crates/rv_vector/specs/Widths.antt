-- The selected element width and the vector register group multiplier (chapter "V", "Vector Selected Element Width" and "Vector
-- Register Grouping"): their bits in vtype, and the assembler's names.
use Rattle.std.specs.Prelude.{ℕ, nat_eq, if◌then◌else◌, Option, Some, None, List, codes}
use Rattle.rv_vector.specs.declared.widths.VecElementWidth.{VecElementWidth}
use Rattle.rv_vector.specs.declared.widths.VecElementWidth.TheVariants.{E8, E16, E32, E64}
use Rattle.rv_vector.specs.declared.widths.VecLmul.{VecLmul}
use Rattle.rv_vector.specs.declared.widths.VecLmul.TheVariants.{LmulF8, LmulF4, LmulF2, Lmul1, Lmul2, Lmul4, Lmul8}

-- how many bits an element has
abbrev pub bits_of : VecElementWidth → ℕ
bits_of E8 = 8
bits_of E16 = 16
bits_of E32 = 32
bits_of E64 = 64

-- the width of so many bits; none for other numbers
abbrev pub width_of : ℕ → Option VecElementWidth
width_of n = if nat_eq n 8 then Some E8 else if nat_eq n 16 then Some E16 else if nat_eq n 32 then Some E32 else if nat_eq n 64 then Some E64 else None

-- vsew, bits 5 to 3 of vtype
abbrev pub sew_of : VecElementWidth → ℕ
sew_of E8 = 0
sew_of E16 = 1
sew_of E32 = 2
sew_of E64 = 3

abbrev pub width_name : VecElementWidth → List ℕ
width_name E8 = codes "e8"
width_name E16 = codes "e16"
width_name E32 = codes "e32"
width_name E64 = codes "e64"

-- vlmul, bits 2 to 0 of vtype
abbrev pub lmul_of : VecLmul → ℕ
lmul_of LmulF8 = 5
lmul_of LmulF4 = 6
lmul_of LmulF2 = 7
lmul_of Lmul1 = 0
lmul_of Lmul2 = 1
lmul_of Lmul4 = 2
lmul_of Lmul8 = 3

abbrev pub lmul_name : VecLmul → List ℕ
lmul_name LmulF8 = codes "mf8"
lmul_name LmulF4 = codes "mf4"
lmul_name LmulF2 = codes "mf2"
lmul_name Lmul1 = codes "m1"
lmul_name Lmul2 = codes "m2"
lmul_name Lmul4 = codes "m4"
lmul_name Lmul8 = codes "m8"
