-- The names of registers, a table for each file.
use Rattle.std.specs.Prelude.{ℕ, List, [], ◌∷◌, ◌++◌, codes, slice_get, unwrap_or}
use Rattle.std.specs.Fmt.{decimal}
use Rattle.rv_base.specs.declared.regs.RegClass.{RegClass}
use Rattle.rv_base.specs.declared.regs.RegClass.TheVariants.{Int, Float, Vector}
use Rattle.rv_base.specs.declared.regs.Reg.{Reg}
use Rattle.rv_base.specs.declared.regs.Reg.TheVariants.{Real, Virtual}

-- x0 to x31, as the psABI's "Integer Register Convention" names them
abbrev pub int_names : List (List ℕ)
int_names =
    codes "zero" ∷ codes "ra" ∷ codes "sp" ∷ codes "gp" ∷ codes "tp" ∷ codes "t0" ∷ codes "t1" ∷ codes "t2" ∷
    codes "fp" ∷ codes "s1" ∷ codes "a0" ∷ codes "a1" ∷ codes "a2" ∷ codes "a3" ∷ codes "a4" ∷ codes "a5" ∷
    codes "a6" ∷ codes "a7" ∷ codes "s2" ∷ codes "s3" ∷ codes "s4" ∷ codes "s5" ∷ codes "s6" ∷ codes "s7" ∷
    codes "s8" ∷ codes "s9" ∷ codes "s10" ∷ codes "s11" ∷ codes "t3" ∷ codes "t4" ∷ codes "t5" ∷ codes "t6" ∷ []

-- f0 to f31, as its "Floating-point Register Convention" names them
abbrev pub float_names : List (List ℕ)
float_names =
    codes "ft0" ∷ codes "ft1" ∷ codes "ft2" ∷ codes "ft3" ∷ codes "ft4" ∷ codes "ft5" ∷ codes "ft6" ∷ codes "ft7" ∷
    codes "fs0" ∷ codes "fs1" ∷ codes "fa0" ∷ codes "fa1" ∷ codes "fa2" ∷ codes "fa3" ∷ codes "fa4" ∷ codes "fa5" ∷
    codes "fa6" ∷ codes "fa7" ∷ codes "fs2" ∷ codes "fs3" ∷ codes "fs4" ∷ codes "fs5" ∷ codes "fs6" ∷ codes "fs7" ∷
    codes "fs8" ∷ codes "fs9" ∷ codes "fs10" ∷ codes "fs11" ∷ codes "ft8" ∷ codes "ft9" ∷ codes "ft10" ∷ codes "ft11" ∷ []

-- the name at a number below the table's length
abbrev pub name_at : List (List ℕ) → ℕ → List ℕ
name_at names number = unwrap_or (slice_get names number) []

-- the name of a real register; vector registers go by their number
abbrev pub real_name : RegClass → ℕ → List ℕ
real_name Int number = name_at int_names number
real_name Float number = name_at float_names number
real_name Vector number = codes "v" ++ decimal number

abbrev pub name_of : Reg → List ℕ
name_of (Real p) = real_name p.class p.number
name_of (Virtual class index) = codes "%" ++ decimal index.value
