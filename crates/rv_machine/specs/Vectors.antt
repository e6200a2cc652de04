-- "V", Vector Arithmetic Instruction Encoding, with "Zvbb": which fields make an operation. Those that no instruction here uses
-- are left out.
use Rattle.std.specs.Prelude.{ℕ, ◌+◌, ◌%◌, ◌==◌, ◌&&◌, ◌||◌, not, if◌then◌else◌, Bool, true, false, Option, Some, None}
use Rattle.rv_machine.specs.declared.ops.VecFields.{VecFields}
use Rattle.rv_machine.specs.declared.ops.VecFields.TheVariants.{Any, Unmasked, Merge, FromScalar, ToScalar, IntUnary, FloatUnary, Root, Move}

-- OPIVV
abbrev pub opivv : ℕ → Option VecFields
opivv funct6 =
    -- vadd
    if funct6 == 0x00 then Some Any else
    -- vandn
    if funct6 == 0x01 then Some Any else
    -- vsub
    if funct6 == 0x02 then Some Any else
    -- vminu
    if funct6 == 0x04 then Some Any else
    -- vmin
    if funct6 == 0x05 then Some Any else
    -- vmaxu
    if funct6 == 0x06 then Some Any else
    -- vmax
    if funct6 == 0x07 then Some Any else
    -- vand
    if funct6 == 0x09 then Some Any else
    -- vor
    if funct6 == 0x0a then Some Any else
    -- vxor
    if funct6 == 0x0b then Some Any else
    -- vrgather
    if funct6 == 0x0c then Some Any else
    -- vror
    if funct6 == 0x14 then Some Any else
    -- vrol
    if funct6 == 0x15 then Some Any else
    -- vmerge, vmv.v
    if funct6 == 0x17 then Some Merge else
    -- vmseq
    if funct6 == 0x18 then Some Any else
    -- vmsne
    if funct6 == 0x19 then Some Any else
    -- vmsltu
    if funct6 == 0x1a then Some Any else
    -- vmslt
    if funct6 == 0x1b then Some Any else
    -- vmsleu
    if funct6 == 0x1c then Some Any else
    -- vmsle
    if funct6 == 0x1d then Some Any else
    -- vsaddu
    if funct6 == 0x20 then Some Any else
    -- vsadd
    if funct6 == 0x21 then Some Any else
    -- vssubu
    if funct6 == 0x22 then Some Any else
    -- vssub
    if funct6 == 0x23 then Some Any else
    -- vsll
    if funct6 == 0x25 then Some Any else
    -- vsmul
    if funct6 == 0x27 then Some Any else
    -- vsrl
    if funct6 == 0x28 then Some Any else
    -- vsra
    if funct6 == 0x29 then Some Any else
    None

-- the rows that OPFVV and OPFVF share
abbrev pub opf : ℕ → Option VecFields
opf funct6 =
    -- vfadd
    if funct6 == 0x00 then Some Any else
    -- vfsub
    if funct6 == 0x02 then Some Any else
    -- vfsgnj
    if funct6 == 0x08 then Some Any else
    -- vmfeq
    if funct6 == 0x18 then Some Any else
    -- vmfle
    if funct6 == 0x19 then Some Any else
    -- vmflt
    if funct6 == 0x1b then Some Any else
    -- vmfne
    if funct6 == 0x1c then Some Any else
    -- vfdiv
    if funct6 == 0x20 then Some Any else
    -- vfmul
    if funct6 == 0x24 then Some Any else
    -- vfmacc
    if funct6 == 0x2c then Some Any else
    -- vfnmacc
    if funct6 == 0x2d then Some Any else
    -- vfmsac
    if funct6 == 0x2e then Some Any else
    -- vfnmsac
    if funct6 == 0x2f then Some Any else
    None

-- OPFVV
abbrev pub opfvv : ℕ → Option VecFields
opfvv funct6 =
    -- vfmin
    if funct6 == 0x04 then Some Any else
    -- vfmax
    if funct6 == 0x06 then Some Any else
    -- vfsgnjn
    if funct6 == 0x09 then Some Any else
    -- vfsgnjx
    if funct6 == 0x0a then Some Any else
    -- vfmv.f.s
    if funct6 == 0x10 then Some ToScalar else
    -- conversions
    if funct6 == 0x12 then Some FloatUnary else
    -- vfsqrt
    if funct6 == 0x13 then Some Root else
    opf funct6

-- the rows that OPMVV and OPMVX share
abbrev pub opm : ℕ → Option VecFields
opm funct6 =
    -- vmulhu
    if funct6 == 0x24 then Some Any else
    -- vmul
    if funct6 == 0x25 then Some Any else
    -- vmulh
    if funct6 == 0x27 then Some Any else
    -- vmacc
    if funct6 == 0x2d then Some Any else
    -- vnmsac
    if funct6 == 0x2f then Some Any else
    -- vwaddu
    if funct6 == 0x30 then Some Any else
    -- vwadd
    if funct6 == 0x31 then Some Any else
    -- vwsubu
    if funct6 == 0x32 then Some Any else
    -- vwsub
    if funct6 == 0x33 then Some Any else
    -- vwaddu.w
    if funct6 == 0x34 then Some Any else
    -- vwadd.w
    if funct6 == 0x35 then Some Any else
    -- vwsubu.w
    if funct6 == 0x36 then Some Any else
    -- vwsub.w
    if funct6 == 0x37 then Some Any else
    None

-- OPMVV
abbrev pub opmvv : ℕ → Option VecFields
opmvv funct6 =
    -- vredminu
    if funct6 == 0x04 then Some Any else
    -- vredmaxu
    if funct6 == 0x06 then Some Any else
    -- vmv.x.s
    if funct6 == 0x10 then Some ToScalar else
    -- extensions, counts and reversals
    if funct6 == 0x12 then Some IntUnary else
    -- vcompress
    if funct6 == 0x17 then Some Unmasked else
    -- vmand
    if funct6 == 0x19 then Some Unmasked else
    -- vmor
    if funct6 == 0x1a then Some Unmasked else
    -- vmnand
    if funct6 == 0x1d then Some Unmasked else
    -- vmnor
    if funct6 == 0x1e then Some Unmasked else
    opm funct6

-- OPIVI
abbrev pub opivi : ℕ → Option VecFields
opivi funct6 =
    -- vadd
    if funct6 == 0x00 then Some Any else
    -- vrsub
    if funct6 == 0x03 then Some Any else
    -- vand
    if funct6 == 0x09 then Some Any else
    -- vor
    if funct6 == 0x0a then Some Any else
    -- vxor
    if funct6 == 0x0b then Some Any else
    -- vrgather
    if funct6 == 0x0c then Some Any else
    -- vslideup
    if funct6 == 0x0e then Some Any else
    -- vslidedown
    if funct6 == 0x0f then Some Any else
    -- vror, of an amount below 32
    if funct6 == 0x14 then Some Any else
    -- vmerge, vmv.v
    if funct6 == 0x17 then Some Merge else
    -- vmseq
    if funct6 == 0x18 then Some Any else
    -- vmsne
    if funct6 == 0x19 then Some Any else
    -- vmsleu
    if funct6 == 0x1c then Some Any else
    -- vmsle
    if funct6 == 0x1d then Some Any else
    -- vmsgtu
    if funct6 == 0x1e then Some Any else
    -- vmsgt
    if funct6 == 0x1f then Some Any else
    -- vsaddu
    if funct6 == 0x20 then Some Any else
    -- vsadd
    if funct6 == 0x21 then Some Any else
    -- vsll
    if funct6 == 0x25 then Some Any else
    -- vmv<nr>r
    if funct6 == 0x27 then Some Move else
    -- vsrl
    if funct6 == 0x28 then Some Any else
    -- vsra
    if funct6 == 0x29 then Some Any else
    -- vssrl
    if funct6 == 0x2a then Some Any else
    -- vnclipu
    if funct6 == 0x2e then Some Any else
    -- vnclip
    if funct6 == 0x2f then Some Any else
    None

-- OPIVX: the rows of OPIVV, and those that have no form of two vectors
abbrev pub opivx : ℕ → Option VecFields
opivx funct6 =
    -- vrsub
    if funct6 == 0x03 then Some Any else
    -- vslidedown
    if funct6 == 0x0f then Some Any else
    -- vmsgtu
    if funct6 == 0x1e then Some Any else
    -- vmsgt
    if funct6 == 0x1f then Some Any else
    opivv funct6

-- OPFVF
abbrev pub opfvf : ℕ → Option VecFields
opfvf funct6 =
    -- vfmv.s.f
    if funct6 == 0x10 then Some FromScalar else
    -- vfmerge, vfmv.v
    if funct6 == 0x17 then Some Merge else
    -- vmfgt
    if funct6 == 0x1d then Some Any else
    -- vmfge
    if funct6 == 0x1f then Some Any else
    -- vfrdiv
    if funct6 == 0x21 then Some Any else
    -- vfrsub
    if funct6 == 0x27 then Some Any else
    opf funct6

-- OPMVX
abbrev pub opmvx : ℕ → Option VecFields
opmvx funct6 =
    -- vslide1up
    if funct6 == 0x0e then Some Any else
    -- vmv.s.x
    if funct6 == 0x10 then Some FromScalar else
    opm funct6

abbrev pub vector_fields : ℕ → ℕ → Option VecFields
vector_fields funct6 funct3 =
    if funct3 == 0 then opivv funct6 else
    if funct3 == 1 then opfvv funct6 else
    if funct3 == 2 then opmvv funct6 else
    if funct3 == 3 then opivi funct6 else
    if funct3 == 4 then opivx funct6 else
    if funct3 == 5 then opfvf funct6 else
    if funct3 == 6 then opmvx funct6 else
    None

-- VXUNARY0: vzext and vsext from an eighth, a fourth and a half, vbrev8, vrev8, vbrev, vclz, vctz and vcpop
abbrev pub is_int_unary : ℕ → Bool
is_int_unary selector =
    if selector == 0x02 then true else
    if selector == 0x03 then true else
    if selector == 0x04 then true else
    if selector == 0x05 then true else
    if selector == 0x06 then true else
    if selector == 0x07 then true else
    if selector == 0x08 then true else
    if selector == 0x09 then true else
    if selector == 0x0a then true else
    if selector == 0x0c then true else
    if selector == 0x0d then true else
    if selector == 0x0e then true else
    false

-- VFUNARY0: vfcvt.xu.f, .x.f, .f.xu and .f.x, .rtz.xu.f and .rtz.x.f, vfwcvt.f.f and vfncvt.f.f
abbrev pub is_float_unary : ℕ → Bool
is_float_unary selector =
    if selector == 0x00 then true else
    if selector == 0x01 then true else
    if selector == 0x02 then true else
    if selector == 0x03 then true else
    if selector == 0x06 then true else
    if selector == 0x07 then true else
    if selector == 0x0c then true else
    if selector == 0x14 then true else
    false

-- one, two, four or eight registers, from a multiple of their number on
abbrev pub is_whole : ℕ → ℕ → Bool
is_whole number register = register % (number + 1) == 0

abbrev pub is_move : ℕ → ℕ → ℕ → Bool
is_move less from to =
    if less == 0 then true else
    if less == 1 then is_whole 1 from && is_whole 1 to else
    if less == 3 then is_whole 3 from && is_whole 3 to else
    if less == 7 then is_whole 7 from && is_whole 7 to else
    false

-- whether the bit at 25 and the fields at 24:20, 19:15 and 11:7 are used so
abbrev pub are_fields : VecFields → Bool → ℕ → ℕ → ℕ → Bool
are_fields Any vm vs2 vs1 vd = true
are_fields Unmasked vm vs2 vs1 vd = vm
are_fields Merge vm vs2 vs1 vd = not vm || (vs2 == 0)
are_fields FromScalar vm vs2 vs1 vd = vm && (vs2 == 0)
are_fields ToScalar vm vs2 vs1 vd = vm && (vs1 == 0)
are_fields IntUnary vm vs2 vs1 vd = is_int_unary vs1
are_fields FloatUnary vm vs2 vs1 vd = is_float_unary vs1
are_fields Root vm vs2 vs1 vd = vs1 == 0
are_fields Move vm vs2 vs1 vd = vm && is_move vs1 vs2 vd
