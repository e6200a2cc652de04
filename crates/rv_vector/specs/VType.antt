-- The vector type (chapter "V", "Vector Type (vtype) Register"): its bits, and its text.
use Rattle.std.specs.Prelude.{ℕ, ◌+◌, ◌*◌, ◌^◌, List, ◌++◌, codes}
use Rattle.rv_vector.specs.declared.widths.VecElementWidth.{VecElementWidth}
use Rattle.rv_vector.specs.declared.widths.VecLmul.TheVariants.{Lmul1}
use Rattle.rv_vector.specs.declared.modes.VecTailMode.TheVariants as tail
use Rattle.rv_vector.specs.declared.modes.VecMaskMode.TheVariants as mask
use Rattle.rv_vector.specs.declared.vtype.VType.{VType}
use Rattle.rv_vector.specs.Widths.{sew_of, width_name, lmul_of, lmul_name}
use Rattle.rv_vector.specs.Modes.{tail_of, tail_name, mask_of, mask_name}

-- the low eight bits of vtype: vlmul 2 to 0, vsew 5 to 3, vta 6, vma 7
abbrev pub vtype_of : VType → ℕ
vtype_of v = lmul_of v.lmul + sew_of v.sew * 2 ^ 3 + tail_of v.tail_mode * 2 ^ 6 + mask_of v.mask_mode * 2 ^ 7

-- as the assembler writes it
abbrev pub vtype_text : VType → List ℕ
vtype_text v = width_name v.sew ++ codes ", " ++ lmul_name v.lmul ++ codes ", " ++ tail_name v.tail_mode ++ codes ", " ++ mask_name v.mask_mode

-- one register of elements of this width, agnostic of tail and mask
abbrev pub agnostic : VecElementWidth → VType
agnostic width = record { sew = width; lmul = Lmul1; tail_mode = tail.Agnostic; mask_mode = mask.Agnostic }
