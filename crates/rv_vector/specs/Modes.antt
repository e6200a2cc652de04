-- What becomes of the elements past the vector length, and of those that the mask turns off (chapter "V", "Vector Tail Agnostic
-- and Vector Mask Agnostic"): the bits in vtype, and the assembler's names.
use Rattle.std.specs.Prelude.{ℕ, List, codes}
use Rattle.rv_vector.specs.declared.modes.VecTailMode.{VecTailMode}
use Rattle.rv_vector.specs.declared.modes.VecTailMode.TheVariants as tail
use Rattle.rv_vector.specs.declared.modes.VecMaskMode.{VecMaskMode}
use Rattle.rv_vector.specs.declared.modes.VecMaskMode.TheVariants as mask

-- vta, bit 6 of vtype
abbrev pub tail_of : VecTailMode → ℕ
tail_of tail.Agnostic = 1
tail_of tail.Undisturbed = 0

abbrev pub tail_name : VecTailMode → List ℕ
tail_name tail.Agnostic = codes "ta"
tail_name tail.Undisturbed = codes "tu"

-- vma, bit 7 of vtype
abbrev pub mask_of : VecMaskMode → ℕ
mask_of mask.Agnostic = 1
mask_of mask.Undisturbed = 0

abbrev pub mask_name : VecMaskMode → List ℕ
mask_name mask.Agnostic = codes "ma"
mask_name mask.Undisturbed = codes "mu"
