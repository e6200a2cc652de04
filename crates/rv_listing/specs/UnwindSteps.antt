-- The steps in the making of a frame, as a listing and a report have them.
use Rattle.std.specs.Prelude.{ℕ, List, [], ◌∷◌, ◌++◌, Option, None, if◌then◌else◌, codes}
use Rattle.std.specs.Fmt.{decimal}
use Rattle.std.specs.Str.{bytes_eq}
use Rattle.rv_base.specs.declared.unwind.UnwindInst.{UnwindInst}
use Rattle.rv_base.specs.declared.unwind.UnwindInst.TheVariants.{PushFrameRegs, DefineNewFrame, StackAlloc, SaveReg}
use Rattle.rv_base.specs.RegNames.{name_of}
use Rattle.rv_listing.specs.Fields.{done, ◌⊛◌, whole}
use Rattle.rv_listing.specs.Registers.{register}
use Rattle.rv_listing.specs.Operands.{natural_32}

-- a step by its kind and the words after it
unfoldable pub by_kind : List ℕ → List (List ℕ) → Option UnwindInst
by_kind kind ws =
    if bytes_eq kind (codes "push") then whole (done PushFrameRegs ⊛ natural_32) ws else
    if bytes_eq kind (codes "frame") then whole (done DefineNewFrame ⊛ natural_32 ⊛ natural_32) ws else
    if bytes_eq kind (codes "alloc") then whole (done StackAlloc ⊛ natural_32) ws else
    if bytes_eq kind (codes "save") then whole (done SaveReg ⊛ natural_32 ⊛ register) ws else None

abbrev pub step_of : List (List ℕ) → Option UnwindInst
step_of [] = None
step_of (kind ∷ ws) = by_kind kind ws

-- the same in a report
abbrev pub step_text : UnwindInst → List ℕ
step_text (PushFrameRegs to_caller) = codes "push " ++ decimal to_caller
step_text (DefineNewFrame to_caller to_saved) = codes "frame " ++ decimal to_caller ++ 32 ∷ [] ++ decimal to_saved
step_text (StackAlloc size) = codes "alloc " ++ decimal size
step_text (SaveReg above reg) = codes "save " ++ decimal above ++ 32 ∷ [] ++ name_of reg
