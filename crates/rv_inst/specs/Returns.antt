-- What is loaded from the stack: before another function takes a frame's place, where the stack pointer rises too, and after a call.
use Rattle.std.specs.Prelude.{ℕ, ◌+◌, ◌-◌, ◌==◌, Bool, true, false, if◌then◌else◌, List, [], ◌∷◌, ◌++◌, Option, Some, None, ℤ, pos, ◌-ℤ◌}
use Rattle.rv_base.specs.declared.call.CallRetPair.{CallRetPair}
use Rattle.rv_base.specs.declared.call.RetLocation.{RetLocation}
use Rattle.rv_base.specs.declared.call.RetLocation.TheVariants.{Reg as InReg, Stack as OnStack}
use Rattle.rv_base.specs.declared.frame.FrameLayout.{FrameLayout}
use Rattle.rv_base.specs.declared.ir_type.IrType.{IrType}
use Rattle.rv_base.specs.declared.ir_type.IrType.TheVariants.{I8, I16, I32, I64, I128, F16, F32, F64, F128, Vector}
use Rattle.rv_base.specs.declared.regs.PReg.{PReg}
use Rattle.rv_base.specs.declared.regs.Reg.{Reg}
use Rattle.rv_base.specs.declared.regs.RegClass.{RegClass}
use Rattle.rv_base.specs.declared.regs.RegClass.TheVariants.{Int, Float, Vector as VectorClass}
use Rattle.rv_base.specs.declared.regs.Writable.{Writable}
use Rattle.rv_base.specs.Frame.{sp_to_fp_of}
use Rattle.rv_base.specs.Regs.{number_of}
use Rattle.rv_ops.specs.Memory.{load_of}
use Rattle.rv_ops.specs.declared.memory.LoadOP.{LoadOP}
use Rattle.rv_ops.specs.declared.memory.LoadOP.TheVariants.{Ld, Fld}

-- a load into a register, by its number in the file that the load's operation is of, from so many bytes above the stack pointer
pub record StackLoad : Type 0 where
  pub register : ℕ
  pub op : LoadOP
  pub offset : ℤ

-- ---- before a tail call

-- the load of a register that a frame saves, by its class: eight bytes; a vector register is one that no frame saves
abbrev pub saved_load : RegClass → LoadOP
saved_load Int = Ld
saved_load Float = Fld
saved_load VectorClass = Ld

-- the registers that a frame saves, eight bytes each, from an offset downwards
abbrev pub saves_from : ℤ → List (Writable PReg) → List StackLoad
saves_from offset [] = []
saves_from offset (r ∷ saves) = record { register = r.reg.number; op = saved_load r.reg.class; offset = offset } ∷ saves_from (offset -ℤ pos 8) saves

-- the caller's frame pointer, which is x8, and the return address above it, which goes into x1; none where the frame has no room
-- for them
abbrev pub setup_loads : FrameLayout → List StackLoad
setup_loads frame =
    if frame.setup_area_size == 0 then [] else
    record { register = 1; op = Ld; offset = pos (sp_to_fp_of frame + 8) } ∷ record { register = 8; op = Ld; offset = pos (sp_to_fp_of frame) } ∷ []

-- what a frame restores, in order
abbrev pub restores : FrameLayout → List StackLoad
restores frame = saves_from (pos (sp_to_fp_of frame) -ℤ pos 8) frame.clobbered_callee_saves ++ setup_loads frame

-- how far the stack pointer rises to the arguments of the next function, which take so many bytes
abbrev pub frame_above : FrameLayout → ℕ → ℕ
frame_above frame arguments = sp_to_fp_of frame + frame.setup_area_size + (frame.tail_args_size - arguments)

-- ---- after a call

-- the load of a result of a type; of other types none is loaded, which a rule refuses
abbrev pub result_load : IrType → Option LoadOP
result_load I8 = load_of I8
result_load I16 = load_of I16
result_load I32 = load_of I32
result_load I64 = load_of I64
result_load I128 = None
result_load F16 = load_of F16
result_load F32 = load_of F32
result_load F64 = load_of F64
result_load F128 = None
result_load (Vector v) = None

-- a result on the stack, by the load of its type, where it has one
abbrev pub typed_loads : ℕ → ℕ → Option LoadOP → List StackLoad
typed_loads register offset None = []
typed_loads register offset (Some op) = record { register = register; op = op; offset = pos offset } ∷ []

-- a result in a register isn't loaded
abbrev pub location_loads : Reg → RetLocation → List StackLoad
location_loads r (InReg s) = []
location_loads r (OnStack offset type) = typed_loads (number_of r) offset (result_load type)

-- the results that a callee leaves on the stack, in order
abbrev pub result_loads : List CallRetPair → List StackLoad
result_loads [] = []
result_loads (d ∷ defs) = location_loads d.vreg.reg d.location ++ result_loads defs

-- those of a call of a symbol: one that may be patched loads none
abbrev pub loads_unless : Bool → List CallRetPair → List StackLoad
loads_unless true defs = []
loads_unless false defs = result_loads defs
