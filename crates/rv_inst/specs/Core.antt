-- Lines of the integer core: the integer machine alone says what they mean. Of all others the machine with all units does.
use Rattle.std.specs.Prelude.{Bool, true, false, not, ◌&&◌, Option, Some, None}
use Rattle.std.specs.List.{list_any}
use Rattle.rv_base.specs.declared.frame.FrameLayout.{FrameLayout}
use Rattle.rv_base.specs.declared.regs.PReg.{PReg}
use Rattle.rv_base.specs.declared.regs.Writable.{Writable}
use Rattle.rv_inst.specs.declared.inst.Family.{Family}
use Rattle.rv_inst.specs.declared.inst.Family.TheVariants.{Pseudo, Integer, Memory, Control, Loop, Symbols, Calls, Float}
use Rattle.rv_inst.specs.declared.inst.Inst.{Inst}
use Rattle.rv_inst.specs.declared.inst.Line.{Line}
use Rattle.rv_inst.specs.declared.inst.Line.TheVariants.{Inst as Put, Bind}
use Rattle.rv_inst.specs.Operands.{family_of, is_float_class, operands_of, tail_call_of}
use Rattle.rv_inst.specs.declared.tail_calls.TailCall.{TailCall}

abbrev pub is_integer_family : Family → Bool
is_integer_family Pseudo = true
is_integer_family Integer = true
is_integer_family Memory = true
is_integer_family Control = true
is_integer_family Loop = true
is_integer_family Symbols = true
is_integer_family Calls = true
is_integer_family Float = false

-- of a family of integers, and neither is a value of a floating-point register moved nor an operation one of Zbc or Zbkb
abbrev pub is_integer : Inst → Bool
is_integer inst = is_integer_family (family_of inst) && not (operands_of inst).leaves_integers

-- whether a tail call restores a floating-point register that its frame saves
abbrev pub restores_float : FrameLayout → Option TailCall → Bool
restores_float frame None = false
restores_float frame (Some tail) = list_any (λ (r : Writable PReg). is_float_class r.reg.class) frame.clobbered_callee_saves

-- so it is in a frame where none is restored either
abbrev pub is_integer_in : FrameLayout → Inst → Bool
is_integer_in frame inst = not (restores_float frame (tail_call_of inst)) && is_integer inst

abbrev pub is_integer_line : FrameLayout → Line → Bool
is_integer_line frame (Put inst) = is_integer_in frame inst
is_integer_line frame (Bind label) = true
