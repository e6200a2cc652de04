-- Addresses: base, offset, name, and the registers that they read.
use Rattle.std.specs.Prelude.{◌≡◌, ℕ, ◌-◌, ◌^◌, ℤ, pos, negsuc, ◌+ℤ◌, ◌-ℤ◌, ◌≤ℤ◌, Option, Some, None, List, [], ◌∷◌, ◌++◌, codes}
use Rattle.std.specs.Fmt.{decimal, signed_decimal}
use Rattle.rv_base.specs.declared.regs.RegClass.{RegClass}
use Rattle.rv_base.specs.declared.regs.Reg.{Reg}
use Rattle.rv_base.specs.declared.frame.FrameLayout.{FrameLayout}
use Rattle.rv_base.specs.declared.constraint.Constraint.{Constraint}
use Rattle.rv_base.specs.declared.constraint.Constraint.TheVariants.{RegUse}
use Rattle.rv_base.specs.declared.amode.StackAMode.{StackAMode}
use Rattle.rv_base.specs.declared.amode.StackAMode.TheVariants as stack
use Rattle.rv_base.specs.declared.amode.AMode.{AMode}
use Rattle.rv_base.specs.declared.amode.AMode.TheVariants.{RegOffset, SPOffset, FPOffset, SlotOffset, IncomingArg, Const, Label}
use Rattle.rv_base.specs.Regs.{class_of, stack_pointer, frame_pointer}
use Rattle.rv_base.specs.RegNames.{name_of}
use Rattle.rv_base.specs.Frame.{sp_to_args_end}

-- an offset whose sums with a frame's sizes stay within 64 bits
abbrev pub IsNear : ℤ → Type 0
IsNear offset = (negsuc (2 ^ 62 - 1) ≤ℤ offset) × (offset ≤ℤ pos (2 ^ 62))

-- the offset as it is written; 0 where none is
abbrev pub own_offset : AMode → ℤ
own_offset (RegOffset r o) = o
own_offset (SPOffset o) = o
own_offset (FPOffset o) = o
own_offset (SlotOffset o) = o
own_offset (IncomingArg o) = o
own_offset (Const k) = pos 0
own_offset (Label l) = pos 0

abbrev pub own_stack_offset : StackAMode → ℤ
own_stack_offset (stack.IncomingArg o size) = o
own_stack_offset (stack.Slot o) = o
own_stack_offset (stack.OutgoingArg o) = o

-- the register that the offset counts from; none for a constant or a label
abbrev pub base_of : AMode → Option Reg
base_of (RegOffset r o) = Some r
base_of (SPOffset o) = Some stack_pointer
base_of (FPOffset o) = Some frame_pointer
base_of (SlotOffset o) = Some stack_pointer
base_of (IncomingArg o) = Some stack_pointer
base_of (Const k) = None
base_of (Label l) = None

-- slots lie above the outgoing arguments; incoming arguments count down from their end
abbrev pub offset_of : FrameLayout → AMode → ℤ
offset_of f (RegOffset r o) = o
offset_of f (SPOffset o) = o
offset_of f (FPOffset o) = o
offset_of f (SlotOffset o) = o +ℤ pos f.outgoing_args_size
offset_of f (IncomingArg o) = pos (sp_to_args_end f) -ℤ o
offset_of f (Const k) = pos 0
offset_of f (Label l) = pos 0

abbrev pub amode_of : StackAMode → AMode
amode_of (stack.IncomingArg o size) = IncomingArg (pos size -ℤ o)
amode_of (stack.Slot o) = SlotOffset o
amode_of (stack.OutgoingArg o) = SPOffset o

-- the registers that an address holds
abbrev pub registers_of : AMode → List Reg
registers_of (RegOffset r o) = r ∷ []
registers_of (SPOffset o) = []
registers_of (FPOffset o) = []
registers_of (SlotOffset o) = []
registers_of (IncomingArg o) = []
registers_of (Const k) = []
registers_of (Label l) = []

-- the requests that an address makes: it reads its register
abbrev pub operands_of : AMode → List Constraint
operands_of (RegOffset r o) = RegUse r ∷ []
operands_of (SPOffset o) = []
operands_of (FPOffset o) = []
operands_of (SlotOffset o) = []
operands_of (IncomingArg o) = []
operands_of (Const k) = []
operands_of (Label l) = []

-- this offset from a register of this class
abbrev pub IsFromClass : RegClass → ℤ → AMode → Type 0
IsFromClass class o (RegOffset r p) = (class_of r ≡ class) × (p ≡ o)
IsFromClass class o (SPOffset p) = ⊥
IsFromClass class o (FPOffset p) = ⊥
IsFromClass class o (SlotOffset p) = ⊥
IsFromClass class o (IncomingArg p) = ⊥
IsFromClass class o (Const k) = ⊥
IsFromClass class o (Label l) = ⊥

-- the same address, maybe from another register of the same class
abbrev pub IsRenamed : AMode → AMode → Type 0
IsRenamed (RegOffset r o) new = IsFromClass (class_of r) o new
IsRenamed (SPOffset o) new = new ≡ SPOffset o
IsRenamed (FPOffset o) new = new ≡ FPOffset o
IsRenamed (SlotOffset o) new = new ≡ SlotOffset o
IsRenamed (IncomingArg o) new = new ≡ IncomingArg o
IsRenamed (Const k) new = new ≡ Const k
IsRenamed (Label l) new = new ≡ Label l

abbrev pub text_of : AMode → List ℕ
text_of (RegOffset r o) = signed_decimal o ++ codes "(" ++ name_of r ++ codes ")"
text_of (SPOffset o) = signed_decimal o ++ codes "(sp)"
text_of (FPOffset o) = signed_decimal o ++ codes "(fp)"
text_of (SlotOffset o) = signed_decimal o ++ codes "(slot)"
text_of (IncomingArg o) = codes "-" ++ signed_decimal o ++ codes "(incoming_arg)"
text_of (Const k) = codes "[const(" ++ decimal k.number ++ codes ")]"
text_of (Label l) = codes "[label" ++ decimal l.number ++ codes "]"
