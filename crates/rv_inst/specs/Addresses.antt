-- Where addresses of loads and stores are, and how long the instruction of an access itself is.
use Rattle.std.specs.Prelude.{ℕ, ◌+◌, ◌-◌, ◌^◌, Bool, ◌&&◌, ◌||◌, if◌then◌else◌, ℤ, pos, negsuc, int_le, int_lt}
use Rattle.rv_base.specs.declared.amode.AMode.{AMode}
use Rattle.rv_base.specs.declared.amode.AMode.TheVariants.{RegOffset, SPOffset, FPOffset, SlotOffset, IncomingArg, Const, Label}
use Rattle.rv_base.specs.declared.constant.VCodeConstant.{VCodeConstant}
use Rattle.rv_base.specs.declared.flags.IsaFlags.{IsaFlags}
use Rattle.rv_base.specs.declared.frame.FrameLayout.{FrameLayout}
use Rattle.rv_base.specs.declared.label.MachLabel.{MachLabel}
use Rattle.rv_base.specs.AMode.{offset_of}
use Rattle.rv_base.specs.Regs.{number_of}
use Rattle.rv_imms.specs.Splitting.{least, greatest}
use Rattle.rv_ops.specs.declared.memory.LoadOP.{LoadOP}
use Rattle.rv_ops.specs.declared.memory.StoreOP.{StoreOP}
use Rattle.rv_inst.specs.Forms.{short_load, short_store, jump_size}

-- a register, by its number, plus an offset; a label; or a constant
pub data Location : Type 0 where
  Based : ℕ → ℤ → Location
  AtLabel : MachLabel → Location
  AtConstant : VCodeConstant → Location

-- sp is x2, and fp is x8
abbrev pub location_of : FrameLayout → AMode → Location
location_of frame (RegOffset r o) = Based (number_of r) o
location_of frame (SPOffset o) = Based 2 o
location_of frame (FPOffset o) = Based 8 o
location_of frame (SlotOffset o) = Based 2 (offset_of frame (SlotOffset o))
location_of frame (IncomingArg o) = Based 2 (offset_of frame (IncomingArg o))
location_of frame (Const k) = AtConstant k
location_of frame (Label l) = AtLabel l

-- ---- offsets

-- an offset that a load, a store or addi takes: twelve bits, signed
abbrev pub is_near : ℤ → Bool
is_near o = int_le (negsuc 2047) o && int_le o (pos 2047)

-- an offset that an upper and a lower immediate make
abbrev pub is_splittable : ℤ → Bool
is_splittable o = int_le least o && int_le o greatest

-- an offset below -2^62 or above 2^62
abbrev pub is_distant : ℤ → Bool
is_distant o = int_lt o (negsuc (2 ^ 62 - 1)) || int_lt (pos (2 ^ 62)) o

-- ---- bytes

-- A constant of so many bytes stands among the code that loads it: auipc, a load, a jump over the bytes, and the bytes.
abbrev pub inline_size : IsaFlags → ℕ → ℕ
inline_size flags bytes = 4 + 4 + jump_size flags + bytes

-- The instruction of a load itself: one from x31, into which a far address is put, or with the lower part of a label or a
-- constant has no form of sixteen bits.
abbrev pub load_own_size : IsaFlags → LoadOP → ℕ → Location → ℕ
load_own_size flags op rd (Based r o) = if is_near o then (short_load flags op rd r o).len else 4
load_own_size flags op rd (AtLabel l) = 4
load_own_size flags op rd (AtConstant k) = 4

-- the instruction of a store itself: one to x31, into which any address but a near one is put, has no form of sixteen bits
abbrev pub store_own_size : IsaFlags → StoreOP → ℕ → Location → ℕ
store_own_size flags op src (Based r o) = if is_near o then (short_store flags op r src o).len else 4
store_own_size flags op src (AtLabel l) = 4
store_own_size flags op src (AtConstant k) = 4
