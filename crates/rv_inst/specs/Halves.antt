-- Loads and stores of any operation, in how many bytes of code. Without "Zfhmin" the machine has none of halves: there lh loads a half
-- into x31, where lui and or set all bits above it, and fmv.w.x moves it to its register; and fmv.x.w moves one to x30, which sh stores.
use Rattle.std.specs.Prelude.{ℕ, ◌+◌, Bool, not, if◌then◌else◌, ℤ, negsuc}
use Rattle.rv_base.specs.declared.flags.IsaFlags.{IsaFlags}
use Rattle.rv_ops.specs.declared.alu.AluOPRRR.TheVariants.{Or}
use Rattle.rv_ops.specs.declared.memory.LoadOP.{LoadOP}
use Rattle.rv_ops.specs.declared.memory.LoadOP.TheVariants.{Lh}
use Rattle.rv_ops.specs.declared.memory.StoreOP.{StoreOP}
use Rattle.rv_ops.specs.declared.memory.StoreOP.TheVariants.{Sh}
use Rattle.rv_encode.specs.Operations.{has_load, has_store}
use Rattle.rv_inst.specs.Addresses.{Location, load_own_size, store_own_size}
use Rattle.rv_inst.specs.Forms.{short_lui, short_rrr}

-- the upper immediate whose value has all bits from the sixteenth on
abbrev pub high_bits : ℤ
high_bits = negsuc 15

-- the words after lh
abbrev pub boxing_size : IsaFlags → ℕ
boxing_size flags = (short_lui flags 30 high_bits).len + (short_rrr flags Or 31 31 30).len + 4

-- how long a load is from its own instruction on
abbrev pub load_line_own_size : IsaFlags → LoadOP → ℕ → Location → ℕ
load_line_own_size flags op rd at = if has_load flags op then load_own_size flags op rd at else load_own_size flags Lh 31 at + boxing_size flags

-- and a store
abbrev pub store_line_own_size : IsaFlags → StoreOP → ℕ → Location → ℕ
store_line_own_size flags op src at = if has_store flags op then store_own_size flags op src at else store_own_size flags Sh 30 at

-- whether a word stands before the code of the address
abbrev pub is_moved_first : IsaFlags → StoreOP → Bool
is_moved_first flags op = not (has_store flags op)
