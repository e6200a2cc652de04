-- Operations, and slots, after which nothing is known of the vector unit's setting: a `jalr`, and a `jal` of four bytes.
use Rattle.std.specs.Prelude.{ℕ, Bool, true, false, not, ◌==◌, ◌||◌, pos}
use Rattle.std.specs.List.{list_any}
use Rattle.rv_machine.specs.declared.decoding.Decoded.{Decoded}
use Rattle.rv_machine.specs.declared.ops.BaseOp.{BaseOp}
use Rattle.rv_machine.specs.declared.ops.BaseOp.TheVariants.{Lui, Auipc, Jal, Jalr, Beq, Bne, Blt, Bge, Bltu, Bgeu, Fence, Ebreak}
use Rattle.rv_machine.specs.declared.ops.MOp.{MOp}
use Rattle.rv_machine.specs.declared.ops.MOp.TheVariants.{Base, Load, Store, Alu, Carry, Atomic, Csr, FloatLoad, FloatStore, Float, VecMem, Vec}
use Rattle.rv_code.specs.Slots.{Slot, Op, Fixup, Data, Records, Names, Allocate, Here, RelocPair, Address, CallTo}
use Rattle.rv_inst.specs.Addresses.{Location, Based, AtLabel, AtConstant, is_splittable}

-- one of so many bytes
abbrev pub base_forgets : ℕ → BaseOp → Bool
base_forgets bytes Lui = false
base_forgets bytes Auipc = false
base_forgets bytes Jal = bytes == 4
base_forgets bytes Jalr = true
base_forgets bytes Beq = false
base_forgets bytes Bne = false
base_forgets bytes Blt = false
base_forgets bytes Bge = false
base_forgets bytes Bltu = false
base_forgets bytes Bgeu = false
base_forgets bytes Fence = false
base_forgets bytes Ebreak = false

abbrev pub op_forgets : ℕ → MOp → Bool
op_forgets bytes (Base op) = base_forgets bytes op
op_forgets bytes (Load op) = false
op_forgets bytes (Store op) = false
op_forgets bytes (Alu op) = false
op_forgets bytes (Carry op) = false
op_forgets bytes (Atomic op width) = false
op_forgets bytes (Csr op) = false
op_forgets bytes (FloatLoad format) = false
op_forgets bytes (FloatStore format) = false
op_forgets bytes (Float format op) = false
op_forgets bytes (VecMem op) = false
op_forgets bytes (Vec funct6 funct3) = false

abbrev pub forgets : Decoded → Bool
forgets d = op_forgets d.len d.op

-- whether one of a slot's operations forgets; they differ by the distance in their immediates alone
abbrev pub slot_forgets : Slot → Bool
slot_forgets (Op d) = forgets d
slot_forgets (Fixup kind target ops) = list_any forgets (ops (pos 0))
slot_forgets (Data bytes) = false
slot_forgets (Records event) = false
slot_forgets (Names k) = false
slot_forgets Allocate = false
slot_forgets (Here k) = false
slot_forgets (RelocPair symbol upper lower) = list_any forgets (upper (pos 0)) || list_any forgets (lower (pos 0))
slot_forgets (Address name addend) = false
slot_forgets (CallTo name ops) = list_any forgets (ops (pos 0))

-- ---- a link of the proof

-- whether the offset of an address stands among the code, which jumps over it: no two immediates make it
abbrev pub is_inline : Location → Bool
is_inline (Based r o) = not (is_splittable o)
is_inline (AtLabel l) = false
is_inline (AtConstant k) = false
