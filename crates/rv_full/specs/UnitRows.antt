-- The row of each operation that is a unit's, on values: what the machine does at its pc, and what an instruction means.
use Rattle.rv_machine.specs.declared.decoding.Decoded.{Decoded}
use Rattle.rv_machine.specs.declared.ops.MOp.{MOp}
use Rattle.rv_machine.specs.declared.ops.MOp.TheVariants.{Base, Load, Store, Alu, Carry, Atomic, Csr, FloatLoad, FloatStore, Float, VecMem, Vec}
use Rattle.rv_full.specs.Units.{FullValues}
use Rattle.rv_full.specs.Rows.{Row, Absent}
use Rattle.rv_full.specs.Carry.{carry_row}
use Rattle.rv_full.specs.Atomics.{atomic_row, csr_row}
use Rattle.rv_full.specs.Floats.{float_load_row, float_store_row, float_row}
use Rattle.rv_full.specs.Vectors.{vector_memory_row, vector_row}

-- those of the integer machine are no unit's
abbrev pub row_of : MOp → Decoded → FullValues → Row
row_of (Base op) d v = Absent
row_of (Load op) d v = Absent
row_of (Store op) d v = Absent
row_of (Alu op) d v = Absent
row_of (Carry op) d v = carry_row op d v
row_of (Atomic op width) d v = atomic_row op width d v
row_of (Csr op) d v = csr_row op d v
row_of (FloatLoad format) d v = float_load_row format d v
row_of (FloatStore format) d v = float_store_row format d v
row_of (Float format op) d v = float_row format op d v
row_of (VecMem op) d v = vector_memory_row op d v
row_of (Vec funct6 funct3) d v = vector_row funct6 funct3 d v

abbrev pub unit_row : Decoded → FullValues → Row
unit_row d v = row_of d.op d v
