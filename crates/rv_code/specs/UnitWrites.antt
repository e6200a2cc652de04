-- The addresses of the bytes that an operation of a unit writes, with the answers that are left. Those of the integer machine are no unit's.
use Rattle.std.specs.Prelude.{ℕ, Bool, false, ◌&&◌, if◌then◌else◌, unwrap_or, List, [], ◌∷◌}
use Rattle.rv_machine.specs.declared.decoding.Decoded.{Decoded}
use Rattle.rv_machine.specs.declared.ops.AtomicOp.{AtomicOp}
use Rattle.rv_machine.specs.declared.ops.AtomicOp.TheVariants.{Lr, Sc, Amoswap, Amoadd, Amoxor, Amoand, Amoor, Amomin, Amomax, Amominu, Amomaxu}
use Rattle.rv_machine.specs.declared.ops.AtomicWidth.{AtomicWidth}
use Rattle.rv_machine.specs.declared.ops.MOp.{MOp}
use Rattle.rv_machine.specs.declared.ops.MOp.TheVariants.{Base, Load, Store, Alu, Carry, Atomic, Csr, FloatLoad, FloatStore, Float, VecMem, Vec}
use Rattle.rv_machine.specs.declared.ops.VecMemOp.{VecMemOp}
use Rattle.rv_machine.specs.declared.ops.VecMemOp.TheVariants.{Vsetivli, Vle8, Vle16, Vle32, Vle64, Vse8, Vse16, Vse32, Vse64}
use Rattle.rv_full.specs.declared.answer.Answer.{Answer}
use Rattle.rv_full.specs.Atomics.{has_reserved, reservation_of, width_bytes}
use Rattle.rv_full.specs.Floats.{format_bytes}
use Rattle.rv_full.specs.Rows.{address_of, success_of, x_of}
use Rattle.rv_full.specs.Units.{FullValues}
use Rattle.rv_full.specs.Vectors.{span_of}
use Rattle.rv_inst.specs.Effects.{addresses_from}

-- whether the first answer says that a store goes through
abbrev pub goes_through : List Answer → Bool
goes_through [] = false
goes_through (a ∷ more) = unwrap_or (success_of a) false

-- those of a word or a doubleword at the address of rs1
abbrev pub at_source : AtomicWidth → Decoded → FullValues → List ℕ
at_source width d v = addresses_from (x_of d v) (width_bytes width)

-- a store-conditional stores where it may and the bytes are still reserved
abbrev pub conditional_writes : AtomicWidth → Decoded → FullValues → Bool → List ℕ
conditional_writes width d v through = if through && has_reserved v.units.reserved (reservation_of width d v) then at_source width d v else []

abbrev pub atomic_writes : AtomicOp → AtomicWidth → Decoded → FullValues → List Answer → List ℕ
atomic_writes Lr width d v answers = []
atomic_writes Sc width d v answers = conditional_writes width d v (goes_through answers)
atomic_writes Amoswap width d v answers = at_source width d v
atomic_writes Amoadd width d v answers = at_source width d v
atomic_writes Amoxor width d v answers = at_source width d v
atomic_writes Amoand width d v answers = at_source width d v
atomic_writes Amoor width d v answers = at_source width d v
atomic_writes Amomin width d v answers = at_source width d v
atomic_writes Amomax width d v answers = at_source width d v
atomic_writes Amominu width d v answers = at_source width d v
atomic_writes Amomaxu width d v answers = at_source width d v

-- a vector store may write every byte of its elements
abbrev pub vector_writes : VecMemOp → Decoded → FullValues → List ℕ
vector_writes Vsetivli d v = []
vector_writes Vle8 d v = []
vector_writes Vle16 d v = []
vector_writes Vle32 d v = []
vector_writes Vle64 d v = []
vector_writes Vse8 d v = addresses_from (x_of d v) (span_of 1 v)
vector_writes Vse16 d v = addresses_from (x_of d v) (span_of 2 v)
vector_writes Vse32 d v = addresses_from (x_of d v) (span_of 4 v)
vector_writes Vse64 d v = addresses_from (x_of d v) (span_of 8 v)

abbrev pub writes_by : MOp → Decoded → FullValues → List Answer → List ℕ
writes_by (Base op) d v answers = []
writes_by (Load op) d v answers = []
writes_by (Store op) d v answers = []
writes_by (Alu op) d v answers = []
writes_by (Carry op) d v answers = []
writes_by (Atomic op width) d v answers = atomic_writes op width d v answers
writes_by (Csr op) d v answers = []
writes_by (FloatLoad format) d v answers = []
writes_by (FloatStore format) d v answers = addresses_from (address_of d v) (format_bytes format)
writes_by (Float format op) d v answers = []
writes_by (VecMem op) d v answers = vector_writes op d v
writes_by (Vec funct6 funct3) d v answers = []

abbrev pub unit_writes : Decoded → FullValues → List Answer → List ℕ
unit_writes d v answers = writes_by d.op d v answers
