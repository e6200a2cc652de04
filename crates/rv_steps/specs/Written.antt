-- What a step of a unit wrote.
use Rattle.std.specs.Prelude.{ℕ, List, []}
use Rattle.rv_machine.specs.declared.decoding.Decoded.{Decoded}
use Rattle.rv_machine.specs.declared.ops.MOp.{MOp}
use Rattle.rv_machine.specs.declared.ops.MOp.TheVariants.{Base, Load, Store, Alu, Carry, Atomic, Csr, FloatLoad, FloatStore, Float, VecMem, Vec}
use Rattle.rv_machine.specs.declared.ops.VecMemOp.{VecMemOp}
use Rattle.rv_machine.specs.declared.ops.VecMemOp.TheVariants.{Vsetivli, Vle8, Vle16, Vle32, Vle64, Vse8, Vse16, Vse32, Vse64}
use Rattle.rv_machine.specs.State.{reg}
use Rattle.rv_full.specs.declared.shapes.Target.{Target}
use Rattle.rv_full.specs.declared.shapes.Target.TheVariants as target
use Rattle.rv_full.specs.declared.shapes.FloatShape.{FloatShape}
use Rattle.rv_full.specs.declared.shapes.FloatShape.TheVariants as shape
use Rattle.rv_full.specs.declared.shapes.VectorShape.{VectorShape}
use Rattle.rv_full.specs.declared.shapes.VectorShape.TheVariants as vector
use Rattle.rv_full.specs.Floats.{float_shape}
use Rattle.rv_full.specs.Vectors.{vector_shape}
use Rattle.rv_full.specs.Units.{FullState, freg}
use Rattle.rv_trace.specs.Instruction.{written_text}
use Rattle.rv_steps.specs.Files.{float_text, vector_text, file_changes}
use Rattle.rv_steps.specs.declared.files.Style.TheVariants.{Step}
use Rattle.rv_steps.specs.declared.written.Written.{Written}
use Rattle.rv_steps.specs.declared.written.Written.TheVariants.{Integer, Floating, Vectors, Nothing}

abbrev pub of_target : Target → Written
of_target target.Integer = Integer
of_target target.Float = Floating

abbrev pub of_float : FloatShape → Written
of_float (shape.Answered sources to) = of_target to
of_float shape.ToInteger = Integer
of_float shape.ToFloat = Floating
of_float shape.Sign = Floating

abbrev pub of_vector : VectorShape → Written
of_vector vector.Arithmetic = Vectors
of_vector vector.ToInteger = Integer
of_vector vector.ToFloat = Floating
of_vector vector.Move = Vectors

abbrev pub of_memory : VecMemOp → Written
of_memory Vsetivli = Integer
of_memory Vle8 = Vectors
of_memory Vle16 = Vectors
of_memory Vle32 = Vectors
of_memory Vle64 = Vectors
of_memory Vse8 = Nothing
of_memory Vse16 = Nothing
of_memory Vse32 = Nothing
of_memory Vse64 = Nothing

-- what a unit's operation writes, memory aside; the others are no unit's
abbrev pub written_by : MOp → Written
written_by (Base op) = Nothing
written_by (Load op) = Nothing
written_by (Store op) = Nothing
written_by (Alu op) = Nothing
written_by (Carry op) = Integer
written_by (Atomic op width) = Integer
written_by (Csr op) = Integer
written_by (FloatLoad format) = Floating
written_by (FloatStore format) = Nothing
written_by (Float format op) = of_float (float_shape op)
written_by (VecMem op) = of_memory op
written_by (Vec funct6 funct3) = of_vector (vector_shape funct6 funct3)

-- the value of its register after the step; of a vector instruction each vector register that has another value than before
abbrev pub values_written : Written → ℕ → List ℕ → FullState → List ℕ
values_written Integer rd vectors next = written_text rd (reg next.state.values rd)
values_written Floating rd vectors next = float_text Step rd (freg next.units rd)
values_written Vectors rd vectors next = file_changes (vector_text Step) 0 vectors next.units.vectors
values_written Nothing rd vectors next = []

abbrev pub unit_written : Decoded → List ℕ → FullState → List ℕ
unit_written d vectors next = values_written (written_by d.op) d.rd vectors next
