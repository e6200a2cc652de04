-- No step of a unit or of a callee takes a byte's entry away either, so a byte that a run changed has one after it.
use Rattle.std.proofs.Common.{◌≡◌, ◌∙◌, ℕ, zero, suc, ◌+◌, Bool, true, false, List, [], ◌∷◌, Option, refl, sym, ap, subst}
use Rattle.std.specs.Prelude.{Some, None, IfSome, if◌then◌else◌, ◌&&◌, nat_eq, ◌*◌, ◌/◌, ◌%◌, take, unwrap_or}
use Rattle.std.specs.FinMap as map
use Rattle.std.specs.Int.{to_le_bytes}
use mir.Syntax.{w64}
use Rattle.rv_base.specs.declared.flags.IsaFlags.{IsaFlags}
use Rattle.rv_machine.specs.declared.decoding.Decoded.{Decoded}
use Rattle.rv_machine.specs.declared.ops.MOp.{MOp}
use Rattle.rv_machine.specs.declared.ops.MOp.TheVariants.{Base, Load, Store, Alu, Carry, Atomic, Csr, FloatLoad, FloatStore, Float, VecMem, Vec}
use Rattle.rv_machine.specs.declared.ops.AtomicOp.{AtomicOp}
use Rattle.rv_machine.specs.declared.ops.AtomicOp.TheVariants.{Lr, Sc, Amoswap, Amoadd, Amoxor, Amoand, Amoor, Amomin, Amomax, Amominu, Amomaxu}
use Rattle.rv_machine.specs.declared.ops.AtomicWidth.{AtomicWidth}
use Rattle.rv_machine.specs.declared.ops.FloatFormat.{FloatFormat}
use Rattle.rv_machine.specs.declared.ops.VecMemOp.{VecMemOp}
use Rattle.rv_machine.specs.declared.ops.VecMemOp.TheVariants.{Vsetivli, Vle8, Vle16, Vle32, Vle64, Vse8, Vse16, Vse32, Vse64}
use Rattle.rv_machine.specs.Decode.{decode}
use Rattle.rv_machine.specs.State.{Memory, State, at, byte, reg, wrap}
use Rattle.rv_machine.specs.Steps.{fetch, istep}
use Rattle.rv_full.specs.declared.answer.Answer.{Answer}
use Rattle.rv_full.specs.declared.shapes.Target.{Target}
use Rattle.rv_full.specs.declared.shapes.Target.TheVariants as target
use Rattle.rv_full.specs.declared.shapes.FloatShape.{FloatShape}
use Rattle.rv_full.specs.declared.shapes.FloatShape.TheVariants.{Answered, ToInteger, ToFloat, Sign}
use Rattle.rv_full.specs.declared.shapes.VectorShape.{VectorShape}
use Rattle.rv_full.specs.declared.shapes.VectorShape.TheVariants as vector
use Rattle.rv_full.specs.Units.{FullState, FullValues, freg, put, values_of}
use Rattle.rv_full.specs.Rows.{Kind, Row, Absent, Does, Takes, address_of, fits, first, rest, put_x, put_memory, success_of, stored_of, x_of, y_of}
use Rattle.rv_full.specs.Atomics.{atomic_row, amo_row, amo_result, sc_row, has_reserved, reservation_of, number_put, old_of, operand, width_bytes}
use Rattle.rv_full.specs.declared.shapes.Sources.TheVariants as sources
use Rattle.rv_full.specs.Floats.{format_bytes, shape_row, float_shape, number_row, inputs_of, is_move}
use Rattle.rv_full.specs.Vectors.{is_legal, arithmetic_inputs, arithmetic_row, vector_shape, vector_load_row, vector_store_row, vector_memory_row, store_some}
use Rattle.rv_full.specs.UnitRows.{row_of, unit_row}
use Rattle.rv_full.specs.Steps.{Next, Goes, Asks, Halts, taken, row_next, unit_on, next_by, fnext, stepped}
use Rattle.rv_base.specs.declared.regs.RegClass.{RegClass}
use Rattle.rv_base.specs.declared.regs.RegClass.TheVariants as classes
use Rattle.rv_load.specs.declared.callees.Callee.{Callee}
use Rattle.rv_load.specs.declared.settings.RegisterValue.{RegisterValue}
use Rattle.rv_steps.specs.Callees.{callee_at, returned, step_at, steps_with, then_step_with}
use Rattle.rv_steps.specs.Starting.{set_register, set_registers}
use Rattle.rv_run.proofs.Grows.{Grows, Has, insert_grows, step_grows, store_grows}

same : (mem : Memory) → Grows mem mem
same mem a e = e

some_grows : (bytes : List (Option ℕ)) (mem : Memory) (at : ℕ) → Grows mem (store_some mem at bytes)
some_grows [] mem at a e = e
some_grows (None ∷ bs) mem at a e = some_grows bs mem (wrap (at + 1)) a e
some_grows (Some b ∷ bs) mem at a e = insert_grows mem at b a (some_grows bs (map.insert mem at b) (wrap (at + 1)) a e)

-- what a row gives has a memory that grew from this one
abbrev RowGrows : Memory → Row → Type 0
RowGrows mem Absent = Unit {0}
RowGrows mem (Does v) = Grows mem v.ints.mem
RowGrows mem (Takes kind f) = (answer : Answer) → Grows mem (f answer).ints.mem

either_grows : (b : Bool) (mem : Memory) (v w : FullValues) → Grows mem v.ints.mem → Grows mem w.ints.mem → Grows mem (if b then v else w).ints.mem
either_grows true mem v w g h = g
either_grows false mem v w g h = h

either_row : (b : Bool) (mem : Memory) (r s : Row) → RowGrows mem r → RowGrows mem s → RowGrows mem (if b then r else s)
either_row true mem r s g h = g
either_row false mem r s g h = h

-- ---- atomics

amo_grows : (op : AtomicOp) (width : AtomicWidth) (d : Decoded) (v : FullValues) → RowGrows v.ints.mem (amo_row op width d v)
amo_grows op width d v = store_grows (take (width_bytes width) (to_le_bytes w64 (amo_result op (old_of width d v) (operand width (y_of d v))))) v.ints.mem (x_of d v)

sc_grows : (width : AtomicWidth) (d : Decoded) (v : FullValues) → RowGrows v.ints.mem (sc_row width d v)
sc_grows width d v answer =
    either_grows (unwrap_or (success_of answer) false && has_reserved v.units.reserved (reservation_of width d v)) v.ints.mem
    (put_x d 0 (put_memory (number_put width (y_of d v) v.ints.mem (x_of d v)) v)) (put_x d 1 v)
    (store_grows (take (width_bytes width) (to_le_bytes w64 (y_of d v))) v.ints.mem (x_of d v)) (same v.ints.mem)

atomic_grows : (op : AtomicOp) (width : AtomicWidth) (d : Decoded) (v : FullValues) → RowGrows v.ints.mem (atomic_row op width d v)
atomic_grows Lr width d v = same v.ints.mem
atomic_grows Sc width d v = sc_grows width d v
atomic_grows Amoswap width d v = amo_grows Amoswap width d v
atomic_grows Amoadd width d v = amo_grows Amoadd width d v
atomic_grows Amoxor width d v = amo_grows Amoxor width d v
atomic_grows Amoand width d v = amo_grows Amoand width d v
atomic_grows Amoor width d v = amo_grows Amoor width d v
atomic_grows Amomin width d v = amo_grows Amomin width d v
atomic_grows Amomax width d v = amo_grows Amomax width d v
atomic_grows Amominu width d v = amo_grows Amominu width d v
atomic_grows Amomaxu width d v = amo_grows Amomaxu width d v

-- ---- floats

number_grows : (to : Target) (inputs : List ℕ) (d : Decoded) (v : FullValues) → RowGrows v.ints.mem (number_row to inputs d v)
number_grows target.Integer inputs d v answer = same v.ints.mem
number_grows target.Float inputs d v answer = same v.ints.mem

shape_grows : (shape : FloatShape) (format : FloatFormat) (d : Decoded) (v : FullValues) → RowGrows v.ints.mem (shape_row shape format d v)
shape_grows (Answered from to) format d v = number_grows to (inputs_of from d v) d v
shape_grows ToInteger format d v = same v.ints.mem
shape_grows ToFloat format d v = same v.ints.mem
shape_grows Sign format d v = either_row (is_move format d) v.ints.mem _ _ (same v.ints.mem) (number_grows target.Float (inputs_of sources.Two d v) d v)

-- ---- vectors

arithmetic_grows : (shape : VectorShape) (funct3 : ℕ) (d : Decoded) (v : FullValues) → RowGrows v.ints.mem (arithmetic_row shape funct3 d v)
arithmetic_grows vector.Arithmetic funct3 d v = λ answer. same v.ints.mem
arithmetic_grows vector.ToInteger funct3 d v = number_grows target.Integer (arithmetic_inputs funct3 d v) d v
arithmetic_grows vector.ToFloat funct3 d v = number_grows target.Float (arithmetic_inputs funct3 d v) d v
arithmetic_grows vector.Move funct3 d v = same v.ints.mem

load_grows : (element : ℕ) (d : Decoded) (v : FullValues) → RowGrows v.ints.mem (vector_load_row element d v)
load_grows element d v = either_row (is_legal v.units.setting) v.ints.mem _ Absent (λ answer. same v.ints.mem) tt

store_row_grows : (element : ℕ) (d : Decoded) (v : FullValues) → RowGrows v.ints.mem (vector_store_row element d v)
store_row_grows element d v = either_row (is_legal v.units.setting) v.ints.mem _ Absent (λ answer. some_grows (unwrap_or (stored_of answer) []) v.ints.mem (x_of d v)) tt

memory_grows : (op : VecMemOp) (d : Decoded) (v : FullValues) → RowGrows v.ints.mem (vector_memory_row op d v)
memory_grows Vsetivli d v = λ answer. same v.ints.mem
memory_grows Vle8 d v = load_grows 1 d v
memory_grows Vle16 d v = load_grows 2 d v
memory_grows Vle32 d v = load_grows 4 d v
memory_grows Vle64 d v = load_grows 8 d v
memory_grows Vse8 d v = store_row_grows 1 d v
memory_grows Vse16 d v = store_row_grows 2 d v
memory_grows Vse32 d v = store_row_grows 4 d v
memory_grows Vse64 d v = store_row_grows 8 d v

-- ---- all of them

op_row_grows : (op : MOp) (d : Decoded) (v : FullValues) → RowGrows v.ints.mem (row_of op d v)
op_row_grows (Base op) d v = tt
op_row_grows (Load op) d v = tt
op_row_grows (Store op) d v = tt
op_row_grows (Alu op) d v = tt
op_row_grows (Carry op) d v = same v.ints.mem
op_row_grows (Atomic op width) d v = atomic_grows op width d v
op_row_grows (Csr op) d v = same v.ints.mem
op_row_grows (FloatLoad format) d v = same v.ints.mem
op_row_grows (FloatStore format) d v = store_grows (take (format_bytes format) (to_le_bytes w64 (freg v.units d.rs2))) v.ints.mem (address_of d v)
op_row_grows (Float format op) d v = shape_grows (float_shape op) format d v
op_row_grows (VecMem op) d v = memory_grows op d v
op_row_grows (Vec funct6 funct3) d v = either_row (is_legal v.units.setting) v.ints.mem _ Absent (arithmetic_grows (vector_shape funct6 funct3) funct3 d v) tt

-- ---- steps

abbrev NextGrows : Memory → Next → Type 0
NextGrows mem (Goes b) = Grows mem b.state.values.mem
NextGrows mem Asks = Unit {0}
NextGrows mem Halts = Unit {0}

either_next : (b : Bool) (mem : Memory) (m n : Next) → NextGrows mem m → NextGrows mem n → NextGrows mem (if b then m else n)
either_next true mem m n g h = g
either_next false mem m n g h = h

taken_grows : (pc : ℕ) (kind : Kind) (f : Answer → FullValues) (answer : Option Answer) (more : List Answer) (mem : Memory) → ((a : Answer) → Grows mem (f a).ints.mem) → NextGrows mem (taken pc kind f answer more)
taken_grows pc kind f None more mem g = tt
taken_grows pc kind f (Some a) more mem g = either_next (fits kind a) mem _ Asks (g a) tt

row_next_grows : (pc : ℕ) (row : Row) (answers : List Answer) (mem : Memory) → RowGrows mem row → NextGrows mem (row_next pc row answers)
row_next_grows pc Absent answers mem g = tt
row_next_grows pc (Does v) answers mem g = g
row_next_grows pc (Takes kind f) answers mem g = taken_grows pc kind f (first answers) (rest answers) mem g

unit_on_grows : (o : Option Decoded) (b : FullState) → NextGrows b.state.values.mem (unit_on o b)
unit_on_grows None b = tt
unit_on_grows (Some d) b = row_next_grows (wrap (b.state.pc + d.len)) (unit_row d (values_of b)) b.answers b.state.values.mem (op_row_grows d.op d (values_of b))

next_by_grows : (flags : IsaFlags) (o : Option State) (b : FullState) → Has b.state.values.mem o → NextGrows b.state.values.mem (next_by flags o b)
next_by_grows flags None b has = either_next (nat_eq (b.state.pc % 2) 0) b.state.values.mem _ Halts (unit_on_grows (decode flags (fetch b.state.values.mem b.state.pc)) b) tt
next_by_grows flags (Some t) b has = has

next_grows : (flags : IsaFlags) (b : FullState) → NextGrows b.state.values.mem (fnext flags b)
unfolding fnext
next_grows flags b = next_by_grows flags (istep flags b.state) b (step_grows flags b.state)

-- ---- many

abbrev FullHas : Memory → Option FullState → Type 0
FullHas mem next = IfSome next (λ b. Grows mem b.state.values.mem)

stepped_grows : (mem old : Memory) (next : Next) → Grows mem old → NextGrows old next → FullHas mem (stepped next)
stepped_grows mem old (Goes b) grew has = λ a e. grew a (has a e)
stepped_grows mem old Asks grew has = tt
stepped_grows mem old Halts grew has = tt

-- a callee leaves the memory as it is
set_same : (class : RegClass) (n x : ℕ) (b : FullState) → (set_register b class n x).state.values.mem ≡ b.state.values.mem
set_same classes.Int n x b = refl
set_same classes.Float n x b = refl
set_same classes.Vector n x b = refl

sets_same : (rs : List RegisterValue) (b : FullState) → (set_registers b rs).state.values.mem ≡ b.state.values.mem
sets_same [] b = refl
sets_same (r ∷ rs) b = sets_same rs (set_register b r.register.class r.register.number r.value) ∙ set_same r.register.class r.register.number r.value b

returned_same : (c : Callee) (b : FullState) → (returned c b).state.values.mem ≡ b.state.values.mem
returned_same c b = sets_same c.registers (put (at (reg b.state.values 1 / 2 * 2) b.state.values) b)

step_full_grows : (o : Option Callee) (flags : IsaFlags) (mem : Memory) (b : FullState) → Grows mem b.state.values.mem → FullHas mem (step_at o flags b)
step_full_grows None flags mem b has = stepped_grows mem b.state.values.mem (fnext flags b) has (next_grows flags b)
step_full_grows (Some c) flags mem b has = subst (Grows mem) (sym (returned_same c b)) has

then_grows : (callees : List Callee) (flags : IsaFlags) (mem : Memory) (o : Option FullState) → FullHas mem o → FullHas mem (then_step_with callees flags o)
then_grows callees flags mem None has = tt
then_grows callees flags mem (Some b) has = step_full_grows (callee_at callees b.state.pc) flags mem b has

all_grows : (callees : List Callee) (flags : IsaFlags) (k : ℕ) (first : FullState) → FullHas first.state.values.mem (steps_with callees flags k first)
unfolding steps_with
all_grows callees flags zero first = λ a e. e
all_grows callees flags (suc k) first = then_grows callees flags first.state.values.mem (steps_with callees flags k first) (all_grows callees flags k first)

run_grows : (callees : List Callee) (flags : IsaFlags) (k : ℕ) (first last : FullState) → steps_with callees flags k first ≡ Some last → Grows first.state.values.mem last.state.values.mem
run_grows callees flags k first last steps = subst (FullHas first.state.values.mem) steps (all_grows callees flags k first)

-- a byte that has no entry after so many steps is 0 before and after them
pub unwritten : (callees : List Callee) (flags : IsaFlags) (k : ℕ) (first last : FullState) → steps_with callees flags k first ≡ Some last → (a : ℕ) → map.get last.state.values.mem a ≡ None
    → byte last.state.values.mem a ≡ byte first.state.values.mem a
unwritten callees flags k first last steps a none =
    ap (λ (o : Option ℕ). unwrap_or o 0) (none ∙ sym (run_grows callees flags k first last steps a none))
