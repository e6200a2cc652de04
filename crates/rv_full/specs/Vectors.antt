-- "V": a vector operation takes what it computes as an answer, but for moves of whole registers. Elements of up to 64 bits stand
-- in registers of 128.
use Rattle.std.specs.Prelude.{ℕ, zero, suc, ◌+◌, ◌*◌, ◌/◌, ◌%◌, ◌^◌, ◌==◌, ◌&&◌, Bool, false, if◌then◌else◌, nat_lt, List, [], ◌∷◌, ◌++◌, unwrap_or, Option, Some, None}
use Rattle.std.specs.FinMap as map
use Rattle.rv_machine.specs.declared.decoding.Decoded.{Decoded}
use Rattle.rv_machine.specs.declared.ops.VecMemOp.{VecMemOp}
use Rattle.rv_machine.specs.declared.ops.VecMemOp.TheVariants.{Vsetivli, Vle8, Vle16, Vle32, Vle64, Vse8, Vse16, Vse32, Vse64}
use Rattle.rv_machine.specs.State.{Memory, byte, wrap, low64}
use Rattle.rv_full.specs.declared.units.Setting.{Setting}
use Rattle.rv_full.specs.declared.shapes.Target.TheVariants as target
use Rattle.rv_full.specs.declared.shapes.VectorShape.{VectorShape}
use Rattle.rv_full.specs.declared.shapes.VectorShape.TheVariants as shape
use Rattle.rv_full.specs.Units.{Units, FullValues, freg, vreg, set_vreg, set_setting}
use Rattle.rv_full.specs.Rows.{Row, Absent, Does, Takes, Registers, BytesOf, AtMost, vectors_of, stored_of, length_of, x_of, put_x, put_units, put_memory, entry_of, noted}
use Rattle.rv_full.specs.Floats.{number_row}

-- ---- the setting

-- vtype has the length multiplier at 2:0, from 1 to 8 and then an eighth, a fourth and a half, and the element width at 5:3,
-- from 8 to 64 bits; an element is at most 64 times the multiplier wide
abbrev pub is_legal_pair : ℕ → ℕ → Bool
is_legal_pair multiplier width =
    if nat_lt multiplier 4 then nat_lt width 4 else
    if multiplier == 5 then nat_lt width 1 else
    if multiplier == 6 then nat_lt width 2 else
    if multiplier == 7 then nat_lt width 3 else
    false

abbrev pub is_legal : Setting → Bool
is_legal s = is_legal_pair (s.vtype % 8) (s.vtype / 8 % 8)

abbrev pub under : Setting → Row → Row
under s row = if is_legal s then row else Absent

-- ---- vector arithmetic

-- the mask, where there is one
abbrev pub mask_of : Decoded → Units → List ℕ
mask_of d u = if d.vm then [] else vreg u 0 ∷ []

-- the first source, by funct3: a vector, an immediate, an integer or a floating-point register
abbrev pub first_source : ℕ → Decoded → FullValues → List ℕ
first_source funct3 d v =
    if funct3 == 3 then [] else
    if funct3 == 4 then x_of d v ∷ [] else
    if funct3 == 5 then freg v.units d.rs1 ∷ [] else
    if funct3 == 6 then x_of d v ∷ [] else
    vreg v.units d.rs1 ∷ []

-- it, the second source, the destination's old value and the mask
abbrev pub arithmetic_inputs : ℕ → Decoded → FullValues → List ℕ
arithmetic_inputs funct3 d v = first_source funct3 d v ++ vreg v.units d.rs2 ∷ vreg v.units d.rd ∷ mask_of d v.units

abbrev pub set_vregs : Units → List (ℕ × ℕ) → Units
set_vregs u [] = u
set_vregs u (r ∷ rs) = set_vregs (set_vreg u r.0 r.1) rs

-- so many registers, one after the other
abbrev pub moved : Units → ℕ → ℕ → ℕ → Units
moved u from to zero = u
moved u from to (suc n) = let w = moved u from to n in set_vreg w ((to + n) % 32) (vreg w ((from + n) % 32))

-- vector registers are taken, noted and put
abbrev pub registers_row : List ℕ → List ℕ → Decoded → FullValues → Row
registers_row inputs span d v =
    Takes Registers (λ answer. put_units (set_vregs (noted (entry_of d v.units inputs span answer) v.units) (unwrap_or (vectors_of answer) [])) v)

-- vmv.x.s and vfmv.f.s give a number, and vmv<nr>r moves registers
abbrev pub vector_shape : ℕ → ℕ → VectorShape
vector_shape funct6 funct3 =
    if (funct6 == 0x10) && (funct3 == 2) then shape.ToInteger else
    if (funct6 == 0x10) && (funct3 == 1) then shape.ToFloat else
    if (funct6 == 0x27) && (funct3 == 3) then shape.Move else
    shape.Arithmetic

abbrev pub arithmetic_row : VectorShape → ℕ → Decoded → FullValues → Row
arithmetic_row shape.ToInteger funct3 d v = number_row target.Integer (arithmetic_inputs funct3 d v) d v
arithmetic_row shape.ToFloat funct3 d v = number_row target.Float (arithmetic_inputs funct3 d v) d v
arithmetic_row shape.Move funct3 d v = Does (put_units (moved v.units d.rs2 d.rd (d.rs1 + 1)) v)
arithmetic_row shape.Arithmetic funct3 d v = registers_row (arithmetic_inputs funct3 d v) [] d v

abbrev pub vector_row : ℕ → ℕ → Decoded → FullValues → Row
vector_row funct6 funct3 d v = under v.units.setting (arithmetic_row (vector_shape funct6 funct3) funct3 d v)

-- ---- loads, stores and the setting

-- so many bytes from an address on; addresses wrap
abbrev pub bytes_at : Memory → ℕ → ℕ → List ℕ
bytes_at mem at zero = []
bytes_at mem at (suc n) = bytes_at mem at n ++ byte mem (wrap (at + n)) ∷ []

-- bytes put where there is one
abbrev pub store_some : Memory → ℕ → List (Option ℕ) → Memory
store_some mem at [] = mem
store_some mem at (None ∷ bs) = store_some mem (wrap (at + 1)) bs
store_some mem at (Some b ∷ bs) = store_some (map.insert mem at b) (wrap (at + 1)) bs

-- the base, the old value of the register that rd numbers, and the mask
abbrev pub memory_inputs : Decoded → FullValues → List ℕ
memory_inputs d v = x_of d v ∷ vreg v.units d.rd ∷ mask_of d v.units

abbrev pub span_of : ℕ → FullValues → ℕ
span_of element v = v.units.setting.avl * element

abbrev pub vector_load_row : ℕ → Decoded → FullValues → Row
vector_load_row element d v = under v.units.setting (registers_row (memory_inputs d v) (bytes_at v.ints.mem (x_of d v) (span_of element v)) d v)

-- so many options of a byte are taken, noted and put
abbrev pub bytes_row : ℕ → Decoded → FullValues → Row
bytes_row count d v =
    Takes (BytesOf count) (λ answer.
    put_units (noted (entry_of d v.units (memory_inputs d v) [] answer) v.units) (put_memory (store_some v.ints.mem (x_of d v) (unwrap_or (stored_of answer) [])) v))

abbrev pub vector_store_row : ℕ → Decoded → FullValues → Row
vector_store_row element d v = under v.units.setting (bytes_row (span_of element v) d v)

-- the new length goes to rd, and its own fields become the setting
abbrev pub setting_row : Decoded → FullValues → Row
setting_row d v =
    Takes (AtMost d.rs1) (λ answer. put_x d (unwrap_or (length_of answer) 0) (put_units (set_setting v.units (record { avl = d.rs1; vtype = low64 d.imm % 2 ^ 8 })) v))

abbrev pub vector_memory_row : VecMemOp → Decoded → FullValues → Row
vector_memory_row Vsetivli d v = setting_row d v
vector_memory_row Vle8 d v = vector_load_row 1 d v
vector_memory_row Vle16 d v = vector_load_row 2 d v
vector_memory_row Vle32 d v = vector_load_row 4 d v
vector_memory_row Vle64 d v = vector_load_row 8 d v
vector_memory_row Vse8 d v = vector_store_row 1 d v
vector_memory_row Vse16 d v = vector_store_row 2 d v
vector_memory_row Vse32 d v = vector_store_row 4 d v
vector_memory_row Vse64 d v = vector_store_row 8 d v
