-- What a row gives of numbers in their ranges is in its ranges.
use Rattle.std.proofs.Common.{◌≡◌, ℕ, zero, suc, ◌+◌, ◌*◌, ◌/◌, ◌%◌, ◌^◌, ◌<◌, ◌≤◌, Bool, true, false, ◌&&◌, ◌==◌, Option, Some, None, if◌then◌else◌, List, [], ◌∷◌, take, refl, arith, rules, lit<, lit≤, mod-lt, shr_lt, ◌∙◌, FitsSigned, lt_of_le_of_lt, lt_of_lt_of_le, pow_pos, ◌⊎◌, inl, inr, T, leb}
use Rattle.std.specs.Prelude.{slice_index, slice_set, unwrap_or, IfSome}
use Rattle.std.specs.List.{AllByRecursion}
use Rattle.std.specs.Int.{cast_signed, reverse_bits, swap_bytes, to_le_bytes}
use mir.Syntax.{Width, w16, w32, w64}
use mir.Val.{hbits}
use Rattle.std.proofs.Math.ListN.{length-set}
use Rattle.std.proofs.Math.Pow.{pow-lt}
use Rattle.std.proofs.Math.Facts.{sfits_widen, Fits-of_z, Fits-lt-pow}
use Rattle.std.proofs.lemmas.Int.{ints}
use Rattle.std.proofs.lemmas.Nat.{and_le_l, mul-lt, or_lt, xor_lt}
use Rattle.std.specs.FinMap as map
use Rattle.rv_machine.proofs.States.{are_values_set, set_byte_state}
use Rattle.rv_machine.specs.State.{AreValues, Memory, Values, at, byte, low64, store, wrap}
use Rattle.rv_machine.specs.Arithmetic.{low_word}
use Rattle.rv_machine.specs.Memory.{load_bytes, load_result}
use Rattle.rv_machine.specs.declared.decoding.Decoded.{Decoded}
use Rattle.rv_machine.specs.declared.ops.CarryOp.{CarryOp}
use Rattle.rv_machine.specs.declared.ops.CarryOp.TheVariants.{Clmul, Clmulh, Clmulr, Pack, Packh, Packw, Brev8}
use Rattle.rv_machine.specs.declared.ops.LoadOp.{LoadOp}
use Rattle.rv_machine.specs.declared.ops.LoadOp.TheVariants.{Lw, Ld}
use Rattle.rv_machine.specs.declared.ops.AtomicOp.{AtomicOp}
use Rattle.rv_machine.specs.declared.ops.AtomicOp.TheVariants.{Lr, Sc, Amoswap, Amoadd, Amoxor, Amoand, Amoor, Amomin, Amomax, Amominu, Amomaxu}
use Rattle.rv_machine.specs.declared.ops.AtomicWidth.{AtomicWidth}
use Rattle.rv_machine.specs.declared.ops.AtomicWidth.TheVariants.{W}
use Rattle.rv_machine.specs.declared.ops.AtomicWidth.TheVariants as atomic
use Rattle.rv_machine.specs.declared.ops.CsrOp.{CsrOp}
use Rattle.rv_machine.specs.declared.ops.CsrOp.TheVariants.{Csrrw, Csrrs, Csrrc, Csrrwi, Csrrsi, Csrrci}
use Rattle.rv_machine.specs.declared.ops.FloatFormat.{FloatFormat}
use Rattle.rv_machine.specs.declared.ops.FloatFormat.TheVariants.{H, S, D}
use Rattle.rv_machine.specs.declared.ops.FloatOp.{FloatOp}
use Rattle.rv_machine.specs.declared.ops.MOp.{MOp}
use Rattle.rv_machine.specs.declared.ops.MOp.TheVariants.{Base, Load, Store, Alu, Carry, Atomic, Csr, FloatLoad, FloatStore, Float, VecMem, Vec}
use Rattle.rv_machine.specs.declared.ops.VecMemOp.{VecMemOp}
use Rattle.rv_machine.specs.declared.ops.VecMemOp.TheVariants.{Vsetivli, Vle8, Vle16, Vle32, Vle64, Vse8, Vse16, Vse32, Vse64}
use Rattle.rv_full.specs.declared.shapes.FloatShape.{FloatShape}
use Rattle.rv_full.specs.declared.shapes.FloatShape.TheVariants.{Answered, ToInteger, ToFloat, Sign}
use Rattle.rv_full.specs.declared.shapes.Sources.TheVariants as sources
use Rattle.rv_full.specs.declared.shapes.Target.{Target}
use Rattle.rv_full.specs.declared.shapes.Target.TheVariants as target
use Rattle.rv_full.specs.declared.shapes.VectorShape.{VectorShape}
use Rattle.rv_full.specs.declared.shapes.VectorShape.TheVariants as shape
use Rattle.rv_full.proofs.DecodedRanges.{IsRanged}
use Rattle.rv_full.specs.declared.answer.Answer.{Answer}
use Rattle.rv_full.specs.declared.answer.Entry.{Entry}
use Rattle.rv_full.specs.declared.units.Reservation.{Reservation}
use Rattle.rv_full.specs.declared.units.Setting.{Setting}
use Rattle.rv_full.specs.declared.answer.Answer.TheVariants.{Bits, Vectors, Stored, Success, Length}
use Rattle.rv_full.specs.Units.{AnswerFits, AreUnits, FullValues, IsReservation, RegisterFits, StoredFits, Units, freg, set_freg, set_frm, set_reserved, set_setting, set_vreg}
use Rattle.rv_full.specs.Rows.{Row, Absent, Does, Takes, address_of, bits_of, length_of, noted, put_f, put_memory, put_x, stored_of, vectors_of, x_of, y_of}
use Rattle.rv_full.specs.Vectors.{arithmetic_inputs, arithmetic_row, bytes_row, is_legal, moved, registers_row, set_vregs, setting_row, span_of, store_some, under, vector_load_row, vector_memory_row, vector_shape, vector_store_row}
use Rattle.rv_full.specs.Floats.{boxed, extended, float_load_row, float_row, float_shape, float_store_row, format_bytes, inputs_of, is_move, low_part, number_row, shape_row}
use Rattle.rv_full.specs.UnitRows.{row_of}
use Rattle.rv_full.specs.Carry.{carry_result, carry_row, partial, product}
use Rattle.rv_full.specs.Atomics.{atomic_row, conditional, csr_result, csr_row, exchange, has_reserved, lr_row, number_at, number_put, reservation_of, width_bytes}

pub record AreFull (v : FullValues) : Type 0 where
  pub ints : AreValues v.ints
  pub units : AreUnits v.units

-- what a row gives, with every answer
abbrev pub IsKept : Row → Type 0
IsKept Absent = Unit {0}
IsKept (Does v) = AreFull v
IsKept (Takes kind f) = (a : Answer) → AnswerFits a → AreFull (f a)

-- ---- memory

pub stored_fit : (regs : List ℕ) (mem : Memory) (a : ℕ) (bytes : List ℕ) → AllByRecursion (λ b. b < 256) bytes → AreValues (record { regs = regs; mem = mem }) → AreValues (record { regs = regs; mem = store mem a bytes })
stored_fit regs mem a [] fits h = h
stored_fit regs mem a (b ∷ bs) fits h = stored_fit regs (map.insert mem a b) (wrap (a + 1)) bs fits.1 (set_byte_state (at 0 (record { regs = regs; mem = mem })) a b (record { pc = lit< tt; values = h }) fits.0).values

some_stored_fit : (regs : List ℕ) (mem : Memory) (a : ℕ) (bytes : List (Option ℕ)) → AllByRecursion StoredFits bytes → AreValues (record { regs = regs; mem = mem }) → AreValues (record { regs = regs; mem = store_some mem a bytes })
some_stored_fit regs mem a [] fits h = h
some_stored_fit regs mem a (None ∷ bs) fits h = some_stored_fit regs mem (wrap (a + 1)) bs fits.1 h
some_stored_fit regs mem a (Some b ∷ bs) fits h = some_stored_fit regs (map.insert mem a b) (wrap (a + 1)) bs fits.1 (set_byte_state (at 0 (record { regs = regs; mem = mem })) a b (record { pc = lit< tt; values = h }) fits.0).values

-- ---- the units

set_fits : (xs : List ℕ) (n m v bound : ℕ) → v < bound → slice_index xs m < bound → slice_index (slice_set xs n v) m < bound
set_fits [] n m v bound fits h = h
set_fits (x ∷ xs) zero zero v bound fits h = fits
set_fits (x ∷ xs) zero (suc m) v bound fits h = h
set_fits (x ∷ xs) (suc n) zero v bound fits h = h
set_fits (x ∷ xs) (suc n) (suc m) v bound fits h = set_fits xs n m v bound fits h

pub freg_set_fits : (u : Units) (n x : ℕ) → AreUnits u → x < 2 ^ 64 → AreUnits (set_freg u n x)
freg_set_fits u n x h fits = record {
  float_count = length-set u.floats n x ∙ h.float_count;
  float_fits = λ m. set_fits u.floats n m x (2 ^ 64) fits (h.float_fits m);
  vector_count = h.vector_count;
  vector_fits = h.vector_fits;
  frm_fits = h.frm_fits;
  reserved_fits = h.reserved_fits;
  avl_fits = h.avl_fits;
  vtype_fits = h.vtype_fits;
}

vreg_set_fits : (u : Units) (n x : ℕ) → AreUnits u → x < 2 ^ 128 → AreUnits (set_vreg u n x)
vreg_set_fits u n x h fits = record {
  float_count = h.float_count;
  float_fits = h.float_fits;
  vector_count = length-set u.vectors n x ∙ h.vector_count;
  vector_fits = λ m. set_fits u.vectors n m x (2 ^ 128) fits (h.vector_fits m);
  frm_fits = h.frm_fits;
  reserved_fits = h.reserved_fits;
  avl_fits = h.avl_fits;
  vtype_fits = h.vtype_fits;
}

frm_set_fits : (u : Units) (x : ℕ) → AreUnits u → x < 8 → AreUnits (set_frm u x)
frm_set_fits u x h fits = record {
  float_count = h.float_count;
  float_fits = h.float_fits;
  vector_count = h.vector_count;
  vector_fits = h.vector_fits;
  frm_fits = fits;
  reserved_fits = h.reserved_fits;
  avl_fits = h.avl_fits;
  vtype_fits = h.vtype_fits;
}

pub reserved_set_fits : (u : Units) (r : Option Reservation) → AreUnits u → IfSome r IsReservation → AreUnits (set_reserved u r)
reserved_set_fits u r h fits = record {
  float_count = h.float_count;
  float_fits = h.float_fits;
  vector_count = h.vector_count;
  vector_fits = h.vector_fits;
  frm_fits = h.frm_fits;
  reserved_fits = fits;
  avl_fits = h.avl_fits;
  vtype_fits = h.vtype_fits;
}

setting_set_fits : (u : Units) (s : Setting) → AreUnits u → s.avl < 32 → s.vtype < 2 ^ 8 → AreUnits (set_setting u s)
setting_set_fits u s h avl vtype = record {
  float_count = h.float_count;
  float_fits = h.float_fits;
  vector_count = h.vector_count;
  vector_fits = h.vector_fits;
  frm_fits = h.frm_fits;
  reserved_fits = h.reserved_fits;
  avl_fits = avl;
  vtype_fits = vtype;
}

noted_fits : (u : Units) (e : Entry) → AreUnits u → AreUnits (noted e u)
noted_fits u e h = record {
  float_count = h.float_count;
  float_fits = h.float_fits;
  vector_count = h.vector_count;
  vector_fits = h.vector_fits;
  frm_fits = h.frm_fits;
  reserved_fits = h.reserved_fits;
  avl_fits = h.avl_fits;
  vtype_fits = h.vtype_fits;
}

vregs_set_fit : (rs : List (ℕ × ℕ)) (u : Units) → AreUnits u → AllByRecursion RegisterFits rs → AreUnits (set_vregs u rs)
vregs_set_fit [] u h fits = h
vregs_set_fit (r ∷ rs) u h fits = vregs_set_fit rs (set_vreg u r.0 r.1) (vreg_set_fits u r.0 r.1 h fits.0.1) fits.1

moved_fits : (u : Units) (from to n : ℕ) → AreUnits u → AreUnits (moved u from to n)
moved_fits u from to zero h = h
moved_fits u from to (suc n) h = let w = moved_fits u from to n h in vreg_set_fits (moved u from to n) _ _ w (w.vector_fits _)

-- ---- what answers hold

bits_fit : (a : Answer) → AnswerFits a → unwrap_or (bits_of a) 0 < 2 ^ 64
bits_fit (Bits x) h = h
bits_fit (Vectors rs) h = lit< tt
bits_fit (Stored bs) h = lit< tt
bits_fit (Success b) h = lit< tt
bits_fit (Length n) h = lit< tt

vectors_fit : (a : Answer) → AnswerFits a → AllByRecursion RegisterFits (unwrap_or (vectors_of a) [])
vectors_fit (Bits x) h = tt
vectors_fit (Vectors rs) h = h
vectors_fit (Stored bs) h = tt
vectors_fit (Success b) h = tt
vectors_fit (Length n) h = tt

bytes_fit : (a : Answer) → AnswerFits a → AllByRecursion StoredFits (unwrap_or (stored_of a) [])
bytes_fit (Bits x) h = tt
bytes_fit (Vectors rs) h = tt
bytes_fit (Stored bs) h = h
bytes_fit (Success b) h = tt
bytes_fit (Length n) h = tt

length_fits : (a : Answer) → AnswerFits a → unwrap_or (length_of a) 0 < 2 ^ 64
length_fits (Bits x) h = lit< tt
length_fits (Vectors rs) h = lit< tt
length_fits (Stored bs) h = lit< tt
length_fits (Success b) h = lit< tt
length_fits (Length n) h = lt_of_lt_of_le h (lit≤ tt)

-- ---- values with one part changed

x_put : (d : Decoded) (x : ℕ) (v : FullValues) → d.rd < 32 → x < 2 ^ 64 → AreFull v → AreFull (put_x d x v)
x_put d x v rd fits h = record { ints = are_values_set v.ints d.rd x h.ints rd fits; units = h.units }

f_put : (d : Decoded) (x : ℕ) (v : FullValues) → x < 2 ^ 64 → AreFull v → AreFull (put_f d x v)
f_put d x v fits h = record { ints = h.ints; units = freg_set_fits v.units d.rd x h.units fits }

-- ---- numbers

extended_fits : (width : Width) (n : ℕ) → T (leb (hbits width) (hbits w64)) → low64 (cast_signed width n) < 2 ^ 64
extended_fits width n narrow = Fits-lt-pow {w = w64} (Fits-of_z (sfits_widen narrow (let e : FitsSigned width (cast_signed width n) = omega (arith, ints) in e)))

pub eight_fit : (mem : Memory) (a : ℕ) → ((a : ℕ) → byte mem a < 256) → load_bytes mem a 8 < 2 ^ 64
eight_fit mem a h = omega (arith, h (wrap (a + 0)), h (wrap (a + 1)), h (wrap (a + 2)), h (wrap (a + 3)), h (wrap (a + 4)), h (wrap (a + 5)), h (wrap (a + 6)), h (wrap (a + 7)))

pub load_fits : (op : LoadOp) (mem : Memory) (a : ℕ) → ((a : ℕ) → byte mem a < 256) → load_result op mem a < 2 ^ 64
load_fits Ld mem a h = eight_fit mem a h
load_fits _ mem a h = let all = eight_fit mem a h in omega (arith, ints)

chosen_fits : (c : Bool) (x y n : ℕ) → x < n → y < n → (if c then x else y) < n
chosen_fits true x y n h g = h
chosen_fits false x y n h g = g

-- ---- "Zbc" and "Zbkb"

partial_fits : (x y i : ℕ) → x < 2 ^ 64 → i < 64 → partial x y i < 2 ^ 128
partial_fits x y i fits lt = chosen_fits (y / 2 ^ i % 2 == 1) (x * 2 ^ i) 0 (2 ^ 128) (mul-lt x (2 ^ i) (2 ^ 64) (2 ^ 64) fits (pow-lt lt)) (lit< tt)

product_fits : (x y n : ℕ) → x < 2 ^ 64 → n ≤ 64 → product x y n < 2 ^ 128
product_fits x y zero fits le = lit< tt
product_fits x y (suc n) fits le = xor_lt 128 _ _ (product_fits x y n fits (omega arith)) (partial_fits x y n fits (omega arith))

-- the bytes in the opposite order
swapped_fits : (n : ℕ) → swap_bytes w64 n < 2 ^ 64
swapped_fits n = omega arith

pub carry_fits : (op : CarryOp) (x y : ℕ) → x < 2 ^ 64 → y < 2 ^ 64 → carry_result op x y < 2 ^ 64
carry_fits Clmul x y hx hy = mod-lt _ (pow_pos 64)
carry_fits Clmulh x y hx hy = let p = product_fits x y 64 hx (lit≤ tt) in shr_lt 64 64 p
carry_fits Clmulr x y hx hy = mod-lt _ (pow_pos 64)
carry_fits Pack x y hx hy = omega arith
carry_fits Packh x y hx hy = omega arith
carry_fits Packw x y hx hy = extended_fits w32 (low_word (x % 2 ^ 16 + y % 2 ^ 16 * 2 ^ 16)) tt
carry_fits Brev8 x y hx hy = swapped_fits (reverse_bits w64 x)

pub carry_kept : (op : CarryOp) (d : Decoded) (v : FullValues) → d.rd < 32 → AreFull v → IsKept (carry_row op d v)
carry_kept op d v rd h = x_put d _ v rd (carry_fits op (x_of d v) (y_of d v) (h.ints.fits d.rs1) (h.ints.fits d.rs2)) h

-- ---- "A"

number_fits : (width : AtomicWidth) (mem : Memory) (a : ℕ) → ((a : ℕ) → byte mem a < 256) → number_at width mem a < 2 ^ 64
number_fits W mem a h = load_fits Lw mem a h
number_fits atomic.D mem a h = load_fits Ld mem a h

number_put_fits : (width : AtomicWidth) (x : ℕ) (v : Values) (a : ℕ) → AreValues v → AreValues (record { regs = v.regs; mem = number_put width x v.mem a })
number_put_fits W x v a h = stored_fit v.regs v.mem a (take 4 (to_le_bytes w64 x)) (search (rules, arith)) h
number_put_fits atomic.D x v a h = stored_fit v.regs v.mem a (take 8 (to_le_bytes w64 x)) (search (rules, arith)) h

lr_kept : (width : AtomicWidth) (d : Decoded) (v : FullValues) → d.rd < 32 → AreFull v → IsKept (lr_row width d v)
lr_kept width d v rd h = record {
  ints = are_values_set v.ints d.rd _ h.ints rd (number_fits width v.ints.mem (x_of d v) h.ints.bytes);
  units = reserved_set_fits v.units (Some (reservation_of width d v)) h.units (record { address = h.ints.fits d.rs1; size = size width });
}
  where
    size : (width : AtomicWidth) → (width_bytes width ≡ 4) ⊎ (width_bytes width ≡ 8)
    size W = inl refl
    size atomic.D = inr refl

conditional_kept : (width : AtomicWidth) (d : Decoded) (v : FullValues) (through : Bool) → d.rd < 32 → AreFull v → AreFull (conditional width d v through)
conditional_kept width d v through rd h = record { ints = on (through && has_reserved v.units.reserved (reservation_of width d v)); units = reserved_set_fits v.units None h.units tt }
  where
    on : (c : Bool) → AreValues (if c then put_x d 0 (put_memory (number_put width (y_of d v) v.ints.mem (x_of d v)) v) else put_x d 1 v).ints
    on true = are_values_set (record { regs = v.ints.regs; mem = number_put width (y_of d v) v.ints.mem (x_of d v) }) d.rd 0 (number_put_fits width (y_of d v) v.ints (x_of d v) h.ints) rd (lit< tt)
    on false = are_values_set v.ints d.rd 1 h.ints rd (lit< tt)

exchange_kept : (width : AtomicWidth) (d : Decoded) (v : FullValues) (new : ℕ) → d.rd < 32 → AreFull v → AreFull (exchange width d v new)
exchange_kept width d v new rd h = record {
  ints = are_values_set (record { regs = v.ints.regs; mem = number_put width new v.ints.mem (x_of d v) }) d.rd _ (number_put_fits width new v.ints (x_of d v) h.ints) rd (number_fits width v.ints.mem (x_of d v) h.ints.bytes);
  units = h.units;
}

pub atomic_kept : (op : AtomicOp) (width : AtomicWidth) (d : Decoded) (v : FullValues) → d.rd < 32 → AreFull v → IsKept (atomic_row op width d v)
atomic_kept Lr width d v rd h = lr_kept width d v rd h
atomic_kept Sc width d v rd h = λ a fits. conditional_kept width d v _ rd h
atomic_kept Amoswap width d v rd h = exchange_kept width d v _ rd h
atomic_kept Amoadd width d v rd h = exchange_kept width d v _ rd h
atomic_kept Amoxor width d v rd h = exchange_kept width d v _ rd h
atomic_kept Amoand width d v rd h = exchange_kept width d v _ rd h
atomic_kept Amoor width d v rd h = exchange_kept width d v _ rd h
atomic_kept Amomin width d v rd h = exchange_kept width d v _ rd h
atomic_kept Amomax width d v rd h = exchange_kept width d v _ rd h
atomic_kept Amominu width d v rd h = exchange_kept width d v _ rd h
atomic_kept Amomaxu width d v rd h = exchange_kept width d v _ rd h

-- ---- "Zicsr"

csr_fits : (op : CsrOp) (old x imm : ℕ) → old < 8 → csr_result op old x imm < 8
csr_fits Csrrw old x imm h = mod-lt x (lit< tt)
csr_fits Csrrs old x imm h = or_lt 3 old (x % 8) h (mod-lt x (lit< tt))
csr_fits Csrrc old x imm h = lt_of_le_of_lt (and_le_l old _) h
csr_fits Csrrwi old x imm h = mod-lt imm (lit< tt)
csr_fits Csrrsi old x imm h = or_lt 3 old (imm % 8) h (mod-lt imm (lit< tt))
csr_fits Csrrci old x imm h = lt_of_le_of_lt (and_le_l old _) h

pub csr_kept : (op : CsrOp) (d : Decoded) (v : FullValues) → d.rd < 32 → AreFull v → IsKept (csr_row op d v)
csr_kept op d v rd h = record {
  ints = are_values_set v.ints d.rd v.units.frm h.ints rd (lt_of_lt_of_le h.units.frm_fits (lit≤ tt));
  units = frm_set_fits v.units _ h.units (csr_fits op v.units.frm (x_of d v) d.rs1 h.units.frm_fits);
}

-- ---- "F", "D", "Zfh" and "Zfa"

boxed_fits : (format : FloatFormat) (n : ℕ) → n < 2 ^ 64 → boxed format (low_part format n) < 2 ^ 64
boxed_fits H n h = omega arith
boxed_fits S n h = omega arith
boxed_fits D n h = h

loaded_fits : (format : FloatFormat) (mem : Memory) (a : ℕ) → ((a : ℕ) → byte mem a < 256) → boxed format (load_bytes mem a (format_bytes format)) < 2 ^ 64
loaded_fits H mem a h = omega (arith, h (wrap (a + 0)), h (wrap (a + 1)))
loaded_fits S mem a h = omega (arith, h (wrap (a + 0)), h (wrap (a + 1)), h (wrap (a + 2)), h (wrap (a + 3)))
loaded_fits D mem a h = eight_fit mem a h

signed_part_fits : (format : FloatFormat) (n : ℕ) → n < 2 ^ 64 → extended format n < 2 ^ 64
signed_part_fits H n h = extended_fits w16 (n % 2 ^ 16) tt
signed_part_fits S n h = extended_fits w32 (n % 2 ^ 32) tt
signed_part_fits D n h = h

pub float_load_kept : (format : FloatFormat) (d : Decoded) (v : FullValues) → AreFull v → IsKept (float_load_row format d v)
float_load_kept format d v h = f_put d _ v (loaded_fits format v.ints.mem (address_of d v) h.ints.bytes) h

pub float_store_kept : (format : FloatFormat) (d : Decoded) (v : FullValues) → AreFull v → IsKept (float_store_row format d v)
float_store_kept format d v h = record { ints = stored_fit v.ints.regs v.ints.mem (address_of d v) _ (bytes format) h.ints; units = h.units }
  where
    bytes : (format : FloatFormat) → AllByRecursion (λ b. b < 256) (take (format_bytes format) (to_le_bytes w64 (freg v.units d.rs2)))
    bytes H = search (rules, arith)
    bytes S = search (rules, arith)
    bytes D = search (rules, arith)

pub number_kept : (to : Target) (inputs : List ℕ) (d : Decoded) (v : FullValues) → d.rd < 32 → AreFull v → IsKept (number_row to inputs d v)
number_kept target.Integer inputs d v rd h = λ a fits. record { ints = are_values_set v.ints d.rd _ h.ints rd (bits_fit a fits); units = noted_fits v.units _ h.units }
number_kept target.Float inputs d v rd h = λ a fits. record { ints = h.ints; units = freg_set_fits _ d.rd _ (noted_fits v.units _ h.units) (bits_fit a fits) }

shape_kept : (shape : FloatShape) (format : FloatFormat) (d : Decoded) (v : FullValues) → d.rd < 32 → AreFull v → IsKept (shape_row shape format d v)
shape_kept (Answered from to) format d v rd h = number_kept to (inputs_of from d v) d v rd h
shape_kept ToInteger format d v rd h = x_put d _ v rd (signed_part_fits format (freg v.units d.rs1) (h.units.float_fits d.rs1)) h
shape_kept ToFloat format d v rd h = f_put d _ v (boxed_fits format (x_of d v) (h.ints.fits d.rs1)) h
shape_kept Sign format d v rd h =
    elim (is_move format d) as (λ c. IsKept (if c then Does (put_f d (freg v.units d.rs1) v) else number_row target.Float (inputs_of sources.Two d v) d v)) [
      | true ↦ f_put d _ v (h.units.float_fits d.rs1) h
      | false ↦ number_kept target.Float (inputs_of sources.Two d v) d v rd h
    ]

pub float_kept : (format : FloatFormat) (op : FloatOp) (d : Decoded) (v : FullValues) → d.rd < 32 → AreFull v → IsKept (float_row format op d v)
float_kept format op d v rd h = shape_kept (float_shape op) format d v rd h

-- ---- "V"

under_kept : (s : Setting) (row : Row) → IsKept row → IsKept (under s row)
under_kept s row h = elim (is_legal s) as (λ c. IsKept (if c then row else Absent)) [ true ↦ h | false ↦ tt ]

registers_kept : (inputs span : List ℕ) (d : Decoded) (v : FullValues) → AreFull v → IsKept (registers_row inputs span d v)
registers_kept inputs span d v h = λ a fits. record { ints = h.ints; units = vregs_set_fit _ _ (noted_fits v.units _ h.units) (vectors_fit a fits) }

arithmetic_kept : (s : VectorShape) (funct3 : ℕ) (d : Decoded) (v : FullValues) → d.rd < 32 → AreFull v → IsKept (arithmetic_row s funct3 d v)
arithmetic_kept shape.ToInteger funct3 d v rd h = number_kept target.Integer (arithmetic_inputs funct3 d v) d v rd h
arithmetic_kept shape.ToFloat funct3 d v rd h = number_kept target.Float (arithmetic_inputs funct3 d v) d v rd h
arithmetic_kept shape.Move funct3 d v rd h = record { ints = h.ints; units = moved_fits v.units d.rs2 d.rd (d.rs1 + 1) h.units }
arithmetic_kept shape.Arithmetic funct3 d v rd h = registers_kept (arithmetic_inputs funct3 d v) [] d v h

bytes_kept : (count : ℕ) (d : Decoded) (v : FullValues) → AreFull v → IsKept (bytes_row count d v)
bytes_kept count d v h = λ a fits. record { ints = some_stored_fit v.ints.regs v.ints.mem (x_of d v) _ (bytes_fit a fits) h.ints; units = noted_fits v.units _ h.units }

load_kept : (element : ℕ) (d : Decoded) (v : FullValues) → AreFull v → IsKept (vector_load_row element d v)
load_kept element d v h = under_kept v.units.setting _ (registers_kept _ _ d v h)

store_kept : (element : ℕ) (d : Decoded) (v : FullValues) → AreFull v → IsKept (vector_store_row element d v)
store_kept element d v h = under_kept v.units.setting _ (bytes_kept (span_of element v) d v h)

setting_kept : (d : Decoded) (v : FullValues) → d.rd < 32 → d.rs1 < 32 → AreFull v → IsKept (setting_row d v)
setting_kept d v rd rs1 h = λ a fits. record { ints = are_values_set v.ints d.rd _ h.ints rd (length_fits a fits); units = setting_set_fits v.units _ h.units rs1 (mod-lt _ (pow_pos 8)) }

memory_kept : (op : VecMemOp) (d : Decoded) (v : FullValues) → d.rd < 32 → d.rs1 < 32 → AreFull v → IsKept (vector_memory_row op d v)
memory_kept Vsetivli d v rd rs1 h = setting_kept d v rd rs1 h
memory_kept Vle8 d v rd rs1 h = load_kept 1 d v h
memory_kept Vle16 d v rd rs1 h = load_kept 2 d v h
memory_kept Vle32 d v rd rs1 h = load_kept 4 d v h
memory_kept Vle64 d v rd rs1 h = load_kept 8 d v h
memory_kept Vse8 d v rd rs1 h = store_kept 1 d v h
memory_kept Vse16 d v rd rs1 h = store_kept 2 d v h
memory_kept Vse32 d v rd rs1 h = store_kept 4 d v h
memory_kept Vse64 d v rd rs1 h = store_kept 8 d v h

-- ---- every unit

pub row_kept : (op : MOp) (d : Decoded) (v : FullValues) → IsRanged d → AreFull v → IsKept (row_of op d v)
row_kept (Base op) d v r h = tt
row_kept (Load op) d v r h = tt
row_kept (Store op) d v r h = tt
row_kept (Alu op) d v r h = tt
row_kept (Carry op) d v r h = carry_kept op d v r.rd h
row_kept (Atomic op width) d v r h = atomic_kept op width d v r.rd h
row_kept (Csr op) d v r h = csr_kept op d v r.rd h
row_kept (FloatLoad format) d v r h = float_load_kept format d v h
row_kept (FloatStore format) d v r h = float_store_kept format d v h
row_kept (Float format op) d v r h = float_kept format op d v r.rd h
row_kept (VecMem op) d v r h = memory_kept op d v r.rd r.rs1 h
row_kept (Vec funct6 funct3) d v r h = under_kept v.units.setting _ (arithmetic_kept (vector_shape funct6 funct3) funct3 d v r.rd h)
