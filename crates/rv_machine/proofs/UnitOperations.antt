-- The operations of the units are none of the integer machine's.
use Rattle.std.proofs.Common.{◌≡◌, ℕ, ◌%◌, ◌==◌, if◌then◌else◌, Bool, true, false, Option, Some, None, refl, ap, sym, ◌∙◌}
use Rattle.std.specs.Prelude.{nat_eq, ◌&&◌}
use Rattle.std.specs.Option.{option_map, option_and_then}
use Rattle.rv_base.specs.declared.flags.IsaFlags.{IsaFlags}
use Rattle.rv_machine.specs.declared.decoding.Decoded.{Decoded}
use Rattle.rv_machine.specs.declared.ops.MOp.{MOp}
use Rattle.rv_machine.specs.declared.ops.MOp.TheVariants.{Base, Load, Store, Alu, Carry, Atomic, Csr, FloatLoad, FloatStore, Float, VecMem, Vec}
use Rattle.rv_machine.specs.declared.ops.FloatFormat.TheVariants.{D}
use Rattle.rv_machine.specs.declared.ops.VecMemOp.TheVariants.{Vsetivli}
use Rattle.rv_machine.specs.Layout.{bits, word_opcode, word_funct3, word_funct6, word_funct7, word_funct12, word_rs2, word_fmt, word_funct5, r_layout, i_layout, s_layout, unary_layout, rounded_layout, rounded_unary_layout, r4_layout, amo_layout, vector_layout, vector_memory_layout, vsetivli_layout, or_else}
use Rattle.rv_machine.specs.Opcodes.{OP_IMM, OP, OP_32, SYSTEM, LOAD_FP, STORE_FP, AMO, OP_FP, OP_V}
use Rattle.rv_machine.specs.Compressed.{half_op, half_funct3, ld_imm, ldsp_imm, sdsp_imm, cl_layout, cs_layout, load_sp_layout, css_layout, unit_by_quadrant, unit_decode_half}
use Rattle.rv_machine.specs.UnitTables.{csr_entry, carry_unary_entry, carry_entry, carry_32_entry, atomic_entry, atomic_width_entry, format_entry, width_entry, rounded_entry, rounded_unary_entry, fixed_entry, fixed_unary_entry, fused_entry, vector_load_entry, vector_store_entry}
use Rattle.rv_machine.specs.Vectors.{vector_fields}
use Rattle.rv_machine.specs.UnitDecode.{only, decode_carry_unary, decode_carry, decode_carry_32, decode_csr, decode_amo, atomic_of, float_load_of, float_store_of, rounded_of, rounded_unary_of, float_of, decode_op_fp, fused_of, decode_fused, load_of, store_of, decode_load_fp, decode_store_fp, decode_vsetivli, vector_of, decode_op_v, unit_by_opcode, unit_decode}
use Rattle.rv_machine.specs.Decode.{int_decode, decode}
use Rattle.rv_machine.specs.State.{State}
use Rattle.rv_machine.specs.Effects.{act_on}
use Rattle.rv_machine.specs.Steps.{fetch, step_on, istep, step_of_all}

abbrev pub is_integer : MOp → Bool
is_integer (Base op) = true
is_integer (Load op) = true
is_integer (Store op) = true
is_integer (Alu op) = true
is_integer (Carry op) = false
is_integer (Atomic op width) = false
is_integer (Csr op) = false
is_integer (FloatLoad format) = false
is_integer (FloatStore format) = false
is_integer (Float format op) = false
is_integer (VecMem op) = false
is_integer (Vec funct6 funct3) = false

-- an operation is there, and is an integer one
abbrev has_integer : Option Decoded → Bool
has_integer None = false
has_integer (Some d) = is_integer d.op

-- ---- none of a unit is

pick : (c : Bool) (x y : Option Decoded) → has_integer x ≡ false → has_integer y ≡ false → has_integer (if c then x else y) ≡ false
pick true x y p q = p
pick false x y p q = q

either : (a b : Option Decoded) → has_integer a ≡ false → has_integer b ≡ false → has_integer (or_else a b) ≡ false
either (Some d) b p q = p
either None b p q = q

mapped : {A : Type 0} (f : A → Decoded) → ((x : A) → is_integer (f x).op ≡ false) → (o : Option A) → has_integer (option_map f o) ≡ false
mapped f differs None = refl
mapped f differs (Some x) = differs x

chained : {A : Type 0} (f : A → Option Decoded) → ((x : A) → has_integer (f x) ≡ false) → (o : Option A) → has_integer (option_and_then f o) ≡ false
chained f differs None = refl
chained f differs (Some x) = differs x

where_so : (c : Bool) (o : Option Decoded) → has_integer o ≡ false → has_integer (only c o) ≡ false
where_so c o differs = pick c o None differs refl

csr_differs : (w : ℕ) → has_integer (decode_csr w) ≡ false
csr_differs w = where_so _ _ (mapped (λ op. unary_layout w (Csr op)) (λ op. refl) (csr_entry (word_funct3 w)))

amo_differs : (w : ℕ) → has_integer (decode_amo w) ≡ false
amo_differs w = chained _ (λ op. chained (atomic_of w op) (λ width. where_so _ (Some (amo_layout w (Atomic op width))) refl) (atomic_width_entry (word_funct3 w))) (atomic_entry (word_funct5 w))

load_fp_differs : (flags : IsaFlags) (w : ℕ) → has_integer (decode_load_fp flags w) ≡ false
load_fp_differs flags w =
    either (load_of flags w) _ (chained (float_load_of flags w) (λ format. where_so _ (Some (i_layout w (FloatLoad format))) refl) (width_entry (word_funct3 w)))
    (where_so _ _ (mapped (λ op. vector_memory_layout w (VecMem op)) (λ op. refl) (vector_load_entry (word_funct3 w))))

store_fp_differs : (flags : IsaFlags) (w : ℕ) → has_integer (decode_store_fp flags w) ≡ false
store_fp_differs flags w =
    either (store_of flags w) _ (chained (float_store_of flags w) (λ format. where_so _ (Some (s_layout w (FloatStore format))) refl) (width_entry (word_funct3 w)))
    (where_so _ _ (mapped (λ op. vector_memory_layout w (VecMem op)) (λ op. refl) (vector_store_entry (word_funct3 w))))

op_fp_differs : (w : ℕ) → has_integer (decode_op_fp w) ≡ false
op_fp_differs w = chained (float_of w) (λ format.
    either (rounded_of w format) _ (where_so _ _ (mapped (λ op. rounded_layout w (Float format op)) (λ op. refl) (rounded_entry (word_funct5 w))))
    (either (rounded_unary_of w format) _ (where_so _ _ (mapped (λ op. rounded_unary_layout w (Float format op)) (λ op. refl) (rounded_unary_entry (word_funct5 w) (word_rs2 w))))
    (either _ _ (mapped (λ op. r_layout w (Float format op)) (λ op. refl) (fixed_entry (word_funct5 w) (word_funct3 w)))
    (mapped (λ op. unary_layout w (Float format op)) (λ op. refl) (fixed_unary_entry (word_funct5 w) (word_rs2 w) (word_funct3 w)))))) (format_entry (word_fmt w))

fused_differs : (k w : ℕ) → has_integer (decode_fused k w) ≡ false
fused_differs k w = chained (fused_of k w) (λ format. where_so _ _ (mapped (λ op. r4_layout w (Float format op)) (λ op. refl) (fused_entry k))) (format_entry (word_fmt w))

op_v_differs : (w : ℕ) → has_integer (decode_op_v w) ≡ false
op_v_differs w =
    pick (word_funct3 w == 7) (decode_vsetivli w) _ (where_so _ (Some (vsetivli_layout w (VecMem Vsetivli))) refl)
    (chained (vector_of w) (λ fields. where_so _ (Some (vector_layout w (Vec (word_funct6 w) (word_funct3 w)))) refl) (vector_fields (word_funct6 w) (word_funct3 w)))

by_opcode_differs : (flags : IsaFlags) (k w : ℕ) → has_integer (unit_by_opcode flags k w) ≡ false
by_opcode_differs flags k w =
    pick (k == OP_IMM) (decode_carry_unary w) _ (mapped (λ op. unary_layout w (Carry op)) (λ op. refl) (carry_unary_entry (word_funct12 w) (word_funct3 w)))
    (pick (k == OP) (decode_carry w) _ (mapped (λ op. r_layout w (Carry op)) (λ op. refl) (carry_entry (word_funct7 w) (word_funct3 w)))
    (pick (k == OP_32) (decode_carry_32 w) _ (mapped (λ op. r_layout w (Carry op)) (λ op. refl) (carry_32_entry (word_funct7 w) (word_funct3 w)))
    (pick (k == SYSTEM) (decode_csr w) _ (csr_differs w)
    (pick (k == LOAD_FP) (decode_load_fp flags w) _ (load_fp_differs flags w) (pick (k == STORE_FP) (decode_store_fp flags w) _ (store_fp_differs flags w)
    (pick (k == AMO) (decode_amo w) _ (amo_differs w) (pick (k == OP_FP) (decode_op_fp w) _ (op_fp_differs w)
    (pick (k == OP_V) (decode_op_v w) _ (op_v_differs w) (fused_differs k w)))))))))

half_differs : (flags : IsaFlags) (half : ℕ) → has_integer (unit_decode_half flags half) ≡ false
unfolding unit_decode_half
half_differs flags half =
    pick (flags.has_zca && flags.has_zcd) (unit_by_quadrant half) None
    (pick ((half_op half == 0) && (half_funct3 half == 1)) (Some (cl_layout half (FloatLoad D) (ld_imm half))) _ refl
    (pick ((half_op half == 0) && (half_funct3 half == 5)) (Some (cs_layout half (FloatStore D) (ld_imm half))) _ refl
    (pick ((half_op half == 2) && (half_funct3 half == 1)) (Some (load_sp_layout half (FloatLoad D) (ldsp_imm half))) _ refl
    (pick ((half_op half == 2) && (half_funct3 half == 5)) (Some (css_layout half (FloatStore D) (sdsp_imm half))) None refl refl)))) refl

unit_differs : (flags : IsaFlags) (word : ℕ) → has_integer (unit_decode flags word) ≡ false
unfolding unit_decode
unit_differs flags word = pick (word_opcode word % 4 == 3) (unit_by_opcode flags (word_opcode word) word) _ (by_opcode_differs flags (word_opcode word) word) (half_differs flags (bits word 15 0))

-- ---- an integer operation is decoded as one

after : (o rest : Option Decoded) (d : Decoded) → has_integer rest ≡ false → is_integer d.op ≡ true → or_else o rest ≡ Some d → o ≡ Some d
after (Some e) rest d differs is h = h
after None rest d differs is h = absurd (false_true (sym differs ∙ ap has_integer h ∙ is))
  where
    false_true : false ≡ true → ⊥
    false_true e = absurd (cc)

pub integer_decodes : (flags : IsaFlags) (word : ℕ) (d : Decoded) → is_integer d.op ≡ true → decode flags word ≡ Some d → int_decode flags word ≡ Some d
unfolding decode
integer_decodes flags word d is h = after (int_decode flags word) (unit_decode flags word) d (unit_differs flags word) is h

-- what has a step is an integer operation
pub acts_integer : (op : MOp) (d : Decoded) (s t : State) → act_on op d s ≡ Some t → is_integer op ≡ true
acts_integer (Base op) d s t h = refl
acts_integer (Load op) d s t h = refl
acts_integer (Store op) d s t h = refl
acts_integer (Alu op) d s t h = refl
acts_integer (Carry op) d s t h = absurd (cc)
acts_integer (Atomic op width) d s t h = absurd (cc)
acts_integer (Csr op) d s t h = absurd (cc)
acts_integer (FloatLoad format) d s t h = absurd (cc)
acts_integer (FloatStore format) d s t h = absurd (cc)
acts_integer (Float format op) d s t h = absurd (cc)
acts_integer (VecMem op) d s t h = absurd (cc)
acts_integer (Vec funct6 funct3) d s t h = absurd (cc)

-- ---- the step over all of them is the same

none_acts : (op : MOp) (d : Decoded) (s : State) → is_integer op ≡ false → act_on op d s ≡ None
none_acts (Base op) d s h = absurd (cc)
none_acts (Load op) d s h = absurd (cc)
none_acts (Store op) d s h = absurd (cc)
none_acts (Alu op) d s h = absurd (cc)
none_acts (Carry op) d s h = refl
none_acts (Atomic op width) d s h = refl
none_acts (Csr op) d s h = refl
none_acts (FloatLoad format) d s h = refl
none_acts (FloatStore format) d s h = refl
none_acts (Float format op) d s h = refl
none_acts (VecMem op) d s h = refl
none_acts (Vec funct6 funct3) d s h = refl

rests : (o : Option Decoded) (s : State) → has_integer o ≡ false → step_on o s ≡ None
rests None s h = refl
rests (Some d) s h = none_acts d.op d s h

same_on : (o rest : Option Decoded) (s : State) → has_integer rest ≡ false → step_on o s ≡ step_on (or_else o rest) s
same_on (Some d) rest s differs = refl
same_on None rest s differs = sym (rests rest s differs)

pub same_step : (flags : IsaFlags) (s : State) → istep flags s ≡ step_of_all flags s
unfolding istep decode
same_step flags s =
    let word = fetch s.values.mem s.pc in
    ap (λ o. if nat_eq (s.pc % 2) 0 then o else None) (same_on (int_decode flags word) (unit_decode flags word) s (unit_differs flags word))
