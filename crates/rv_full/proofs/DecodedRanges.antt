-- The numbers of an operation that is decoded are in their ranges: registers below 32, and an immediate of 64 bits.
use Rattle.std.proofs.Common.{◌≡◌, ℕ, suc, ◌-◌, ◌*◌, ◌%◌, ◌^◌, ◌<◌, ◌≤◌, nat_lt, Bool, true, false, Option, Some, None, if◌then◌else◌, refl, arith, lit<, lit≤, mod-lt, subst, pos, negsuc}
use Rattle.std.specs.Option.{option_map, option_and_then}
use Rattle.std.proofs.lemmas.Bool.Decides.{nat_tests}
use Rattle.rv_base.specs.declared.flags.IsaFlags.{IsaFlags}
use Rattle.rv_machine.specs.declared.decoding.Decoded.{Decoded}
use Rattle.rv_machine.specs.declared.ops.AtomicOp.{AtomicOp}
use Rattle.rv_machine.specs.declared.ops.AtomicWidth.{AtomicWidth}
use Rattle.rv_machine.specs.declared.ops.FloatFormat.{FloatFormat}
use Rattle.rv_machine.specs.declared.ops.MOp.{MOp}
use Rattle.rv_machine.specs.declared.ops.MOp.TheVariants.{Alu}
use Rattle.rv_machine.specs.declared.ops.VecFields.{VecFields}
use Rattle.rv_machine.specs.State.{low64, signed}
use Rattle.rv_machine.specs.Layout.{or_else, bits, shift_32_layout, unary_layout, word_funct12, word_funct3, word_funct6, word_funct7, word_opcode}
use Rattle.rv_machine.specs.Tables.{shift_32_entry, unary_32_entry}
use Rattle.rv_machine.specs.Compressed.{ci_bits, cj_bits, decode_addi4spn, decode_addiw, decode_arithmetic, decode_j, decode_jalr_add, decode_jr_mv, decode_li, decode_load_sp, decode_lui, decode_two_registers, decode_zcb_memory, decode_zcb_unary, int_decode_half, quadrant_0, quadrant_1, quadrant_2, unit_by_quadrant, unit_decode_half}
use Rattle.rv_machine.specs.Vectors.{vector_fields}
use Rattle.rv_machine.specs.UnitDecode.{only, atomic_of, decode_amo, decode_carry, decode_carry_32, decode_carry_unary, decode_csr, decode_fused, decode_load_fp, decode_op_fp, decode_op_v, decode_store_fp, decode_vsetivli, fixed_of, float_load_of, float_of, float_store_of, fused_of, rounded_of, rounded_unary_of, unit_by_opcode, unit_decode, vector_of}
use Rattle.rv_machine.specs.Decode.{decode, decode_branch, decode_jalr, decode_load, decode_misc_mem, decode_op, decode_op_32, decode_op_imm, decode_op_imm_32, decode_store, decode_system, int_by_opcode, int_decode}

pub record IsRanged (d : Decoded) : Type 0 where
  pub rd : d.rd < 32
  pub rs1 : d.rs1 < 32
  pub imm : low64 d.imm < 2 ^ 64

-- an operation where there is one
pub record AreRanged (o : Option Decoded) : Type 0 where
  pub each : (d : Decoded) → o ≡ Some d → IsRanged d

-- ---- choices

none : AreRanged None
none = record { each = λ d e. absurd (cc) }

one : (d : Decoded) → d.rd < 32 → d.rs1 < 32 → low64 d.imm < 2 ^ 64 → AreRanged (Some d)
one d rd rs1 imm = record { each = λ e is. let same : d ≡ e = cc in subst IsRanged same (record { rd = rd; rs1 = rs1; imm = imm }) }

chosen : (c : Bool) (a b : Option Decoded) → AreRanged a → AreRanged b → AreRanged (if c then a else b)
chosen true a b p q = p
chosen false a b p q = q

first_of : (a b : Option Decoded) → AreRanged a → AreRanged b → AreRanged (or_else a b)
first_of None b p q = q
first_of (Some d) b p q = p

where_so : (c : Bool) (o : Option Decoded) → AreRanged o → AreRanged (only c o)
where_so true o p = p
where_so false o p = none

mapped : {X : Type 0} (f : X → Decoded) (o : Option X) → ((x : X) → AreRanged (Some (f x))) → AreRanged (option_map f o)
mapped f None each = none
mapped f (Some x) each = each x

then_of : {X : Type 0} (f : X → Option Decoded) (o : Option X) → ((x : X) → AreRanged (f x)) → AreRanged (option_and_then f o)
then_of f None each = none
then_of f (Some x) each = each x

-- ---- numbers

register : (n : ℕ) → n % 32 < 32
register n = mod-lt n (lit< tt)

x0 : 0 < 32
x0 = lit< tt

signed_fits : (half n : ℕ) → half ≤ 2 ^ 64 → low64 (signed half n) < 2 ^ 64
signed_fits half n low = on (nat_lt n half) refl
  where
    on : (c : Bool) → nat_lt n half ≡ c → low64 (if c then pos n else negsuc (2 * half - suc n)) < 2 ^ 64
    on true is = let lt : n < half = grind (arith, nat_tests) in omega arith
    on false is = omega arith

ruleset choices = (none, one, chosen, first_of, where_so, mapped, then_of, register, x0, signed_fits, arith)

-- ---- integer operations of 32 bits

branch_ranged : (word : ℕ) → AreRanged (decode_branch word)
branch_ranged word = search choices

jalr_ranged : (word : ℕ) → AreRanged (decode_jalr word)
jalr_ranged word = search choices

load_ranged : (word : ℕ) → AreRanged (decode_load word)
load_ranged word = search choices

store_ranged : (word : ℕ) → AreRanged (decode_store word)
store_ranged word = search choices

op_imm_ranged : (word : ℕ) → AreRanged (decode_op_imm word)
op_imm_ranged word = search choices

short_shift_ranged : (word : ℕ) → AreRanged (or_else (option_map (λ op. shift_32_layout word (Alu op)) (shift_32_entry (word_funct7 word) (word_funct3 word))) (option_map (λ op. unary_layout word (Alu op)) (unary_32_entry (word_funct12 word) (word_funct3 word))))
short_shift_ranged word = search choices

op_imm_32_ranged : (word : ℕ) → AreRanged (decode_op_imm_32 word)
op_imm_32_ranged word = search (choices, short_shift_ranged)

op_ranged : (word : ℕ) → AreRanged (decode_op word)
op_ranged word = search choices

op_32_ranged : (word : ℕ) → AreRanged (decode_op_32 word)
op_32_ranged word = search choices

misc_mem_ranged : (word : ℕ) → AreRanged (decode_misc_mem word)
misc_mem_ranged word = search choices

system_ranged : (word : ℕ) → AreRanged (decode_system word)
system_ranged word = search choices

by_opcode_ranged : (opcode word : ℕ) → AreRanged (int_by_opcode opcode word)
by_opcode_ranged opcode word = search (choices, branch_ranged, jalr_ranged, load_ranged, store_ranged, op_imm_ranged, op_imm_32_ranged, op_ranged, op_32_ranged, misc_mem_ranged, system_ranged)

-- ---- integer operations of 16 bits

addi4spn_ranged : (half : ℕ) → AreRanged (decode_addi4spn half)
addi4spn_ranged half = search choices depth 12

zcb_memory_ranged : (half : ℕ) → AreRanged (decode_zcb_memory half)
zcb_memory_ranged half = search choices depth 12

quadrant_0_ranged : (flags : IsaFlags) (half : ℕ) → AreRanged (quadrant_0 flags half)
quadrant_0_ranged flags half = search (choices, addi4spn_ranged, zcb_memory_ranged) depth 12

addiw_ranged : (half : ℕ) → AreRanged (decode_addiw half)
addiw_ranged half = search choices depth 12

lui_ranged : (half : ℕ) → AreRanged (decode_lui half)
lui_ranged half = search choices depth 12

zcb_unary_ranged : (flags : IsaFlags) (half : ℕ) → AreRanged (decode_zcb_unary flags half)
zcb_unary_ranged flags half = search choices depth 12

two_registers_ranged : (flags : IsaFlags) (half : ℕ) → AreRanged (decode_two_registers flags half)
two_registers_ranged flags half = search (choices, zcb_unary_ranged) depth 12

arithmetic_ranged : (flags : IsaFlags) (half : ℕ) → AreRanged (decode_arithmetic flags half)
arithmetic_ranged flags half = search (choices, two_registers_ranged) depth 12

li_ranged : (half : ℕ) → AreRanged (Some (decode_li half))
li_ranged half = one _ (register _) x0 (signed_fits (2 ^ 5) (ci_bits half) (lit≤ tt))

j_ranged : (half : ℕ) → AreRanged (Some (decode_j half))
j_ranged half = one _ x0 x0 (signed_fits (2 ^ 11) (cj_bits half) (lit≤ tt))

quadrant_1_ranged : (flags : IsaFlags) (half : ℕ) → AreRanged (quadrant_1 flags half)
quadrant_1_ranged flags half = search (choices, addiw_ranged, li_ranged, lui_ranged, arithmetic_ranged, j_ranged) depth 12

load_sp_ranged : (half : ℕ) (op : MOp) (offset : ℕ) → offset < 2 ^ 64 → AreRanged (decode_load_sp half op offset)
load_sp_ranged half op offset fits = search choices

jr_mv_ranged : (half : ℕ) → AreRanged (decode_jr_mv half)
jr_mv_ranged half = search choices depth 12

jalr_add_ranged : (half : ℕ) → AreRanged (decode_jalr_add half)
jalr_add_ranged half = search choices depth 12

quadrant_2_ranged : (half : ℕ) → AreRanged (quadrant_2 half)
quadrant_2_ranged half = search (choices, load_sp_ranged, jr_mv_ranged, jalr_add_ranged) depth 12

unit_by_quadrant_ranged : (half : ℕ) → AreRanged (unit_by_quadrant half)
unit_by_quadrant_ranged half = search choices depth 12

halves_ranged : (flags : IsaFlags) (half : ℕ) → AreRanged (int_decode_half flags half)
unfolding int_decode_half
halves_ranged flags half = search (choices, quadrant_0_ranged, quadrant_1_ranged, quadrant_2_ranged) depth 12

unit_halves_ranged : (flags : IsaFlags) (half : ℕ) → AreRanged (unit_decode_half flags half)
unfolding unit_decode_half
unit_halves_ranged flags half = search (choices, unit_by_quadrant_ranged) depth 12

int_ranged : (flags : IsaFlags) (word : ℕ) → AreRanged (int_decode flags word)
unfolding int_decode
int_ranged flags word = chosen _ _ _ (by_opcode_ranged (word_opcode word) word) (halves_ranged flags (bits word 15 0))

-- ---- operations of the units

atomic_ranged : (word : ℕ) (op : AtomicOp) (width : AtomicWidth) → AreRanged (atomic_of word op width)
atomic_ranged word op width = search choices

amo_ranged : (word : ℕ) → AreRanged (decode_amo word)
amo_ranged word = search (choices, atomic_ranged)

csr_ranged : (word : ℕ) → AreRanged (decode_csr word)
csr_ranged word = search choices

rounded_ranged : (word : ℕ) (format : FloatFormat) → AreRanged (rounded_of word format)
rounded_ranged word format = search choices

rounded_unary_ranged : (word : ℕ) (format : FloatFormat) → AreRanged (rounded_unary_of word format)
rounded_unary_ranged word format = search choices

fixed_ranged : (word : ℕ) (format : FloatFormat) → AreRanged (fixed_of word format)
fixed_ranged word format = search choices

float_ranged : (word : ℕ) (format : FloatFormat) → AreRanged (float_of word format)
float_ranged word format = first_of _ _ (rounded_ranged word format) (first_of _ _ (rounded_unary_ranged word format) (fixed_ranged word format))

op_fp_ranged : (word : ℕ) → AreRanged (decode_op_fp word)
op_fp_ranged word = then_of _ _ (λ format. float_ranged word format)

fused_of_ranged : (opcode word : ℕ) (format : FloatFormat) → AreRanged (fused_of opcode word format)
fused_of_ranged opcode word format = search choices

fused_ranged : (opcode word : ℕ) → AreRanged (decode_fused opcode word)
fused_ranged opcode word = then_of _ _ (λ format. fused_of_ranged opcode word format)

float_load_ranged : (flags : IsaFlags) (word : ℕ) (format : FloatFormat) → AreRanged (float_load_of flags word format)
float_load_ranged flags word format = search choices

float_store_ranged : (flags : IsaFlags) (word : ℕ) (format : FloatFormat) → AreRanged (float_store_of flags word format)
float_store_ranged flags word format = search choices

load_fp_ranged : (flags : IsaFlags) (word : ℕ) → AreRanged (decode_load_fp flags word)
load_fp_ranged flags word = search (choices, float_load_ranged)

store_fp_ranged : (flags : IsaFlags) (word : ℕ) → AreRanged (decode_store_fp flags word)
store_fp_ranged flags word = search (choices, float_store_ranged)

vector_ranged : (word : ℕ) (fields : VecFields) → AreRanged (vector_of word fields)
vector_ranged word fields = search choices

vsetivli_ranged : (word : ℕ) → AreRanged (decode_vsetivli word)
vsetivli_ranged word = search choices

op_v_ranged : (word : ℕ) → AreRanged (decode_op_v word)
op_v_ranged word = chosen _ _ _ (vsetivli_ranged word) (then_of (vector_of word) (vector_fields (word_funct6 word) (word_funct3 word)) (λ fields. vector_ranged word fields))

carry_unary_ranged : (word : ℕ) → AreRanged (decode_carry_unary word)
carry_unary_ranged word = search choices

carry_ranged : (word : ℕ) → AreRanged (decode_carry word)
carry_ranged word = search choices

carry_32_ranged : (word : ℕ) → AreRanged (decode_carry_32 word)
carry_32_ranged word = search choices

unit_by_opcode_ranged : (flags : IsaFlags) (opcode word : ℕ) → AreRanged (unit_by_opcode flags opcode word)
unit_by_opcode_ranged flags opcode word = search (choices, carry_unary_ranged, carry_ranged, carry_32_ranged, csr_ranged, load_fp_ranged, store_fp_ranged, amo_ranged, op_fp_ranged, op_v_ranged, fused_ranged) depth 14

unit_ranged : (flags : IsaFlags) (word : ℕ) → AreRanged (unit_decode flags word)
unfolding unit_decode
unit_ranged flags word = chosen _ _ _ (unit_by_opcode_ranged flags (word_opcode word) word) (unit_halves_ranged flags (bits word 15 0))

-- ---- all operations

pub integer_ranged : (flags : IsaFlags) (word : ℕ) (d : Decoded) → int_decode flags word ≡ Some d → IsRanged d
integer_ranged flags word d is = (int_ranged flags word).each d is

pub decoded_ranged : (flags : IsaFlags) (word : ℕ) (d : Decoded) → decode flags word ≡ Some d → IsRanged d
unfolding decode
decoded_ranged flags word d is = (first_of _ _ (int_ranged flags word) (unit_ranged flags word)).each d is
