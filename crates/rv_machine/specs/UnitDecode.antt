-- Decoding of the operations that the integer machine has no step for: the listings of the chapters "A", "Zicsr", "F", "D", "Zfh",
-- "Zfa", "V", "Zbc" and "Zbkb".
use Rattle.std.specs.Prelude.{ℕ, ◌/◌, ◌%◌, ◌^◌, ◌==◌, if◌then◌else◌, ◌&&◌, ◌||◌, not, nat_lt, Bool, true, Option, Some, None}
use Rattle.std.specs.Option.{option_map, option_and_then}
use Rattle.rv_base.specs.declared.flags.IsaFlags.{IsaFlags}
use Rattle.rv_machine.specs.declared.decoding.Decoded.{Decoded}
use Rattle.rv_machine.specs.declared.ops.MOp.TheVariants.{Carry, Atomic, Csr, FloatLoad, FloatStore, Float, VecMem, Vec}
use Rattle.rv_machine.specs.declared.ops.AtomicOp.{AtomicOp}
use Rattle.rv_machine.specs.declared.ops.AtomicOp.TheVariants.{Lr, Sc, Amoswap, Amoadd, Amoxor, Amoand, Amoor, Amomin, Amomax, Amominu, Amomaxu}
use Rattle.rv_machine.specs.declared.ops.AtomicWidth.{AtomicWidth}
use Rattle.rv_machine.specs.declared.ops.FloatFormat.{FloatFormat}
use Rattle.rv_machine.specs.declared.ops.FloatFormat.TheVariants.{H, S, D}
use Rattle.rv_machine.specs.declared.ops.VecMemOp.TheVariants.{Vsetivli}
use Rattle.rv_machine.specs.declared.ops.VecFields.{VecFields}
use Rattle.rv_machine.specs.Opcodes.{OP_IMM, OP, OP_32, SYSTEM, LOAD_FP, STORE_FP, AMO, OP_FP, OP_V}
use Rattle.rv_machine.specs.Layout.{bits, word_opcode, word_rd, word_funct3, word_rs1, word_rs2, word_funct6, word_funct7, word_funct12, word_fmt, word_funct5, word_vm, r_layout, i_layout, s_layout, unary_layout, rounded_layout, rounded_unary_layout, r4_layout, amo_layout, vector_layout, vector_memory_layout, vsetivli_layout}
use Rattle.rv_machine.specs.UnitTables.{carry_unary_entry, carry_entry, carry_32_entry, csr_entry, atomic_entry, atomic_width_entry, format_entry, width_entry, rounded_entry, rounded_unary_entry, fixed_entry, fixed_unary_entry, is_own_format, fused_entry, vector_load_entry, vector_store_entry}
use Rattle.rv_machine.specs.Vectors.{vector_fields, are_fields}
use Rattle.rv_machine.specs.Compressed.{unit_decode_half}
pub use Rattle.rv_machine.specs.Layout.{or_else}

-- where the test holds
abbrev pub only : Bool → Option Decoded → Option Decoded
only c o = if c then o else None

-- ---- "A"

-- lr has no rs2
abbrev pub is_source : AtomicOp → ℕ → Bool
is_source Lr rs2 = rs2 == 0
is_source Sc rs2 = true
is_source Amoswap rs2 = true
is_source Amoadd rs2 = true
is_source Amoxor rs2 = true
is_source Amoand rs2 = true
is_source Amoor rs2 = true
is_source Amomin rs2 = true
is_source Amomax rs2 = true
is_source Amominu rs2 = true
is_source Amomaxu rs2 = true

abbrev pub atomic_of : ℕ → AtomicOp → AtomicWidth → Option Decoded
atomic_of word op width = only (is_source op (word_rs2 word)) (Some (amo_layout word (Atomic op width)))

abbrev pub decode_amo : ℕ → Option Decoded
decode_amo word = option_and_then (λ op. option_and_then (atomic_of word op) (atomic_width_entry (word_funct3 word))) (atomic_entry (word_funct5 word))

-- ---- "Zicsr"

-- of frm, the CSR 2
abbrev pub decode_csr : ℕ → Option Decoded
decode_csr word = only (word_funct12 word == 0x002) (option_map (λ op. unary_layout word (Csr op)) (csr_entry (word_funct3 word)))

-- ---- "F", "D", "Zfh" and "Zfa"

-- the static rounding modes, and the dynamic one
abbrev pub is_rounding : ℕ → Bool
is_rounding rm = nat_lt rm 5 || (rm == 7)

-- those of two bytes need Zfhmin
abbrev pub has_format : IsaFlags → FloatFormat → Bool
has_format flags H = flags.has_zfhmin
has_format flags S = true
has_format flags D = true

abbrev pub float_load_of : IsaFlags → ℕ → FloatFormat → Option Decoded
float_load_of flags word format = only (has_format flags format) (Some (i_layout word (FloatLoad format)))

abbrev pub float_store_of : IsaFlags → ℕ → FloatFormat → Option Decoded
float_store_of flags word format = only (has_format flags format) (Some (s_layout word (FloatStore format)))

abbrev pub rounded_of : ℕ → FloatFormat → Option Decoded
rounded_of word format = only (is_rounding (word_funct3 word)) (option_map (λ op. rounded_layout word (Float format op)) (rounded_entry (word_funct5 word)))

abbrev pub rounded_unary_of : ℕ → FloatFormat → Option Decoded
rounded_unary_of word format =
    only (is_rounding (word_funct3 word) && not (is_own_format format (word_funct5 word) (word_rs2 word)))
    (option_map (λ op. rounded_unary_layout word (Float format op)) (rounded_unary_entry (word_funct5 word) (word_rs2 word)))

abbrev pub fixed_of : ℕ → FloatFormat → Option Decoded
fixed_of word format =
    or_else (option_map (λ op. r_layout word (Float format op)) (fixed_entry (word_funct5 word) (word_funct3 word)))
    (option_map (λ op. unary_layout word (Float format op)) (fixed_unary_entry (word_funct5 word) (word_rs2 word) (word_funct3 word)))

abbrev pub float_of : ℕ → FloatFormat → Option Decoded
float_of word format = or_else (rounded_of word format) (or_else (rounded_unary_of word format) (fixed_of word format))

abbrev pub decode_op_fp : ℕ → Option Decoded
decode_op_fp word = option_and_then (float_of word) (format_entry (word_fmt word))

abbrev pub fused_of : ℕ → ℕ → FloatFormat → Option Decoded
fused_of opcode word format = only (is_rounding (word_funct3 word)) (option_map (λ op. r4_layout word (Float format op)) (fused_entry opcode))

abbrev pub decode_fused : ℕ → ℕ → Option Decoded
decode_fused opcode word = option_and_then (fused_of opcode word) (format_entry (word_fmt word))

-- ---- "V"

-- unit-stride, of one field, and none of the special kinds
abbrev pub is_plain : ℕ → Bool
is_plain word = (bits word 31 26 == 0) && (word_rs2 word == 0)

abbrev pub load_of : IsaFlags → ℕ → Option Decoded
load_of flags word = option_and_then (float_load_of flags word) (width_entry (word_funct3 word))

abbrev pub decode_load_fp : IsaFlags → ℕ → Option Decoded
decode_load_fp flags word =
    or_else (load_of flags word)
    (only (is_plain word) (option_map (λ op. vector_memory_layout word (VecMem op)) (vector_load_entry (word_funct3 word))))

abbrev pub store_of : IsaFlags → ℕ → Option Decoded
store_of flags word = option_and_then (float_store_of flags word) (width_entry (word_funct3 word))

abbrev pub decode_store_fp : IsaFlags → ℕ → Option Decoded
decode_store_fp flags word =
    or_else (store_of flags word)
    (only (is_plain word) (option_map (λ op. vector_memory_layout word (VecMem op)) (vector_store_entry (word_funct3 word))))

-- vtype, of eight bits, has a length multiplier and an element width
abbrev pub is_vtype : ℕ → Bool
is_vtype vtype = nat_lt vtype (2 ^ 8) && not (vtype % 8 == 4) && nat_lt (vtype / 8 % 8) 4

abbrev pub decode_vsetivli : ℕ → Option Decoded
decode_vsetivli word = only ((bits word 31 30 == 3) && is_vtype (bits word 29 20)) (Some (vsetivli_layout word (VecMem Vsetivli)))

abbrev pub vector_of : ℕ → VecFields → Option Decoded
vector_of word fields =
    only (are_fields fields (word_vm word) (word_rs2 word) (word_rs1 word) (word_rd word)) (Some (vector_layout word (Vec (word_funct6 word) (word_funct3 word))))

abbrev pub decode_op_v : ℕ → Option Decoded
decode_op_v word =
    if word_funct3 word == 7 then decode_vsetivli word else
    option_and_then (vector_of word) (vector_fields (word_funct6 word) (word_funct3 word))

-- ---- "Zbc" and "Zbkb"

abbrev pub decode_carry_unary : ℕ → Option Decoded
decode_carry_unary word = option_map (λ op. unary_layout word (Carry op)) (carry_unary_entry (word_funct12 word) (word_funct3 word))

abbrev pub decode_carry : ℕ → Option Decoded
decode_carry word = option_map (λ op. r_layout word (Carry op)) (carry_entry (word_funct7 word) (word_funct3 word))

-- packw; that of x0 is zext.h, an integer operation
abbrev pub decode_carry_32 : ℕ → Option Decoded
decode_carry_32 word = option_map (λ op. r_layout word (Carry op)) (carry_32_entry (word_funct7 word) (word_funct3 word))

-- ---- by opcode

abbrev pub unit_by_opcode : IsaFlags → ℕ → ℕ → Option Decoded
unit_by_opcode flags opcode word =
    if opcode == OP_IMM then decode_carry_unary word else
    if opcode == OP then decode_carry word else
    if opcode == OP_32 then decode_carry_32 word else
    if opcode == SYSTEM then decode_csr word else
    if opcode == LOAD_FP then decode_load_fp flags word else
    if opcode == STORE_FP then decode_store_fp flags word else
    if opcode == AMO then decode_amo word else
    if opcode == OP_FP then decode_op_fp word else
    if opcode == OP_V then decode_op_v word else
    decode_fused opcode word

-- the unit's operation of a word, of 32 bits or of 16
unfoldable pub unit_decode : IsaFlags → ℕ → Option Decoded
unit_decode flags word = if word_opcode word % 4 == 3 then unit_by_opcode flags (word_opcode word) word else unit_decode_half flags (bits word 15 0)
