-- "RV32/64G Instruction Set Listings" and "RVC Instruction Set Listings": decoding, from a word to its operation, its registers and its immediate.
use Rattle.std.specs.Prelude.{ℕ, ◌%◌, ◌==◌, if◌then◌else◌, ◌&&◌, Option, Some, None}
use Rattle.std.specs.Option.{option_map}
use Rattle.rv_base.specs.declared.flags.IsaFlags.{IsaFlags}
use Rattle.rv_machine.specs.declared.decoding.Decoded.{Decoded}
use Rattle.rv_machine.specs.declared.ops.MOp.TheVariants.{Base, Load, Store, Alu}
use Rattle.rv_machine.specs.declared.ops.BaseOp.TheVariants.{Lui, Auipc, Jal, Jalr, Fence, Ebreak}
use Rattle.rv_machine.specs.Opcodes.{LUI, AUIPC, JAL, JALR, BRANCH, LOAD, STORE, OP_IMM, OP_IMM_32, OP, OP_32, MISC_MEM, SYSTEM}
use Rattle.rv_machine.specs.Layout.{bits, word_opcode, word_rd, word_funct3, word_rs1, word_funct6, word_funct7, word_funct12, bare_form, r_layout, i_layout, shift_layout, shift_32_layout, unary_layout, s_layout, b_layout, u_layout, j_layout, fence_layout}
pub use Rattle.rv_machine.specs.Layout.{or_else}
use Rattle.rv_machine.specs.Compressed.{int_decode_half}
use Rattle.rv_machine.specs.UnitDecode.{unit_decode}
use Rattle.rv_machine.specs.Tables.{branch_entry, load_entry, store_entry, imm_entry, imm_32_entry, shift_entry, unary_entry, long_shift_32_entry, shift_32_entry, unary_32_entry, op_entry, op_32_entry, unary_op_32_entry}

-- ---- by opcode

abbrev pub decode_jalr : ℕ → Option Decoded
decode_jalr word = if word_funct3 word == 0 then Some (i_layout word (Base Jalr)) else None

abbrev pub decode_branch : ℕ → Option Decoded
decode_branch word = option_map (λ op. b_layout word (Base op)) (branch_entry (word_funct3 word))

abbrev pub decode_load : ℕ → Option Decoded
decode_load word = option_map (λ op. i_layout word (Load op)) (load_entry (word_funct3 word))

abbrev pub decode_store : ℕ → Option Decoded
decode_store word = option_map (λ op. s_layout word (Store op)) (store_entry (word_funct3 word))

abbrev pub decode_op_imm : ℕ → Option Decoded
decode_op_imm word =
    or_else (option_map (λ op. i_layout word (Alu op)) (imm_entry (word_funct3 word)))
    (or_else (option_map (λ op. shift_layout word (Alu op)) (shift_entry (word_funct6 word) (word_funct3 word)))
    (option_map (λ op. unary_layout word (Alu op)) (unary_entry (word_funct12 word) (word_funct3 word))))

abbrev pub decode_op_imm_32 : ℕ → Option Decoded
decode_op_imm_32 word =
    or_else (option_map (λ op. i_layout word (Alu op)) (imm_32_entry (word_funct3 word)))
    (or_else (option_map (λ op. shift_layout word (Alu op)) (long_shift_32_entry (word_funct6 word) (word_funct3 word)))
    (or_else (option_map (λ op. shift_32_layout word (Alu op)) (shift_32_entry (word_funct7 word) (word_funct3 word)))
    (option_map (λ op. unary_layout word (Alu op)) (unary_32_entry (word_funct12 word) (word_funct3 word)))))

abbrev pub decode_op : ℕ → Option Decoded
decode_op word = option_map (λ op. r_layout word (Alu op)) (op_entry (word_funct7 word) (word_funct3 word))

abbrev pub decode_op_32 : ℕ → Option Decoded
decode_op_32 word =
    or_else (option_map (λ op. r_layout word (Alu op)) (op_32_entry (word_funct7 word) (word_funct3 word)))
    (option_map (λ op. unary_layout word (Alu op)) (unary_op_32_entry (word_funct12 word) (word_funct3 word)))

-- fence, with rd, rs1 and fm 0
abbrev pub decode_misc_mem : ℕ → Option Decoded
decode_misc_mem word =
    if (word_funct3 word == 0) && (word_rd word == 0) && (word_rs1 word == 0) && (bits word 31 28 == 0) then Some (fence_layout word (Base Fence)) else
    None

-- ebreak, all of whose fields are fixed
abbrev pub decode_system : ℕ → Option Decoded
decode_system word =
    if (word_funct3 word == 0) && (word_rd word == 0) && (word_rs1 word == 0) && (word_funct12 word == 0x001) then Some (bare_form (Base Ebreak)) else
    None

abbrev pub int_by_opcode : ℕ → ℕ → Option Decoded
int_by_opcode opcode word =
    if opcode == LUI then Some (u_layout word (Base Lui)) else
    if opcode == AUIPC then Some (u_layout word (Base Auipc)) else
    if opcode == JAL then Some (j_layout word (Base Jal)) else
    if opcode == JALR then decode_jalr word else
    if opcode == BRANCH then decode_branch word else
    if opcode == LOAD then decode_load word else
    if opcode == STORE then decode_store word else
    if opcode == OP_IMM then decode_op_imm word else
    if opcode == OP_IMM_32 then decode_op_imm_32 word else
    if opcode == OP then decode_op word else
    if opcode == OP_32 then decode_op_32 word else
    if opcode == MISC_MEM then decode_misc_mem word else
    if opcode == SYSTEM then decode_system word else
    None

-- ---- words

-- the integer operation of a word: one whose two lowest bits are 11 has 32 bits, and in any other the low half is an instruction of
-- 16 bits
unfoldable pub int_decode : IsaFlags → ℕ → Option Decoded
int_decode flags word = if word_opcode word % 4 == 3 then int_by_opcode (word_opcode word) word else int_decode_half flags (bits word 15 0)

-- the operation of a word: an integer one, or one of a unit
unfoldable pub decode : IsaFlags → ℕ → Option Decoded
decode flags word = or_else (int_decode flags word) (unit_decode flags word)
