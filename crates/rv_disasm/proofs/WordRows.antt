-- Every operation of 32 bits that a word may have, put together again, is the word.
use Rattle.std.proofs.Common.{◌≡◌, ℕ, suc, ◌-◌, ◌*◌, ◌^◌, ◌<◌, Bool, true, false, cond, pos, negsuc, unsigned_abs, Option, Some, refl, ◌∙◌, arith, lit<}
use Rattle.std.specs.Prelude.{IfSome, ◌==◌, ◌&&◌, nat_lt}
use Rattle.std.specs.Option.{option_and_then}
use Rattle.std.proofs.lemmas.Int.{ints}
use Rattle.std.proofs.lemmas.Bool.{ltb-true, eqb-true, and_parts}
use Rattle.rv_base.specs.declared.flags.IsaFlags.{IsaFlags}
use Rattle.rv_machine.specs.declared.decoding.Decoded.{Decoded}
use Rattle.rv_machine.specs.declared.ops.MOp.{MOp}
use Rattle.rv_machine.specs.declared.ops.MOp.TheVariants.{Base, Load, Store, Alu, Carry, Atomic, Csr, FloatLoad, FloatStore, Float, VecMem, Vec}
use Rattle.rv_machine.specs.declared.ops.AluOp.{AluOp}
use Rattle.rv_machine.specs.declared.ops.AluOp.TheVariants.{Int, Mul, Bit}
use Rattle.rv_machine.specs.declared.ops.BaseOp.{BaseOp}
use Rattle.rv_machine.specs.declared.ops.BaseOp.TheVariants as base
use Rattle.rv_machine.specs.declared.ops.LoadOp.{LoadOp}
use Rattle.rv_machine.specs.declared.ops.LoadOp.TheVariants as load
use Rattle.rv_machine.specs.declared.ops.StoreOp.{StoreOp}
use Rattle.rv_machine.specs.declared.ops.StoreOp.TheVariants as store
use Rattle.rv_machine.specs.declared.ops.IntOp.TheVariants as int
use Rattle.rv_machine.specs.declared.ops.MulOp.TheVariants as mul
use Rattle.rv_machine.specs.declared.ops.BitOp.TheVariants as bit
use Rattle.rv_machine.specs.declared.ops.CarryOp.{CarryOp}
use Rattle.rv_machine.specs.declared.ops.CarryOp.TheVariants as carry
use Rattle.rv_machine.specs.declared.ops.AtomicOp.{AtomicOp}
use Rattle.rv_machine.specs.declared.ops.AtomicOp.TheVariants as atomic
use Rattle.rv_machine.specs.declared.ops.AtomicWidth.{AtomicWidth}
use Rattle.rv_machine.specs.declared.ops.AtomicWidth.TheVariants as width
use Rattle.rv_machine.specs.declared.ops.CsrOp.{CsrOp}
use Rattle.rv_machine.specs.declared.ops.CsrOp.TheVariants as csr
use Rattle.rv_machine.specs.declared.ops.FloatFormat.{FloatFormat}
use Rattle.rv_machine.specs.declared.ops.FloatFormat.TheVariants as format
use Rattle.rv_machine.specs.declared.ops.FloatOp.{FloatOp}
use Rattle.rv_machine.specs.declared.ops.FloatOp.TheVariants as float
use Rattle.rv_machine.specs.declared.ops.VecMemOp.{VecMemOp}
use Rattle.rv_machine.specs.declared.ops.VecMemOp.TheVariants as vector
use Rattle.rv_machine.specs.State.{signed}
use Rattle.rv_machine.specs.Layout.{bits, word_opcode, word_rd, word_funct3, word_rs1, word_rs2, word_funct7, word_funct6, word_funct12, word_funct5, word_fmt, word_vm, i_bits, s_bits, b_bits, u_bits, j_bits, bare_form, r_layout, i_layout, shift_layout, shift_32_layout, unary_layout, s_layout, b_layout, u_layout, j_layout, fence_layout, rounded_layout, rounded_unary_layout, r4_layout, amo_layout, vector_layout, vector_memory_layout, vsetivli_layout}
use Rattle.rv_machine.specs.Opcodes.{LUI, AUIPC, JAL, JALR, BRANCH, LOAD, STORE, OP_IMM, OP_IMM_32, OP, OP_32, MISC_MEM, SYSTEM, LOAD_FP, STORE_FP, AMO, MADD, MSUB, NMSUB, NMADD, OP_FP, OP_V}
use Rattle.rv_machine.specs.Tables.{branch_entry, load_entry, store_entry, imm_entry, imm_32_entry, shift_entry, unary_entry, long_shift_32_entry, shift_32_entry, unary_32_entry, op_entry, op_32_entry, unary_op_32_entry}
use Rattle.rv_machine.specs.UnitTables.{carry_unary_entry, carry_entry, carry_32_entry, csr_entry, atomic_entry, atomic_width_entry, format_entry, width_entry, rounded_entry, rounded_unary_entry, fixed_entry, fixed_unary_entry, fused_entry, vector_load_entry, vector_store_entry}
use Rattle.rv_machine.specs.Vectors.{vector_fields, are_fields}
use Rattle.rv_machine.specs.UnitDecode.{atomic_of, decode_amo, decode_csr, is_rounding, has_format, float_load_of, float_store_of, rounded_of, rounded_unary_of, float_of, decode_op_fp, fused_of, decode_fused, is_plain, load_of, decode_load_fp, store_of, decode_store_fp, is_vtype, decode_vsetivli, vector_of, decode_op_v, decode_carry_unary, decode_carry, decode_carry_32, unit_by_opcode, or_else}
use Rattle.rv_machine.specs.Decode.{decode_jalr, decode_branch, decode_load, decode_store, decode_op_imm, decode_op_imm_32, decode_op, decode_op_32, decode_misc_mem, decode_system, int_by_opcode}
use Rattle.rv_disasm.specs.declared.forms.Form.TheVariants as form
use Rattle.rv_disasm.specs.Text.{form_fields, functs}
use Rattle.rv_disasm.specs.Fixed.{format_field}
use Rattle.rv_disasm.specs.Placing.{form_fixed}
use Rattle.rv_disasm.specs.Reading.{plain, filled, Fine}
use Rattle.rv_disasm.proofs.Options.{every_map, every_then, every_else, every_if, every_only, every_value, row, row_2, row_3, choice}
use Rattle.rv_disasm.proofs.WordSums.{of_u, of_j, of_i, of_shift, of_shift_32, of_unary, of_r, of_s, of_b, of_fence, of_amo, of_lr, of_fused, of_rounded, of_rounded_unary, of_float, of_float_unary, of_vector_memory, of_length, of_vector}

-- an operation's row, with the operation's numbers put to it, is the word
pub record Good (w : ℕ) (d : Decoded) : Type 0 where
  pub sum : filled (plain (form.Word d.op)) (form_fields (plain (form.Word d.op))) d (form_fixed (plain (form.Word d.op))) ≡ w
  pub fine : Fine d

abbrev pub SmallFuncts : MOp → Type 0
SmallFuncts op = ((functs op).0 < 2 ^ 62) × ((functs op).1 < 2 ^ 62)

pub none : SmallFuncts (Base base.Lui)
none = (lit< tt, lit< tt)

rd_low : (w : ℕ) → word_rd w < 32
rd_low w = omega arith

rs1_low : (w : ℕ) → word_rs1 w < 32
rs1_low w = omega arith

rs2_low : (w : ℕ) → word_rs2 w < 32
rs2_low w = omega arith

rs3_low : (w : ℕ) → word_funct5 w < 32
rs3_low w = omega arith

funct3_low : (w : ℕ) → word_funct3 w < 2 ^ 62
funct3_low w = omega arith

pub signed_low : (half b : ℕ) → half < 2 ^ 60 → b < 2 * half → unsigned_abs (signed half b) < 2 ^ 62
signed_low half b small h = on (nat_lt b half) refl
  where
    on : (t : Bool) → nat_lt b half ≡ t → unsigned_abs (cond t (pos b) (negsuc (2 * half - suc b))) < 2 ^ 62
    on true e = let low : b < half = ltb-true b half e in omega (arith, ints)
    on false e = omega (arith, ints)

good_r : (w : ℕ) (op : MOp) → SmallFuncts op → filled (plain (form.Word op)) (form_fields (plain (form.Word op))) (r_layout w op) (form_fixed (plain (form.Word op))) ≡ w → Good w (r_layout w op)
good_r w op f s = record { sum = s; fine = record { registers = record { rd = rd_low w; rs1 = rs1_low w; rs2 = rs2_low w; rs3 = lit< tt }; imm = lit< tt; rm = lit< tt; functs = f } }

good_i : (w : ℕ) (op : MOp) → SmallFuncts op → filled (plain (form.Word op)) (form_fields (plain (form.Word op))) (i_layout w op) (form_fixed (plain (form.Word op))) ≡ w → Good w (i_layout w op)
good_i w op f s = record { sum = s; fine = record { registers = record { rd = rd_low w; rs1 = rs1_low w; rs2 = lit< tt; rs3 = lit< tt }; imm = signed_low (2 ^ 11) (i_bits w) (lit< tt) (omega arith); rm = lit< tt; functs = f } }

good_shift : (w : ℕ) (op : MOp) → SmallFuncts op → filled (plain (form.Word op)) (form_fields (plain (form.Word op))) (shift_layout w op) (form_fixed (plain (form.Word op))) ≡ w → Good w (shift_layout w op)
good_shift w op f s = record { sum = s; fine = record { registers = record { rd = rd_low w; rs1 = rs1_low w; rs2 = lit< tt; rs3 = lit< tt }; imm = omega (arith, ints); rm = lit< tt; functs = f } }

good_shift_32 : (w : ℕ) (op : MOp) → SmallFuncts op → filled (plain (form.Word op)) (form_fields (plain (form.Word op))) (shift_32_layout w op) (form_fixed (plain (form.Word op))) ≡ w → Good w (shift_32_layout w op)
good_shift_32 w op f s = record { sum = s; fine = record { registers = record { rd = rd_low w; rs1 = rs1_low w; rs2 = lit< tt; rs3 = lit< tt }; imm = omega (arith, ints); rm = lit< tt; functs = f } }

good_unary : (w : ℕ) (op : MOp) → SmallFuncts op → filled (plain (form.Word op)) (form_fields (plain (form.Word op))) (unary_layout w op) (form_fixed (plain (form.Word op))) ≡ w → Good w (unary_layout w op)
good_unary w op f s = record { sum = s; fine = record { registers = record { rd = rd_low w; rs1 = rs1_low w; rs2 = lit< tt; rs3 = lit< tt }; imm = lit< tt; rm = lit< tt; functs = f } }

good_s : (w : ℕ) (op : MOp) → SmallFuncts op → filled (plain (form.Word op)) (form_fields (plain (form.Word op))) (s_layout w op) (form_fixed (plain (form.Word op))) ≡ w → Good w (s_layout w op)
good_s w op f s = record { sum = s; fine = record { registers = record { rd = lit< tt; rs1 = rs1_low w; rs2 = rs2_low w; rs3 = lit< tt }; imm = signed_low (2 ^ 11) (s_bits w) (lit< tt) (omega arith); rm = lit< tt; functs = f } }

good_b : (w : ℕ) (op : MOp) → SmallFuncts op → filled (plain (form.Word op)) (form_fields (plain (form.Word op))) (b_layout w op) (form_fixed (plain (form.Word op))) ≡ w → Good w (b_layout w op)
good_b w op f s = record { sum = s; fine = record { registers = record { rd = lit< tt; rs1 = rs1_low w; rs2 = rs2_low w; rs3 = lit< tt }; imm = signed_low (2 ^ 12) (b_bits w) (lit< tt) (omega arith); rm = lit< tt; functs = f } }

good_u : (w : ℕ) (op : MOp) → SmallFuncts op → filled (plain (form.Word op)) (form_fields (plain (form.Word op))) (u_layout w op) (form_fixed (plain (form.Word op))) ≡ w → Good w (u_layout w op)
good_u w op f s = record { sum = s; fine = record { registers = record { rd = rd_low w; rs1 = lit< tt; rs2 = lit< tt; rs3 = lit< tt }; imm = signed_low (2 ^ 19) (u_bits w) (lit< tt) (omega arith); rm = lit< tt; functs = f } }

good_j : (w : ℕ) (op : MOp) → SmallFuncts op → filled (plain (form.Word op)) (form_fields (plain (form.Word op))) (j_layout w op) (form_fixed (plain (form.Word op))) ≡ w → Good w (j_layout w op)
good_j w op f s = record { sum = s; fine = record { registers = record { rd = rd_low w; rs1 = lit< tt; rs2 = lit< tt; rs3 = lit< tt }; imm = signed_low (2 ^ 20) (j_bits w) (lit< tt) (omega arith); rm = lit< tt; functs = f } }

good_fence : (w : ℕ) (op : MOp) → SmallFuncts op → filled (plain (form.Word op)) (form_fields (plain (form.Word op))) (fence_layout w op) (form_fixed (plain (form.Word op))) ≡ w → Good w (fence_layout w op)
good_fence w op f s = record { sum = s; fine = record { registers = record { rd = lit< tt; rs1 = lit< tt; rs2 = lit< tt; rs3 = lit< tt }; imm = omega (arith, ints); rm = lit< tt; functs = f } }

good_rounded : (w : ℕ) (op : MOp) → SmallFuncts op → filled (plain (form.Word op)) (form_fields (plain (form.Word op))) (rounded_layout w op) (form_fixed (plain (form.Word op))) ≡ w → Good w (rounded_layout w op)
good_rounded w op f s = record { sum = s; fine = record { registers = record { rd = rd_low w; rs1 = rs1_low w; rs2 = rs2_low w; rs3 = lit< tt }; imm = lit< tt; rm = funct3_low w; functs = f } }

good_rounded_unary : (w : ℕ) (op : MOp) → SmallFuncts op → filled (plain (form.Word op)) (form_fields (plain (form.Word op))) (rounded_unary_layout w op) (form_fixed (plain (form.Word op))) ≡ w → Good w (rounded_unary_layout w op)
good_rounded_unary w op f s = record { sum = s; fine = record { registers = record { rd = rd_low w; rs1 = rs1_low w; rs2 = lit< tt; rs3 = lit< tt }; imm = lit< tt; rm = funct3_low w; functs = f } }

good_r4 : (w : ℕ) (op : MOp) → SmallFuncts op → filled (plain (form.Word op)) (form_fields (plain (form.Word op))) (r4_layout w op) (form_fixed (plain (form.Word op))) ≡ w → Good w (r4_layout w op)
good_r4 w op f s = record { sum = s; fine = record { registers = record { rd = rd_low w; rs1 = rs1_low w; rs2 = rs2_low w; rs3 = rs3_low w }; imm = lit< tt; rm = funct3_low w; functs = f } }

good_amo : (w : ℕ) (op : MOp) → SmallFuncts op → filled (plain (form.Word op)) (form_fields (plain (form.Word op))) (amo_layout w op) (form_fixed (plain (form.Word op))) ≡ w → Good w (amo_layout w op)
good_amo w op f s = record { sum = s; fine = record { registers = record { rd = rd_low w; rs1 = rs1_low w; rs2 = rs2_low w; rs3 = lit< tt }; imm = omega (arith, ints); rm = lit< tt; functs = f } }

good_vector : (w : ℕ) (op : MOp) → SmallFuncts op → filled (plain (form.Word op)) (form_fields (plain (form.Word op))) (vector_layout w op) (form_fixed (plain (form.Word op))) ≡ w → Good w (vector_layout w op)
good_vector w op f s = record { sum = s; fine = record { registers = record { rd = rd_low w; rs1 = rs1_low w; rs2 = rs2_low w; rs3 = lit< tt }; imm = lit< tt; rm = lit< tt; functs = f } }

good_vector_memory : (w : ℕ) (op : MOp) → SmallFuncts op → filled (plain (form.Word op)) (form_fields (plain (form.Word op))) (vector_memory_layout w op) (form_fixed (plain (form.Word op))) ≡ w → Good w (vector_memory_layout w op)
good_vector_memory w op f s = record { sum = s; fine = record { registers = record { rd = rd_low w; rs1 = rs1_low w; rs2 = lit< tt; rs3 = lit< tt }; imm = lit< tt; rm = lit< tt; functs = f } }

good_vsetivli : (w : ℕ) (op : MOp) → SmallFuncts op → filled (plain (form.Word op)) (form_fields (plain (form.Word op))) (vsetivli_layout w op) (form_fixed (plain (form.Word op))) ≡ w → Good w (vsetivli_layout w op)
good_vsetivli w op f s = record { sum = s; fine = record { registers = record { rd = rd_low w; rs1 = rs1_low w; rs2 = lit< tt; rs3 = lit< tt }; imm = omega (arith, ints); rm = lit< tt; functs = f } }

good_bare : (w : ℕ) (op : MOp) → SmallFuncts op → filled (plain (form.Word op)) (form_fields (plain (form.Word op))) (bare_form op) (form_fixed (plain (form.Word op))) ≡ w → Good w (bare_form op)
good_bare w op f s = record { sum = s; fine = record { registers = record { rd = lit< tt; rs1 = lit< tt; rs2 = lit< tt; rs3 = lit< tt }; imm = lit< tt; rm = lit< tt; functs = f } }

imm_rows : (w : ℕ) → w < 2 ^ 32 → word_opcode w ≡ OP_IMM → IfSome (imm_entry (word_funct3 w)) (λ op. Good w (i_layout w (Alu op)))
imm_rows w h o =
    let P : AluOp → Type 0 = λ op. Good w (i_layout w (Alu op)) in
    row P (word_funct3 w) 0 (Int int.Addi) _ (λ e. good_i w (Alu (Int int.Addi)) none (of_i w OP_IMM 0 h o e))
    (row P (word_funct3 w) 2 (Int int.Slti) _ (λ e. good_i w (Alu (Int int.Slti)) none (of_i w OP_IMM 2 h o e))
    (row P (word_funct3 w) 3 (Int int.Sltiu) _ (λ e. good_i w (Alu (Int int.Sltiu)) none (of_i w OP_IMM 3 h o e))
    (row P (word_funct3 w) 4 (Int int.Xori) _ (λ e. good_i w (Alu (Int int.Xori)) none (of_i w OP_IMM 4 h o e))
    (row P (word_funct3 w) 6 (Int int.Ori) _ (λ e. good_i w (Alu (Int int.Ori)) none (of_i w OP_IMM 6 h o e))
    (row P (word_funct3 w) 7 (Int int.Andi) _ (λ e. good_i w (Alu (Int int.Andi)) none (of_i w OP_IMM 7 h o e)) _)))))

imm_32_rows : (w : ℕ) → w < 2 ^ 32 → word_opcode w ≡ OP_IMM_32 → IfSome (imm_32_entry (word_funct3 w)) (λ op. Good w (i_layout w (Alu op)))
imm_32_rows w h o =
    let P : AluOp → Type 0 = λ op. Good w (i_layout w (Alu op)) in
    row P (word_funct3 w) 0 (Int int.Addiw) _ (λ e. good_i w (Alu (Int int.Addiw)) none (of_i w OP_IMM_32 0 h o e)) _

shift_rows : (w : ℕ) → w < 2 ^ 32 → word_opcode w ≡ OP_IMM → IfSome (shift_entry (word_funct6 w) (word_funct3 w)) (λ op. Good w (shift_layout w (Alu op)))
shift_rows w h o =
    let P : AluOp → Type 0 = λ op. Good w (shift_layout w (Alu op)) in
    row_2 P (word_funct6 w) 0x0 (word_funct3 w) 1 (Int int.Slli) _ (λ e g. good_shift w (Alu (Int int.Slli)) none (of_shift w OP_IMM 1 0x0 h o g e))
    (row_2 P (word_funct6 w) 0x0 (word_funct3 w) 5 (Int int.Srli) _ (λ e g. good_shift w (Alu (Int int.Srli)) none (of_shift w OP_IMM 5 0x0 h o g e))
    (row_2 P (word_funct6 w) 0x10 (word_funct3 w) 5 (Int int.Srai) _ (λ e g. good_shift w (Alu (Int int.Srai)) none (of_shift w OP_IMM 5 0x10 h o g e))
    (row_2 P (word_funct6 w) 0x18 (word_funct3 w) 5 (Bit bit.Rori) _ (λ e g. good_shift w (Alu (Bit bit.Rori)) none (of_shift w OP_IMM 5 0x18 h o g e))
    (row_2 P (word_funct6 w) 0x12 (word_funct3 w) 1 (Bit bit.Bclri) _ (λ e g. good_shift w (Alu (Bit bit.Bclri)) none (of_shift w OP_IMM 1 0x12 h o g e))
    (row_2 P (word_funct6 w) 0x12 (word_funct3 w) 5 (Bit bit.Bexti) _ (λ e g. good_shift w (Alu (Bit bit.Bexti)) none (of_shift w OP_IMM 5 0x12 h o g e))
    (row_2 P (word_funct6 w) 0x1a (word_funct3 w) 1 (Bit bit.Binvi) _ (λ e g. good_shift w (Alu (Bit bit.Binvi)) none (of_shift w OP_IMM 1 0x1a h o g e))
    (row_2 P (word_funct6 w) 0xa (word_funct3 w) 1 (Bit bit.Bseti) _ (λ e g. good_shift w (Alu (Bit bit.Bseti)) none (of_shift w OP_IMM 1 0xa h o g e)) _)))))))

long_shift_32_rows : (w : ℕ) → w < 2 ^ 32 → word_opcode w ≡ OP_IMM_32 → IfSome (long_shift_32_entry (word_funct6 w) (word_funct3 w)) (λ op. Good w (shift_layout w (Alu op)))
long_shift_32_rows w h o =
    let P : AluOp → Type 0 = λ op. Good w (shift_layout w (Alu op)) in
    row_2 P (word_funct6 w) 0x2 (word_funct3 w) 1 (Bit bit.SlliUw) _ (λ e g. good_shift w (Alu (Bit bit.SlliUw)) none (of_shift w OP_IMM_32 1 0x2 h o g e)) _

shift_32_rows : (w : ℕ) → w < 2 ^ 32 → word_opcode w ≡ OP_IMM_32 → IfSome (shift_32_entry (word_funct7 w) (word_funct3 w)) (λ op. Good w (shift_32_layout w (Alu op)))
shift_32_rows w h o =
    let P : AluOp → Type 0 = λ op. Good w (shift_32_layout w (Alu op)) in
    row_2 P (word_funct7 w) 0x0 (word_funct3 w) 1 (Int int.Slliw) _ (λ e g. good_shift_32 w (Alu (Int int.Slliw)) none (of_shift_32 w OP_IMM_32 1 0x0 h o g e))
    (row_2 P (word_funct7 w) 0x0 (word_funct3 w) 5 (Int int.Srliw) _ (λ e g. good_shift_32 w (Alu (Int int.Srliw)) none (of_shift_32 w OP_IMM_32 5 0x0 h o g e))
    (row_2 P (word_funct7 w) 0x20 (word_funct3 w) 5 (Int int.Sraiw) _ (λ e g. good_shift_32 w (Alu (Int int.Sraiw)) none (of_shift_32 w OP_IMM_32 5 0x20 h o g e))
    (row_2 P (word_funct7 w) 0x30 (word_funct3 w) 5 (Bit bit.Roriw) _ (λ e g. good_shift_32 w (Alu (Bit bit.Roriw)) none (of_shift_32 w OP_IMM_32 5 0x30 h o g e)) _)))

unary_rows : (w : ℕ) → w < 2 ^ 32 → word_opcode w ≡ OP_IMM → IfSome (unary_entry (word_funct12 w) (word_funct3 w)) (λ op. Good w (unary_layout w (Alu op)))
unary_rows w h o =
    let P : AluOp → Type 0 = λ op. Good w (unary_layout w (Alu op)) in
    row_2 P (word_funct12 w) 0x600 (word_funct3 w) 1 (Bit bit.Clz) _ (λ e g. good_unary w (Alu (Bit bit.Clz)) none (of_unary w OP_IMM 1 0x600 h o g e))
    (row_2 P (word_funct12 w) 0x601 (word_funct3 w) 1 (Bit bit.Ctz) _ (λ e g. good_unary w (Alu (Bit bit.Ctz)) none (of_unary w OP_IMM 1 0x601 h o g e))
    (row_2 P (word_funct12 w) 0x602 (word_funct3 w) 1 (Bit bit.Cpop) _ (λ e g. good_unary w (Alu (Bit bit.Cpop)) none (of_unary w OP_IMM 1 0x602 h o g e))
    (row_2 P (word_funct12 w) 0x604 (word_funct3 w) 1 (Bit bit.SextB) _ (λ e g. good_unary w (Alu (Bit bit.SextB)) none (of_unary w OP_IMM 1 0x604 h o g e))
    (row_2 P (word_funct12 w) 0x605 (word_funct3 w) 1 (Bit bit.SextH) _ (λ e g. good_unary w (Alu (Bit bit.SextH)) none (of_unary w OP_IMM 1 0x605 h o g e))
    (row_2 P (word_funct12 w) 0x287 (word_funct3 w) 5 (Bit bit.OrcB) _ (λ e g. good_unary w (Alu (Bit bit.OrcB)) none (of_unary w OP_IMM 5 0x287 h o g e))
    (row_2 P (word_funct12 w) 0x6b8 (word_funct3 w) 5 (Bit bit.Rev8) _ (λ e g. good_unary w (Alu (Bit bit.Rev8)) none (of_unary w OP_IMM 5 0x6b8 h o g e)) _))))))

unary_32_rows : (w : ℕ) → w < 2 ^ 32 → word_opcode w ≡ OP_IMM_32 → IfSome (unary_32_entry (word_funct12 w) (word_funct3 w)) (λ op. Good w (unary_layout w (Alu op)))
unary_32_rows w h o =
    let P : AluOp → Type 0 = λ op. Good w (unary_layout w (Alu op)) in
    row_2 P (word_funct12 w) 0x600 (word_funct3 w) 1 (Bit bit.Clzw) _ (λ e g. good_unary w (Alu (Bit bit.Clzw)) none (of_unary w OP_IMM_32 1 0x600 h o g e))
    (row_2 P (word_funct12 w) 0x601 (word_funct3 w) 1 (Bit bit.Ctzw) _ (λ e g. good_unary w (Alu (Bit bit.Ctzw)) none (of_unary w OP_IMM_32 1 0x601 h o g e))
    (row_2 P (word_funct12 w) 0x602 (word_funct3 w) 1 (Bit bit.Cpopw) _ (λ e g. good_unary w (Alu (Bit bit.Cpopw)) none (of_unary w OP_IMM_32 1 0x602 h o g e)) _))

unary_op_32_rows : (w : ℕ) → w < 2 ^ 32 → word_opcode w ≡ OP_32 → IfSome (unary_op_32_entry (word_funct12 w) (word_funct3 w)) (λ op. Good w (unary_layout w (Alu op)))
unary_op_32_rows w h o =
    let P : AluOp → Type 0 = λ op. Good w (unary_layout w (Alu op)) in
    row_2 P (word_funct12 w) 0x80 (word_funct3 w) 4 (Bit bit.ZextH) _ (λ e g. good_unary w (Alu (Bit bit.ZextH)) none (of_unary w OP_32 4 0x80 h o g e)) _

op_rows : (w : ℕ) → w < 2 ^ 32 → word_opcode w ≡ OP → IfSome (op_entry (word_funct7 w) (word_funct3 w)) (λ op. Good w (r_layout w (Alu op)))
op_rows w h o =
    let P : AluOp → Type 0 = λ op. Good w (r_layout w (Alu op)) in
    row_2 P (word_funct7 w) 0x0 (word_funct3 w) 0 (Int int.Add) _ (λ e g. good_r w (Alu (Int int.Add)) none (of_r w OP 0 0x0 h o g e))
    (row_2 P (word_funct7 w) 0x20 (word_funct3 w) 0 (Int int.Sub) _ (λ e g. good_r w (Alu (Int int.Sub)) none (of_r w OP 0 0x20 h o g e))
    (row_2 P (word_funct7 w) 0x0 (word_funct3 w) 1 (Int int.Sll) _ (λ e g. good_r w (Alu (Int int.Sll)) none (of_r w OP 1 0x0 h o g e))
    (row_2 P (word_funct7 w) 0x0 (word_funct3 w) 2 (Int int.Slt) _ (λ e g. good_r w (Alu (Int int.Slt)) none (of_r w OP 2 0x0 h o g e))
    (row_2 P (word_funct7 w) 0x0 (word_funct3 w) 3 (Int int.Sltu) _ (λ e g. good_r w (Alu (Int int.Sltu)) none (of_r w OP 3 0x0 h o g e))
    (row_2 P (word_funct7 w) 0x0 (word_funct3 w) 4 (Int int.Xor) _ (λ e g. good_r w (Alu (Int int.Xor)) none (of_r w OP 4 0x0 h o g e))
    (row_2 P (word_funct7 w) 0x0 (word_funct3 w) 5 (Int int.Srl) _ (λ e g. good_r w (Alu (Int int.Srl)) none (of_r w OP 5 0x0 h o g e))
    (row_2 P (word_funct7 w) 0x20 (word_funct3 w) 5 (Int int.Sra) _ (λ e g. good_r w (Alu (Int int.Sra)) none (of_r w OP 5 0x20 h o g e))
    (row_2 P (word_funct7 w) 0x0 (word_funct3 w) 6 (Int int.Or) _ (λ e g. good_r w (Alu (Int int.Or)) none (of_r w OP 6 0x0 h o g e))
    (row_2 P (word_funct7 w) 0x0 (word_funct3 w) 7 (Int int.And) _ (λ e g. good_r w (Alu (Int int.And)) none (of_r w OP 7 0x0 h o g e))
    (row_2 P (word_funct7 w) 0x1 (word_funct3 w) 0 (Mul mul.Mul) _ (λ e g. good_r w (Alu (Mul mul.Mul)) none (of_r w OP 0 0x1 h o g e))
    (row_2 P (word_funct7 w) 0x1 (word_funct3 w) 1 (Mul mul.Mulh) _ (λ e g. good_r w (Alu (Mul mul.Mulh)) none (of_r w OP 1 0x1 h o g e))
    (row_2 P (word_funct7 w) 0x1 (word_funct3 w) 2 (Mul mul.Mulhsu) _ (λ e g. good_r w (Alu (Mul mul.Mulhsu)) none (of_r w OP 2 0x1 h o g e))
    (row_2 P (word_funct7 w) 0x1 (word_funct3 w) 3 (Mul mul.Mulhu) _ (λ e g. good_r w (Alu (Mul mul.Mulhu)) none (of_r w OP 3 0x1 h o g e))
    (row_2 P (word_funct7 w) 0x1 (word_funct3 w) 4 (Mul mul.Div) _ (λ e g. good_r w (Alu (Mul mul.Div)) none (of_r w OP 4 0x1 h o g e))
    (row_2 P (word_funct7 w) 0x1 (word_funct3 w) 5 (Mul mul.Divu) _ (λ e g. good_r w (Alu (Mul mul.Divu)) none (of_r w OP 5 0x1 h o g e))
    (row_2 P (word_funct7 w) 0x1 (word_funct3 w) 6 (Mul mul.Rem) _ (λ e g. good_r w (Alu (Mul mul.Rem)) none (of_r w OP 6 0x1 h o g e))
    (row_2 P (word_funct7 w) 0x1 (word_funct3 w) 7 (Mul mul.Remu) _ (λ e g. good_r w (Alu (Mul mul.Remu)) none (of_r w OP 7 0x1 h o g e))
    (row_2 P (word_funct7 w) 0x7 (word_funct3 w) 5 (Int int.CzeroEqz) _ (λ e g. good_r w (Alu (Int int.CzeroEqz)) none (of_r w OP 5 0x7 h o g e))
    (row_2 P (word_funct7 w) 0x7 (word_funct3 w) 7 (Int int.CzeroNez) _ (λ e g. good_r w (Alu (Int int.CzeroNez)) none (of_r w OP 7 0x7 h o g e))
    (row_2 P (word_funct7 w) 0x10 (word_funct3 w) 2 (Bit bit.Sh1add) _ (λ e g. good_r w (Alu (Bit bit.Sh1add)) none (of_r w OP 2 0x10 h o g e))
    (row_2 P (word_funct7 w) 0x10 (word_funct3 w) 4 (Bit bit.Sh2add) _ (λ e g. good_r w (Alu (Bit bit.Sh2add)) none (of_r w OP 4 0x10 h o g e))
    (row_2 P (word_funct7 w) 0x10 (word_funct3 w) 6 (Bit bit.Sh3add) _ (λ e g. good_r w (Alu (Bit bit.Sh3add)) none (of_r w OP 6 0x10 h o g e))
    (row_2 P (word_funct7 w) 0x20 (word_funct3 w) 7 (Bit bit.Andn) _ (λ e g. good_r w (Alu (Bit bit.Andn)) none (of_r w OP 7 0x20 h o g e))
    (row_2 P (word_funct7 w) 0x20 (word_funct3 w) 6 (Bit bit.Orn) _ (λ e g. good_r w (Alu (Bit bit.Orn)) none (of_r w OP 6 0x20 h o g e))
    (row_2 P (word_funct7 w) 0x20 (word_funct3 w) 4 (Bit bit.Xnor) _ (λ e g. good_r w (Alu (Bit bit.Xnor)) none (of_r w OP 4 0x20 h o g e))
    (row_2 P (word_funct7 w) 0x5 (word_funct3 w) 6 (Bit bit.Max) _ (λ e g. good_r w (Alu (Bit bit.Max)) none (of_r w OP 6 0x5 h o g e))
    (row_2 P (word_funct7 w) 0x5 (word_funct3 w) 7 (Bit bit.Maxu) _ (λ e g. good_r w (Alu (Bit bit.Maxu)) none (of_r w OP 7 0x5 h o g e))
    (row_2 P (word_funct7 w) 0x5 (word_funct3 w) 4 (Bit bit.Min) _ (λ e g. good_r w (Alu (Bit bit.Min)) none (of_r w OP 4 0x5 h o g e))
    (row_2 P (word_funct7 w) 0x5 (word_funct3 w) 5 (Bit bit.Minu) _ (λ e g. good_r w (Alu (Bit bit.Minu)) none (of_r w OP 5 0x5 h o g e))
    (row_2 P (word_funct7 w) 0x30 (word_funct3 w) 1 (Bit bit.Rol) _ (λ e g. good_r w (Alu (Bit bit.Rol)) none (of_r w OP 1 0x30 h o g e))
    (row_2 P (word_funct7 w) 0x30 (word_funct3 w) 5 (Bit bit.Ror) _ (λ e g. good_r w (Alu (Bit bit.Ror)) none (of_r w OP 5 0x30 h o g e))
    (row_2 P (word_funct7 w) 0x24 (word_funct3 w) 1 (Bit bit.Bclr) _ (λ e g. good_r w (Alu (Bit bit.Bclr)) none (of_r w OP 1 0x24 h o g e))
    (row_2 P (word_funct7 w) 0x24 (word_funct3 w) 5 (Bit bit.Bext) _ (λ e g. good_r w (Alu (Bit bit.Bext)) none (of_r w OP 5 0x24 h o g e))
    (row_2 P (word_funct7 w) 0x34 (word_funct3 w) 1 (Bit bit.Binv) _ (λ e g. good_r w (Alu (Bit bit.Binv)) none (of_r w OP 1 0x34 h o g e))
    (row_2 P (word_funct7 w) 0x14 (word_funct3 w) 1 (Bit bit.Bset) _ (λ e g. good_r w (Alu (Bit bit.Bset)) none (of_r w OP 1 0x14 h o g e)) _)))))))))))))))))))))))))))))))))))

op_32_rows : (w : ℕ) → w < 2 ^ 32 → word_opcode w ≡ OP_32 → IfSome (op_32_entry (word_funct7 w) (word_funct3 w)) (λ op. Good w (r_layout w (Alu op)))
op_32_rows w h o =
    let P : AluOp → Type 0 = λ op. Good w (r_layout w (Alu op)) in
    row_2 P (word_funct7 w) 0x0 (word_funct3 w) 0 (Int int.Addw) _ (λ e g. good_r w (Alu (Int int.Addw)) none (of_r w OP_32 0 0x0 h o g e))
    (row_2 P (word_funct7 w) 0x20 (word_funct3 w) 0 (Int int.Subw) _ (λ e g. good_r w (Alu (Int int.Subw)) none (of_r w OP_32 0 0x20 h o g e))
    (row_2 P (word_funct7 w) 0x0 (word_funct3 w) 1 (Int int.Sllw) _ (λ e g. good_r w (Alu (Int int.Sllw)) none (of_r w OP_32 1 0x0 h o g e))
    (row_2 P (word_funct7 w) 0x0 (word_funct3 w) 5 (Int int.Srlw) _ (λ e g. good_r w (Alu (Int int.Srlw)) none (of_r w OP_32 5 0x0 h o g e))
    (row_2 P (word_funct7 w) 0x20 (word_funct3 w) 5 (Int int.Sraw) _ (λ e g. good_r w (Alu (Int int.Sraw)) none (of_r w OP_32 5 0x20 h o g e))
    (row_2 P (word_funct7 w) 0x1 (word_funct3 w) 0 (Mul mul.Mulw) _ (λ e g. good_r w (Alu (Mul mul.Mulw)) none (of_r w OP_32 0 0x1 h o g e))
    (row_2 P (word_funct7 w) 0x1 (word_funct3 w) 4 (Mul mul.Divw) _ (λ e g. good_r w (Alu (Mul mul.Divw)) none (of_r w OP_32 4 0x1 h o g e))
    (row_2 P (word_funct7 w) 0x1 (word_funct3 w) 5 (Mul mul.Divuw) _ (λ e g. good_r w (Alu (Mul mul.Divuw)) none (of_r w OP_32 5 0x1 h o g e))
    (row_2 P (word_funct7 w) 0x1 (word_funct3 w) 6 (Mul mul.Remw) _ (λ e g. good_r w (Alu (Mul mul.Remw)) none (of_r w OP_32 6 0x1 h o g e))
    (row_2 P (word_funct7 w) 0x1 (word_funct3 w) 7 (Mul mul.Remuw) _ (λ e g. good_r w (Alu (Mul mul.Remuw)) none (of_r w OP_32 7 0x1 h o g e))
    (row_2 P (word_funct7 w) 0x4 (word_funct3 w) 0 (Bit bit.AddUw) _ (λ e g. good_r w (Alu (Bit bit.AddUw)) none (of_r w OP_32 0 0x4 h o g e))
    (row_2 P (word_funct7 w) 0x10 (word_funct3 w) 2 (Bit bit.Sh1addUw) _ (λ e g. good_r w (Alu (Bit bit.Sh1addUw)) none (of_r w OP_32 2 0x10 h o g e))
    (row_2 P (word_funct7 w) 0x10 (word_funct3 w) 4 (Bit bit.Sh2addUw) _ (λ e g. good_r w (Alu (Bit bit.Sh2addUw)) none (of_r w OP_32 4 0x10 h o g e))
    (row_2 P (word_funct7 w) 0x10 (word_funct3 w) 6 (Bit bit.Sh3addUw) _ (λ e g. good_r w (Alu (Bit bit.Sh3addUw)) none (of_r w OP_32 6 0x10 h o g e))
    (row_2 P (word_funct7 w) 0x30 (word_funct3 w) 1 (Bit bit.Rolw) _ (λ e g. good_r w (Alu (Bit bit.Rolw)) none (of_r w OP_32 1 0x30 h o g e))
    (row_2 P (word_funct7 w) 0x30 (word_funct3 w) 5 (Bit bit.Rorw) _ (λ e g. good_r w (Alu (Bit bit.Rorw)) none (of_r w OP_32 5 0x30 h o g e)) _)))))))))))))))

carry_unary_rows : (w : ℕ) → w < 2 ^ 32 → word_opcode w ≡ OP_IMM → IfSome (carry_unary_entry (word_funct12 w) (word_funct3 w)) (λ op. Good w (unary_layout w (Carry op)))
carry_unary_rows w h o =
    let P : CarryOp → Type 0 = λ op. Good w (unary_layout w (Carry op)) in
    row_2 P (word_funct12 w) 0x687 (word_funct3 w) 5 carry.Brev8 _ (λ e g. good_unary w (Carry carry.Brev8) none (of_unary w OP_IMM 5 0x687 h o g e)) _

carry_rows : (w : ℕ) → w < 2 ^ 32 → word_opcode w ≡ OP → IfSome (carry_entry (word_funct7 w) (word_funct3 w)) (λ op. Good w (r_layout w (Carry op)))
carry_rows w h o =
    let P : CarryOp → Type 0 = λ op. Good w (r_layout w (Carry op)) in
    row_2 P (word_funct7 w) 0x5 (word_funct3 w) 1 carry.Clmul _ (λ e g. good_r w (Carry carry.Clmul) none (of_r w OP 1 0x5 h o g e))
    (row_2 P (word_funct7 w) 0x5 (word_funct3 w) 3 carry.Clmulh _ (λ e g. good_r w (Carry carry.Clmulh) none (of_r w OP 3 0x5 h o g e))
    (row_2 P (word_funct7 w) 0x5 (word_funct3 w) 2 carry.Clmulr _ (λ e g. good_r w (Carry carry.Clmulr) none (of_r w OP 2 0x5 h o g e))
    (row_2 P (word_funct7 w) 0x4 (word_funct3 w) 4 carry.Pack _ (λ e g. good_r w (Carry carry.Pack) none (of_r w OP 4 0x4 h o g e))
    (row_2 P (word_funct7 w) 0x4 (word_funct3 w) 7 carry.Packh _ (λ e g. good_r w (Carry carry.Packh) none (of_r w OP 7 0x4 h o g e)) _))))

carry_32_rows : (w : ℕ) → w < 2 ^ 32 → word_opcode w ≡ OP_32 → IfSome (carry_32_entry (word_funct7 w) (word_funct3 w)) (λ op. Good w (r_layout w (Carry op)))
carry_32_rows w h o =
    let P : CarryOp → Type 0 = λ op. Good w (r_layout w (Carry op)) in
    row_2 P (word_funct7 w) 0x4 (word_funct3 w) 4 carry.Packw _ (λ e g. good_r w (Carry carry.Packw) none (of_r w OP_32 4 0x4 h o g e)) _

branch_rows : (w : ℕ) → w < 2 ^ 32 → word_opcode w ≡ BRANCH → IfSome (branch_entry (word_funct3 w)) (λ op. Good w (b_layout w (Base op)))
branch_rows w h o =
    let P : BaseOp → Type 0 = λ op. Good w (b_layout w (Base op)) in
    row P (word_funct3 w) 0 base.Beq _ (λ e. good_b w (Base base.Beq) none (of_b w BRANCH 0 h o e))
    (row P (word_funct3 w) 1 base.Bne _ (λ e. good_b w (Base base.Bne) none (of_b w BRANCH 1 h o e))
    (row P (word_funct3 w) 4 base.Blt _ (λ e. good_b w (Base base.Blt) none (of_b w BRANCH 4 h o e))
    (row P (word_funct3 w) 5 base.Bge _ (λ e. good_b w (Base base.Bge) none (of_b w BRANCH 5 h o e))
    (row P (word_funct3 w) 6 base.Bltu _ (λ e. good_b w (Base base.Bltu) none (of_b w BRANCH 6 h o e))
    (row P (word_funct3 w) 7 base.Bgeu _ (λ e. good_b w (Base base.Bgeu) none (of_b w BRANCH 7 h o e)) _)))))

load_rows : (w : ℕ) → w < 2 ^ 32 → word_opcode w ≡ LOAD → IfSome (load_entry (word_funct3 w)) (λ op. Good w (i_layout w (Load op)))
load_rows w h o =
    let P : LoadOp → Type 0 = λ op. Good w (i_layout w (Load op)) in
    row P (word_funct3 w) 0 load.Lb _ (λ e. good_i w (Load load.Lb) none (of_i w LOAD 0 h o e))
    (row P (word_funct3 w) 1 load.Lh _ (λ e. good_i w (Load load.Lh) none (of_i w LOAD 1 h o e))
    (row P (word_funct3 w) 2 load.Lw _ (λ e. good_i w (Load load.Lw) none (of_i w LOAD 2 h o e))
    (row P (word_funct3 w) 4 load.Lbu _ (λ e. good_i w (Load load.Lbu) none (of_i w LOAD 4 h o e))
    (row P (word_funct3 w) 5 load.Lhu _ (λ e. good_i w (Load load.Lhu) none (of_i w LOAD 5 h o e))
    (row P (word_funct3 w) 6 load.Lwu _ (λ e. good_i w (Load load.Lwu) none (of_i w LOAD 6 h o e))
    (row P (word_funct3 w) 3 load.Ld _ (λ e. good_i w (Load load.Ld) none (of_i w LOAD 3 h o e)) _))))))

store_rows : (w : ℕ) → w < 2 ^ 32 → word_opcode w ≡ STORE → IfSome (store_entry (word_funct3 w)) (λ op. Good w (s_layout w (Store op)))
store_rows w h o =
    let P : StoreOp → Type 0 = λ op. Good w (s_layout w (Store op)) in
    row P (word_funct3 w) 0 store.Sb _ (λ e. good_s w (Store store.Sb) none (of_s w STORE 0 h o e))
    (row P (word_funct3 w) 1 store.Sh _ (λ e. good_s w (Store store.Sh) none (of_s w STORE 1 h o e))
    (row P (word_funct3 w) 2 store.Sw _ (λ e. good_s w (Store store.Sw) none (of_s w STORE 2 h o e))
    (row P (word_funct3 w) 3 store.Sd _ (λ e. good_s w (Store store.Sd) none (of_s w STORE 3 h o e)) _)))

jalr_good : (w : ℕ) → w < 2 ^ 32 → word_opcode w ≡ JALR → IfSome (decode_jalr w) (Good w)
jalr_good w h o = row (Good w) (word_funct3 w) 0 (i_layout w (Base base.Jalr)) _ (λ e. good_i w (Base base.Jalr) none (of_i w JALR 0 h o e)) _

branch_good : (w : ℕ) → w < 2 ^ 32 → word_opcode w ≡ BRANCH → IfSome (decode_branch w) (Good w)
branch_good w h o = every_map (λ op. b_layout w (Base op)) (Good w) (branch_entry (word_funct3 w)) (branch_rows w h o)

load_good : (w : ℕ) → w < 2 ^ 32 → word_opcode w ≡ LOAD → IfSome (decode_load w) (Good w)
load_good w h o = every_map (λ op. i_layout w (Load op)) (Good w) (load_entry (word_funct3 w)) (load_rows w h o)

store_good : (w : ℕ) → w < 2 ^ 32 → word_opcode w ≡ STORE → IfSome (decode_store w) (Good w)
store_good w h o = every_map (λ op. s_layout w (Store op)) (Good w) (store_entry (word_funct3 w)) (store_rows w h o)

op_imm_good : (w : ℕ) → w < 2 ^ 32 → word_opcode w ≡ OP_IMM → IfSome (decode_op_imm w) (Good w)
op_imm_good w h o =
    every_else (Good w) _ _ (every_map (λ op. i_layout w (Alu op)) (Good w) (imm_entry (word_funct3 w)) (imm_rows w h o))
    (every_else (Good w) _ _ (every_map (λ op. shift_layout w (Alu op)) (Good w) (shift_entry (word_funct6 w) (word_funct3 w)) (shift_rows w h o))
    (every_map (λ op. unary_layout w (Alu op)) (Good w) (unary_entry (word_funct12 w) (word_funct3 w)) (unary_rows w h o)))

op_imm_32_good : (w : ℕ) → w < 2 ^ 32 → word_opcode w ≡ OP_IMM_32 → IfSome (decode_op_imm_32 w) (Good w)
op_imm_32_good w h o =
    every_else (Good w) _ _ (every_map (λ op. i_layout w (Alu op)) (Good w) (imm_32_entry (word_funct3 w)) (imm_32_rows w h o))
    (every_else (Good w) _ _ (every_map (λ op. shift_layout w (Alu op)) (Good w) (long_shift_32_entry (word_funct6 w) (word_funct3 w)) (long_shift_32_rows w h o))
    (every_else (Good w) _ _ (every_map (λ op. shift_32_layout w (Alu op)) (Good w) (shift_32_entry (word_funct7 w) (word_funct3 w)) (shift_32_rows w h o))
    (every_map (λ op. unary_layout w (Alu op)) (Good w) (unary_32_entry (word_funct12 w) (word_funct3 w)) (unary_32_rows w h o))))

op_good : (w : ℕ) → w < 2 ^ 32 → word_opcode w ≡ OP → IfSome (decode_op w) (Good w)
op_good w h o = every_map (λ op. r_layout w (Alu op)) (Good w) (op_entry (word_funct7 w) (word_funct3 w)) (op_rows w h o)

op_32_good : (w : ℕ) → w < 2 ^ 32 → word_opcode w ≡ OP_32 → IfSome (decode_op_32 w) (Good w)
op_32_good w h o =
    every_else (Good w) _ _ (every_map (λ op. r_layout w (Alu op)) (Good w) (op_32_entry (word_funct7 w) (word_funct3 w)) (op_32_rows w h o))
    (every_map (λ op. unary_layout w (Alu op)) (Good w) (unary_op_32_entry (word_funct12 w) (word_funct3 w)) (unary_op_32_rows w h o))

misc_mem_good : (w : ℕ) → w < 2 ^ 32 → word_opcode w ≡ MISC_MEM → IfSome (decode_misc_mem w) (Good w)
misc_mem_good w h o =
    every_if (Good w) ((word_funct3 w == 0) && (word_rd w == 0) && (word_rs1 w == 0) && (bits w 31 28 == 0)) _ _ (λ t.
    let a = and_parts ((word_funct3 w == 0) && (word_rd w == 0) && (word_rs1 w == 0)) (bits w 31 28 == 0) t in
    let b = and_parts ((word_funct3 w == 0) && (word_rd w == 0)) (word_rs1 w == 0) a.0 in
    let c = and_parts (word_funct3 w == 0) (word_rd w == 0) b.0 in
    good_fence w (Base base.Fence) none (of_fence w MISC_MEM 0 0 0 0 h o (eqb-true _ 0 c.0) (eqb-true _ 0 c.1) (eqb-true _ 0 b.1) (eqb-true _ 0 a.1))) (λ _. _)

csr_rows : (w : ℕ) → w < 2 ^ 32 → word_opcode w ≡ SYSTEM → word_funct12 w ≡ 0x002 → IfSome (csr_entry (word_funct3 w)) (λ op. Good w (unary_layout w (Csr op)))
csr_rows w h o k =
    let P : CsrOp → Type 0 = λ op. Good w (unary_layout w (Csr op)) in
    row P (word_funct3 w) 1 csr.Csrrw _ (λ e. good_unary w (Csr csr.Csrrw) none (of_unary w SYSTEM 1 0x002 h o e k))
    (row P (word_funct3 w) 2 csr.Csrrs _ (λ e. good_unary w (Csr csr.Csrrs) none (of_unary w SYSTEM 2 0x002 h o e k))
    (row P (word_funct3 w) 3 csr.Csrrc _ (λ e. good_unary w (Csr csr.Csrrc) none (of_unary w SYSTEM 3 0x002 h o e k))
    (row P (word_funct3 w) 5 csr.Csrrwi _ (λ e. good_unary w (Csr csr.Csrrwi) none (of_unary w SYSTEM 5 0x002 h o e k))
    (row P (word_funct3 w) 6 csr.Csrrsi _ (λ e. good_unary w (Csr csr.Csrrsi) none (of_unary w SYSTEM 6 0x002 h o e k))
    (row P (word_funct3 w) 7 csr.Csrrci _ (λ e. good_unary w (Csr csr.Csrrci) none (of_unary w SYSTEM 7 0x002 h o e k)) _)))))

csr_good : (w : ℕ) → w < 2 ^ 32 → word_opcode w ≡ SYSTEM → IfSome (decode_csr w) (Good w)
csr_good w h o = every_only (Good w) (word_funct12 w == 0x002) _ (λ t. every_map (λ op. unary_layout w (Csr op)) (Good w) (csr_entry (word_funct3 w)) (csr_rows w h o (eqb-true _ 0x002 t)))

system_good : (w : ℕ) → w < 2 ^ 32 → word_opcode w ≡ SYSTEM → IfSome (decode_system w) (Good w)
system_good w h o =
    every_if (Good w) ((word_funct3 w == 0) && (word_rd w == 0) && (word_rs1 w == 0) && (word_funct12 w == 0x001)) _ _ (λ t.
    let a = and_parts ((word_funct3 w == 0) && (word_rd w == 0) && (word_rs1 w == 0)) (word_funct12 w == 0x001) t in
    let b = and_parts ((word_funct3 w == 0) && (word_rd w == 0)) (word_rs1 w == 0) a.0 in
    let c = and_parts (word_funct3 w == 0) (word_rd w == 0) b.0 in
    good_bare w (Base base.Ebreak) none (of_bare w h o (eqb-true _ 0 c.0) (eqb-true _ 0 c.1) (eqb-true _ 0 b.1) (eqb-true _ 1 a.1))) (λ _. _)
  where
    of_bare : (w : ℕ) → w < 2 ^ 32 → word_opcode w ≡ SYSTEM → word_funct3 w ≡ 0 → word_rd w ≡ 0 → word_rs1 w ≡ 0 → word_funct12 w ≡ 0x001 → 0x00100073 ≡ w
    of_bare w h o a b c d = omega arith

amo_good : (w : ℕ) → w < 2 ^ 32 → word_opcode w ≡ AMO → IfSome (decode_amo w) (Good w)
amo_good w h o =
    let Q : AtomicOp → AtomicWidth → Type 0 = λ op width. IfSome (atomic_of w op width) (Good w) in
    let P : AtomicOp → Type 0 = λ op. IfSome (option_and_then (atomic_of w op) (atomic_width_entry (word_funct3 w))) (Good w) in
    every_then (λ op. option_and_then (atomic_of w op) (atomic_width_entry (word_funct3 w))) (Good w) (atomic_entry (word_funct5 w))
    (row P (word_funct5 w) 0x2 atomic.Lr _ (λ e. every_then (atomic_of w atomic.Lr) (Good w) (atomic_width_entry (word_funct3 w))
    (row (Q atomic.Lr) (word_funct3 w) 2 width.W _ (λ g. every_only (Good w) (word_rs2 w == 0) _ (λ t. good_amo w (Atomic atomic.Lr width.W) none (of_lr w AMO 0x2 2 0 h o e g (eqb-true _ 0 t))))
    (row (Q atomic.Lr) (word_funct3 w) 3 width.D _ (λ g. every_only (Good w) (word_rs2 w == 0) _ (λ t. good_amo w (Atomic atomic.Lr width.D) none (of_lr w AMO 0x2 3 0 h o e g (eqb-true _ 0 t)))) _)))
    (row P (word_funct5 w) 0x3 atomic.Sc _ (λ e. every_then (atomic_of w atomic.Sc) (Good w) (atomic_width_entry (word_funct3 w))
    (row (Q atomic.Sc) (word_funct3 w) 2 width.W _ (λ g. good_amo w (Atomic atomic.Sc width.W) none (of_amo w AMO 0x3 2 h o e g))
    (row (Q atomic.Sc) (word_funct3 w) 3 width.D _ (λ g. good_amo w (Atomic atomic.Sc width.D) none (of_amo w AMO 0x3 3 h o e g)) _)))
    (row P (word_funct5 w) 0x1 atomic.Amoswap _ (λ e. every_then (atomic_of w atomic.Amoswap) (Good w) (atomic_width_entry (word_funct3 w))
    (row (Q atomic.Amoswap) (word_funct3 w) 2 width.W _ (λ g. good_amo w (Atomic atomic.Amoswap width.W) none (of_amo w AMO 0x1 2 h o e g))
    (row (Q atomic.Amoswap) (word_funct3 w) 3 width.D _ (λ g. good_amo w (Atomic atomic.Amoswap width.D) none (of_amo w AMO 0x1 3 h o e g)) _)))
    (row P (word_funct5 w) 0x0 atomic.Amoadd _ (λ e. every_then (atomic_of w atomic.Amoadd) (Good w) (atomic_width_entry (word_funct3 w))
    (row (Q atomic.Amoadd) (word_funct3 w) 2 width.W _ (λ g. good_amo w (Atomic atomic.Amoadd width.W) none (of_amo w AMO 0x0 2 h o e g))
    (row (Q atomic.Amoadd) (word_funct3 w) 3 width.D _ (λ g. good_amo w (Atomic atomic.Amoadd width.D) none (of_amo w AMO 0x0 3 h o e g)) _)))
    (row P (word_funct5 w) 0x4 atomic.Amoxor _ (λ e. every_then (atomic_of w atomic.Amoxor) (Good w) (atomic_width_entry (word_funct3 w))
    (row (Q atomic.Amoxor) (word_funct3 w) 2 width.W _ (λ g. good_amo w (Atomic atomic.Amoxor width.W) none (of_amo w AMO 0x4 2 h o e g))
    (row (Q atomic.Amoxor) (word_funct3 w) 3 width.D _ (λ g. good_amo w (Atomic atomic.Amoxor width.D) none (of_amo w AMO 0x4 3 h o e g)) _)))
    (row P (word_funct5 w) 0xc atomic.Amoand _ (λ e. every_then (atomic_of w atomic.Amoand) (Good w) (atomic_width_entry (word_funct3 w))
    (row (Q atomic.Amoand) (word_funct3 w) 2 width.W _ (λ g. good_amo w (Atomic atomic.Amoand width.W) none (of_amo w AMO 0xc 2 h o e g))
    (row (Q atomic.Amoand) (word_funct3 w) 3 width.D _ (λ g. good_amo w (Atomic atomic.Amoand width.D) none (of_amo w AMO 0xc 3 h o e g)) _)))
    (row P (word_funct5 w) 0x8 atomic.Amoor _ (λ e. every_then (atomic_of w atomic.Amoor) (Good w) (atomic_width_entry (word_funct3 w))
    (row (Q atomic.Amoor) (word_funct3 w) 2 width.W _ (λ g. good_amo w (Atomic atomic.Amoor width.W) none (of_amo w AMO 0x8 2 h o e g))
    (row (Q atomic.Amoor) (word_funct3 w) 3 width.D _ (λ g. good_amo w (Atomic atomic.Amoor width.D) none (of_amo w AMO 0x8 3 h o e g)) _)))
    (row P (word_funct5 w) 0x10 atomic.Amomin _ (λ e. every_then (atomic_of w atomic.Amomin) (Good w) (atomic_width_entry (word_funct3 w))
    (row (Q atomic.Amomin) (word_funct3 w) 2 width.W _ (λ g. good_amo w (Atomic atomic.Amomin width.W) none (of_amo w AMO 0x10 2 h o e g))
    (row (Q atomic.Amomin) (word_funct3 w) 3 width.D _ (λ g. good_amo w (Atomic atomic.Amomin width.D) none (of_amo w AMO 0x10 3 h o e g)) _)))
    (row P (word_funct5 w) 0x14 atomic.Amomax _ (λ e. every_then (atomic_of w atomic.Amomax) (Good w) (atomic_width_entry (word_funct3 w))
    (row (Q atomic.Amomax) (word_funct3 w) 2 width.W _ (λ g. good_amo w (Atomic atomic.Amomax width.W) none (of_amo w AMO 0x14 2 h o e g))
    (row (Q atomic.Amomax) (word_funct3 w) 3 width.D _ (λ g. good_amo w (Atomic atomic.Amomax width.D) none (of_amo w AMO 0x14 3 h o e g)) _)))
    (row P (word_funct5 w) 0x18 atomic.Amominu _ (λ e. every_then (atomic_of w atomic.Amominu) (Good w) (atomic_width_entry (word_funct3 w))
    (row (Q atomic.Amominu) (word_funct3 w) 2 width.W _ (λ g. good_amo w (Atomic atomic.Amominu width.W) none (of_amo w AMO 0x18 2 h o e g))
    (row (Q atomic.Amominu) (word_funct3 w) 3 width.D _ (λ g. good_amo w (Atomic atomic.Amominu width.D) none (of_amo w AMO 0x18 3 h o e g)) _)))
    (row P (word_funct5 w) 0x1c atomic.Amomaxu _ (λ e. every_then (atomic_of w atomic.Amomaxu) (Good w) (atomic_width_entry (word_funct3 w))
    (row (Q atomic.Amomaxu) (word_funct3 w) 2 width.W _ (λ g. good_amo w (Atomic atomic.Amomaxu width.W) none (of_amo w AMO 0x1c 2 h o e g))
    (row (Q atomic.Amomaxu) (word_funct3 w) 3 width.D _ (λ g. good_amo w (Atomic atomic.Amomaxu width.D) none (of_amo w AMO 0x1c 3 h o e g)) _))) _)))))))))))

rounded_rows : (w : ℕ) (f : FloatFormat) → w < 2 ^ 32 → word_opcode w ≡ OP_FP → word_fmt w ≡ format_field f → IfSome (rounded_entry (word_funct5 w)) (λ op. Good w (rounded_layout w (Float f op)))
rounded_rows w f h o m =
    let P : FloatOp → Type 0 = λ op. Good w (rounded_layout w (Float f op)) in
    row P (word_funct5 w) 0x0 float.Fadd _ (λ e. good_rounded w (Float f float.Fadd) none (of_rounded w OP_FP 0x0 (format_field f) h o e m))
    (row P (word_funct5 w) 0x1 float.Fsub _ (λ e. good_rounded w (Float f float.Fsub) none (of_rounded w OP_FP 0x1 (format_field f) h o e m))
    (row P (word_funct5 w) 0x2 float.Fmul _ (λ e. good_rounded w (Float f float.Fmul) none (of_rounded w OP_FP 0x2 (format_field f) h o e m))
    (row P (word_funct5 w) 0x3 float.Fdiv _ (λ e. good_rounded w (Float f float.Fdiv) none (of_rounded w OP_FP 0x3 (format_field f) h o e m)) _)))

rounded_unary_rows : (w : ℕ) (f : FloatFormat) → w < 2 ^ 32 → word_opcode w ≡ OP_FP → word_fmt w ≡ format_field f → IfSome (rounded_unary_entry (word_funct5 w) (word_rs2 w)) (λ op. Good w (rounded_unary_layout w (Float f op)))
rounded_unary_rows w f h o m =
    let P : FloatOp → Type 0 = λ op. Good w (rounded_unary_layout w (Float f op)) in
    row_2 P (word_funct5 w) 0xb (word_rs2 w) 0 float.Fsqrt _ (λ e g. good_rounded_unary w (Float f float.Fsqrt) none (of_rounded_unary w OP_FP 0xb 0 (format_field f) h o e g m))
    (row_2 P (word_funct5 w) 0x18 (word_rs2 w) 0 float.FcvtToW _ (λ e g. good_rounded_unary w (Float f float.FcvtToW) none (of_rounded_unary w OP_FP 0x18 0 (format_field f) h o e g m))
    (row_2 P (word_funct5 w) 0x18 (word_rs2 w) 1 float.FcvtToWu _ (λ e g. good_rounded_unary w (Float f float.FcvtToWu) none (of_rounded_unary w OP_FP 0x18 1 (format_field f) h o e g m))
    (row_2 P (word_funct5 w) 0x18 (word_rs2 w) 2 float.FcvtToL _ (λ e g. good_rounded_unary w (Float f float.FcvtToL) none (of_rounded_unary w OP_FP 0x18 2 (format_field f) h o e g m))
    (row_2 P (word_funct5 w) 0x18 (word_rs2 w) 3 float.FcvtToLu _ (λ e g. good_rounded_unary w (Float f float.FcvtToLu) none (of_rounded_unary w OP_FP 0x18 3 (format_field f) h o e g m))
    (row_2 P (word_funct5 w) 0x1a (word_rs2 w) 0 float.FcvtFromW _ (λ e g. good_rounded_unary w (Float f float.FcvtFromW) none (of_rounded_unary w OP_FP 0x1a 0 (format_field f) h o e g m))
    (row_2 P (word_funct5 w) 0x1a (word_rs2 w) 1 float.FcvtFromWu _ (λ e g. good_rounded_unary w (Float f float.FcvtFromWu) none (of_rounded_unary w OP_FP 0x1a 1 (format_field f) h o e g m))
    (row_2 P (word_funct5 w) 0x1a (word_rs2 w) 2 float.FcvtFromL _ (λ e g. good_rounded_unary w (Float f float.FcvtFromL) none (of_rounded_unary w OP_FP 0x1a 2 (format_field f) h o e g m))
    (row_2 P (word_funct5 w) 0x1a (word_rs2 w) 3 float.FcvtFromLu _ (λ e g. good_rounded_unary w (Float f float.FcvtFromLu) none (of_rounded_unary w OP_FP 0x1a 3 (format_field f) h o e g m))
    (row_2 P (word_funct5 w) 0x8 (word_rs2 w) 2 float.FcvtFromH _ (λ e g. good_rounded_unary w (Float f float.FcvtFromH) none (of_rounded_unary w OP_FP 0x8 2 (format_field f) h o e g m))
    (row_2 P (word_funct5 w) 0x8 (word_rs2 w) 0 float.FcvtFromS _ (λ e g. good_rounded_unary w (Float f float.FcvtFromS) none (of_rounded_unary w OP_FP 0x8 0 (format_field f) h o e g m))
    (row_2 P (word_funct5 w) 0x8 (word_rs2 w) 1 float.FcvtFromD _ (λ e g. good_rounded_unary w (Float f float.FcvtFromD) none (of_rounded_unary w OP_FP 0x8 1 (format_field f) h o e g m))
    (row_2 P (word_funct5 w) 0x8 (word_rs2 w) 4 float.Fround _ (λ e g. good_rounded_unary w (Float f float.Fround) none (of_rounded_unary w OP_FP 0x8 4 (format_field f) h o e g m)) _))))))))))))

fixed_rows : (w : ℕ) (f : FloatFormat) → w < 2 ^ 32 → word_opcode w ≡ OP_FP → word_fmt w ≡ format_field f → IfSome (fixed_entry (word_funct5 w) (word_funct3 w)) (λ op. Good w (r_layout w (Float f op)))
fixed_rows w f h o m =
    let P : FloatOp → Type 0 = λ op. Good w (r_layout w (Float f op)) in
    row_2 P (word_funct5 w) 0x4 (word_funct3 w) 0 float.Fsgnj _ (λ e g. good_r w (Float f float.Fsgnj) none (of_float w OP_FP 0x4 0 (format_field f) h o e g m))
    (row_2 P (word_funct5 w) 0x4 (word_funct3 w) 1 float.Fsgnjn _ (λ e g. good_r w (Float f float.Fsgnjn) none (of_float w OP_FP 0x4 1 (format_field f) h o e g m))
    (row_2 P (word_funct5 w) 0x4 (word_funct3 w) 2 float.Fsgnjx _ (λ e g. good_r w (Float f float.Fsgnjx) none (of_float w OP_FP 0x4 2 (format_field f) h o e g m))
    (row_2 P (word_funct5 w) 0x5 (word_funct3 w) 0 float.Fmin _ (λ e g. good_r w (Float f float.Fmin) none (of_float w OP_FP 0x5 0 (format_field f) h o e g m))
    (row_2 P (word_funct5 w) 0x5 (word_funct3 w) 1 float.Fmax _ (λ e g. good_r w (Float f float.Fmax) none (of_float w OP_FP 0x5 1 (format_field f) h o e g m))
    (row_2 P (word_funct5 w) 0x14 (word_funct3 w) 2 float.Feq _ (λ e g. good_r w (Float f float.Feq) none (of_float w OP_FP 0x14 2 (format_field f) h o e g m))
    (row_2 P (word_funct5 w) 0x14 (word_funct3 w) 1 float.Flt _ (λ e g. good_r w (Float f float.Flt) none (of_float w OP_FP 0x14 1 (format_field f) h o e g m))
    (row_2 P (word_funct5 w) 0x14 (word_funct3 w) 0 float.Fle _ (λ e g. good_r w (Float f float.Fle) none (of_float w OP_FP 0x14 0 (format_field f) h o e g m))
    (row_2 P (word_funct5 w) 0x5 (word_funct3 w) 2 float.Fminm _ (λ e g. good_r w (Float f float.Fminm) none (of_float w OP_FP 0x5 2 (format_field f) h o e g m))
    (row_2 P (word_funct5 w) 0x5 (word_funct3 w) 3 float.Fmaxm _ (λ e g. good_r w (Float f float.Fmaxm) none (of_float w OP_FP 0x5 3 (format_field f) h o e g m)) _)))))))))

fixed_unary_rows : (w : ℕ) (f : FloatFormat) → w < 2 ^ 32 → word_opcode w ≡ OP_FP → word_fmt w ≡ format_field f → IfSome (fixed_unary_entry (word_funct5 w) (word_rs2 w) (word_funct3 w)) (λ op. Good w (unary_layout w (Float f op)))
fixed_unary_rows w f h o m =
    let P : FloatOp → Type 0 = λ op. Good w (unary_layout w (Float f op)) in
    row_3 P (word_funct5 w) 0x1c (word_rs2 w) 0 (word_funct3 w) 0 float.FmvToX _ (λ e g k. good_unary w (Float f float.FmvToX) none (of_float_unary w OP_FP 0x1c 0 0 (format_field f) h o e g k m))
    (row_3 P (word_funct5 w) 0x1c (word_rs2 w) 0 (word_funct3 w) 1 float.Fclass _ (λ e g k. good_unary w (Float f float.Fclass) none (of_float_unary w OP_FP 0x1c 0 1 (format_field f) h o e g k m))
    (row_3 P (word_funct5 w) 0x1e (word_rs2 w) 0 (word_funct3 w) 0 float.FmvFromX _ (λ e g k. good_unary w (Float f float.FmvFromX) none (of_float_unary w OP_FP 0x1e 0 0 (format_field f) h o e g k m))
    (row_3 P (word_funct5 w) 0x1e (word_rs2 w) 1 (word_funct3 w) 0 float.Fli _ (λ e g k. good_unary w (Float f float.Fli) none (of_float_unary w OP_FP 0x1e 1 0 (format_field f) h o e g k m)) _)))

float_good : (w : ℕ) (f : FloatFormat) → w < 2 ^ 32 → word_opcode w ≡ OP_FP → word_fmt w ≡ format_field f → IfSome (float_of w f) (Good w)
float_good w f h o m =
    every_else (Good w) (rounded_of w f) _ (every_only (Good w) (is_rounding (word_funct3 w)) _ (λ _. every_map (λ op. rounded_layout w (Float f op)) (Good w) (rounded_entry (word_funct5 w)) (rounded_rows w f h o m)))
    (every_else (Good w) (rounded_unary_of w f) _ (every_only (Good w) _ _ (λ _. every_map (λ op. rounded_unary_layout w (Float f op)) (Good w) (rounded_unary_entry (word_funct5 w) (word_rs2 w)) (rounded_unary_rows w f h o m)))
    (every_else (Good w) _ _ (every_map (λ op. r_layout w (Float f op)) (Good w) (fixed_entry (word_funct5 w) (word_funct3 w)) (fixed_rows w f h o m))
    (every_map (λ op. unary_layout w (Float f op)) (Good w) (fixed_unary_entry (word_funct5 w) (word_rs2 w) (word_funct3 w)) (fixed_unary_rows w f h o m))))

fused_good : (opcode w : ℕ) (f : FloatFormat) → w < 2 ^ 32 → word_opcode w ≡ opcode → word_fmt w ≡ format_field f → IfSome (fused_of opcode w f) (Good w)
fused_good opcode w f h o m =
    let P : FloatOp → Type 0 = λ op. Good w (r4_layout w (Float f op)) in
    every_only (Good w) (is_rounding (word_funct3 w)) _ (λ _. every_map (λ op. r4_layout w (Float f op)) (Good w) (fused_entry opcode)
    (row P opcode MADD float.Fmadd _ (λ e. good_r4 w (Float f float.Fmadd) none (of_fused w MADD (format_field f) h (o ∙ e) m))
    (row P opcode MSUB float.Fmsub _ (λ e. good_r4 w (Float f float.Fmsub) none (of_fused w MSUB (format_field f) h (o ∙ e) m))
    (row P opcode NMSUB float.Fnmsub _ (λ e. good_r4 w (Float f float.Fnmsub) none (of_fused w NMSUB (format_field f) h (o ∙ e) m))
    (row P opcode NMADD float.Fnmadd _ (λ e. good_r4 w (Float f float.Fnmadd) none (of_fused w NMADD (format_field f) h (o ∙ e) m)) _)))))

-- each format by its field
by_format : (w : ℕ) (of : FloatFormat → Option Decoded) → ((f : FloatFormat) → word_fmt w ≡ format_field f → IfSome (of f) (Good w)) → IfSome (option_and_then of (format_entry (word_fmt w))) (Good w)
by_format w of each =
    let P : FloatFormat → Type 0 = λ f. IfSome (of f) (Good w) in
    every_then of (Good w) (format_entry (word_fmt w)) (row P (word_fmt w) 0 format.S _ (each format.S) (row P (word_fmt w) 1 format.D _ (each format.D) (row P (word_fmt w) 2 format.H _ (each format.H) _)))

op_fp_good : (w : ℕ) → w < 2 ^ 32 → word_opcode w ≡ OP_FP → IfSome (decode_op_fp w) (Good w)
op_fp_good w h o = by_format w (float_of w) (λ f m. float_good w f h o m)

fused_word_good : (opcode w : ℕ) → w < 2 ^ 32 → word_opcode w ≡ opcode → IfSome (decode_fused opcode w) (Good w)
fused_word_good opcode w h o = by_format w (fused_of opcode w) (λ f m. fused_good opcode w f h o m)

float_load_good : (flags : IsaFlags) (w : ℕ) → w < 2 ^ 32 → word_opcode w ≡ LOAD_FP → IfSome (load_of flags w) (Good w)
float_load_good flags w h o =
    let P : FloatFormat → Type 0 = λ f. IfSome (float_load_of flags w f) (Good w) in
    every_then (float_load_of flags w) (Good w) (width_entry (word_funct3 w))
    (row P (word_funct3 w) 1 format.H _ (λ e. every_only (Good w) (has_format flags format.H) (Some (i_layout w (FloatLoad format.H))) (λ _. good_i w (FloatLoad format.H) none (of_i w LOAD_FP 1 h o e)))
    (row P (word_funct3 w) 2 format.S _ (λ e. every_only (Good w) (has_format flags format.S) (Some (i_layout w (FloatLoad format.S))) (λ _. good_i w (FloatLoad format.S) none (of_i w LOAD_FP 2 h o e)))
    (row P (word_funct3 w) 3 format.D _ (λ e. every_only (Good w) (has_format flags format.D) (Some (i_layout w (FloatLoad format.D))) (λ _. good_i w (FloatLoad format.D) none (of_i w LOAD_FP 3 h o e))) _)))

vector_load_rows : (w : ℕ) → w < 2 ^ 32 → word_opcode w ≡ LOAD_FP → bits w 31 26 ≡ 0 → word_rs2 w ≡ 0 → IfSome (vector_load_entry (word_funct3 w)) (λ op. Good w (vector_memory_layout w (VecMem op)))
vector_load_rows w h o hi sel =
    let P : VecMemOp → Type 0 = λ op. Good w (vector_memory_layout w (VecMem op)) in
    row P (word_funct3 w) 0 vector.Vle8 _ (λ e. good_vector_memory w (VecMem vector.Vle8) none (of_vector_memory w LOAD_FP 0 0 0 h o e hi sel))
    (row P (word_funct3 w) 5 vector.Vle16 _ (λ e. good_vector_memory w (VecMem vector.Vle16) none (of_vector_memory w LOAD_FP 5 0 0 h o e hi sel))
    (row P (word_funct3 w) 6 vector.Vle32 _ (λ e. good_vector_memory w (VecMem vector.Vle32) none (of_vector_memory w LOAD_FP 6 0 0 h o e hi sel))
    (row P (word_funct3 w) 7 vector.Vle64 _ (λ e. good_vector_memory w (VecMem vector.Vle64) none (of_vector_memory w LOAD_FP 7 0 0 h o e hi sel)) _)))

load_fp_good : (flags : IsaFlags) (w : ℕ) → w < 2 ^ 32 → word_opcode w ≡ LOAD_FP → IfSome (decode_load_fp flags w) (Good w)
load_fp_good flags w h o =
    every_else (Good w) (load_of flags w) _ (float_load_good flags w h o)
    (every_only (Good w) (is_plain w) _ (λ t. let parts = and_parts (bits w 31 26 == 0) (word_rs2 w == 0) t in
    every_map (λ op. vector_memory_layout w (VecMem op)) (Good w) (vector_load_entry (word_funct3 w)) (vector_load_rows w h o (eqb-true _ 0 parts.0) (eqb-true _ 0 parts.1))))

float_store_good : (flags : IsaFlags) (w : ℕ) → w < 2 ^ 32 → word_opcode w ≡ STORE_FP → IfSome (store_of flags w) (Good w)
float_store_good flags w h o =
    let P : FloatFormat → Type 0 = λ f. IfSome (float_store_of flags w f) (Good w) in
    every_then (float_store_of flags w) (Good w) (width_entry (word_funct3 w))
    (row P (word_funct3 w) 1 format.H _ (λ e. every_only (Good w) (has_format flags format.H) (Some (s_layout w (FloatStore format.H))) (λ _. good_s w (FloatStore format.H) none (of_s w STORE_FP 1 h o e)))
    (row P (word_funct3 w) 2 format.S _ (λ e. every_only (Good w) (has_format flags format.S) (Some (s_layout w (FloatStore format.S))) (λ _. good_s w (FloatStore format.S) none (of_s w STORE_FP 2 h o e)))
    (row P (word_funct3 w) 3 format.D _ (λ e. every_only (Good w) (has_format flags format.D) (Some (s_layout w (FloatStore format.D))) (λ _. good_s w (FloatStore format.D) none (of_s w STORE_FP 3 h o e))) _)))

vector_store_rows : (w : ℕ) → w < 2 ^ 32 → word_opcode w ≡ STORE_FP → bits w 31 26 ≡ 0 → word_rs2 w ≡ 0 → IfSome (vector_store_entry (word_funct3 w)) (λ op. Good w (vector_memory_layout w (VecMem op)))
vector_store_rows w h o hi sel =
    let P : VecMemOp → Type 0 = λ op. Good w (vector_memory_layout w (VecMem op)) in
    row P (word_funct3 w) 0 vector.Vse8 _ (λ e. good_vector_memory w (VecMem vector.Vse8) none (of_vector_memory w STORE_FP 0 0 0 h o e hi sel))
    (row P (word_funct3 w) 5 vector.Vse16 _ (λ e. good_vector_memory w (VecMem vector.Vse16) none (of_vector_memory w STORE_FP 5 0 0 h o e hi sel))
    (row P (word_funct3 w) 6 vector.Vse32 _ (λ e. good_vector_memory w (VecMem vector.Vse32) none (of_vector_memory w STORE_FP 6 0 0 h o e hi sel))
    (row P (word_funct3 w) 7 vector.Vse64 _ (λ e. good_vector_memory w (VecMem vector.Vse64) none (of_vector_memory w STORE_FP 7 0 0 h o e hi sel)) _)))

store_fp_good : (flags : IsaFlags) (w : ℕ) → w < 2 ^ 32 → word_opcode w ≡ STORE_FP → IfSome (decode_store_fp flags w) (Good w)
store_fp_good flags w h o =
    every_else (Good w) (store_of flags w) _ (float_store_good flags w h o)
    (every_only (Good w) (is_plain w) _ (λ t. let parts = and_parts (bits w 31 26 == 0) (word_rs2 w == 0) t in
    every_map (λ op. vector_memory_layout w (VecMem op)) (Good w) (vector_store_entry (word_funct3 w)) (vector_store_rows w h o (eqb-true _ 0 parts.0) (eqb-true _ 0 parts.1))))

op_v_good : (w : ℕ) → w < 2 ^ 32 → word_opcode w ≡ OP_V → IfSome (decode_op_v w) (Good w)
op_v_good w h o =
    every_if (Good w) (word_funct3 w == 7) (decode_vsetivli w) _
    (λ t. every_only (Good w) _ _ (λ u. good_vsetivli w (VecMem vector.Vsetivli) none (of_length w OP_V 7 3 h o (eqb-true _ 7 t) (eqb-true _ 3 (and_parts (bits w 31 30 == 3) (is_vtype (bits w 29 20)) u).0))))
    (λ _. every_then (vector_of w) (Good w) (vector_fields (word_funct6 w) (word_funct3 w)) (every_value (λ fields. IfSome (vector_of w fields) (Good w)) (λ fields. every_only (Good w) (are_fields fields (word_vm w) (word_rs2 w) (word_rs1 w) (word_rd w)) (Some (vector_layout w (Vec (word_funct6 w) (word_funct3 w)))) (λ _.
    good_vector w (Vec (word_funct6 w) (word_funct3 w)) (omega arith, omega arith) (of_vector w OP_V h o))) _))

carry_unary_good : (w : ℕ) → w < 2 ^ 32 → word_opcode w ≡ OP_IMM → IfSome (decode_carry_unary w) (Good w)
carry_unary_good w h o = every_map (λ op. unary_layout w (Carry op)) (Good w) (carry_unary_entry (word_funct12 w) (word_funct3 w)) (carry_unary_rows w h o)

carry_good : (w : ℕ) → w < 2 ^ 32 → word_opcode w ≡ OP → IfSome (decode_carry w) (Good w)
carry_good w h o = every_map (λ op. r_layout w (Carry op)) (Good w) (carry_entry (word_funct7 w) (word_funct3 w)) (carry_rows w h o)

carry_32_good : (w : ℕ) → w < 2 ^ 32 → word_opcode w ≡ OP_32 → IfSome (decode_carry_32 w) (Good w)
carry_32_good w h o = every_map (λ op. r_layout w (Carry op)) (Good w) (carry_32_entry (word_funct7 w) (word_funct3 w)) (carry_32_rows w h o)

unit_good : (flags : IsaFlags) (opcode w : ℕ) → w < 2 ^ 32 → word_opcode w ≡ opcode → IfSome (unit_by_opcode flags opcode w) (Good w)
unit_good flags opcode w h o =
    choice (Good w) opcode OP_IMM _ _ (λ e. carry_unary_good w h (o ∙ e))
    (choice (Good w) opcode OP _ _ (λ e. carry_good w h (o ∙ e))
    (choice (Good w) opcode OP_32 _ _ (λ e. carry_32_good w h (o ∙ e))
    (choice (Good w) opcode SYSTEM _ _ (λ e. csr_good w h (o ∙ e))
    (choice (Good w) opcode LOAD_FP _ _ (λ e. load_fp_good flags w h (o ∙ e))
    (choice (Good w) opcode STORE_FP _ _ (λ e. store_fp_good flags w h (o ∙ e))
    (choice (Good w) opcode AMO _ _ (λ e. amo_good w h (o ∙ e))
    (choice (Good w) opcode OP_FP _ _ (λ e. op_fp_good w h (o ∙ e))
    (choice (Good w) opcode OP_V _ _ (λ e. op_v_good w h (o ∙ e))
    (fused_word_good opcode w h o)))))))))

int_good : (opcode w : ℕ) → w < 2 ^ 32 → word_opcode w ≡ opcode → IfSome (int_by_opcode opcode w) (Good w)
int_good opcode w h o =
    row (Good w) opcode LUI (u_layout w (Base base.Lui)) _ (λ e. good_u w (Base base.Lui) none (of_u w LUI h (o ∙ e)))
    (row (Good w) opcode AUIPC (u_layout w (Base base.Auipc)) _ (λ e. good_u w (Base base.Auipc) none (of_u w AUIPC h (o ∙ e)))
    (row (Good w) opcode JAL (j_layout w (Base base.Jal)) _ (λ e. good_j w (Base base.Jal) none (of_j w JAL h (o ∙ e)))
    (choice (Good w) opcode JALR _ _ (λ e. jalr_good w h (o ∙ e))
    (choice (Good w) opcode BRANCH _ _ (λ e. branch_good w h (o ∙ e))
    (choice (Good w) opcode LOAD _ _ (λ e. load_good w h (o ∙ e))
    (choice (Good w) opcode STORE _ _ (λ e. store_good w h (o ∙ e))
    (choice (Good w) opcode OP_IMM _ _ (λ e. op_imm_good w h (o ∙ e))
    (choice (Good w) opcode OP_IMM_32 _ _ (λ e. op_imm_32_good w h (o ∙ e))
    (choice (Good w) opcode OP _ _ (λ e. op_good w h (o ∙ e))
    (choice (Good w) opcode OP_32 _ _ (λ e. op_32_good w h (o ∙ e))
    (choice (Good w) opcode MISC_MEM _ _ (λ e. misc_mem_good w h (o ∙ e))
    (choice (Good w) opcode SYSTEM _ _ (λ e. system_good w h (o ∙ e))
    _))))))))))))

-- the operation of a word of 32 bits
abbrev pub by_opcode : IsaFlags → ℕ → ℕ → Option Decoded
by_opcode flags opcode w = or_else (int_by_opcode opcode w) (unit_by_opcode flags opcode w)

pub word_good : (flags : IsaFlags) (opcode w : ℕ) → w < 2 ^ 32 → word_opcode w ≡ opcode → IfSome (by_opcode flags opcode w) (Good w)
word_good flags opcode w h o = every_else (Good w) (int_by_opcode opcode w) (unit_by_opcode flags opcode w) (int_good opcode w h o) (unit_good flags opcode w h o)
