-- Every operation of an instruction of 16 bits, put together again from its own row, is that instruction.
use Rattle.std.proofs.Common.{◌≡◌, ℕ, ◌+◌, ◌*◌, ◌%◌, ◌^◌, ◌<◌, Bool, true, false, ℤ, pos, negsuc, unsigned_abs, Some, None, ◌∙◌, arith, lit<}
use Rattle.std.specs.Prelude.{IfSome, if◌then◌else◌, ◌==◌, ◌&&◌}
use Rattle.std.proofs.lemmas.Int.{ints}
use Rattle.std.proofs.lemmas.Bool.{eqb-true, and_parts}
use Rattle.rv_base.specs.declared.flags.IsaFlags.{IsaFlags}
use Rattle.rv_machine.specs.declared.decoding.Decoded.{Decoded}
use Rattle.rv_machine.specs.declared.ops.MOp.{MOp}
use Rattle.rv_machine.specs.declared.ops.MOp.TheVariants.{Base, Load, Store, Alu, FloatLoad, FloatStore}
use Rattle.rv_machine.specs.declared.ops.BaseOp.TheVariants as base
use Rattle.rv_machine.specs.declared.ops.LoadOp.TheVariants as load
use Rattle.rv_machine.specs.declared.ops.StoreOp.TheVariants as store
use Rattle.rv_machine.specs.declared.ops.FloatFormat.TheVariants as format
use Rattle.rv_machine.specs.declared.ops.AluOp.TheVariants.{Int, Mul, Bit}
use Rattle.rv_machine.specs.declared.ops.IntOp.TheVariants as int
use Rattle.rv_machine.specs.declared.ops.MulOp.TheVariants as mul
use Rattle.rv_machine.specs.declared.ops.BitOp.TheVariants as bit
use Rattle.rv_machine.specs.Layout.{bits, compressed}
use Rattle.rv_machine.specs.Compressed.{half_op, half_funct3, half_rd, half_rs2, short_low, short_high, ci_bits, ci_imm, addi16sp_bits, addi16sp_imm, lwsp_imm, ldsp_imm, swsp_imm, sdsp_imm, ciw_imm, lw_imm, ld_imm, lb_imm, lh_imm, cj_bits, cj_imm, cr_layout, ci_layout, load_sp_layout, css_layout, cl_layout, cs_layout, ca_layout, cb_layout, cu_layout, decode_addi4spn, decode_zcb_memory, quadrant_0, decode_addiw, decode_li, decode_lui, decode_zcb_unary, decode_two_registers, decode_arithmetic, decode_j, quadrant_1, decode_slli, decode_jr_mv, decode_jalr_add, quadrant_2, by_quadrant, int_decode_half, unit_by_quadrant, unit_decode_half, decode_half}
use Rattle.rv_disasm.specs.declared.halfwords.HalfOp.{HalfOp}
use Rattle.rv_disasm.specs.declared.halfwords.HalfOp.TheVariants as half
use Rattle.rv_disasm.specs.Halfwords.{half_at, half_named, short_memory, unary, of_two_registers, arithmetic, jumps_and_moves}
use Rattle.rv_disasm.specs.declared.forms.Form.TheVariants as form
use Rattle.rv_disasm.specs.Text.{form_fields}
use Rattle.rv_disasm.specs.Fixed.{half_fixed}
use Rattle.rv_disasm.specs.Placing.{ci_place, addi16sp_place, lwsp_place, ldsp_place, swsp_place, sdsp_place, ciw_place, lw_place, ld_place, lb_place, lh_place, cj_place}
use Rattle.rv_disasm.specs.Reading.{filled, Fine}
use Rattle.rv_disasm.proofs.Options.{every_else, every_if, row, row_2, choice}
use Rattle.rv_disasm.proofs.Sums.{held, held_5, held_6, held_10, held_12, sum_1, sum_2, sum_3}
use Rattle.rv_disasm.proofs.WordRows.{SmallFuncts, signed_low}

-- an instruction's row, with the operation's numbers put to it, is the instruction
pub record GoodHalf (h : ℕ) (d : Decoded) : Type 0 where
  pub op : HalfOp
  pub named : half_named h ≡ Some op
  pub sum : filled (form.Half op) (form_fields (form.Half op)) d (half_fixed op) ≡ h
  pub fine : Fine d

-- ---- numbers

small_32 : (n : ℕ) → n < 2 ^ 16 → n < 2 ^ 32
small_32 n h = omega arith

fine_of : (op : MOp) (rd rs1 rs2 : ℕ) (imm : ℤ) → SmallFuncts op → rd < 32 → rs1 < 32 → rs2 < 32 → unsigned_abs imm < 2 ^ 62 → Fine (compressed op rd rs1 rs2 imm)
fine_of op rd rs1 rs2 imm f a b c i = record { registers = record { rd = a; rs1 = b; rs2 = c; rs3 = lit< tt }; imm = i; rm = lit< tt; functs = f }

low_is : (h : ℕ) → short_low h < 32
low_is h = omega arith

high_is : (h : ℕ) → short_high h < 32
high_is h = omega arith

rd_is : (h : ℕ) → half_rd h < 32
rd_is h = omega arith

rs2_is : (h : ℕ) → half_rs2 h < 32
rs2_is h = omega arith

low_held : (h : ℕ) → held (pos (short_low h)) % 2 ^ 3 ≡ bits h 4 2
low_held h = omega (arith, ints)

high_held : (h : ℕ) → held (pos (short_high h)) % 2 ^ 3 ≡ bits h 9 7
high_held h = omega (arith, ints)

rd_held : (h : ℕ) → held (pos (half_rd h)) % 2 ^ 5 ≡ half_rd h
rd_held h = held_5 (half_rd h) (omega arith)

rs2_held : (h : ℕ) → held (pos (half_rs2 h)) % 2 ^ 5 ≡ half_rs2 h
rs2_held h = held_5 (half_rs2 h) (omega arith)

-- ---- immediates in place

ci_parts : (n a b : ℕ) → a < 2 ^ 1 → b < 2 ^ 5 → n % 2 ^ 6 ≡ a * 2 ^ 5 + b → ci_place n ≡ a * 2 ^ 12 + b * 2 ^ 2
ci_parts n a b ha hb same = omega arith

ci_held : (h : ℕ) → ci_place (held (ci_imm h)) ≡ bits h 12 12 * 2 ^ 12 + bits h 6 2 * 2 ^ 2
ci_held h = ci_parts (held (ci_imm h)) (bits h 12 12) (bits h 6 2) (omega arith) (omega arith) (held_6 (ci_bits h) (omega arith))

addi16sp_parts : (n a b c d e : ℕ) → a < 2 ^ 1 → b < 2 ^ 2 → c < 2 ^ 1 → d < 2 ^ 1 → e < 2 ^ 1 → n % 2 ^ 10 ≡ a * 2 ^ 9 + b * 2 ^ 7 + c * 2 ^ 6 + d * 2 ^ 5 + e * 2 ^ 4 → addi16sp_place n ≡ a * 2 ^ 12 + b * 2 ^ 3 + c * 2 ^ 5 + d * 2 ^ 2 + e * 2 ^ 6
addi16sp_parts n a b c d e ha hb hc hd he same = omega arith

addi16sp_held : (h : ℕ) → addi16sp_place (held (addi16sp_imm h)) ≡ bits h 12 12 * 2 ^ 12 + bits h 4 3 * 2 ^ 3 + bits h 5 5 * 2 ^ 5 + bits h 2 2 * 2 ^ 2 + bits h 6 6 * 2 ^ 6
addi16sp_held h = addi16sp_parts (held (addi16sp_imm h)) (bits h 12 12) (bits h 4 3) (bits h 5 5) (bits h 2 2) (bits h 6 6) (omega arith) (omega arith) (omega arith) (omega arith) (omega arith) (held_10 (addi16sp_bits h) (omega arith))

cj_parts : (n a b c d e f g h : ℕ) → a < 2 ^ 1 → b < 2 ^ 1 → c < 2 ^ 2 → d < 2 ^ 1 → e < 2 ^ 1 → f < 2 ^ 1 → g < 2 ^ 1 → h < 2 ^ 3 → n % 2 ^ 12 ≡ a * 2 ^ 11 + b * 2 ^ 10 + c * 2 ^ 8 + d * 2 ^ 7 + e * 2 ^ 6 + f * 2 ^ 5 + g * 2 ^ 4 + h * 2 → cj_place n ≡ a * 2 ^ 12 + b * 2 ^ 8 + c * 2 ^ 9 + d * 2 ^ 6 + e * 2 ^ 7 + f * 2 ^ 2 + g * 2 ^ 11 + h * 2 ^ 3
cj_parts n a b c d e f g h ha hb hc hd he hf hg hh same = omega arith

cj_held : (h : ℕ) → cj_place (held (cj_imm h)) ≡ bits h 12 12 * 2 ^ 12 + bits h 8 8 * 2 ^ 8 + bits h 10 9 * 2 ^ 9 + bits h 6 6 * 2 ^ 6 + bits h 7 7 * 2 ^ 7 + bits h 2 2 * 2 ^ 2 + bits h 11 11 * 2 ^ 11 + bits h 5 3 * 2 ^ 3
cj_held h = cj_parts (held (cj_imm h)) (bits h 12 12) (bits h 8 8) (bits h 10 9) (bits h 6 6) (bits h 7 7) (bits h 2 2) (bits h 11 11) (bits h 5 3) (omega arith) (omega arith) (omega arith) (omega arith) (omega arith) (omega arith) (omega arith) (omega arith) (held_12 (cj_bits h) (omega arith))

lwsp_parts : (n a b c : ℕ) → a < 2 ^ 2 → b < 2 ^ 1 → c < 2 ^ 3 → n % 2 ^ 8 ≡ a * 2 ^ 6 + b * 2 ^ 5 + c * 2 ^ 2 → lwsp_place n ≡ a * 2 ^ 2 + b * 2 ^ 12 + c * 2 ^ 4
lwsp_parts n a b c ha hb hc same = omega arith

lwsp_held : (h : ℕ) → lwsp_place (held (pos (lwsp_imm h))) ≡ bits h 3 2 * 2 ^ 2 + bits h 12 12 * 2 ^ 12 + bits h 6 4 * 2 ^ 4
lwsp_held h = lwsp_parts (held (pos (lwsp_imm h))) (bits h 3 2) (bits h 12 12) (bits h 6 4) (omega arith) (omega arith) (omega arith) (omega (arith, ints))

ldsp_parts : (n a b c : ℕ) → a < 2 ^ 3 → b < 2 ^ 1 → c < 2 ^ 2 → n % 2 ^ 9 ≡ a * 2 ^ 6 + b * 2 ^ 5 + c * 2 ^ 3 → ldsp_place n ≡ a * 2 ^ 2 + b * 2 ^ 12 + c * 2 ^ 5
ldsp_parts n a b c ha hb hc same = omega arith

ldsp_held : (h : ℕ) → ldsp_place (held (pos (ldsp_imm h))) ≡ bits h 4 2 * 2 ^ 2 + bits h 12 12 * 2 ^ 12 + bits h 6 5 * 2 ^ 5
ldsp_held h = ldsp_parts (held (pos (ldsp_imm h))) (bits h 4 2) (bits h 12 12) (bits h 6 5) (omega arith) (omega arith) (omega arith) (omega (arith, ints))

swsp_parts : (n a b : ℕ) → a < 2 ^ 2 → b < 2 ^ 4 → n % 2 ^ 8 ≡ a * 2 ^ 6 + b * 2 ^ 2 → swsp_place n ≡ a * 2 ^ 7 + b * 2 ^ 9
swsp_parts n a b ha hb same = omega arith

swsp_held : (h : ℕ) → swsp_place (held (pos (swsp_imm h))) ≡ bits h 8 7 * 2 ^ 7 + bits h 12 9 * 2 ^ 9
swsp_held h = swsp_parts (held (pos (swsp_imm h))) (bits h 8 7) (bits h 12 9) (omega arith) (omega arith) (omega (arith, ints))

sdsp_parts : (n a b : ℕ) → a < 2 ^ 3 → b < 2 ^ 3 → n % 2 ^ 9 ≡ a * 2 ^ 6 + b * 2 ^ 3 → sdsp_place n ≡ a * 2 ^ 7 + b * 2 ^ 10
sdsp_parts n a b ha hb same = omega arith

sdsp_held : (h : ℕ) → sdsp_place (held (pos (sdsp_imm h))) ≡ bits h 9 7 * 2 ^ 7 + bits h 12 10 * 2 ^ 10
sdsp_held h = sdsp_parts (held (pos (sdsp_imm h))) (bits h 9 7) (bits h 12 10) (omega arith) (omega arith) (omega (arith, ints))

ciw_parts : (n a b c d : ℕ) → a < 2 ^ 4 → b < 2 ^ 2 → c < 2 ^ 1 → d < 2 ^ 1 → n % 2 ^ 10 ≡ a * 2 ^ 6 + b * 2 ^ 4 + c * 2 ^ 3 + d * 2 ^ 2 → ciw_place n ≡ a * 2 ^ 7 + b * 2 ^ 11 + c * 2 ^ 5 + d * 2 ^ 6
ciw_parts n a b c d ha hb hc hd same = omega arith

ciw_held : (h : ℕ) → ciw_place (held (pos (ciw_imm h))) ≡ bits h 10 7 * 2 ^ 7 + bits h 12 11 * 2 ^ 11 + bits h 5 5 * 2 ^ 5 + bits h 6 6 * 2 ^ 6
ciw_held h = ciw_parts (held (pos (ciw_imm h))) (bits h 10 7) (bits h 12 11) (bits h 5 5) (bits h 6 6) (omega arith) (omega arith) (omega arith) (omega arith) (omega (arith, ints))

lw_parts : (n a b c : ℕ) → a < 2 ^ 1 → b < 2 ^ 3 → c < 2 ^ 1 → n % 2 ^ 7 ≡ a * 2 ^ 6 + b * 2 ^ 3 + c * 2 ^ 2 → lw_place n ≡ a * 2 ^ 5 + b * 2 ^ 10 + c * 2 ^ 6
lw_parts n a b c ha hb hc same = omega arith

lw_held : (h : ℕ) → lw_place (held (pos (lw_imm h))) ≡ bits h 5 5 * 2 ^ 5 + bits h 12 10 * 2 ^ 10 + bits h 6 6 * 2 ^ 6
lw_held h = lw_parts (held (pos (lw_imm h))) (bits h 5 5) (bits h 12 10) (bits h 6 6) (omega arith) (omega arith) (omega arith) (omega (arith, ints))

ld_parts : (n a b : ℕ) → a < 2 ^ 2 → b < 2 ^ 3 → n % 2 ^ 8 ≡ a * 2 ^ 6 + b * 2 ^ 3 → ld_place n ≡ a * 2 ^ 5 + b * 2 ^ 10
ld_parts n a b ha hb same = omega arith

ld_held : (h : ℕ) → ld_place (held (pos (ld_imm h))) ≡ bits h 6 5 * 2 ^ 5 + bits h 12 10 * 2 ^ 10
ld_held h = ld_parts (held (pos (ld_imm h))) (bits h 6 5) (bits h 12 10) (omega arith) (omega arith) (omega (arith, ints))

lb_parts : (n a b : ℕ) → a < 2 ^ 1 → b < 2 ^ 1 → n % 2 ^ 2 ≡ a * 2 + b → lb_place n ≡ a * 2 ^ 5 + b * 2 ^ 6
lb_parts n a b ha hb same = omega arith

lb_held : (h : ℕ) → lb_place (held (pos (lb_imm h))) ≡ bits h 5 5 * 2 ^ 5 + bits h 6 6 * 2 ^ 6
lb_held h = lb_parts (held (pos (lb_imm h))) (bits h 5 5) (bits h 6 6) (omega arith) (omega arith) (omega (arith, ints))

lh_parts : (n a : ℕ) → a < 2 ^ 1 → n % 2 ^ 2 ≡ a * 2 → lh_place n ≡ a * 2 ^ 5
lh_parts n a ha same = omega arith

lh_held : (h : ℕ) → lh_place (held (pos (lh_imm h))) ≡ bits h 5 5 * 2 ^ 5
lh_held h = lh_parts (held (pos (lh_imm h))) (bits h 5 5) (omega arith) (omega (arith, ints))

amount_held : (h : ℕ) → ci_place (held (pos (ci_bits h))) ≡ bits h 12 12 * 2 ^ 12 + bits h 6 2 * 2 ^ 2
amount_held h = ci_parts (held (pos (ci_bits h))) (bits h 12 12) (bits h 6 2) (omega arith) (omega arith) (omega (arith, ints))

-- ---- rows

j_sum : (h p : ℕ) → h < 2 ^ 16 → half_op h ≡ 1 → half_funct3 h ≡ 5 → p ≡ bits h 12 12 * 2 ^ 12 + bits h 8 8 * 2 ^ 8 + bits h 10 9 * 2 ^ 9 + bits h 6 6 * 2 ^ 6 + bits h 7 7 * 2 ^ 7 + bits h 2 2 * 2 ^ 2 + bits h 11 11 * 2 ^ 11 + bits h 5 3 * 2 ^ 3 → 40961 + p ≡ h
j_sum h p low o g e = omega arith

addi4spn_row : (h : ℕ) → h < 2 ^ 16 → half_op h ≡ 0 → half_funct3 h ≡ 0 → GoodHalf h (compressed (Alu (Int int.Addi)) (short_low h) 2 0 (pos (ciw_imm h)))
addi4spn_row h low o g =
    let l0 = low_held h in
    let l1 = ciw_held h in
    record { op = half.Addi4spn; named = (λ i. half_at (o i) (g i) h); sum = sum_2 h 0 (held (pos (short_low h)) % 2 ^ 3 * 2 ^ 2) (ciw_place (held (pos (ciw_imm h)))) (small_32 h low) (omega (arith)); fine = fine_of (Alu (Int int.Addi)) _ _ _ _ (lit< tt, lit< tt) (low_is h) (lit< tt) (lit< tt) (omega (arith, ints)) }

fld_row : (h : ℕ) → h < 2 ^ 16 → half_op h ≡ 0 → half_funct3 h ≡ 1 → GoodHalf h (cl_layout h (FloatLoad format.D) (ld_imm h))
fld_row h low o g =
    let l0 = low_held h in
    let l1 = high_held h in
    let l2 = ld_held h in
    record { op = half.Fld; named = (λ i. half_at (o i) (g i) h); sum = sum_3 h 8192 (held (pos (short_low h)) % 2 ^ 3 * 2 ^ 2) (held (pos (short_high h)) % 2 ^ 3 * 2 ^ 7) (ld_place (held (pos (ld_imm h)))) (small_32 h low) (omega (arith)); fine = fine_of (FloatLoad format.D) _ _ _ _ (lit< tt, lit< tt) (low_is h) (high_is h) (lit< tt) (omega (arith, ints)) }

lw_row : (h : ℕ) → h < 2 ^ 16 → half_op h ≡ 0 → half_funct3 h ≡ 2 → GoodHalf h (cl_layout h (Load load.Lw) (lw_imm h))
lw_row h low o g =
    let l0 = low_held h in
    let l1 = high_held h in
    let l2 = lw_held h in
    record { op = half.Lw; named = (λ i. half_at (o i) (g i) h); sum = sum_3 h 16384 (held (pos (short_low h)) % 2 ^ 3 * 2 ^ 2) (held (pos (short_high h)) % 2 ^ 3 * 2 ^ 7) (lw_place (held (pos (lw_imm h)))) (small_32 h low) (omega (arith)); fine = fine_of (Load load.Lw) _ _ _ _ (lit< tt, lit< tt) (low_is h) (high_is h) (lit< tt) (omega (arith, ints)) }

ld_row : (h : ℕ) → h < 2 ^ 16 → half_op h ≡ 0 → half_funct3 h ≡ 3 → GoodHalf h (cl_layout h (Load load.Ld) (ld_imm h))
ld_row h low o g =
    let l0 = low_held h in
    let l1 = high_held h in
    let l2 = ld_held h in
    record { op = half.Ld; named = (λ i. half_at (o i) (g i) h); sum = sum_3 h 24576 (held (pos (short_low h)) % 2 ^ 3 * 2 ^ 2) (held (pos (short_high h)) % 2 ^ 3 * 2 ^ 7) (ld_place (held (pos (ld_imm h)))) (small_32 h low) (omega (arith)); fine = fine_of (Load load.Ld) _ _ _ _ (lit< tt, lit< tt) (low_is h) (high_is h) (lit< tt) (omega (arith, ints)) }

lbu_row : (h : ℕ) → h < 2 ^ 16 → half_op h ≡ 0 → half_funct3 h ≡ 4 → bits h 12 10 ≡ 0 → GoodHalf h (cl_layout h (Load load.Lbu) (lb_imm h))
lbu_row h low o g s =
    let l0 = low_held h in
    let l1 = high_held h in
    let l2 = lb_held h in
    record { op = half.Lbu; named = (λ i. half_at (o i) (g i) h) ∙ (λ i. short_memory (s i) (bits h 6 6)); sum = sum_3 h 32768 (held (pos (short_low h)) % 2 ^ 3 * 2 ^ 2) (held (pos (short_high h)) % 2 ^ 3 * 2 ^ 7) (lb_place (held (pos (lb_imm h)))) (small_32 h low) (omega (arith)); fine = fine_of (Load load.Lbu) _ _ _ _ (lit< tt, lit< tt) (low_is h) (high_is h) (lit< tt) (omega (arith, ints)) }

lhu_row : (h : ℕ) → h < 2 ^ 16 → half_op h ≡ 0 → half_funct3 h ≡ 4 → bits h 12 10 ≡ 1 → bits h 6 6 ≡ 0 → GoodHalf h (cl_layout h (Load load.Lhu) (lh_imm h))
lhu_row h low o g s b =
    let l0 = low_held h in
    let l1 = high_held h in
    let l2 = lh_held h in
    record { op = half.Lhu; named = (λ i. half_at (o i) (g i) h) ∙ (λ i. short_memory (s i) (b i)); sum = sum_3 h 33792 (held (pos (short_low h)) % 2 ^ 3 * 2 ^ 2) (held (pos (short_high h)) % 2 ^ 3 * 2 ^ 7) (lh_place (held (pos (lh_imm h)))) (small_32 h low) (omega (arith)); fine = fine_of (Load load.Lhu) _ _ _ _ (lit< tt, lit< tt) (low_is h) (high_is h) (lit< tt) (omega (arith, ints)) }

lh_row : (h : ℕ) → h < 2 ^ 16 → half_op h ≡ 0 → half_funct3 h ≡ 4 → bits h 12 10 ≡ 1 → bits h 6 6 ≡ 1 → GoodHalf h (cl_layout h (Load load.Lh) (lh_imm h))
lh_row h low o g s b =
    let l0 = low_held h in
    let l1 = high_held h in
    let l2 = lh_held h in
    record { op = half.Lh; named = (λ i. half_at (o i) (g i) h) ∙ (λ i. short_memory (s i) (b i)); sum = sum_3 h 33856 (held (pos (short_low h)) % 2 ^ 3 * 2 ^ 2) (held (pos (short_high h)) % 2 ^ 3 * 2 ^ 7) (lh_place (held (pos (lh_imm h)))) (small_32 h low) (omega (arith)); fine = fine_of (Load load.Lh) _ _ _ _ (lit< tt, lit< tt) (low_is h) (high_is h) (lit< tt) (omega (arith, ints)) }

sb_row : (h : ℕ) → h < 2 ^ 16 → half_op h ≡ 0 → half_funct3 h ≡ 4 → bits h 12 10 ≡ 2 → GoodHalf h (cs_layout h (Store store.Sb) (lb_imm h))
sb_row h low o g s =
    let l0 = high_held h in
    let l1 = low_held h in
    let l2 = lb_held h in
    record { op = half.Sb; named = (λ i. half_at (o i) (g i) h) ∙ (λ i. short_memory (s i) (bits h 6 6)); sum = sum_3 h 34816 (held (pos (short_high h)) % 2 ^ 3 * 2 ^ 7) (held (pos (short_low h)) % 2 ^ 3 * 2 ^ 2) (lb_place (held (pos (lb_imm h)))) (small_32 h low) (omega (arith)); fine = fine_of (Store store.Sb) _ _ _ _ (lit< tt, lit< tt) (lit< tt) (high_is h) (low_is h) (omega (arith, ints)) }

sh_row : (h : ℕ) → h < 2 ^ 16 → half_op h ≡ 0 → half_funct3 h ≡ 4 → bits h 12 10 ≡ 3 → bits h 6 6 ≡ 0 → GoodHalf h (cs_layout h (Store store.Sh) (lh_imm h))
sh_row h low o g s b =
    let l0 = high_held h in
    let l1 = low_held h in
    let l2 = lh_held h in
    record { op = half.Sh; named = (λ i. half_at (o i) (g i) h) ∙ (λ i. short_memory (s i) (b i)); sum = sum_3 h 35840 (held (pos (short_high h)) % 2 ^ 3 * 2 ^ 7) (held (pos (short_low h)) % 2 ^ 3 * 2 ^ 2) (lh_place (held (pos (lh_imm h)))) (small_32 h low) (omega (arith)); fine = fine_of (Store store.Sh) _ _ _ _ (lit< tt, lit< tt) (lit< tt) (high_is h) (low_is h) (omega (arith, ints)) }

fsd_row : (h : ℕ) → h < 2 ^ 16 → half_op h ≡ 0 → half_funct3 h ≡ 5 → GoodHalf h (cs_layout h (FloatStore format.D) (ld_imm h))
fsd_row h low o g =
    let l0 = high_held h in
    let l1 = low_held h in
    let l2 = ld_held h in
    record { op = half.Fsd; named = (λ i. half_at (o i) (g i) h); sum = sum_3 h 40960 (held (pos (short_high h)) % 2 ^ 3 * 2 ^ 7) (held (pos (short_low h)) % 2 ^ 3 * 2 ^ 2) (ld_place (held (pos (ld_imm h)))) (small_32 h low) (omega (arith)); fine = fine_of (FloatStore format.D) _ _ _ _ (lit< tt, lit< tt) (lit< tt) (high_is h) (low_is h) (omega (arith, ints)) }

sw_row : (h : ℕ) → h < 2 ^ 16 → half_op h ≡ 0 → half_funct3 h ≡ 6 → GoodHalf h (cs_layout h (Store store.Sw) (lw_imm h))
sw_row h low o g =
    let l0 = high_held h in
    let l1 = low_held h in
    let l2 = lw_held h in
    record { op = half.Sw; named = (λ i. half_at (o i) (g i) h); sum = sum_3 h 49152 (held (pos (short_high h)) % 2 ^ 3 * 2 ^ 7) (held (pos (short_low h)) % 2 ^ 3 * 2 ^ 2) (lw_place (held (pos (lw_imm h)))) (small_32 h low) (omega (arith)); fine = fine_of (Store store.Sw) _ _ _ _ (lit< tt, lit< tt) (lit< tt) (high_is h) (low_is h) (omega (arith, ints)) }

sd_row : (h : ℕ) → h < 2 ^ 16 → half_op h ≡ 0 → half_funct3 h ≡ 7 → GoodHalf h (cs_layout h (Store store.Sd) (ld_imm h))
sd_row h low o g =
    let l0 = high_held h in
    let l1 = low_held h in
    let l2 = ld_held h in
    record { op = half.Sd; named = (λ i. half_at (o i) (g i) h); sum = sum_3 h 57344 (held (pos (short_high h)) % 2 ^ 3 * 2 ^ 7) (held (pos (short_low h)) % 2 ^ 3 * 2 ^ 2) (ld_place (held (pos (ld_imm h)))) (small_32 h low) (omega (arith)); fine = fine_of (Store store.Sd) _ _ _ _ (lit< tt, lit< tt) (lit< tt) (high_is h) (low_is h) (omega (arith, ints)) }

addi_row : (h : ℕ) → h < 2 ^ 16 → half_op h ≡ 1 → half_funct3 h ≡ 0 → GoodHalf h (ci_layout h (Alu (Int int.Addi)))
addi_row h low o g =
    let l0 = rd_held h in
    let l1 = ci_held h in
    record { op = half.Addi; named = (λ i. half_at (o i) (g i) h); sum = sum_2 h 1 (held (pos (half_rd h)) % 2 ^ 5 * 2 ^ 7) (ci_place (held (ci_imm h))) (small_32 h low) (omega (arith)); fine = fine_of (Alu (Int int.Addi)) _ _ _ _ (lit< tt, lit< tt) (rd_is h) (rd_is h) (lit< tt) (signed_low (2 ^ 5) (ci_bits h) (lit< tt) (omega arith)) }

addiw_row : (h : ℕ) → h < 2 ^ 16 → half_op h ≡ 1 → half_funct3 h ≡ 1 → GoodHalf h (ci_layout h (Alu (Int int.Addiw)))
addiw_row h low o g =
    let l0 = rd_held h in
    let l1 = ci_held h in
    record { op = half.Addiw; named = (λ i. half_at (o i) (g i) h); sum = sum_2 h 8193 (held (pos (half_rd h)) % 2 ^ 5 * 2 ^ 7) (ci_place (held (ci_imm h))) (small_32 h low) (omega (arith)); fine = fine_of (Alu (Int int.Addiw)) _ _ _ _ (lit< tt, lit< tt) (rd_is h) (rd_is h) (lit< tt) (signed_low (2 ^ 5) (ci_bits h) (lit< tt) (omega arith)) }

li_row : (h : ℕ) → h < 2 ^ 16 → half_op h ≡ 1 → half_funct3 h ≡ 2 → GoodHalf h (decode_li h)
li_row h low o g =
    let l0 = rd_held h in
    let l1 = ci_held h in
    record { op = half.Li; named = (λ i. half_at (o i) (g i) h); sum = sum_2 h 16385 (held (pos (half_rd h)) % 2 ^ 5 * 2 ^ 7) (ci_place (held (ci_imm h))) (small_32 h low) (omega (arith)); fine = fine_of (Alu (Int int.Addi)) _ _ _ _ (lit< tt, lit< tt) (rd_is h) (lit< tt) (lit< tt) (signed_low (2 ^ 5) (ci_bits h) (lit< tt) (omega arith)) }

addi16sp_row : (h : ℕ) → h < 2 ^ 16 → half_op h ≡ 1 → half_funct3 h ≡ 3 → half_rd h ≡ 2 → GoodHalf h (compressed (Alu (Int int.Addi)) 2 2 0 (addi16sp_imm h))
addi16sp_row h low o g s =
    let l0 = addi16sp_held h in
    record { op = half.Addi16sp; named = (λ i. half_at (o i) (g i) h) ∙ (λ i. if s i == 2 then Some half.Addi16sp else Some half.Lui); sum = sum_1 h 24833 (addi16sp_place (held (addi16sp_imm h))) (small_32 h low) (omega (arith)); fine = fine_of (Alu (Int int.Addi)) _ _ _ _ (lit< tt, lit< tt) (lit< tt) (lit< tt) (lit< tt) (signed_low (2 ^ 9) (addi16sp_bits h) (lit< tt) (omega arith)) }

srli_row : (h : ℕ) → h < 2 ^ 16 → half_op h ≡ 1 → half_funct3 h ≡ 4 → bits h 11 10 ≡ 0 → GoodHalf h (cb_layout h (Alu (Int int.Srli)) (pos (ci_bits h)))
srli_row h low o g s =
    let l0 = high_held h in
    let l1 = amount_held h in
    record { op = half.Srli; named = (λ i. half_at (o i) (g i) h) ∙ (λ i. arithmetic (s i) h); sum = sum_2 h 32769 (held (pos (short_high h)) % 2 ^ 3 * 2 ^ 7) (ci_place (held (pos (ci_bits h)))) (small_32 h low) (omega (arith)); fine = fine_of (Alu (Int int.Srli)) _ _ _ _ (lit< tt, lit< tt) (high_is h) (high_is h) (lit< tt) (omega (arith, ints)) }

srai_row : (h : ℕ) → h < 2 ^ 16 → half_op h ≡ 1 → half_funct3 h ≡ 4 → bits h 11 10 ≡ 1 → GoodHalf h (cb_layout h (Alu (Int int.Srai)) (pos (ci_bits h)))
srai_row h low o g s =
    let l0 = high_held h in
    let l1 = amount_held h in
    record { op = half.Srai; named = (λ i. half_at (o i) (g i) h) ∙ (λ i. arithmetic (s i) h); sum = sum_2 h 33793 (held (pos (short_high h)) % 2 ^ 3 * 2 ^ 7) (ci_place (held (pos (ci_bits h)))) (small_32 h low) (omega (arith)); fine = fine_of (Alu (Int int.Srai)) _ _ _ _ (lit< tt, lit< tt) (high_is h) (high_is h) (lit< tt) (omega (arith, ints)) }

andi_row : (h : ℕ) → h < 2 ^ 16 → half_op h ≡ 1 → half_funct3 h ≡ 4 → bits h 11 10 ≡ 2 → GoodHalf h (cb_layout h (Alu (Int int.Andi)) (ci_imm h))
andi_row h low o g s =
    let l0 = high_held h in
    let l1 = ci_held h in
    record { op = half.Andi; named = (λ i. half_at (o i) (g i) h) ∙ (λ i. arithmetic (s i) h); sum = sum_2 h 34817 (held (pos (short_high h)) % 2 ^ 3 * 2 ^ 7) (ci_place (held (ci_imm h))) (small_32 h low) (omega (arith)); fine = fine_of (Alu (Int int.Andi)) _ _ _ _ (lit< tt, lit< tt) (high_is h) (high_is h) (lit< tt) (signed_low (2 ^ 5) (ci_bits h) (lit< tt) (omega arith)) }

sub_row : (h : ℕ) → h < 2 ^ 16 → half_op h ≡ 1 → half_funct3 h ≡ 4 → bits h 11 10 ≡ 3 → bits h 12 12 ≡ 0 → bits h 6 5 ≡ 0 → GoodHalf h (ca_layout h (Alu (Int int.Sub)))
sub_row h low o g s b k =
    let l0 = high_held h in
    let l1 = low_held h in
    record { op = half.Sub; named = (λ i. half_at (o i) (g i) h) ∙ (λ i. arithmetic (s i) h) ∙ (λ i. of_two_registers (b i) (k i) h); sum = sum_2 h 35841 (held (pos (short_high h)) % 2 ^ 3 * 2 ^ 7) (held (pos (short_low h)) % 2 ^ 3 * 2 ^ 2) (small_32 h low) (omega (arith)); fine = fine_of (Alu (Int int.Sub)) _ _ _ _ (lit< tt, lit< tt) (high_is h) (high_is h) (low_is h) (lit< tt) }

xor_row : (h : ℕ) → h < 2 ^ 16 → half_op h ≡ 1 → half_funct3 h ≡ 4 → bits h 11 10 ≡ 3 → bits h 12 12 ≡ 0 → bits h 6 5 ≡ 1 → GoodHalf h (ca_layout h (Alu (Int int.Xor)))
xor_row h low o g s b k =
    let l0 = high_held h in
    let l1 = low_held h in
    record { op = half.Xor; named = (λ i. half_at (o i) (g i) h) ∙ (λ i. arithmetic (s i) h) ∙ (λ i. of_two_registers (b i) (k i) h); sum = sum_2 h 35873 (held (pos (short_high h)) % 2 ^ 3 * 2 ^ 7) (held (pos (short_low h)) % 2 ^ 3 * 2 ^ 2) (small_32 h low) (omega (arith)); fine = fine_of (Alu (Int int.Xor)) _ _ _ _ (lit< tt, lit< tt) (high_is h) (high_is h) (low_is h) (lit< tt) }

or_row : (h : ℕ) → h < 2 ^ 16 → half_op h ≡ 1 → half_funct3 h ≡ 4 → bits h 11 10 ≡ 3 → bits h 12 12 ≡ 0 → bits h 6 5 ≡ 2 → GoodHalf h (ca_layout h (Alu (Int int.Or)))
or_row h low o g s b k =
    let l0 = high_held h in
    let l1 = low_held h in
    record { op = half.Or; named = (λ i. half_at (o i) (g i) h) ∙ (λ i. arithmetic (s i) h) ∙ (λ i. of_two_registers (b i) (k i) h); sum = sum_2 h 35905 (held (pos (short_high h)) % 2 ^ 3 * 2 ^ 7) (held (pos (short_low h)) % 2 ^ 3 * 2 ^ 2) (small_32 h low) (omega (arith)); fine = fine_of (Alu (Int int.Or)) _ _ _ _ (lit< tt, lit< tt) (high_is h) (high_is h) (low_is h) (lit< tt) }

and_row : (h : ℕ) → h < 2 ^ 16 → half_op h ≡ 1 → half_funct3 h ≡ 4 → bits h 11 10 ≡ 3 → bits h 12 12 ≡ 0 → bits h 6 5 ≡ 3 → GoodHalf h (ca_layout h (Alu (Int int.And)))
and_row h low o g s b k =
    let l0 = high_held h in
    let l1 = low_held h in
    record { op = half.And; named = (λ i. half_at (o i) (g i) h) ∙ (λ i. arithmetic (s i) h) ∙ (λ i. of_two_registers (b i) (k i) h); sum = sum_2 h 35937 (held (pos (short_high h)) % 2 ^ 3 * 2 ^ 7) (held (pos (short_low h)) % 2 ^ 3 * 2 ^ 2) (small_32 h low) (omega (arith)); fine = fine_of (Alu (Int int.And)) _ _ _ _ (lit< tt, lit< tt) (high_is h) (high_is h) (low_is h) (lit< tt) }

subw_row : (h : ℕ) → h < 2 ^ 16 → half_op h ≡ 1 → half_funct3 h ≡ 4 → bits h 11 10 ≡ 3 → bits h 12 12 ≡ 1 → bits h 6 5 ≡ 0 → GoodHalf h (ca_layout h (Alu (Int int.Subw)))
subw_row h low o g s b k =
    let l0 = high_held h in
    let l1 = low_held h in
    record { op = half.Subw; named = (λ i. half_at (o i) (g i) h) ∙ (λ i. arithmetic (s i) h) ∙ (λ i. of_two_registers (b i) (k i) h); sum = sum_2 h 39937 (held (pos (short_high h)) % 2 ^ 3 * 2 ^ 7) (held (pos (short_low h)) % 2 ^ 3 * 2 ^ 2) (small_32 h low) (omega (arith)); fine = fine_of (Alu (Int int.Subw)) _ _ _ _ (lit< tt, lit< tt) (high_is h) (high_is h) (low_is h) (lit< tt) }

addw_row : (h : ℕ) → h < 2 ^ 16 → half_op h ≡ 1 → half_funct3 h ≡ 4 → bits h 11 10 ≡ 3 → bits h 12 12 ≡ 1 → bits h 6 5 ≡ 1 → GoodHalf h (ca_layout h (Alu (Int int.Addw)))
addw_row h low o g s b k =
    let l0 = high_held h in
    let l1 = low_held h in
    record { op = half.Addw; named = (λ i. half_at (o i) (g i) h) ∙ (λ i. arithmetic (s i) h) ∙ (λ i. of_two_registers (b i) (k i) h); sum = sum_2 h 39969 (held (pos (short_high h)) % 2 ^ 3 * 2 ^ 7) (held (pos (short_low h)) % 2 ^ 3 * 2 ^ 2) (small_32 h low) (omega (arith)); fine = fine_of (Alu (Int int.Addw)) _ _ _ _ (lit< tt, lit< tt) (high_is h) (high_is h) (low_is h) (lit< tt) }

mul_row : (h : ℕ) → h < 2 ^ 16 → half_op h ≡ 1 → half_funct3 h ≡ 4 → bits h 11 10 ≡ 3 → bits h 12 12 ≡ 1 → bits h 6 5 ≡ 2 → GoodHalf h (ca_layout h (Alu (Mul mul.Mul)))
mul_row h low o g s b k =
    let l0 = high_held h in
    let l1 = low_held h in
    record { op = half.Mul; named = (λ i. half_at (o i) (g i) h) ∙ (λ i. arithmetic (s i) h) ∙ (λ i. of_two_registers (b i) (k i) h); sum = sum_2 h 40001 (held (pos (short_high h)) % 2 ^ 3 * 2 ^ 7) (held (pos (short_low h)) % 2 ^ 3 * 2 ^ 2) (small_32 h low) (omega (arith)); fine = fine_of (Alu (Mul mul.Mul)) _ _ _ _ (lit< tt, lit< tt) (high_is h) (high_is h) (low_is h) (lit< tt) }

zextB_row : (h : ℕ) → h < 2 ^ 16 → half_op h ≡ 1 → half_funct3 h ≡ 4 → bits h 11 10 ≡ 3 → bits h 12 12 ≡ 1 → bits h 6 5 ≡ 3 → bits h 4 2 ≡ 0 → GoodHalf h (cu_layout h (Alu (Int int.Andi)) (pos 255))
zextB_row h low o g s b k u =
    let l0 = high_held h in
    record { op = half.ZextB; named = (λ i. half_at (o i) (g i) h) ∙ (λ i. arithmetic (s i) h) ∙ (λ i. of_two_registers (b i) (k i) h) ∙ (λ i. unary (u i)); sum = sum_1 h 40033 (held (pos (short_high h)) % 2 ^ 3 * 2 ^ 7) (small_32 h low) (omega (arith)); fine = fine_of (Alu (Int int.Andi)) _ _ _ _ (lit< tt, lit< tt) (high_is h) (high_is h) (lit< tt) (lit< tt) }

sextB_row : (h : ℕ) → h < 2 ^ 16 → half_op h ≡ 1 → half_funct3 h ≡ 4 → bits h 11 10 ≡ 3 → bits h 12 12 ≡ 1 → bits h 6 5 ≡ 3 → bits h 4 2 ≡ 1 → GoodHalf h (cu_layout h (Alu (Bit bit.SextB)) (pos 0))
sextB_row h low o g s b k u =
    let l0 = high_held h in
    record { op = half.SextB; named = (λ i. half_at (o i) (g i) h) ∙ (λ i. arithmetic (s i) h) ∙ (λ i. of_two_registers (b i) (k i) h) ∙ (λ i. unary (u i)); sum = sum_1 h 40037 (held (pos (short_high h)) % 2 ^ 3 * 2 ^ 7) (small_32 h low) (omega (arith)); fine = fine_of (Alu (Bit bit.SextB)) _ _ _ _ (lit< tt, lit< tt) (high_is h) (high_is h) (lit< tt) (lit< tt) }

zextH_row : (h : ℕ) → h < 2 ^ 16 → half_op h ≡ 1 → half_funct3 h ≡ 4 → bits h 11 10 ≡ 3 → bits h 12 12 ≡ 1 → bits h 6 5 ≡ 3 → bits h 4 2 ≡ 2 → GoodHalf h (cu_layout h (Alu (Bit bit.ZextH)) (pos 0))
zextH_row h low o g s b k u =
    let l0 = high_held h in
    record { op = half.ZextH; named = (λ i. half_at (o i) (g i) h) ∙ (λ i. arithmetic (s i) h) ∙ (λ i. of_two_registers (b i) (k i) h) ∙ (λ i. unary (u i)); sum = sum_1 h 40041 (held (pos (short_high h)) % 2 ^ 3 * 2 ^ 7) (small_32 h low) (omega (arith)); fine = fine_of (Alu (Bit bit.ZextH)) _ _ _ _ (lit< tt, lit< tt) (high_is h) (high_is h) (lit< tt) (lit< tt) }

sextH_row : (h : ℕ) → h < 2 ^ 16 → half_op h ≡ 1 → half_funct3 h ≡ 4 → bits h 11 10 ≡ 3 → bits h 12 12 ≡ 1 → bits h 6 5 ≡ 3 → bits h 4 2 ≡ 3 → GoodHalf h (cu_layout h (Alu (Bit bit.SextH)) (pos 0))
sextH_row h low o g s b k u =
    let l0 = high_held h in
    record { op = half.SextH; named = (λ i. half_at (o i) (g i) h) ∙ (λ i. arithmetic (s i) h) ∙ (λ i. of_two_registers (b i) (k i) h) ∙ (λ i. unary (u i)); sum = sum_1 h 40045 (held (pos (short_high h)) % 2 ^ 3 * 2 ^ 7) (small_32 h low) (omega (arith)); fine = fine_of (Alu (Bit bit.SextH)) _ _ _ _ (lit< tt, lit< tt) (high_is h) (high_is h) (lit< tt) (lit< tt) }

zextW_row : (h : ℕ) → h < 2 ^ 16 → half_op h ≡ 1 → half_funct3 h ≡ 4 → bits h 11 10 ≡ 3 → bits h 12 12 ≡ 1 → bits h 6 5 ≡ 3 → bits h 4 2 ≡ 4 → GoodHalf h (cu_layout h (Alu (Bit bit.AddUw)) (pos 0))
zextW_row h low o g s b k u =
    let l0 = high_held h in
    record { op = half.ZextW; named = (λ i. half_at (o i) (g i) h) ∙ (λ i. arithmetic (s i) h) ∙ (λ i. of_two_registers (b i) (k i) h) ∙ (λ i. unary (u i)); sum = sum_1 h 40049 (held (pos (short_high h)) % 2 ^ 3 * 2 ^ 7) (small_32 h low) (omega (arith)); fine = fine_of (Alu (Bit bit.AddUw)) _ _ _ _ (lit< tt, lit< tt) (high_is h) (high_is h) (lit< tt) (lit< tt) }

not_row : (h : ℕ) → h < 2 ^ 16 → half_op h ≡ 1 → half_funct3 h ≡ 4 → bits h 11 10 ≡ 3 → bits h 12 12 ≡ 1 → bits h 6 5 ≡ 3 → bits h 4 2 ≡ 5 → GoodHalf h (cu_layout h (Alu (Int int.Xori)) (negsuc 0))
not_row h low o g s b k u =
    let l0 = high_held h in
    record { op = half.Not; named = (λ i. half_at (o i) (g i) h) ∙ (λ i. arithmetic (s i) h) ∙ (λ i. of_two_registers (b i) (k i) h) ∙ (λ i. unary (u i)); sum = sum_1 h 40053 (held (pos (short_high h)) % 2 ^ 3 * 2 ^ 7) (small_32 h low) (omega (arith)); fine = fine_of (Alu (Int int.Xori)) _ _ _ _ (lit< tt, lit< tt) (high_is h) (high_is h) (lit< tt) (lit< tt) }

j_row : (h : ℕ) → h < 2 ^ 16 → half_op h ≡ 1 → half_funct3 h ≡ 5 → GoodHalf h (decode_j h)
j_row h low o g =
    let l0 = cj_held h in
    record { op = half.J; named = (λ i. half_at (o i) (g i) h); sum = sum_1 h 40961 (cj_place (held (cj_imm h))) (small_32 h low) (j_sum h (cj_place (held (cj_imm h))) low o g (cj_held h)); fine = fine_of (Base base.Jal) _ _ _ _ (lit< tt, lit< tt) (lit< tt) (lit< tt) (lit< tt) (signed_low (2 ^ 11) (cj_bits h) (lit< tt) (omega arith)) }

slli_row : (h : ℕ) → h < 2 ^ 16 → half_op h ≡ 2 → half_funct3 h ≡ 0 → GoodHalf h (decode_slli h)
slli_row h low o g =
    let l0 = rd_held h in
    let l1 = amount_held h in
    record { op = half.Slli; named = (λ i. half_at (o i) (g i) h); sum = sum_2 h 2 (held (pos (half_rd h)) % 2 ^ 5 * 2 ^ 7) (ci_place (held (pos (ci_bits h)))) (small_32 h low) (omega (arith)); fine = fine_of (Alu (Int int.Slli)) _ _ _ _ (lit< tt, lit< tt) (rd_is h) (rd_is h) (lit< tt) (omega (arith, ints)) }

fldsp_row : (h : ℕ) → h < 2 ^ 16 → half_op h ≡ 2 → half_funct3 h ≡ 1 → GoodHalf h (load_sp_layout h (FloatLoad format.D) (ldsp_imm h))
fldsp_row h low o g =
    let l0 = rd_held h in
    let l1 = ldsp_held h in
    record { op = half.Fldsp; named = (λ i. half_at (o i) (g i) h); sum = sum_2 h 8194 (held (pos (half_rd h)) % 2 ^ 5 * 2 ^ 7) (ldsp_place (held (pos (ldsp_imm h)))) (small_32 h low) (omega (arith)); fine = fine_of (FloatLoad format.D) _ _ _ _ (lit< tt, lit< tt) (rd_is h) (lit< tt) (lit< tt) (omega (arith, ints)) }

lwsp_row : (h : ℕ) → h < 2 ^ 16 → half_op h ≡ 2 → half_funct3 h ≡ 2 → GoodHalf h (load_sp_layout h (Load load.Lw) (lwsp_imm h))
lwsp_row h low o g =
    let l0 = rd_held h in
    let l1 = lwsp_held h in
    record { op = half.Lwsp; named = (λ i. half_at (o i) (g i) h); sum = sum_2 h 16386 (held (pos (half_rd h)) % 2 ^ 5 * 2 ^ 7) (lwsp_place (held (pos (lwsp_imm h)))) (small_32 h low) (omega (arith)); fine = fine_of (Load load.Lw) _ _ _ _ (lit< tt, lit< tt) (rd_is h) (lit< tt) (lit< tt) (omega (arith, ints)) }

ldsp_row : (h : ℕ) → h < 2 ^ 16 → half_op h ≡ 2 → half_funct3 h ≡ 3 → GoodHalf h (load_sp_layout h (Load load.Ld) (ldsp_imm h))
ldsp_row h low o g =
    let l0 = rd_held h in
    let l1 = ldsp_held h in
    record { op = half.Ldsp; named = (λ i. half_at (o i) (g i) h); sum = sum_2 h 24578 (held (pos (half_rd h)) % 2 ^ 5 * 2 ^ 7) (ldsp_place (held (pos (ldsp_imm h)))) (small_32 h low) (omega (arith)); fine = fine_of (Load load.Ld) _ _ _ _ (lit< tt, lit< tt) (rd_is h) (lit< tt) (lit< tt) (omega (arith, ints)) }

fsdsp_row : (h : ℕ) → h < 2 ^ 16 → half_op h ≡ 2 → half_funct3 h ≡ 5 → GoodHalf h (css_layout h (FloatStore format.D) (sdsp_imm h))
fsdsp_row h low o g =
    let l0 = rs2_held h in
    let l1 = sdsp_held h in
    record { op = half.Fsdsp; named = (λ i. half_at (o i) (g i) h); sum = sum_2 h 40962 (held (pos (half_rs2 h)) % 2 ^ 5 * 2 ^ 2) (sdsp_place (held (pos (sdsp_imm h)))) (small_32 h low) (omega (arith)); fine = fine_of (FloatStore format.D) _ _ _ _ (lit< tt, lit< tt) (lit< tt) (lit< tt) (rs2_is h) (omega (arith, ints)) }

swsp_row : (h : ℕ) → h < 2 ^ 16 → half_op h ≡ 2 → half_funct3 h ≡ 6 → GoodHalf h (css_layout h (Store store.Sw) (swsp_imm h))
swsp_row h low o g =
    let l0 = rs2_held h in
    let l1 = swsp_held h in
    record { op = half.Swsp; named = (λ i. half_at (o i) (g i) h); sum = sum_2 h 49154 (held (pos (half_rs2 h)) % 2 ^ 5 * 2 ^ 2) (swsp_place (held (pos (swsp_imm h)))) (small_32 h low) (omega (arith)); fine = fine_of (Store store.Sw) _ _ _ _ (lit< tt, lit< tt) (lit< tt) (lit< tt) (rs2_is h) (omega (arith, ints)) }

sdsp_row : (h : ℕ) → h < 2 ^ 16 → half_op h ≡ 2 → half_funct3 h ≡ 7 → GoodHalf h (css_layout h (Store store.Sd) (sdsp_imm h))
sdsp_row h low o g =
    let l0 = rs2_held h in
    let l1 = sdsp_held h in
    record { op = half.Sdsp; named = (λ i. half_at (o i) (g i) h); sum = sum_2 h 57346 (held (pos (half_rs2 h)) % 2 ^ 5 * 2 ^ 2) (sdsp_place (held (pos (sdsp_imm h)))) (small_32 h low) (omega (arith)); fine = fine_of (Store store.Sd) _ _ _ _ (lit< tt, lit< tt) (lit< tt) (lit< tt) (rs2_is h) (omega (arith, ints)) }

jr_row : (h : ℕ) → h < 2 ^ 16 → half_op h ≡ 2 → half_funct3 h ≡ 4 → bits h 12 12 ≡ 0 → half_rs2 h ≡ 0 → GoodHalf h (compressed (Base base.Jalr) 0 (half_rd h) 0 (pos 0))
jr_row h low o g s b =
    let l0 = rd_held h in
    record { op = half.Jr; named = (λ i. half_at (o i) (g i) h) ∙ (λ i. jumps_and_moves (s i) (half_rd h) (b i)); sum = sum_1 h 32770 (held (pos (half_rd h)) % 2 ^ 5 * 2 ^ 7) (small_32 h low) (omega (arith)); fine = fine_of (Base base.Jalr) _ _ _ _ (lit< tt, lit< tt) (lit< tt) (rd_is h) (lit< tt) (lit< tt) }

ebreak_row : (h : ℕ) → h < 2 ^ 16 → half_op h ≡ 2 → half_funct3 h ≡ 4 → bits h 12 12 ≡ 1 → half_rs2 h ≡ 0 → half_rd h ≡ 0 → GoodHalf h (compressed (Base base.Ebreak) 0 0 0 (pos 0))
ebreak_row h low o g s b k =
    record { op = half.Ebreak; named = (λ i. half_at (o i) (g i) h) ∙ (λ i. jumps_and_moves (s i) (k i) (b i)); sum = (omega arith); fine = fine_of (Base base.Ebreak) _ _ _ _ (lit< tt, lit< tt) (lit< tt) (lit< tt) (lit< tt) (lit< tt) }

-- where a register isn't x0, or not sp
lui_row : (h : ℕ) → h < 2 ^ 16 → half_op h ≡ 1 → half_funct3 h ≡ 3 → (half_rd h == 2) ≡ false → GoodHalf h (compressed (Base base.Lui) (half_rd h) 0 0 (ci_imm h))
lui_row h low o g s =
    let l0 = rd_held h in
    let l1 = ci_held h in
    record { op = half.Lui; named = (λ i. half_at (o i) (g i) h) ∙ (λ i. if s i then Some half.Addi16sp else Some half.Lui); sum = sum_2 h 24577 (held (pos (half_rd h)) % 2 ^ 5 * 2 ^ 7) (ci_place (held (ci_imm h))) (small_32 h low) (omega (arith)); fine = fine_of (Base base.Lui) _ _ _ _ (lit< tt, lit< tt) (rd_is h) (lit< tt) (lit< tt) (signed_low (2 ^ 5) (ci_bits h) (lit< tt) (omega arith)) }

mv_row : (h : ℕ) → h < 2 ^ 16 → half_op h ≡ 2 → half_funct3 h ≡ 4 → bits h 12 12 ≡ 0 → (half_rs2 h == 0) ≡ false → GoodHalf h (compressed (Alu (Int int.Add)) (half_rd h) 0 (half_rs2 h) (pos 0))
mv_row h low o g s b =
    let l0 = rd_held h in
    let l1 = rs2_held h in
    record { op = half.Mv; named = (λ i. half_at (o i) (g i) h) ∙ (λ i. jumps_and_moves (s i) (half_rd h) (half_rs2 h)) ∙ (λ i. if b i then Some half.Jr else Some half.Mv); sum = sum_2 h 32770 (held (pos (half_rd h)) % 2 ^ 5 * 2 ^ 7) (held (pos (half_rs2 h)) % 2 ^ 5 * 2 ^ 2) (small_32 h low) (omega (arith)); fine = fine_of (Alu (Int int.Add)) _ _ _ _ (lit< tt, lit< tt) (rd_is h) (lit< tt) (rs2_is h) (lit< tt) }

jalr_row : (h : ℕ) → h < 2 ^ 16 → half_op h ≡ 2 → half_funct3 h ≡ 4 → bits h 12 12 ≡ 1 → half_rs2 h ≡ 0 → (half_rd h == 0) ≡ false → GoodHalf h (compressed (Base base.Jalr) 1 (half_rd h) 0 (pos 0))
jalr_row h low o g s b k =
    let l0 = rd_held h in
    record { op = half.Jalr; named = (λ i. half_at (o i) (g i) h) ∙ (λ i. jumps_and_moves (s i) (half_rd h) (b i)) ∙ (λ i. if k i then Some half.Ebreak else Some half.Jalr); sum = sum_1 h 36866 (held (pos (half_rd h)) % 2 ^ 5 * 2 ^ 7) (small_32 h low) (omega (arith)); fine = fine_of (Base base.Jalr) _ _ _ _ (lit< tt, lit< tt) (lit< tt) (rd_is h) (lit< tt) (lit< tt) }

add_row : (h : ℕ) → h < 2 ^ 16 → half_op h ≡ 2 → half_funct3 h ≡ 4 → bits h 12 12 ≡ 1 → (half_rs2 h == 0) ≡ false → GoodHalf h (cr_layout h (Alu (Int int.Add)))
add_row h low o g s b =
    let l0 = rd_held h in
    let l1 = rs2_held h in
    record { op = half.Add; named = (λ i. half_at (o i) (g i) h) ∙ (λ i. jumps_and_moves (s i) (half_rd h) (half_rs2 h)) ∙ (λ i. if (b i) && (half_rd h == 0) then Some half.Ebreak else if b i then Some half.Jalr else Some half.Add); sum = sum_2 h 36866 (held (pos (half_rd h)) % 2 ^ 5 * 2 ^ 7) (held (pos (half_rs2 h)) % 2 ^ 5 * 2 ^ 2) (small_32 h low) (omega (arith)); fine = fine_of (Alu (Int int.Add)) _ _ _ _ (lit< tt, lit< tt) (rd_is h) (rd_is h) (rs2_is h) (lit< tt) }

-- ---- quadrants

zcb_memory_good : (h : ℕ) → h < 2 ^ 16 → half_op h ≡ 0 → half_funct3 h ≡ 4 → IfSome (decode_zcb_memory h) (GoodHalf h)
zcb_memory_good h low o g =
    let P : Decoded → Type 0 = GoodHalf h in
    row P (bits h 12 10) 0 _ _ (λ s. lbu_row h low o g s)
    (row_2 P (bits h 12 10) 1 (bits h 6 6) 0 _ _ (λ s b. lhu_row h low o g s b)
    (row_2 P (bits h 12 10) 1 (bits h 6 6) 1 _ _ (λ s b. lh_row h low o g s b)
    (row P (bits h 12 10) 2 _ _ (λ s. sb_row h low o g s)
    (row_2 P (bits h 12 10) 3 (bits h 6 6) 0 _ _ (λ s b. sh_row h low o g s b) _))))

quadrant_0_good : (flags : IsaFlags) (h : ℕ) → h < 2 ^ 16 → half_op h ≡ 0 → IfSome (quadrant_0 flags h) (GoodHalf h)
quadrant_0_good flags h low o =
    let P : Decoded → Type 0 = GoodHalf h in
    choice P (half_funct3 h) 0 (decode_addi4spn h) _ (λ g. every_if P (ciw_imm h == 0) None _ (λ _. _) (λ _. addi4spn_row h low o g))
    (row P (half_funct3 h) 2 _ _ (λ g. lw_row h low o g)
    (row P (half_funct3 h) 3 _ _ (λ g. ld_row h low o g)
    (every_if P ((half_funct3 h == 4) && flags.has_zcb) (decode_zcb_memory h) _ (λ t. zcb_memory_good h low o (eqb-true (half_funct3 h) 4 (and_parts (half_funct3 h == 4) flags.has_zcb t).0)) (λ _. row P (half_funct3 h) 6 _ _ (λ g. sw_row h low o g)
    (row P (half_funct3 h) 7 _ _ (λ g. sd_row h low o g) _)))))

unary_good : (flags : IsaFlags) (h : ℕ) → h < 2 ^ 16 → half_op h ≡ 1 → half_funct3 h ≡ 4 → bits h 11 10 ≡ 3 → bits h 12 12 ≡ 1 → bits h 6 5 ≡ 3 → IfSome (decode_zcb_unary flags h) (GoodHalf h)
unary_good flags h low o g s b k =
    let P : Decoded → Type 0 = GoodHalf h in
    row P (bits h 4 2) 0 _ _ (λ u. zextB_row h low o g s b k u)
    (every_if P ((bits h 4 2 == 1) && flags.has_zbb) (Some _) _ (λ t. sextB_row h low o g s b k (eqb-true (bits h 4 2) 1 (and_parts (bits h 4 2 == 1) flags.has_zbb t).0)) (λ _.
    (every_if P ((bits h 4 2 == 2) && flags.has_zbb) (Some _) _ (λ t. zextH_row h low o g s b k (eqb-true (bits h 4 2) 2 (and_parts (bits h 4 2 == 2) flags.has_zbb t).0)) (λ _.
    (every_if P ((bits h 4 2 == 3) && flags.has_zbb) (Some _) _ (λ t. sextH_row h low o g s b k (eqb-true (bits h 4 2) 3 (and_parts (bits h 4 2 == 3) flags.has_zbb t).0)) (λ _.
    (every_if P ((bits h 4 2 == 4) && flags.has_zba) (Some _) _ (λ t. zextW_row h low o g s b k (eqb-true (bits h 4 2) 4 (and_parts (bits h 4 2 == 4) flags.has_zba t).0)) (λ _.
    row P (bits h 4 2) 5 _ _ (λ u. not_row h low o g s b k u) _))))))))

two_registers_good : (flags : IsaFlags) (h : ℕ) → h < 2 ^ 16 → half_op h ≡ 1 → half_funct3 h ≡ 4 → bits h 11 10 ≡ 3 → IfSome (decode_two_registers flags h) (GoodHalf h)
two_registers_good flags h low o g s =
    let P : Decoded → Type 0 = GoodHalf h in
    row_2 P (bits h 12 12) 0 (bits h 6 5) 0 _ _ (λ b k. sub_row h low o g s b k)
    (row_2 P (bits h 12 12) 0 (bits h 6 5) 1 _ _ (λ b k. xor_row h low o g s b k)
    (row_2 P (bits h 12 12) 0 (bits h 6 5) 2 _ _ (λ b k. or_row h low o g s b k)
    (row_2 P (bits h 12 12) 0 (bits h 6 5) 3 _ _ (λ b k. and_row h low o g s b k)
    (row_2 P (bits h 12 12) 1 (bits h 6 5) 0 _ _ (λ b k. subw_row h low o g s b k)
    (row_2 P (bits h 12 12) 1 (bits h 6 5) 1 _ _ (λ b k. addw_row h low o g s b k)
    (every_if P ((bits h 12 12 == 1) && (bits h 6 5 == 2) && flags.has_zcb && flags.has_m) (Some _) _ (λ t.
    let fields = (and_parts ((bits h 12 12 == 1) && (bits h 6 5 == 2)) flags.has_zcb (and_parts ((bits h 12 12 == 1) && (bits h 6 5 == 2) && flags.has_zcb) flags.has_m t).0).0 in
    let each = and_parts (bits h 12 12 == 1) (bits h 6 5 == 2) fields in
    mul_row h low o g s (eqb-true (bits h 12 12) 1 each.0) (eqb-true (bits h 6 5) 2 each.1)) (λ _.
    every_if P ((bits h 12 12 == 1) && (bits h 6 5 == 3) && flags.has_zcb) (decode_zcb_unary flags h) None (λ t.
    let each = and_parts (bits h 12 12 == 1) (bits h 6 5 == 3) (and_parts ((bits h 12 12 == 1) && (bits h 6 5 == 3)) flags.has_zcb t).0 in
    unary_good flags h low o g s (eqb-true (bits h 12 12) 1 each.0) (eqb-true (bits h 6 5) 3 each.1)) (λ _. _))))))))

arithmetic_good : (flags : IsaFlags) (h : ℕ) → h < 2 ^ 16 → half_op h ≡ 1 → half_funct3 h ≡ 4 → IfSome (decode_arithmetic flags h) (GoodHalf h)
arithmetic_good flags h low o g =
    let P : Decoded → Type 0 = GoodHalf h in
    row P (bits h 11 10) 0 _ _ (λ s. srli_row h low o g s)
    (row P (bits h 11 10) 1 _ _ (λ s. srai_row h low o g s)
    (row P (bits h 11 10) 2 _ _ (λ s. andi_row h low o g s)
    (choice P (bits h 11 10) 3 (decode_two_registers flags h) None (λ s. two_registers_good flags h low o g s) _)))

lui_good : (h : ℕ) → h < 2 ^ 16 → half_op h ≡ 1 → half_funct3 h ≡ 3 → IfSome (decode_lui h) (GoodHalf h)
lui_good h low o g =
    let P : Decoded → Type 0 = GoodHalf h in
    every_if P (ci_bits h == 0) None _ (λ _. _) (λ _. every_if P (half_rd h == 2) (Some _) (Some _) (λ t. addi16sp_row h low o g (eqb-true (half_rd h) 2 t)) (λ f. lui_row h low o g f))

quadrant_1_good : (flags : IsaFlags) (h : ℕ) → h < 2 ^ 16 → half_op h ≡ 1 → IfSome (quadrant_1 flags h) (GoodHalf h)
quadrant_1_good flags h low o =
    let P : Decoded → Type 0 = GoodHalf h in
    row P (half_funct3 h) 0 _ _ (λ g. addi_row h low o g)
    (choice P (half_funct3 h) 1 (decode_addiw h) _ (λ g. every_if P (half_rd h == 0) None _ (λ _. _) (λ _. addiw_row h low o g))
    (row P (half_funct3 h) 2 _ _ (λ g. li_row h low o g)
    (choice P (half_funct3 h) 3 (decode_lui h) _ (λ g. lui_good h low o g)
    (choice P (half_funct3 h) 4 (decode_arithmetic flags h) _ (λ g. arithmetic_good flags h low o g)
    (row P (half_funct3 h) 5 _ _ (λ g. j_row h low o g) _)))))

jr_mv_good : (h : ℕ) → h < 2 ^ 16 → half_op h ≡ 2 → half_funct3 h ≡ 4 → bits h 12 12 ≡ 0 → IfSome (decode_jr_mv h) (GoodHalf h)
jr_mv_good h low o g s =
    let P : Decoded → Type 0 = GoodHalf h in
    every_if P ((half_rs2 h == 0) && (half_rd h == 0)) None _ (λ _. _) (λ _.
    every_if P (half_rs2 h == 0) (Some _) (Some _) (λ t. jr_row h low o g s (eqb-true (half_rs2 h) 0 t)) (λ f. mv_row h low o g s f))

jalr_add_good : (h : ℕ) → h < 2 ^ 16 → half_op h ≡ 2 → half_funct3 h ≡ 4 → bits h 12 12 ≡ 1 → IfSome (decode_jalr_add h) (GoodHalf h)
jalr_add_good h low o g s =
    let P : Decoded → Type 0 = GoodHalf h in
    every_if P ((half_rs2 h == 0) && (half_rd h == 0)) (Some _) _ (λ t. let each = and_parts (half_rs2 h == 0) (half_rd h == 0) t in ebreak_row h low o g s (eqb-true (half_rs2 h) 0 each.0) (eqb-true (half_rd h) 0 each.1)) (λ n.
    every_if P (half_rs2 h == 0) (Some _) (Some _) (λ t. jalr_row h low o g s (eqb-true (half_rs2 h) 0 t) (second_false (half_rs2 h == 0) (half_rd h == 0) t n)) (λ f. add_row h low o g s f))
  where
    second_false : (a b : Bool) → a ≡ true → (a && b) ≡ false → b ≡ false
    second_false true b e n = n
    second_false false b e n = absurd (cc)

quadrant_2_good : (h : ℕ) → h < 2 ^ 16 → half_op h ≡ 2 → IfSome (quadrant_2 h) (GoodHalf h)
quadrant_2_good h low o =
    let P : Decoded → Type 0 = GoodHalf h in
    row P (half_funct3 h) 0 _ _ (λ g. slli_row h low o g)
    (choice P (half_funct3 h) 2 _ _ (λ g. every_if P (half_rd h == 0) None _ (λ _. _) (λ _. lwsp_row h low o g))
    (choice P (half_funct3 h) 3 _ _ (λ g. every_if P (half_rd h == 0) None _ (λ _. _) (λ _. ldsp_row h low o g))
    (every_if P ((half_funct3 h == 4) && (bits h 12 12 == 0)) (decode_jr_mv h) _ (λ t. let each = and_parts (half_funct3 h == 4) (bits h 12 12 == 0) t in jr_mv_good h low o (eqb-true (half_funct3 h) 4 each.0) (eqb-true (bits h 12 12) 0 each.1)) (λ _.
    every_if P ((half_funct3 h == 4) && (bits h 12 12 == 1)) (decode_jalr_add h) _ (λ t. let each = and_parts (half_funct3 h == 4) (bits h 12 12 == 1) t in jalr_add_good h low o (eqb-true (half_funct3 h) 4 each.0) (eqb-true (bits h 12 12) 1 each.1)) (λ _.
    row P (half_funct3 h) 6 _ _ (λ g. swsp_row h low o g)
    (row P (half_funct3 h) 7 _ _ (λ g. sdsp_row h low o g) _))))))

-- ---- of integers, of units, and of both

int_half_good : (flags : IsaFlags) (h : ℕ) → h < 2 ^ 16 → IfSome (int_decode_half flags h) (GoodHalf h)
unfolding int_decode_half
int_half_good flags h low =
    let P : Decoded → Type 0 = GoodHalf h in
    every_if P flags.has_zca (by_quadrant flags h) None (λ _.
    choice P (half_op h) 0 (quadrant_0 flags h) _ (λ o. quadrant_0_good flags h low o)
    (choice P (half_op h) 1 (quadrant_1 flags h) _ (λ o. quadrant_1_good flags h low o)
    (choice P (half_op h) 2 (quadrant_2 h) None (λ o. quadrant_2_good h low o) _))) (λ _. _)

unit_half_good : (flags : IsaFlags) (h : ℕ) → h < 2 ^ 16 → IfSome (unit_decode_half flags h) (GoodHalf h)
unfolding unit_decode_half
unit_half_good flags h low =
    let P : Decoded → Type 0 = GoodHalf h in
    every_if P (flags.has_zca && flags.has_zcd) (unit_by_quadrant h) None (λ _.
    row_2 P (half_op h) 0 (half_funct3 h) 1 _ _ (λ o g. fld_row h low o g)
    (row_2 P (half_op h) 0 (half_funct3 h) 5 _ _ (λ o g. fsd_row h low o g)
    (row_2 P (half_op h) 2 (half_funct3 h) 1 _ _ (λ o g. fldsp_row h low o g)
    (row_2 P (half_op h) 2 (half_funct3 h) 5 _ _ (λ o g. fsdsp_row h low o g) _)))) (λ _. _)

pub half_good : (flags : IsaFlags) (h : ℕ) → h < 2 ^ 16 → IfSome (decode_half flags h) (GoodHalf h)
unfolding decode_half
half_good flags h low = every_else (GoodHalf h) (int_decode_half flags h) (unit_decode_half flags h) (int_half_good flags h low) (unit_half_good flags h low)
