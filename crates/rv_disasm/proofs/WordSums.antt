-- A word is put together again from the fields of its layout and the bits that its row fixes.
use Rattle.std.proofs.Common.{◌≡◌, ℕ, ◌+◌, ◌*◌, ◌/◌, ◌%◌, ◌^◌, ◌<◌, Bool, true, false, pos, unsigned_abs, refl, arith}
use Rattle.std.specs.Prelude.{◌==◌}
use Rattle.std.specs.Int.{from_bool}
use Rattle.std.proofs.lemmas.Int.{ints}
use Rattle.std.proofs.lemmas.Bool.{eqb-true, eqb-false}
use Rattle.rv_machine.specs.Layout.{bits, word_opcode, word_rd, word_funct3, word_rs1, word_rs2, word_funct7, word_funct6, word_funct12, word_funct5, word_fmt, word_vm, i_bits, s_bits, b_bits, u_bits, j_bits, i_imm, s_imm, b_imm, u_imm, j_imm}
use Rattle.rv_disasm.specs.Placing.{i_place, s_place, b_place, u_place, j_place}
use Rattle.rv_disasm.proofs.Sums.{held, held_5, held_12, held_13, held_20, held_21, sum_2, sum_3, sum_4, sum_5, sum_6, s_placed, b_placed, j_placed, r_split, i_split, u_split, j_split, b_split}

-- ---- fields

pub rd_held : (w : ℕ) → held (pos (word_rd w)) % 2 ^ 5 ≡ word_rd w
rd_held w = held_5 (word_rd w) (omega arith)

pub rs1_held : (w : ℕ) → held (pos (word_rs1 w)) % 2 ^ 5 ≡ word_rs1 w
rs1_held w = held_5 (word_rs1 w) (omega arith)

pub rs2_held : (w : ℕ) → held (pos (word_rs2 w)) % 2 ^ 5 ≡ word_rs2 w
rs2_held w = held_5 (word_rs2 w) (omega arith)

pub rs3_held : (w : ℕ) → held (pos (word_funct5 w)) % 2 ^ 5 ≡ word_funct5 w
rs3_held w = held_5 (word_funct5 w) (omega arith)

pub rm_held : (w : ℕ) → held (pos (word_funct3 w)) % 2 ^ 3 ≡ word_funct3 w
rm_held w = omega (arith, ints)

pub ordering_held : (w : ℕ) → held (pos (word_fmt w)) % 2 ^ 2 ≡ word_fmt w
ordering_held w = omega (arith, ints)

pub funct6_held : (w : ℕ) → held (pos (word_funct6 w)) % 2 ^ 6 ≡ word_funct6 w
funct6_held w = omega (arith, ints)

pub mask_held : (w : ℕ) → held (pos (from_bool (word_vm w))) % 2 ≡ bits w 25 25
mask_held w = on (bits w 25 25 == 1) refl
  where
    on : (t : Bool) → (bits w 25 25 == 1) ≡ t → held (pos (from_bool t)) % 2 ≡ bits w 25 25
    on true e = let one : bits w 25 25 ≡ 1 = eqb-true (bits w 25 25) 1 e in omega (arith, ints)
    on false e = let zero_bit : bits w 25 25 ≡ 0 = below_two (bits w 25 25) (omega arith) (eqb-false (bits w 25 25) 1 e) in omega (arith, ints)
      where
        below_two : (n : ℕ) → n < 2 → (n ≡ 1 → ⊥) → n ≡ 0
        below_two n h other = grind arith

pub i_held : (w : ℕ) → i_place (held (i_imm w)) ≡ word_funct12 w * 2 ^ 20
i_held w = let e : held (i_imm w) % 2 ^ 12 ≡ i_bits w = held_12 (i_bits w) (omega arith) in omega arith

pub u_held : (w : ℕ) → u_place (held (u_imm w)) ≡ u_bits w * 2 ^ 12
u_held w = let e : held (u_imm w) % 2 ^ 20 ≡ u_bits w = held_20 (u_bits w) (omega arith) in omega arith

pub s_held : (w : ℕ) → s_place (held (s_imm w)) ≡ word_rd w * 2 ^ 7 + word_funct7 w * 2 ^ 25
s_held w = s_placed (held (s_imm w)) (word_funct7 w) (word_rd w) (omega arith) (omega arith) (held_12 (s_bits w) (omega arith))

pub b_held : (w : ℕ) → b_place (held (b_imm w)) ≡ bits w 7 7 * 2 ^ 7 + bits w 11 8 * 2 ^ 8 + bits w 30 25 * 2 ^ 25 + bits w 31 31 * 2 ^ 31
b_held w = b_placed (held (b_imm w)) (bits w 31 31) (bits w 7 7) (bits w 30 25) (bits w 11 8) (omega arith) (omega arith) (omega arith) (omega arith) (held_13 (b_bits w) (omega arith))

pub j_held : (w : ℕ) → j_place (held (j_imm w)) ≡ bits w 19 12 * 2 ^ 12 + bits w 20 20 * 2 ^ 20 + bits w 30 21 * 2 ^ 21 + bits w 31 31 * 2 ^ 31
j_held w = j_placed (held (j_imm w)) (bits w 31 31) (bits w 19 12) (bits w 20 20) (bits w 30 21) (omega arith) (omega arith) (omega arith) (omega arith) (held_21 (j_bits w) (omega arith))

-- ---- layouts

pub of_u : (w opc : ℕ) → w < 2 ^ 32 → word_opcode w ≡ opc
    → ((opc + held (pos (word_rd w)) % 2 ^ 5 * 2 ^ 7) % 2 ^ 32 + u_place (held (u_imm w))) % 2 ^ 32 ≡ w
of_u w opc h e_opc =
    let l_rd = rd_held w in
    let l_u = u_held w in
    let whole = u_split w h in
    sum_2 w _ _ _ h (omega (arith, ints))

pub of_j : (w opc : ℕ) → w < 2 ^ 32 → word_opcode w ≡ opc
    → ((opc + held (pos (word_rd w)) % 2 ^ 5 * 2 ^ 7) % 2 ^ 32 + j_place (held (j_imm w))) % 2 ^ 32 ≡ w
of_j w opc h e_opc =
    let l_rd = rd_held w in
    let l_j = j_held w in
    let whole = j_split w h in
    sum_2 w _ _ _ h (omega (arith, ints))

pub of_i : (w opc f3 : ℕ) → w < 2 ^ 32 → word_opcode w ≡ opc → word_funct3 w ≡ f3
    → ((((opc + f3 * 2 ^ 12) + held (pos (word_rd w)) % 2 ^ 5 * 2 ^ 7) % 2 ^ 32 + held (pos (word_rs1 w)) % 2 ^ 5 * 2 ^ 15) % 2 ^ 32 + i_place (held (i_imm w))) % 2 ^ 32 ≡ w
of_i w opc f3 h e_opc e_f3 =
    let l_rd = rd_held w in
    let l_rs1 = rs1_held w in
    let l_i = i_held w in
    let whole = i_split w h in
    sum_3 w _ _ _ _ h (omega (arith, ints))

pub of_shift : (w opc f3 f6 : ℕ) → w < 2 ^ 32 → word_opcode w ≡ opc → word_funct3 w ≡ f3 → word_funct6 w ≡ f6
    → ((((opc + f3 * 2 ^ 12 + f6 * 2 ^ 26) + held (pos (word_rd w)) % 2 ^ 5 * 2 ^ 7) % 2 ^ 32 + held (pos (word_rs1 w)) % 2 ^ 5 * 2 ^ 15) % 2 ^ 32 + i_place (held (pos (bits w 25 20)))) % 2 ^ 32 ≡ w
of_shift w opc f3 f6 h e_opc e_f3 e_f6 =
    let l_rd = rd_held w in
    let l_rs1 = rs1_held w in
    let whole = i_split w h in
    sum_3 w _ _ _ _ h (omega (arith, ints))

pub of_shift_32 : (w opc f3 f7 : ℕ) → w < 2 ^ 32 → word_opcode w ≡ opc → word_funct3 w ≡ f3 → word_funct7 w ≡ f7
    → ((((opc + f3 * 2 ^ 12 + f7 * 2 ^ 25) + held (pos (word_rd w)) % 2 ^ 5 * 2 ^ 7) % 2 ^ 32 + held (pos (word_rs1 w)) % 2 ^ 5 * 2 ^ 15) % 2 ^ 32 + i_place (held (pos (bits w 24 20)))) % 2 ^ 32 ≡ w
of_shift_32 w opc f3 f7 h e_opc e_f3 e_f7 =
    let l_rd = rd_held w in
    let l_rs1 = rs1_held w in
    let whole = r_split w h in
    sum_3 w _ _ _ _ h (omega (arith, ints))

pub of_unary : (w opc f3 f12 : ℕ) → w < 2 ^ 32 → word_opcode w ≡ opc → word_funct3 w ≡ f3 → word_funct12 w ≡ f12
    → (((opc + f3 * 2 ^ 12 + f12 * 2 ^ 20) + held (pos (word_rd w)) % 2 ^ 5 * 2 ^ 7) % 2 ^ 32 + held (pos (word_rs1 w)) % 2 ^ 5 * 2 ^ 15) % 2 ^ 32 ≡ w
of_unary w opc f3 f12 h e_opc e_f3 e_f12 =
    let l_rd = rd_held w in
    let l_rs1 = rs1_held w in
    let whole = i_split w h in
    sum_2 w _ _ _ h (omega (arith, ints))

pub of_r : (w opc f3 f7 : ℕ) → w < 2 ^ 32 → word_opcode w ≡ opc → word_funct3 w ≡ f3 → word_funct7 w ≡ f7
    → ((((opc + f3 * 2 ^ 12 + f7 * 2 ^ 25) + held (pos (word_rd w)) % 2 ^ 5 * 2 ^ 7) % 2 ^ 32 + held (pos (word_rs1 w)) % 2 ^ 5 * 2 ^ 15) % 2 ^ 32 + held (pos (word_rs2 w)) % 2 ^ 5 * 2 ^ 20) % 2 ^ 32 ≡ w
of_r w opc f3 f7 h e_opc e_f3 e_f7 =
    let l_rd = rd_held w in
    let l_rs1 = rs1_held w in
    let l_rs2 = rs2_held w in
    let whole = r_split w h in
    sum_3 w _ _ _ _ h (omega (arith, ints))

pub of_s : (w opc f3 : ℕ) → w < 2 ^ 32 → word_opcode w ≡ opc → word_funct3 w ≡ f3
    → ((((opc + f3 * 2 ^ 12) + held (pos (word_rs1 w)) % 2 ^ 5 * 2 ^ 15) % 2 ^ 32 + held (pos (word_rs2 w)) % 2 ^ 5 * 2 ^ 20) % 2 ^ 32 + s_place (held (s_imm w))) % 2 ^ 32 ≡ w
of_s w opc f3 h e_opc e_f3 =
    let l_rs1 = rs1_held w in
    let l_rs2 = rs2_held w in
    let l_s = s_held w in
    let whole = r_split w h in
    sum_3 w _ _ _ _ h (omega (arith, ints))

pub of_b : (w opc f3 : ℕ) → w < 2 ^ 32 → word_opcode w ≡ opc → word_funct3 w ≡ f3
    → ((((opc + f3 * 2 ^ 12) + held (pos (word_rs1 w)) % 2 ^ 5 * 2 ^ 15) % 2 ^ 32 + held (pos (word_rs2 w)) % 2 ^ 5 * 2 ^ 20) % 2 ^ 32 + b_place (held (b_imm w))) % 2 ^ 32 ≡ w
of_b w opc f3 h e_opc e_f3 =
    let l_rs1 = rs1_held w in
    let l_rs2 = rs2_held w in
    let l_b = b_held w in
    let whole = b_split w h in
    sum_3 w _ _ _ _ h (omega (arith, ints))

pub of_fence : (w opc f3 drd drs1 sh : ℕ) → w < 2 ^ 32 → word_opcode w ≡ opc → word_funct3 w ≡ f3 → word_rd w ≡ drd → word_rs1 w ≡ drs1 → bits w 31 28 ≡ sh
    → (((opc + f3 * 2 ^ 12 + drd * 2 ^ 7 + drs1 * 2 ^ 15 + sh * 2 ^ 28) + held (pos (unsigned_abs (pos (bits w 27 20)) / 2 ^ 4)) % 2 ^ 4 * 2 ^ 24) % 2 ^ 32 + held (pos (unsigned_abs (pos (bits w 27 20)) % 2 ^ 4)) % 2 ^ 4 * 2 ^ 20) % 2 ^ 32 ≡ w
of_fence w opc f3 drd drs1 sh h e_opc e_f3 e_drd e_drs1 e_sh =
    let whole = i_split w h in
    sum_2 w _ _ _ h (omega (arith, ints))

pub of_amo : (w opc f5 f3 : ℕ) → w < 2 ^ 32 → word_opcode w ≡ opc → word_funct5 w ≡ f5 → word_funct3 w ≡ f3
    → ((((((opc + f5 * 2 ^ 27) + f3 * 2 ^ 12) + held (pos (word_rd w)) % 2 ^ 5 * 2 ^ 7) % 2 ^ 32 + held (pos (word_rs1 w)) % 2 ^ 5 * 2 ^ 15) % 2 ^ 32 + held (pos (word_rs2 w)) % 2 ^ 5 * 2 ^ 20) % 2 ^ 32 + held (pos (word_fmt w)) % 2 ^ 2 * 2 ^ 25) % 2 ^ 32 ≡ w
of_amo w opc f5 f3 h e_opc e_f5 e_f3 =
    let l_rd = rd_held w in
    let l_rs1 = rs1_held w in
    let l_rs2 = rs2_held w in
    let l_ord = ordering_held w in
    let whole = r_split w h in
    sum_4 w _ _ _ _ _ h (omega (arith, ints))

pub of_lr : (w opc f5 f3 sel : ℕ) → w < 2 ^ 32 → word_opcode w ≡ opc → word_funct5 w ≡ f5 → word_funct3 w ≡ f3 → word_rs2 w ≡ sel
    → (((((opc + f5 * 2 ^ 27 + sel * 2 ^ 20) + f3 * 2 ^ 12) + held (pos (word_rd w)) % 2 ^ 5 * 2 ^ 7) % 2 ^ 32 + held (pos (word_rs1 w)) % 2 ^ 5 * 2 ^ 15) % 2 ^ 32 + held (pos (word_fmt w)) % 2 ^ 2 * 2 ^ 25) % 2 ^ 32 ≡ w
of_lr w opc f5 f3 sel h e_opc e_f5 e_f3 e_sel =
    let l_rd = rd_held w in
    let l_rs1 = rs1_held w in
    let l_ord = ordering_held w in
    let whole = r_split w h in
    sum_3 w _ _ _ _ h (omega (arith, ints))

pub of_fused : (w opc fmt : ℕ) → w < 2 ^ 32 → word_opcode w ≡ opc → word_fmt w ≡ fmt
    → (((((((opc) + fmt * 2 ^ 25) + held (pos (word_rd w)) % 2 ^ 5 * 2 ^ 7) % 2 ^ 32 + held (pos (word_rs1 w)) % 2 ^ 5 * 2 ^ 15) % 2 ^ 32 + held (pos (word_rs2 w)) % 2 ^ 5 * 2 ^ 20) % 2 ^ 32 + held (pos (word_funct5 w)) % 2 ^ 5 * 2 ^ 27) % 2 ^ 32 + held (pos (word_funct3 w)) % 2 ^ 3 * 2 ^ 12) % 2 ^ 32 ≡ w
of_fused w opc fmt h e_opc e_fmt =
    let l_rd = rd_held w in
    let l_rs1 = rs1_held w in
    let l_rs2 = rs2_held w in
    let l_rs3 = rs3_held w in
    let l_rm = rm_held w in
    let whole = r_split w h in
    sum_5 w _ _ _ _ _ _ h (omega (arith, ints))

pub of_rounded : (w opc f5 fmt : ℕ) → w < 2 ^ 32 → word_opcode w ≡ opc → word_funct5 w ≡ f5 → word_fmt w ≡ fmt
    → ((((((opc + f5 * 2 ^ 27) + fmt * 2 ^ 25) + held (pos (word_rd w)) % 2 ^ 5 * 2 ^ 7) % 2 ^ 32 + held (pos (word_rs1 w)) % 2 ^ 5 * 2 ^ 15) % 2 ^ 32 + held (pos (word_rs2 w)) % 2 ^ 5 * 2 ^ 20) % 2 ^ 32 + held (pos (word_funct3 w)) % 2 ^ 3 * 2 ^ 12) % 2 ^ 32 ≡ w
of_rounded w opc f5 fmt h e_opc e_f5 e_fmt =
    let l_rd = rd_held w in
    let l_rs1 = rs1_held w in
    let l_rs2 = rs2_held w in
    let l_rm = rm_held w in
    let whole = r_split w h in
    sum_4 w _ _ _ _ _ h (omega (arith, ints))

pub of_rounded_unary : (w opc f5 sel fmt : ℕ) → w < 2 ^ 32 → word_opcode w ≡ opc → word_funct5 w ≡ f5 → word_rs2 w ≡ sel → word_fmt w ≡ fmt
    → (((((opc + f5 * 2 ^ 27 + sel * 2 ^ 20) + fmt * 2 ^ 25) + held (pos (word_rd w)) % 2 ^ 5 * 2 ^ 7) % 2 ^ 32 + held (pos (word_rs1 w)) % 2 ^ 5 * 2 ^ 15) % 2 ^ 32 + held (pos (word_funct3 w)) % 2 ^ 3 * 2 ^ 12) % 2 ^ 32 ≡ w
of_rounded_unary w opc f5 sel fmt h e_opc e_f5 e_sel e_fmt =
    let l_rd = rd_held w in
    let l_rs1 = rs1_held w in
    let l_rm = rm_held w in
    let whole = r_split w h in
    sum_3 w _ _ _ _ h (omega (arith, ints))

pub of_float : (w opc f5 f3 fmt : ℕ) → w < 2 ^ 32 → word_opcode w ≡ opc → word_funct5 w ≡ f5 → word_funct3 w ≡ f3 → word_fmt w ≡ fmt
    → (((((opc + f5 * 2 ^ 27 + f3 * 2 ^ 12) + fmt * 2 ^ 25) + held (pos (word_rd w)) % 2 ^ 5 * 2 ^ 7) % 2 ^ 32 + held (pos (word_rs1 w)) % 2 ^ 5 * 2 ^ 15) % 2 ^ 32 + held (pos (word_rs2 w)) % 2 ^ 5 * 2 ^ 20) % 2 ^ 32 ≡ w
of_float w opc f5 f3 fmt h e_opc e_f5 e_f3 e_fmt =
    let l_rd = rd_held w in
    let l_rs1 = rs1_held w in
    let l_rs2 = rs2_held w in
    let whole = r_split w h in
    sum_3 w _ _ _ _ h (omega (arith, ints))

pub of_float_unary : (w opc f5 sel f3 fmt : ℕ) → w < 2 ^ 32 → word_opcode w ≡ opc → word_funct5 w ≡ f5 → word_rs2 w ≡ sel → word_funct3 w ≡ f3 → word_fmt w ≡ fmt
    → ((((opc + f5 * 2 ^ 27 + sel * 2 ^ 20 + f3 * 2 ^ 12) + fmt * 2 ^ 25) + held (pos (word_rd w)) % 2 ^ 5 * 2 ^ 7) % 2 ^ 32 + held (pos (word_rs1 w)) % 2 ^ 5 * 2 ^ 15) % 2 ^ 32 ≡ w
of_float_unary w opc f5 sel f3 fmt h e_opc e_f5 e_sel e_f3 e_fmt =
    let l_rd = rd_held w in
    let l_rs1 = rs1_held w in
    let whole = r_split w h in
    sum_2 w _ _ _ h (omega (arith, ints))

pub of_vector_memory : (w opc f3 hi sel : ℕ) → w < 2 ^ 32 → word_opcode w ≡ opc → word_funct3 w ≡ f3 → bits w 31 26 ≡ hi → word_rs2 w ≡ sel
    → ((((opc + f3 * 2 ^ 12 + hi * 2 ^ 26 + sel * 2 ^ 20) + held (pos (word_rd w)) % 2 ^ 5 * 2 ^ 7) % 2 ^ 32 + held (pos (word_rs1 w)) % 2 ^ 5 * 2 ^ 15) % 2 ^ 32 + held (pos (from_bool (word_vm w))) % 2 * 2 ^ 25) % 2 ^ 32 ≡ w
of_vector_memory w opc f3 hi sel h e_opc e_f3 e_hi e_sel =
    let l_rd = rd_held w in
    let l_rs1 = rs1_held w in
    let l_mask = mask_held w in
    let whole = r_split w h in
    sum_3 w _ _ _ _ h (omega (arith, ints))

pub of_length : (w opc f3 top : ℕ) → w < 2 ^ 32 → word_opcode w ≡ opc → word_funct3 w ≡ f3 → bits w 31 30 ≡ top
    → ((((opc + f3 * 2 ^ 12 + top * 2 ^ 30) + held (pos (word_rd w)) % 2 ^ 5 * 2 ^ 7) % 2 ^ 32 + held (pos (word_rs1 w)) % 2 ^ 5 * 2 ^ 15) % 2 ^ 32 + i_place (held (pos (bits w 29 20)))) % 2 ^ 32 ≡ w
of_length w opc f3 top h e_opc e_f3 e_top =
    let l_rd = rd_held w in
    let l_rs1 = rs1_held w in
    let whole = i_split w h in
    sum_3 w _ _ _ _ h (omega (arith, ints))

pub of_vector : (w opc : ℕ) → w < 2 ^ 32 → word_opcode w ≡ opc
    → ((((((opc + held (pos (word_funct6 w)) % 2 ^ 6 * 2 ^ 26) % 2 ^ 32 + held (pos (word_funct3 w)) % 2 ^ 3 * 2 ^ 12) % 2 ^ 32 + held (pos (word_rd w)) % 2 ^ 5 * 2 ^ 7) % 2 ^ 32 + held (pos (word_rs2 w)) % 2 ^ 5 * 2 ^ 20) % 2 ^ 32 + held (pos (word_rs1 w)) % 2 ^ 5 * 2 ^ 15) % 2 ^ 32 + held (pos (from_bool (word_vm w))) % 2 * 2 ^ 25) % 2 ^ 32 ≡ w
of_vector w opc h e_opc =
    let l_f6 = funct6_held w in
    let l_rm = rm_held w in
    let l_rd = rd_held w in
    let l_rs2 = rs2_held w in
    let l_rs1 = rs1_held w in
    let l_mask = mask_held w in
    let whole = r_split w h in
    sum_6 w _ _ _ _ _ _ _ h (omega (arith, ints))
