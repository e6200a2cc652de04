-- A word is the sum of its fields, each where it stands.
use Rattle.std.proofs.Common.{◌≡◌, ℕ, suc, ◌+◌, ◌-◌, ◌*◌, ◌%◌, ◌^◌, ◌<◌, ◌≤◌, Bool, true, false, cond, ℤ, pos, negsuc, refl, arith, w64}
use Rattle.std.specs.Prelude.{nat_lt}
use Rattle.std.specs.Int.{cast_unsigned}
use Rattle.std.proofs.lemmas.Int.{ints}
use Rattle.std.proofs.lemmas.Bool.{ltb-true, ltb-false}
use Rattle.rv_machine.specs.State.{signed}
use Rattle.rv_machine.specs.Layout.{bits, word_opcode, word_rd, word_funct3, word_rs1, word_rs2, word_funct7, word_funct12, u_bits}
use Rattle.rv_disasm.specs.Placing.{s_place, b_place, j_place}

-- ---- numbers in fields

abbrev pub held : ℤ → ℕ
held z = cast_unsigned w64 z

pub held_pos : (n : ℕ) → n < 2 ^ 63 → held (pos n) ≡ n
held_pos n h = omega (arith, ints)

-- the bits of an immediate, read signed and held in 64 bits again
pub held_6 : (b : ℕ) → b < 2 ^ 6 → held (signed (2 ^ 5) b) % 2 ^ 6 ≡ b
held_6 b h = on (nat_lt b (2 ^ 5)) refl
  where
    on : (t : Bool) → nat_lt b (2 ^ 5) ≡ t → held (cond t (pos b) (negsuc (2 * 2 ^ 5 - suc b))) % 2 ^ 6 ≡ b
    on true e = let low : b < 2 ^ 5 = ltb-true b (2 ^ 5) e in omega (arith, ints)
    on false e = let high : 2 ^ 5 ≤ b = ltb-false b (2 ^ 5) e in omega (arith, ints)

pub held_10 : (b : ℕ) → b < 2 ^ 10 → held (signed (2 ^ 9) b) % 2 ^ 10 ≡ b
held_10 b h = on (nat_lt b (2 ^ 9)) refl
  where
    on : (t : Bool) → nat_lt b (2 ^ 9) ≡ t → held (cond t (pos b) (negsuc (2 * 2 ^ 9 - suc b))) % 2 ^ 10 ≡ b
    on true e = let low : b < 2 ^ 9 = ltb-true b (2 ^ 9) e in omega (arith, ints)
    on false e = let high : 2 ^ 9 ≤ b = ltb-false b (2 ^ 9) e in omega (arith, ints)

pub held_12 : (b : ℕ) → b < 2 ^ 12 → held (signed (2 ^ 11) b) % 2 ^ 12 ≡ b
held_12 b h = on (nat_lt b (2 ^ 11)) refl
  where
    on : (t : Bool) → nat_lt b (2 ^ 11) ≡ t → held (cond t (pos b) (negsuc (2 * 2 ^ 11 - suc b))) % 2 ^ 12 ≡ b
    on true e = let low : b < 2 ^ 11 = ltb-true b (2 ^ 11) e in omega (arith, ints)
    on false e = let high : 2 ^ 11 ≤ b = ltb-false b (2 ^ 11) e in omega (arith, ints)

pub held_13 : (b : ℕ) → b < 2 ^ 13 → held (signed (2 ^ 12) b) % 2 ^ 13 ≡ b
held_13 b h = on (nat_lt b (2 ^ 12)) refl
  where
    on : (t : Bool) → nat_lt b (2 ^ 12) ≡ t → held (cond t (pos b) (negsuc (2 * 2 ^ 12 - suc b))) % 2 ^ 13 ≡ b
    on true e = let low : b < 2 ^ 12 = ltb-true b (2 ^ 12) e in omega (arith, ints)
    on false e = let high : 2 ^ 12 ≤ b = ltb-false b (2 ^ 12) e in omega (arith, ints)

pub held_20 : (b : ℕ) → b < 2 ^ 20 → held (signed (2 ^ 19) b) % 2 ^ 20 ≡ b
held_20 b h = on (nat_lt b (2 ^ 19)) refl
  where
    on : (t : Bool) → nat_lt b (2 ^ 19) ≡ t → held (cond t (pos b) (negsuc (2 * 2 ^ 19 - suc b))) % 2 ^ 20 ≡ b
    on true e = let low : b < 2 ^ 19 = ltb-true b (2 ^ 19) e in omega (arith, ints)
    on false e = let high : 2 ^ 19 ≤ b = ltb-false b (2 ^ 19) e in omega (arith, ints)

pub held_21 : (b : ℕ) → b < 2 ^ 21 → held (signed (2 ^ 20) b) % 2 ^ 21 ≡ b
held_21 b h = on (nat_lt b (2 ^ 20)) refl
  where
    on : (t : Bool) → nat_lt b (2 ^ 20) ≡ t → held (cond t (pos b) (negsuc (2 * 2 ^ 20 - suc b))) % 2 ^ 21 ≡ b
    on true e = let low : b < 2 ^ 20 = ltb-true b (2 ^ 20) e in omega (arith, ints)
    on false e = let high : 2 ^ 20 ≤ b = ltb-false b (2 ^ 20) e in omega (arith, ints)

-- ---- sums that fit 32 bits

pub sum_1 : (w x a : ℕ) → w < 2 ^ 32 → x + a ≡ w → (x + a) % 2 ^ 32 ≡ w
sum_1 w x a h e = omega arith

pub sum_2 : (w x a b : ℕ) → w < 2 ^ 32 → x + a + b ≡ w → ((x + a) % 2 ^ 32 + b) % 2 ^ 32 ≡ w
sum_2 w x a b h e = omega arith

pub sum_3 : (w x a b c : ℕ) → w < 2 ^ 32 → x + a + b + c ≡ w → (((x + a) % 2 ^ 32 + b) % 2 ^ 32 + c) % 2 ^ 32 ≡ w
sum_3 w x a b c h e = omega arith

pub sum_4 : (w x a b c d : ℕ) → w < 2 ^ 32 → x + a + b + c + d ≡ w → ((((x + a) % 2 ^ 32 + b) % 2 ^ 32 + c) % 2 ^ 32 + d) % 2 ^ 32 ≡ w
sum_4 w x a b c d h e = omega arith

pub sum_5 : (w x a b c d e : ℕ) → w < 2 ^ 32 → x + a + b + c + d + e ≡ w → (((((x + a) % 2 ^ 32 + b) % 2 ^ 32 + c) % 2 ^ 32 + d) % 2 ^ 32 + e) % 2 ^ 32 ≡ w
sum_5 w x a b c d e h s = omega arith

pub sum_6 : (w x a b c d e f : ℕ) → w < 2 ^ 32 → x + a + b + c + d + e + f ≡ w → ((((((x + a) % 2 ^ 32 + b) % 2 ^ 32 + c) % 2 ^ 32 + d) % 2 ^ 32 + e) % 2 ^ 32 + f) % 2 ^ 32 ≡ w
sum_6 w x a b c d e f h s = omega arith

-- ---- a register's field

pub held_5 : (n : ℕ) → n < 2 ^ 5 → held (pos n) % 2 ^ 5 ≡ n
held_5 n h = omega (arith, ints)

-- ---- immediates in place

pub s_placed : (n a b : ℕ) → a < 2 ^ 7 → b < 2 ^ 5 → n % 2 ^ 12 ≡ a * 2 ^ 5 + b → s_place n ≡ b * 2 ^ 7 + a * 2 ^ 25
s_placed n a b ha hb e = omega arith

pub b_placed : (n s t u v : ℕ) → s < 2 → t < 2 → u < 2 ^ 6 → v < 2 ^ 4 → n % 2 ^ 13 ≡ s * 2 ^ 12 + t * 2 ^ 11 + u * 2 ^ 5 + v * 2 → b_place n ≡ t * 2 ^ 7 + v * 2 ^ 8 + u * 2 ^ 25 + s * 2 ^ 31
b_placed n s t u v hs ht hu hv e = omega arith

pub j_placed : (n s t u v : ℕ) → s < 2 → t < 2 ^ 8 → u < 2 → v < 2 ^ 10 → n % 2 ^ 21 ≡ s * 2 ^ 20 + t * 2 ^ 12 + u * 2 ^ 11 + v * 2 → j_place n ≡ t * 2 ^ 12 + u * 2 ^ 20 + v * 2 ^ 21 + s * 2 ^ 31
j_placed n s t u v hs ht hu hv e = omega arith

-- ---- words

pub r_split : (w : ℕ) → w < 2 ^ 32 → word_opcode w + word_rd w * 2 ^ 7 + word_funct3 w * 2 ^ 12 + word_rs1 w * 2 ^ 15 + word_rs2 w * 2 ^ 20 + word_funct7 w * 2 ^ 25 ≡ w
r_split w h = omega arith

pub i_split : (w : ℕ) → w < 2 ^ 32 → word_opcode w + word_rd w * 2 ^ 7 + word_funct3 w * 2 ^ 12 + word_rs1 w * 2 ^ 15 + word_funct12 w * 2 ^ 20 ≡ w
i_split w h = omega arith

pub u_split : (w : ℕ) → w < 2 ^ 32 → word_opcode w + word_rd w * 2 ^ 7 + u_bits w * 2 ^ 12 ≡ w
u_split w h = omega arith

pub j_split : (w : ℕ) → w < 2 ^ 32 → word_opcode w + word_rd w * 2 ^ 7 + (bits w 19 12 * 2 ^ 12 + bits w 20 20 * 2 ^ 20 + bits w 30 21 * 2 ^ 21 + bits w 31 31 * 2 ^ 31) ≡ w
j_split w h = omega arith

pub b_split : (w : ℕ) → w < 2 ^ 32 → word_opcode w + (bits w 7 7 * 2 ^ 7 + bits w 11 8 * 2 ^ 8 + bits w 30 25 * 2 ^ 25 + bits w 31 31 * 2 ^ 31) + word_funct3 w * 2 ^ 12 + word_rs1 w * 2 ^ 15 + word_rs2 w * 2 ^ 20 ≡ w
b_split w h = omega arith
