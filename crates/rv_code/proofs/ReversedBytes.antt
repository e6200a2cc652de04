-- Bits in reverse order: the registers of a reversal, and the bits of bytes as a sum of single bits.
use Rattle.rv_code.{proofs.Registers.{count_set, reads_set, reads_other, temporary_set, spare_set, own_set}, proofs.Words.{AreValues, bit_at, is_among, nat_tests, or_add_and, pow-add, pow-suc, pow_below, reg, reversed_bits, reversed_bytes, SameBut, set_reg, shr-shr, Values}}
use Rattle.std.{proofs.Common.{◌≡◌, ◌≢◌, ℕ, ◌%◌, ◌<◌, ◌≤◌, false, [], ◌∷◌, List, length, arith, sym, rules, zero, suc, ◌+◌, ◌-◌, ◌*◌, ◌/◌, ◌^◌, refl, ap, subst, ◌∙◌, lit<, bit_or, bit_and, max}, proofs.lemmas.Nat.Bits.{and_pow, bit_at_or, bit_at-pow_other, bit_at-zero}}

-- ---- the registers of a reversal of bits, and what they hold in its course.

-- the registers, by their numbers, and how many bits are reversed
pub record Reversal : Type 0 where
  pub rd : ℕ
  pub tmp : ℕ
  pub tmp2 : ℕ
  pub step : ℕ
  pub rs : ℕ
  pub bits : ℕ

-- integer registers below x30; those that are written aren't x0, and differ from all others; the bits are those of whole bytes
pub record IsReversal (c : Reversal) : Type 0 where
  pub rd_usable : c.rd < 30
  pub tmp_usable : c.tmp < 30
  pub tmp2_usable : c.tmp2 < 30
  pub step_usable : c.step < 30
  pub rs_usable : c.rs < 30
  pub rd_written : 0 < c.rd
  pub tmp_written : 0 < c.tmp
  pub tmp2_written : 0 < c.tmp2
  pub step_written : 0 < c.step
  pub rd_tmp : c.rd ≢ c.tmp
  pub rd_tmp2 : c.rd ≢ c.tmp2
  pub rd_step : c.rd ≢ c.step
  pub rd_rs : c.rd ≢ c.rs
  pub tmp_tmp2 : c.tmp ≢ c.tmp2
  pub tmp_step : c.tmp ≢ c.step
  pub tmp_rs : c.tmp ≢ c.rs
  pub tmp2_step : c.tmp2 ≢ c.step
  pub tmp2_rs : c.tmp2 ≢ c.rs
  pub step_rs : c.step ≢ c.rs
  pub some : 1 ≤ c.bits
  pub few : c.bits ≤ 64
  pub whole : c.bits % 8 ≡ 0

abbrev pub written : Reversal → List ℕ
written c = c.rd ∷ c.step ∷ c.tmp ∷ c.tmp2 ∷ []

-- how many bits are left, the next one's power, that of the bit to which it goes, and what is set; all else is as it was
pub record Holds (c : Reversal) (left next place got : ℕ) (v w : Values) : Type 0 where
  pub step : reg w c.step ≡ left
  pub tmp : reg w c.tmp ≡ next
  pub tmp2 : reg w c.tmp2 ≡ place
  pub rd : reg w c.rd ≡ got
  pub others : SameBut (written c) v w

-- and of values with all registers
pub record InReversal (c : Reversal) (left next place got : ℕ) (v w : Values) : Type 0 where
  pub all : length w.regs ≡ 31
  pub holds : Holds c left next place got v w

-- and x30 holds a number
pub record Tests (c : Reversal) (left next place got tested : ℕ) (v w : Values) : Type 0 where
  pub now : InReversal c left next place got v w
  pub spare : reg w 30 ≡ tested

-- what is reversed is as it was
pub source_kept : {c : Reversal} {left next place got : ℕ} {v w : Values} → IsReversal c → Holds c left next place got v w → reg w c.rs ≡ reg v c.rs
source_kept {c} h k =
    let other : is_among (written c) c.rs ≡ false = (let a = h.rd_rs in let b = h.tmp_rs in let d = h.tmp2_rs in let e = h.step_rs in grind (arith, nat_tests)) in
    sym (k.others.regs c.rs h.rs_usable other)

pub tmp_set : {c : Reversal} {left next place got : ℕ} {v w : Values} (x : ℕ) → IsReversal c → length w.regs ≡ 31 → Holds c left next place got v w → Holds c left x place got v (set_reg w c.tmp x)
tmp_set {c} {v = v} {w = w} x h hw k = search (rules, reads_other, reads_set, k, h, temporary_set)

pub step_set : {c : Reversal} {left next place got : ℕ} {v w : Values} (x : ℕ) → IsReversal c → length w.regs ≡ 31 → Holds c left next place got v w → Holds c x next place got v (set_reg w c.step x)
step_set {c} {v = v} {w = w} x h hw k = search (rules, reads_other, reads_set, k, h, temporary_set)

pub spare_tests : {c : Reversal} {left next place got : ℕ} {v w : Values} (x : ℕ) → IsReversal c → length w.regs ≡ 31 → Holds c left next place got v w → Tests c left next place got x v (set_reg w 30 x)
spare_tests {c} {v = v} {w = w} x h hw k = search (rules, arith, reads_other, reads_set, count_set, k, h, spare_set)

-- what is set stands in its register, and only temporaries differ beside it
pub same_beside : {c : Reversal} {left next place got : ℕ} {v w : Values} → IsReversal c → AreValues v → Holds c left next place got v w → SameBut (c.step ∷ c.tmp ∷ c.tmp2 ∷ []) (set_reg v c.rd got) w
same_beside {c} {got = got} {v = v} {w = w} h hv k = own_set v w c.rd got hv h.rd_written h.rd_usable k.rd k.others

-- ---- the bits of bytes in reverse order, as a sum of single bits: each goes to the other end of its byte.

-- where a bit goes
abbrev pub mirrored : ℕ → ℕ
mirrored i = 8 * (i / 8) + (7 - i % 8)

-- what so many low bits give
abbrev pub mirrored_bits : ℕ → ℕ → ℕ
mirrored_bits zero n = 0
mirrored_bits (suc i) n = bit_at n i * 2 ^ mirrored i + mirrored_bits i n

scaled : (b p l r : ℕ) → b * (2 ^ 8 * p) + (l + 2 ^ 8 * r) ≡ l + 2 ^ 8 * (b * p + r)
scaled b p l r = omega arith

-- one byte more, below all others
byte_below : (m n : ℕ) → mirrored_bits (8 + m) n ≡ mirrored_bits 8 n + 2 ^ 8 * mirrored_bits m (n / 2 ^ 8)
byte_below zero n = omega arith
byte_below (suc i) n =
    let bit : bit_at n (8 + i) ≡ bit_at (n / 2 ^ 8) i = ap (λ m. m % 2) (sym (shr-shr n 8 i)) in
    let there : mirrored (8 + i) ≡ 8 + mirrored i = omega arith in
    let power : 2 ^ mirrored (8 + i) ≡ 2 ^ 8 * 2 ^ mirrored i = ap (λ k. 2 ^ k) there ∙ pow-add 2 8 (mirrored i) in
    let next : 8 + suc i ≡ suc (8 + i) = omega arith in
    ap (λ m. mirrored_bits m n) next ∙ (λ k. bit k * power k + (byte_below i n) k) ∙ scaled (bit_at (n / 2 ^ 8) i) (2 ^ mirrored i) (mirrored_bits 8 n) (mirrored_bits i (n / 2 ^ 8))

-- so many bytes
pub whole_bytes : (bytes n : ℕ) → mirrored_bits (8 * bytes) n ≡ reversed_bytes bytes n
whole_bytes zero n = refl
whole_bytes (suc bytes) n =
    let e : 8 * suc bytes ≡ 8 + 8 * bytes = omega arith in
    let lowest : mirrored_bits 8 n ≡ reversed_bits 8 n = omega arith in
    ap (λ m. mirrored_bits m n) e ∙ (byte_below (8 * bytes) n) ∙ (λ i. lowest i + 2 ^ 8 * (whole_bytes bytes (n / 2 ^ 8)) i)

-- a bit that isn't set is added
pub or_plus : (a k : ℕ) → bit_at a k ≡ 0 → bit_or a (2 ^ k) ≡ a + 2 ^ k
or_plus a k clear =
    let sum = or_add_and a (2 ^ k) in
    let both : bit_and a (2 ^ k) ≡ 0 * 2 ^ k = and_pow a k ∙ ap (λ b. b * 2 ^ k) clear in
    omega arith

-- where so many low bits go, no bit is set
abbrev pub IsClear : ℕ → ℕ → Type 0
IsClear left a = (j : ℕ) → j < left → bit_at a (mirrored j) ≡ 0

pub all_clear : (left : ℕ) → IsClear left 0
all_clear left j lt = bit_at-zero (mirrored j)

-- also after the next bit
pub clear_after : (i a b : ℕ) → b < 2 → IsClear (suc i) a → IsClear i (a + b * 2 ^ mirrored i)
clear_after i a zero lt clear = subst (IsClear i) (let e : a ≡ a + 0 * 2 ^ mirrored i = omega arith in e) (λ j below. clear j (omega arith))
clear_after i a (suc zero) lt clear =
    let e : a + 2 ^ mirrored i ≡ a + 1 * 2 ^ mirrored i = omega arith in
    subst (IsClear i) (or_plus a (mirrored i) (clear i (omega arith)) ∙ e)
    (λ j below. let other : mirrored j ≢ mirrored i = omega arith in bit_at_or a (2 ^ mirrored i) (mirrored j) ∙ (λ k. max (clear j (omega arith) k) (bit_at-pow_other (mirrored i) (mirrored j) other k)))
clear_after i a (suc (suc b)) lt clear = absurd (omega arith)

-- the bit to which the next of so many goes, and none where none is left
abbrev pub place_of : ℕ → ℕ
place_of zero = 0
place_of (suc i) = 2 ^ mirrored i

-- after the last bit of a byte, to the lowest of the byte below
pub place_down : (i : ℕ) → i % 8 ≡ 0 → 2 ^ mirrored i / 2 ^ 15 ≡ place_of i
place_down zero e = refl
place_down (suc j) e =
    let there : mirrored (suc j) ≡ 15 + mirrored j = omega arith in
    let power : 2 ^ mirrored (suc j) ≡ 2 ^ 15 * 2 ^ mirrored j = ap (λ k. 2 ^ k) there ∙ pow-add 2 15 (mirrored j) in
    omega arith

-- else one up
pub place_up : (i : ℕ) → i % 8 ≢ 0 → 2 ^ mirrored i * 2 ≡ place_of i
place_up zero other = absurd (other refl)
place_up (suc j) other =
    let there : mirrored j ≡ suc (mirrored (suc j)) = omega arith in
    let power = pow-suc 2 (mirrored (suc j)) in
    let same : 2 ^ mirrored j ≡ 2 ^ suc (mirrored (suc j)) = ap (λ k. 2 ^ k) there in
    omega arith

pub place_fits : (left : ℕ) → left ≤ 64 → place_of left < 2 ^ 64
place_fits zero le = lit< tt
place_fits (suc i) le = pow_below (mirrored i) 64 (omega arith)

-- at first, of the bits of whole bytes
pub place_first : (bits : ℕ) → 1 ≤ bits → bits % 8 ≡ 0 → 2 ^ (bits - 8) ≡ place_of bits
place_first zero some whole = absurd (omega arith)
place_first (suc i) some whole = let e : suc i - 8 ≡ mirrored i = omega arith in ap (λ k. 2 ^ k) e
