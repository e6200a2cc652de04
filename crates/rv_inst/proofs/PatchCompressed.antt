-- Windows of two bytes: a jump of sixteen bits.
use Rattle.std.proofs.Common.{◌≡◌, ℕ, ◌+◌, ◌*◌, ◌/◌, ◌%◌, ◌<◌, List, [], ◌∷◌, ◌++◌, take, drop, slice_index, ap, sym, subst, ◌∙◌, arith, bit_and, bit_or}
use Rattle.std.proofs.lemmas.Nat.{and_mask, or_block, or_comm}
use Rattle.std.proofs.lemmas.Nat.Bits.{and_high}
use Rattle.std.specs.Int.Bits.{or_shifted_r}
use Rattle.rv_base.specs.LabelUse.{IsFresh, SameOutside}
use Rattle.rv_machine.specs.State.{signed}
use Rattle.rv_machine.specs.Layout.{bits}
use Rattle.rv_machine.specs.Compressed.{cj_bits, cj_imm}
use Rattle.rv_inst.specs.LabelUseWords.{half_at, half_bytes, AreTwoBytes, compressed_jump_bits}

-- ---- a fresh halfword

low_two : (b : ℕ) → b < 256 → bit_and b 0xfc ≡ 0 → b < 4
low_two b h e = let f : bit_and b 252 ≡ (b / 4 % 64) * 4 = and_high b 6 2 in omega (arith, f, e)

high_three : (b : ℕ) → bit_and b 0x1f ≡ 0 → b % 32 ≡ 0
high_three b e = let f : bit_and b 31 ≡ b % 32 = and_mask b 5 in omega (arith, f, e)

-- its bits 1 and 0, and 15 to 13
pub record IsJumpFresh (half : ℕ) : Type 0 where
  pub low : ℕ
  pub high : ℕ
  pub low_in : low < 4
  pub high_in : high < 8
  pub sum : half ≡ high * 8192 + low

fresh_half : (old : List ℕ) → AreTwoBytes old → IsFresh (0xfc ∷ 0x1f ∷ []) old → IsJumpFresh (half_at old)
fresh_half old b f =
    let first = low_two (slice_index old 0) b.first f.0 in
    let second = high_three (slice_index old 1) f.1.0 in
    record { low = slice_index old 0; high = slice_index old 1 / 32; low_in = first; high_in = omega (arith, b.second); sum = omega (arith, second) }

-- ---- a distance's bits

-- the pieces of a distance, in the order of their places
pub record Pieces : Type 0 where
  pub bit_5 : ℕ
  pub bits_3 : ℕ
  pub bit_7 : ℕ
  pub bit_6 : ℕ
  pub bit_10 : ℕ
  pub bits_9 : ℕ
  pub bit_4 : ℕ
  pub bit_11 : ℕ

pub record InRange (p : Pieces) : Type 0 where
  pub bit_5 : p.bit_5 < 2
  pub bits_3 : p.bits_3 < 8
  pub bit_7 : p.bit_7 < 2
  pub bit_6 : p.bit_6 < 2
  pub bit_10 : p.bit_10 < 2
  pub bits_9 : p.bits_9 < 4
  pub bit_4 : p.bit_4 < 2
  pub bit_11 : p.bit_11 < 2

abbrev pieces_of : ℕ → Pieces
pieces_of n = record { bit_5 = n / 32 % 2; bits_3 = n / 2 % 8; bit_7 = n / 128 % 2; bit_6 = n / 64 % 2; bit_10 = n / 1024 % 2; bits_9 = n / 256 % 4; bit_4 = n / 16 % 2; bit_11 = n / 2048 }

pieces_in : (n : ℕ) → n < 4096 → InRange (pieces_of n)
pieces_in n h = record { bit_5 = omega arith; bits_3 = omega arith; bit_7 = omega arith; bit_6 = omega arith; bit_10 = omega arith; bits_9 = omega arith; bit_4 = omega arith; bit_11 = omega arith }

abbrev placed : Pieces → ℕ
placed p = p.bit_5 * 4 + p.bits_3 * 8 + p.bit_7 * 64 + p.bit_6 * 128 + p.bit_10 * 256 + p.bits_9 * 512 + p.bit_4 * 2048 + p.bit_11 * 4096

-- a number of four, below 2 ^ 13
abbrev fours : Pieces → ℕ
fours p = p.bit_5 + p.bits_3 * 2 + p.bit_7 * 16 + p.bit_6 * 32 + p.bit_10 * 64 + p.bits_9 * 128 + p.bit_4 * 512 + p.bit_11 * 1024

placed_fours : (p : Pieces) → placed p ≡ fours p * 4
placed_fours p = omega arith

fours_in : (p : Pieces) → InRange p → fours p < 2048
fours_in p h = omega (arith, h.bit_5, h.bits_3, h.bit_7, h.bit_6, h.bit_10, h.bits_9, h.bit_4, h.bit_11)

or_fours : (high low m : ℕ) → low < 4 → m < 2048 → bit_or (high * 8192 + low) (m * 4) ≡ high * 8192 + (m * 4 + low)
or_fours high low m hl hm =
    let none : m * 4 ≡ 0 * 8192 + m * 4 = omega arith in
    let block : bit_or (high * 8192 + low) (0 * 8192 + m * 4) ≡ bit_or high 0 * 8192 + bit_or low (m * 4) = or_block 13 high 0 low (m * 4) (omega arith) (omega arith) in
    let lower : bit_or low (m * 4) ≡ m * 4 + low = or_shifted_r m 2 low hl in
    let upper : bit_or high 0 ≡ high = or_comm high 0 in
    let same = ap (λ (k : ℕ). bit_or (high * 8192 + low) k) none in
    omega (arith, none, block, lower, upper, same)

or_jump : (half n : ℕ) (f : IsJumpFresh half) → n < 4096 → bit_or half (compressed_jump_bits n) ≡ f.high * 8192 + (compressed_jump_bits n + f.low)
or_jump half n f h =
    let four = placed_fours (pieces_of n) in
    (λ i. bit_or (f.sum i) (four i)) ∙ or_fours f.high f.low (fours (pieces_of n)) f.low_in (fours_in (pieces_of n) (pieces_in n h)) ∙ ap (λ (m : ℕ). f.high * 8192 + (m + f.low)) (sym four)

-- ---- the distance that the new halfword holds

-- a halfword of these pieces, and what is read at the places of each
abbrev made : Pieces → ℕ → ℕ → ℕ
made p high low = high * 8192 + (placed p + low)

read_pieces : (p : Pieces) → InRange p → (high low : ℕ) → low < 4 → high < 8 →
    cj_bits (made p high low) ≡ p.bit_11 * 2048 + p.bit_10 * 1024 + p.bits_9 * 256 + p.bit_7 * 128 + p.bit_6 * 64 + p.bit_5 * 32 + p.bit_4 * 16 + p.bits_3 * 2
read_pieces p h high low hl hh =
    let e11 : bits (made p high low) 12 12 ≡ p.bit_11 = omega (arith, h.bit_5, h.bits_3, h.bit_7, h.bit_6, h.bit_10, h.bits_9, h.bit_4, h.bit_11) in
    let e10 : bits (made p high low) 8 8 ≡ p.bit_10 = omega (arith, h.bit_5, h.bits_3, h.bit_7, h.bit_6, h.bit_10) in
    let e9 : bits (made p high low) 10 9 ≡ p.bits_9 = omega (arith, h.bit_5, h.bits_3, h.bit_7, h.bit_6, h.bit_10, h.bits_9) in
    let e7 : bits (made p high low) 6 6 ≡ p.bit_7 = omega (arith, h.bit_5, h.bits_3, h.bit_7) in
    let e6 : bits (made p high low) 7 7 ≡ p.bit_6 = omega (arith, h.bit_5, h.bits_3, h.bit_7, h.bit_6) in
    let e5 : bits (made p high low) 2 2 ≡ p.bit_5 = omega (arith, h.bit_5) in
    let e4 : bits (made p high low) 11 11 ≡ p.bit_4 = omega (arith, h.bit_5, h.bits_3, h.bit_7, h.bit_6, h.bit_10, h.bits_9, h.bit_4) in
    let e3 : bits (made p high low) 5 3 ≡ p.bits_3 = omega (arith, h.bit_5, h.bits_3) in
    λ i. e11 i * 2048 + e10 i * 1024 + e9 i * 256 + e7 i * 128 + e6 i * 64 + e5 i * 32 + e4 i * 16 + e3 i * 2

gathered : (n : ℕ) → n % 2 ≡ 0 → n / 2048 * 2048 + n / 1024 % 2 * 1024 + n / 256 % 4 * 256 + n / 128 % 2 * 128 + n / 64 % 2 * 64 + n / 32 % 2 * 32 + n / 16 % 2 * 16 + n / 2 % 8 * 2 ≡ n
gathered n e = omega (arith, e)

distance_held : (half n : ℕ) → IsJumpFresh half → n < 4096 → n % 2 ≡ 0 → cj_imm (bit_or half (compressed_jump_bits n)) ≡ signed 2048 n
distance_held half n f h e =
    ap cj_imm (or_jump half n f h)
    ∙ ap (signed 2048) (read_pieces (pieces_of n) (pieces_in n h) f.high f.low f.low_in f.high_in ∙ gathered n e)

-- a halfword's bytes are the halfword
whole_half : (half : ℕ) → half < 65536 → half % 256 + 256 * (half / 256 % 256) ≡ half
whole_half half h = omega arith

jump_half : (half n : ℕ) (f : IsJumpFresh half) → n < 4096 → bit_or half (compressed_jump_bits n) < 65536
jump_half half n f h =
    let small = fours_in (pieces_of n) (pieces_in n h) in
    let four = placed_fours (pieces_of n) in
    let sum = or_jump half n f h in
    omega (arith, small, four, sum, f.low_in, f.high_in)

pub compressed_jump_holds : (old new : List ℕ) (n : ℕ) → new ≡ half_bytes (bit_or (half_at old) (compressed_jump_bits n)) ++ drop 2 old → AreTwoBytes old → IsFresh (0xfc ∷ 0x1f ∷ []) old →
    n < 4096 → n % 2 ≡ 0 → cj_imm (half_at (take 2 new)) ≡ signed 2048 n
compressed_jump_holds old new n h b f hn e =
    let fresh = fresh_half old b f in
    ap (λ s. cj_imm (half_at (take 2 s))) h ∙ ap cj_imm (whole_half (bit_or (half_at old) (compressed_jump_bits n)) (jump_half (half_at old) n fresh hn)) ∙ distance_held (half_at old) n fresh hn e

-- ---- the bits that stay

keeps_two : (x y : ℕ) → x % 4 ≡ y % 4 → bit_and x 3 ≡ bit_and y 3
keeps_two x y e = and_mask x 2 ∙ e ∙ sym (and_mask y 2)

keeps_three : (x y : ℕ) → x / 32 % 8 ≡ y / 32 % 8 → bit_and x 224 ≡ bit_and y 224
keeps_three x y e = and_high x 3 5 ∙ ap (λ (m : ℕ). m * 32) e ∙ sym (and_high y 3 5)

jump_bytes : (a b m half : ℕ) → a < 4 → b < 256 → b % 32 ≡ 0 → m < 2048 → half ≡ b / 32 * 8192 + (m * 4 + a) → (half % 256 % 4 ≡ a % 4) × (half / 256 % 256 / 32 % 8 ≡ b / 32 % 8)
jump_bytes a b m half ha hb hb' hm e = (omega arith, omega arith)

pub compressed_jump_keeps : (old new : List ℕ) (n : ℕ) → new ≡ half_bytes (bit_or (half_at old) (compressed_jump_bits n)) ++ drop 2 old → AreTwoBytes old → IsFresh (0xfc ∷ 0x1f ∷ []) old →
    n < 4096 → SameOutside (0xfc ∷ 0x1f ∷ []) old new
unfolding fresh_half
compressed_jump_keeps old new n h b f hn =
    let first = low_two (slice_index old 0) b.first f.0 in
    let second = high_three (slice_index old 1) f.1.0 in
    let sum = or_jump (half_at old) n (fresh_half old b f) hn ∙ ap (λ (m : ℕ). slice_index old 1 / 32 * 8192 + (m + slice_index old 0)) (placed_fours (pieces_of n)) in
    let kept = jump_bytes (slice_index old 0) (slice_index old 1) (fours (pieces_of n)) (bit_or (half_at old) (compressed_jump_bits n)) first b.second second (fours_in (pieces_of n) (pieces_in n hn)) sum in
    let P : List ℕ → Type 0 = λ s. SameOutside (0xfc ∷ 0x1f ∷ []) old s in
    subst P (sym h) (keeps_two _ _ kept.0, (keeps_three _ _ kept.1, tt))
