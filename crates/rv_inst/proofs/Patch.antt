-- Windows that hold a whole distance.
use Rattle.std.proofs.Common.{◌≡◌, ℕ, ◌+◌, ◌*◌, ◌/◌, ◌%◌, ◌<◌, ◌≤◌, List, [], ◌∷◌, ◌++◌, take, drop, slice_index, refl, ap, sym, subst, ◌∙◌, pos, ◌-ℤ◌, arith, bit_and, bit_or}
use Rattle.std.proofs.lemmas.Int.{ints}
use Rattle.std.proofs.lemmas.Nat.{and_mask, or_block, and_comm, or_comm}
use Rattle.std.proofs.lemmas.Nat.Bits.{and_high}
use Rattle.std.specs.Int.Bits.{or_shifted_r}
use Rattle.rv_machine.specs.State.{signed}
use Rattle.rv_machine.specs.Layout.{j_imm, b_imm, j_bits, b_bits}
use Rattle.rv_base.specs.LabelUse.{IsFresh, SameOutside}
use Rattle.rv_inst.specs.LabelUseWords.{word_at, word_bytes, AreBytes}
use Rattle.rv_inst.specs.LabelUseWords.{jal_bits, branch_bits, distance_bits}

-- ---- what a fresh byte is

pub no_high : (b : ℕ) → b < 256 → bit_and b 0xf0 ≡ 0 → b < 16
no_high b h e = let f : bit_and b 240 ≡ (b / 16 % 16) * 16 = and_high b 4 4 in omega (arith, f, e)

no_low : (b : ℕ) → bit_and b 0x0f ≡ 0 → b % 16 ≡ 0
no_low b e = let f : bit_and b 15 ≡ b % 16 = and_mask b 4 in omega (arith, f, e)

pub none : (b : ℕ) → b < 256 → bit_and b 0xff ≡ 0 → b ≡ 0
none b h e = let f : bit_and b 255 ≡ b % 256 = and_mask b 8 in omega (arith, f, e)

no_top : (b : ℕ) → b < 256 → bit_and b 0x80 ≡ 0 → b < 128
no_top b h e = let f : bit_and b 128 ≡ (b / 128 % 2) * 128 = and_high b 1 7 in omega (arith, f, e)

only_one : (b : ℕ) → b < 256 → bit_and b 0xfe ≡ 0 → b < 2
only_one b h e = let f : bit_and b 254 ≡ (b / 2 % 128) * 2 = and_high b 7 1 in omega (arith, f, e)

-- ---- a fresh word with a distance's bits

jal_bits_is : (n : ℕ) → jal_bits n ≡ (n / 4096 % 256 + n / 2048 % 2 * 256 + n / 2 % 1024 * 512 + n / 1048576 * 524288) * 4096
jal_bits_is n = omega arith

or_jal : (w n : ℕ) → w < 4096 → bit_or w (jal_bits n) ≡ w + jal_bits n
or_jal w n h = let f : bit_or w ((n / 4096 % 256 + n / 2048 % 2 * 256 + n / 2 % 1024 * 512 + n / 1048576 * 524288) * 4096) ≡ (n / 4096 % 256 + n / 2048 % 2 * 256 + n / 2 % 1024 * 512 + n / 1048576 * 524288) * 4096 + w = or_shifted_r _ 12 w h in
    rw (jal_bits_is n) (f ∙ omega arith)

or_parts : (t a x y : ℕ) → a < 128 → x < 32 → t < 8192 → bit_or (t * 4096 + a) (y * 33554432 + x * 128) ≡ t * 4096 + a + (y * 33554432 + x * 128)
or_parts t a x y ha hx ht =
    let zero_high : t * 4096 + a ≡ 0 * 33554432 + (t * 4096 + a) = omega arith in
    let zero_low : x * 128 ≡ 0 * 4096 + x * 128 = omega arith in
    let e : bit_or (0 * 33554432 + (t * 4096 + a)) (y * 33554432 + x * 128) ≡ bit_or 0 y * 33554432 + bit_or (t * 4096 + a) (x * 128) = or_block 25 0 y (t * 4096 + a) (x * 128) (omega arith) (omega arith) in
    let f : bit_or (t * 4096 + a) (0 * 4096 + x * 128) ≡ bit_or t 0 * 4096 + bit_or a (x * 128) = or_block 12 t 0 a (x * 128) (omega arith) (omega arith) in
    let g : bit_or a (x * 128) ≡ x * 128 + a = or_shifted_r x 7 a ha in
    let k : bit_or t 0 ≡ t = or_comm t 0 in
    let l : bit_or 0 y ≡ y = refl in
    let e' = ap (λ (m : ℕ). bit_or m (y * 33554432 + x * 128)) zero_high in
    let f' = ap (λ (m : ℕ). bit_or (t * 4096 + a) m) zero_low in
    omega (arith, e, f, g, k, l, e', f')

branch_bits_is : (n : ℕ) → branch_bits n ≡ (n / 32 % 64 + n / 4096 * 64) * 33554432 + (n / 2048 % 2 + n / 2 % 16 * 2) * 128
branch_bits_is n = omega arith

-- a word whose bits 11:7 and 31:25 are 0
pub record IsBranchFresh (w : ℕ) : Type 0 where
  pub low : w % 4096 < 128
  pub high : w < 33554432

or_branch : (w n : ℕ) → IsBranchFresh w → n < 8192 → bit_or w (branch_bits n) ≡ w + branch_bits n
or_branch w n h hn =
    let x : ℕ = n / 2048 % 2 + n / 2 % 16 * 2 in
    let y : ℕ = n / 32 % 64 + n / 4096 * 64 in
    let parts = or_parts (w / 4096) (w % 4096) (n / 2048 % 2 + n / 2 % 16 * 2) (n / 32 % 64 + n / 4096 * 64) h.low (omega arith) (omega arith) in
    let split : w / 4096 * 4096 + w % 4096 ≡ w = omega arith in
    rw (branch_bits_is n) (ap (λ (m : ℕ). bit_or m ((n / 32 % 64 + n / 4096 * 64) * 33554432 + (n / 2048 % 2 + n / 2 % 16 * 2) * 128)) (sym split) ∙ parts ∙ omega arith)

-- ---- the distance that the new word holds

jal_distance : (w n : ℕ) → w < 4096 → n < 2097152 → n % 2 ≡ 0 → j_imm (w + jal_bits n) ≡ signed 1048576 n
jal_distance w n hw hn e = let held : j_bits (w + jal_bits n) ≡ n = omega arith in ap (signed 1048576) held

branch_distance : (w n : ℕ) → IsBranchFresh w → n < 8192 → n % 2 ≡ 0 → b_imm (w + branch_bits n) ≡ signed 4096 n
branch_distance w n hw hn e = let held : b_bits (w + branch_bits n) ≡ n = omega (arith, hw.low, hw.high) in ap (signed 4096) held

-- a word's bytes are the word
pub whole : (w : ℕ) → w % 256 + 256 * (w / 256 % 256) + 65536 * (w / 65536 % 256) + 16777216 * (w / 16777216) ≡ w
whole w = omega arith

pub jal_word : (old : List ℕ) → AreBytes old → IsFresh (0x00 ∷ 0xf0 ∷ 0xff ∷ 0xff ∷ []) old → word_at old < 4096
jal_word old b f =
    omega (arith, b.first, no_high (slice_index old 1) b.second f.1.0, none (slice_index old 2) b.third f.1.1.0, none (slice_index old 3) b.fourth f.1.1.1.0)

branch_word : (old : List ℕ) → AreBytes old → IsFresh (0x80 ∷ 0x0f ∷ 0x00 ∷ 0xfe ∷ []) old → IsBranchFresh (word_at old)
branch_word old b f =
    let first = no_top (slice_index old 0) b.first f.0 in
    let second = no_low (slice_index old 1) f.1.0 in
    let fourth = only_one (slice_index old 3) b.fourth f.1.1.1.0 in
    record { low = omega (arith, first, second); high = omega (arith, first, b.second, b.third, fourth) }

pub jal_holds : (old new : List ℕ) (n : ℕ) → new ≡ word_bytes (bit_or (word_at old) (jal_bits n)) ++ drop 4 old → AreBytes old → IsFresh (0x00 ∷ 0xf0 ∷ 0xff ∷ 0xff ∷ []) old →
    n < 2097152 → n % 2 ≡ 0 → j_imm (word_at (take 4 new)) ≡ signed 1048576 n
jal_holds old new n h b f hn e =
    let small = jal_word old b f in
    ap (λ s. j_imm (word_at (take 4 s))) h ∙ ap (λ w. j_imm w) (whole (bit_or (word_at old) (jal_bits n)) ∙ or_jal (word_at old) n small) ∙ jal_distance (word_at old) n small hn e

pub branch_holds : (old new : List ℕ) (n : ℕ) → new ≡ word_bytes (bit_or (word_at old) (branch_bits n)) ++ drop 4 old → AreBytes old → IsFresh (0x80 ∷ 0x0f ∷ 0x00 ∷ 0xfe ∷ []) old →
    n < 8192 → n % 2 ≡ 0 → b_imm (word_at (take 4 new)) ≡ signed 4096 n
branch_holds old new n h b f hn e =
    let small = branch_word old b f in
    ap (λ s. b_imm (word_at (take 4 s))) h ∙ ap (λ w. b_imm w) (whole (bit_or (word_at old) (branch_bits n)) ∙ or_branch (word_at old) n small hn) ∙ branch_distance (word_at old) n small hn e

-- ---- the bits that stay

pub keeps_low : (x y : ℕ) → x % 16 ≡ y % 16 → bit_and x 15 ≡ bit_and y 15
keeps_low x y e = and_mask x 4 ∙ e ∙ sym (and_mask y 4)

pub keeps_none : (x y : ℕ) → bit_and x 0 ≡ bit_and y 0
keeps_none x y = and_comm x 0 ∙ sym (and_comm y 0)

keeps_seven : (x y : ℕ) → x % 128 ≡ y % 128 → bit_and x 127 ≡ bit_and y 127
keeps_seven x y e = and_mask x 7 ∙ e ∙ sym (and_mask y 7)

pub keeps_one : (x y : ℕ) → x % 2 ≡ y % 2 → bit_and x 1 ≡ bit_and y 1
keeps_one x y e = and_mask x 1 ∙ e ∙ sym (and_mask y 1)

keeps_high : (x y : ℕ) → x / 16 % 16 ≡ y / 16 % 16 → bit_and x 240 ≡ bit_and y 240
keeps_high x y e = and_high x 4 4 ∙ ap (λ (m : ℕ). m * 16) e ∙ sym (and_high y 4 4)

-- the words are those of the bytes, so each byte of the new one is known
jal_bytes : (a b c d n : ℕ) → a < 256 → b < 16 → c ≡ 0 → d ≡ 0 → (w : ℕ) → w ≡ a + 256 * b + 65536 * c + 16777216 * d + jal_bits n → (w % 256 ≡ a) × (w / 256 % 256 % 16 ≡ b % 16)
jal_bytes a b c d n ha hb hc hd w e = (omega arith, omega arith)

branch_bytes : (a b c d n : ℕ) → a < 128 → b < 256 → b % 16 ≡ 0 → c < 256 → d < 2 → n < 8192 → (w : ℕ) → w ≡ a + 256 * b + 65536 * c + 16777216 * d + branch_bits n →
    (w % 256 % 128 ≡ a % 128) × (w / 256 % 256 / 16 % 16 ≡ b / 16 % 16) × (w / 65536 % 256 ≡ c) × (w / 16777216 % 2 ≡ d % 2)
branch_bytes a b c d n ha hb hb' hc hd hn w e = (omega arith, omega arith, omega arith, omega arith)

pub jal_keeps : (old new : List ℕ) (n : ℕ) → new ≡ word_bytes (bit_or (word_at old) (jal_bits n)) ++ drop 4 old → AreBytes old → IsFresh (0x00 ∷ 0xf0 ∷ 0xff ∷ 0xff ∷ []) old →
    SameOutside (0x00 ∷ 0xf0 ∷ 0xff ∷ 0xff ∷ []) old new
jal_keeps old new n h b f =
    let second = no_high (slice_index old 1) b.second f.1.0 in
    let third = none (slice_index old 2) b.third f.1.1.0 in
    let fourth = none (slice_index old 3) b.fourth f.1.1.1.0 in
    let kept = jal_bytes (slice_index old 0) (slice_index old 1) (slice_index old 2) (slice_index old 3) n b.first second third fourth (bit_or (word_at old) (jal_bits n)) (or_jal (word_at old) n (jal_word old b f)) in
    let P : List ℕ → Type 0 = λ s. SameOutside (0x00 ∷ 0xf0 ∷ 0xff ∷ 0xff ∷ []) old s in
    subst P (sym h) (ap (λ (m : ℕ). bit_and m 255) kept.0, (keeps_low _ _ kept.1, (keeps_none _ _, (keeps_none _ _, tt))))

pub branch_keeps : (old new : List ℕ) (n : ℕ) → new ≡ word_bytes (bit_or (word_at old) (branch_bits n)) ++ drop 4 old → AreBytes old → IsFresh (0x80 ∷ 0x0f ∷ 0x00 ∷ 0xfe ∷ []) old →
    n < 8192 → SameOutside (0x80 ∷ 0x0f ∷ 0x00 ∷ 0xfe ∷ []) old new
branch_keeps old new n h b f hn =
    let first = no_top (slice_index old 0) b.first f.0 in
    let second = no_low (slice_index old 1) f.1.0 in
    let fourth = only_one (slice_index old 3) b.fourth f.1.1.1.0 in
    let kept = branch_bytes (slice_index old 0) (slice_index old 1) (slice_index old 2) (slice_index old 3) n first b.second second b.third fourth hn (bit_or (word_at old) (branch_bits n)) (or_branch (word_at old) n (branch_word old b f) hn) in
    let P : List ℕ → Type 0 = λ s. SameOutside (0x80 ∷ 0x0f ∷ 0x00 ∷ 0xfe ∷ []) old s in
    subst P (sym h) (keeps_seven _ _ kept.0, (keeps_high _ _ kept.1, (ap (λ (m : ℕ). bit_and m 255) kept.2, (keeps_one _ _ kept.3, tt))))

-- the bits of a distance, read signed, are the distance
pub signed-distance_bits : (half from to : ℕ) → to < from + half → from ≤ to + half → signed half (distance_bits (2 * half) from to) ≡ pos to -ℤ pos from
signed-distance_bits half from to h k = grind (arith, ints)
