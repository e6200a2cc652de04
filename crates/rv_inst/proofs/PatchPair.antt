-- Windows of an auipc and the word after it, which hold a distance in two parts.
use Rattle.std.proofs.Common.{◌≡◌, ℕ, ◌+◌, ◌-◌, ◌*◌, ◌/◌, ◌%◌, ◌<◌, ◌≤◌, List, [], ◌∷◌, ◌++◌, take, drop, slice_index, ap, sym, ◌∙◌, subst, pos, ◌-ℤ◌, ◌+ℤ◌, ◌*ℤ◌, arith, bit_and, bit_or, get_or-drop}
use Rattle.std.proofs.lemmas.Int.{ints}
use Rattle.std.specs.Int.Bits.{or_shifted_r}
use Rattle.rv_machine.specs.State.{signed}
use Rattle.rv_machine.specs.Layout.{u_imm, i_imm, u_bits, i_bits}
use Rattle.rv_base.specs.LabelUse.{IsFresh, SameOutside}
use Rattle.rv_inst.specs.LabelUseWords.{word_at, word_bytes, AreBytes}
use Rattle.rv_inst.specs.LabelUseWords.{upper_bits}
use Rattle.rv_inst.proofs.Patch.{no_high, none, jal_word, keeps_none, keeps_low, whole}

-- the number that the pair holds is the distance
pub pair_distance : (l u : ℕ) → l < 4294967296 → u < 4294967296 → l ≤ u + 2147481599 → u ≤ l + 2147485696 →
    (signed 524288 (upper_bits ((l + (4294967296 - u)) % 4294967296)) *ℤ pos 4096) +ℤ signed 2048 ((l + (4294967296 - u)) % 4294967296 % 4096) ≡ pos l -ℤ pos u
pair_distance l u hl hu up low = grind (arith, ints)

-- ---- the fresh words

first_fresh : (old : List ℕ) → AreBytes old → IsFresh (0x00 ∷ 0xf0 ∷ 0xff ∷ 0xff ∷ 0x00 ∷ 0x00 ∷ 0xf0 ∷ 0xff ∷ []) old → word_at old < 4096
first_fresh old b f = jal_word old b (f.0, (f.1.0, (f.1.1.0, (f.1.1.1.0, tt))))

at_four : (old : List ℕ) (i : ℕ) → slice_index (drop 4 old) i ≡ slice_index old (4 + i)
at_four old i = get_or-drop 4 old i 0

second_fresh : (old : List ℕ) → AreBytes (drop 4 old) → IsFresh (0x00 ∷ 0xf0 ∷ 0xff ∷ 0xff ∷ 0x00 ∷ 0x00 ∷ 0xf0 ∷ 0xff ∷ []) old → word_at (drop 4 old) < 1048576
second_fresh old b f =
    let third = no_high (slice_index (drop 4 old) 2) b.third (ap (λ (m : ℕ). bit_and m 0xf0) (at_four old 2) ∙ f.1.1.1.1.1.1.0) in
    let fourth = none (slice_index (drop 4 old) 3) b.fourth (ap (λ (m : ℕ). bit_and m 0xff) (at_four old 3) ∙ f.1.1.1.1.1.1.1.0) in
    omega (arith, b.first, b.second, third, fourth)

-- ---- the new words

upper_holds : (w x : ℕ) → w < 4096 → x < 1048576 → u_imm (bit_or w (x * 4096)) ≡ signed 524288 x
upper_holds w x h k =
    let sum : bit_or w (x * 4096) ≡ x * 4096 + w = or_shifted_r x 12 w h in
    let held : u_bits (x * 4096 + w) ≡ x = omega arith in
    ap (λ (n : ℕ). u_imm n) sum ∙ ap (signed 524288) held

lower_holds : (w x : ℕ) → w < 1048576 → x < 4096 → i_imm (bit_or w (x * 1048576)) ≡ signed 2048 x
lower_holds w x h k =
    let sum : bit_or w (x * 1048576) ≡ x * 1048576 + w = or_shifted_r x 20 w h in
    let held : i_bits (x * 1048576 + w) ≡ x = omega arith in
    ap (λ (n : ℕ). i_imm n) sum ∙ ap (signed 2048) held

pub first_bytes : (a b c d x w : ℕ) → a < 256 → b < 16 → c ≡ 0 → d ≡ 0 → w ≡ a + 256 * b + 65536 * c + 16777216 * d + x * 4096 → (w % 256 ≡ a) × (w / 256 % 256 % 16 ≡ b % 16)
first_bytes a b c d x w ha hb hc hd e = (omega arith, omega arith)

pub second_bytes : (a b c d x w : ℕ) → a < 256 → b < 256 → c < 16 → d ≡ 0 → w ≡ a + 256 * b + 65536 * c + 16777216 * d + x * 1048576 → (w % 256 ≡ a) × (w / 256 % 256 ≡ b) × (w / 65536 % 256 % 16 ≡ c % 16)
second_bytes a b c d x w ha hb hc hd e = (omega arith, omega arith, omega arith)

module _ (old new : List ℕ) (n : ℕ) (h : new ≡ word_bytes (bit_or (word_at old) (upper_bits n * 4096)) ++ word_bytes (bit_or (word_at (drop 4 old)) (n % 4096 * 1048576)) ++ drop 8 old)
    (b : AreBytes old) (c : AreBytes (drop 4 old)) (f : IsFresh (0x00 ∷ 0xf0 ∷ 0xff ∷ 0xff ∷ 0x00 ∷ 0x00 ∷ 0xf0 ∷ 0xff ∷ []) old) where
  pub pair_upper : u_imm (word_at (take 8 new)) ≡ signed 524288 (upper_bits n)
  pair_upper =
      ap (λ s. u_imm (word_at (take 8 s))) h ∙ ap (λ (w : ℕ). u_imm w) (whole (bit_or (word_at old) (upper_bits n * 4096)))
      ∙ upper_holds (word_at old) (upper_bits n) (first_fresh old b f) (omega arith)

  pub pair_lower : i_imm (word_at (drop 4 (take 8 new))) ≡ signed 2048 (n % 4096)
  pair_lower =
      ap (λ s. i_imm (word_at (drop 4 (take 8 s)))) h ∙ ap (λ (w : ℕ). i_imm w) (whole (bit_or (word_at (drop 4 old)) (n % 4096 * 1048576)))
      ∙ lower_holds (word_at (drop 4 old)) (n % 4096) (second_fresh old c f) (omega arith)

  pub pair_keeps : SameOutside (0x00 ∷ 0xf0 ∷ 0xff ∷ 0xff ∷ 0x00 ∷ 0x00 ∷ 0xf0 ∷ 0xff ∷ []) old new
  pair_keeps =
      let b1 = no_high (slice_index old 1) b.second f.1.0 in
      let b2 = none (slice_index old 2) b.third f.1.1.0 in
      let b3 = none (slice_index old 3) b.fourth f.1.1.1.0 in
      let b6 = no_high (slice_index (drop 4 old) 2) c.third (ap (λ (m : ℕ). bit_and m 0xf0) (at_four old 2) ∙ f.1.1.1.1.1.1.0) in
      let b7 = none (slice_index (drop 4 old) 3) c.fourth (ap (λ (m : ℕ). bit_and m 0xff) (at_four old 3) ∙ f.1.1.1.1.1.1.1.0) in
      let sum : bit_or (word_at old) (upper_bits n * 4096) ≡ word_at old + upper_bits n * 4096 = or_shifted_r (upper_bits n) 12 (word_at old) (first_fresh old b f) ∙ omega arith in
      let sum' : bit_or (word_at (drop 4 old)) (n % 4096 * 1048576) ≡ word_at (drop 4 old) + n % 4096 * 1048576 = or_shifted_r (n % 4096) 20 (word_at (drop 4 old)) (second_fresh old c f) ∙ omega arith in
      let kept = first_bytes (slice_index old 0) (slice_index old 1) (slice_index old 2) (slice_index old 3) (upper_bits n) (bit_or (word_at old) (upper_bits n * 4096)) b.first b1 b2 b3 sum in
      let kept' = second_bytes (slice_index (drop 4 old) 0) (slice_index (drop 4 old) 1) (slice_index (drop 4 old) 2) (slice_index (drop 4 old) 3) (n % 4096) (bit_or (word_at (drop 4 old)) (n % 4096 * 1048576)) c.first c.second b6 b7 sum' in
      let P : List ℕ → Type 0 = λ s. SameOutside (0x00 ∷ 0xf0 ∷ 0xff ∷ 0xff ∷ 0x00 ∷ 0x00 ∷ 0xf0 ∷ 0xff ∷ []) old s in
      subst P (sym h) (
        ap (λ (m : ℕ). bit_and m 255) kept.0,
        (
          keeps_low _ _ kept.1,
          (
            keeps_none _ _,
            (
              keeps_none _ _,
              (ap (λ (m : ℕ). bit_and m 255) (kept'.0 ∙ at_four old 0), (ap (λ (m : ℕ). bit_and m 255) (kept'.1 ∙ at_four old 1), (keeps_low _ _ (kept'.2 ∙ ap (λ (m : ℕ). m % 16) (at_four old 2)), (keeps_none _ _, tt)))),
            ),
          ),
        ),
      )
