-- Windows that hold one part of a distance.
use Rattle.std.proofs.Common.{◌≡◌, ℕ, ◌+◌, ◌-◌, ◌*◌, ◌/◌, ◌%◌, ◌<◌, ⊎_elim, List, [], ◌∷◌, ◌++◌, take, drop, slice_index, ap, sym, ◌∙◌, subst, pos, negsuc, ◌-ℤ◌, ◌+ℤ◌, arith, bit_and, bit_or}
use Rattle.std.proofs.lemmas.Int.{ints}
use Rattle.std.proofs.lemmas.Bool.{cases_lt}
use Rattle.std.specs.Int.Bits.{or_shifted_r}
use Rattle.rv_base.specs.LabelUse.{IsFresh, SameOutside}
use Rattle.rv_machine.specs.Layout.{u_bits, i_bits}
use Rattle.rv_inst.specs.LabelUse.{low32, upper_part, lower_part}
use Rattle.rv_inst.specs.LabelUseWords.{word_at, word_bytes, AreBytes, upper_bits}
use Rattle.rv_inst.proofs.Patch.{no_high, none, jal_word, keeps_none, keeps_low, whole}
use Rattle.rv_inst.proofs.PatchPair.{first_bytes, second_bytes}

-- ---- the upper part

pub upper_holds_part : (old new : List ℕ) (n : ℕ) → new ≡ word_bytes (bit_or (word_at old) (upper_bits n * 4096)) ++ drop 4 old → AreBytes old → IsFresh (0x00 ∷ 0xf0 ∷ 0xff ∷ 0xff ∷ []) old → u_bits (word_at (take 4 new)) ≡ upper_bits n
upper_holds_part old new n h b f =
    let small = jal_word old b f in
    let sum : bit_or (word_at old) (upper_bits n * 4096) ≡ upper_bits n * 4096 + word_at old = or_shifted_r (upper_bits n) 12 (word_at old) small in
    ap (λ s. u_bits (word_at (take 4 s))) h ∙ ap (λ (w : ℕ). u_bits w) (whole (bit_or (word_at old) (upper_bits n * 4096)) ∙ sum) ∙ held (word_at old) (upper_bits n) small (omega arith)
  where
    held : (w x : ℕ) → w < 4096 → x < 1048576 → u_bits (x * 4096 + w) ≡ x
    held w x hw hx = omega arith

pub upper_keeps_part : (old new : List ℕ) (n : ℕ) → new ≡ word_bytes (bit_or (word_at old) (upper_bits n * 4096)) ++ drop 4 old → AreBytes old → IsFresh (0x00 ∷ 0xf0 ∷ 0xff ∷ 0xff ∷ []) old → SameOutside (0x00 ∷ 0xf0 ∷ 0xff ∷ 0xff ∷ []) old new
upper_keeps_part old new n h b f =
    let b1 = no_high (slice_index old 1) b.second f.1.0 in
    let b2 = none (slice_index old 2) b.third f.1.1.0 in
    let b3 = none (slice_index old 3) b.fourth f.1.1.1.0 in
    let sum : bit_or (word_at old) (upper_bits n * 4096) ≡ word_at old + upper_bits n * 4096 = or_shifted_r (upper_bits n) 12 (word_at old) (jal_word old b f) ∙ omega arith in
    let kept = first_bytes (slice_index old 0) (slice_index old 1) (slice_index old 2) (slice_index old 3) (upper_bits n) (bit_or (word_at old) (upper_bits n * 4096)) b.first b1 b2 b3 sum in
    let P : List ℕ → Type 0 = λ s. SameOutside (0x00 ∷ 0xf0 ∷ 0xff ∷ 0xff ∷ []) old s in
    subst P (sym h) (ap (λ (m : ℕ). bit_and m 255) kept.0, (keeps_low _ _ kept.1, (keeps_none _ _, (keeps_none _ _, tt))))

-- ---- the lower part

lower_word : (old : List ℕ) → AreBytes old → IsFresh (0x00 ∷ 0x00 ∷ 0xf0 ∷ 0xff ∷ []) old → word_at old < 1048576
lower_word old b f =
    let third = no_high (slice_index old 2) b.third f.1.1.0 in
    let fourth = none (slice_index old 3) b.fourth f.1.1.1.0 in
    omega (arith, b.first, b.second, third, fourth)

pub lower_holds_part : (old new : List ℕ) (n : ℕ) → new ≡ word_bytes (bit_or (word_at old) (n % 4096 * 1048576)) ++ drop 4 old → AreBytes old → IsFresh (0x00 ∷ 0x00 ∷ 0xf0 ∷ 0xff ∷ []) old → i_bits (word_at (take 4 new)) ≡ n % 4096
lower_holds_part old new n h b f =
    let small = lower_word old b f in
    let sum : bit_or (word_at old) (n % 4096 * 1048576) ≡ n % 4096 * 1048576 + word_at old = or_shifted_r (n % 4096) 20 (word_at old) small in
    ap (λ s. i_bits (word_at (take 4 s))) h ∙ ap (λ (w : ℕ). i_bits w) (whole (bit_or (word_at old) (n % 4096 * 1048576)) ∙ sum) ∙ held (word_at old) (n % 4096) small (omega arith)
  where
    held : (w x : ℕ) → w < 1048576 → x < 4096 → i_bits (x * 1048576 + w) ≡ x
    held w x hw hx = omega arith

pub lower_keeps_part : (old new : List ℕ) (n : ℕ) → new ≡ word_bytes (bit_or (word_at old) (n % 4096 * 1048576)) ++ drop 4 old → AreBytes old → IsFresh (0x00 ∷ 0x00 ∷ 0xf0 ∷ 0xff ∷ []) old → SameOutside (0x00 ∷ 0x00 ∷ 0xf0 ∷ 0xff ∷ []) old new
lower_keeps_part old new n h b f =
    let b2 = no_high (slice_index old 2) b.third f.1.1.0 in
    let b3 = none (slice_index old 3) b.fourth f.1.1.1.0 in
    let sum : bit_or (word_at old) (n % 4096 * 1048576) ≡ word_at old + n % 4096 * 1048576 = or_shifted_r (n % 4096) 20 (word_at old) (lower_word old b f) ∙ omega arith in
    let kept = second_bytes (slice_index old 0) (slice_index old 1) (slice_index old 2) (slice_index old 3) (n % 4096) (bit_or (word_at old) (n % 4096 * 1048576)) b.first b.second b2 b3 sum in
    let P : List ℕ → Type 0 = λ s. SameOutside (0x00 ∷ 0x00 ∷ 0xf0 ∷ 0xff ∷ []) old s in
    subst P (sym h) (ap (λ (m : ℕ). bit_and m 255) kept.0, (ap (λ (m : ℕ). bit_and m 255) kept.1, (keeps_low _ _ kept.2, (keeps_none _ _, tt))))

-- ---- the parts of a distance between offsets

pub low32_difference : (l u : ℕ) → u < 4294967296 → low32 (pos l -ℤ pos u) ≡ (l + (4294967296 - u)) % 4294967296
low32_difference l u hu = ⊎_elim
    (λ lt. let e : pos l -ℤ pos u ≡ negsuc (u - l - 1) = grind (arith, ints) in ap low32 e ∙ omega arith)
    (λ le. let e : pos l -ℤ pos u ≡ pos (l - u) = grind (arith, ints) in ap low32 e ∙ omega arith)
    (cases_lt l u)

pub upper_of_difference : (l u : ℕ) → l < 4294967296 → u < 4294967296 → upper_part (pos l -ℤ pos u) ≡ upper_bits ((l + (4294967296 - u)) % 4294967296)
upper_of_difference l u hl hu =
    let e : (pos l -ℤ pos u) +ℤ pos 2048 ≡ pos (l + 2048) -ℤ pos u = omega (arith, ints) in
    ap (λ z. low32 z / 4096) e ∙ ap (λ (n : ℕ). n / 4096) (low32_difference (l + 2048) u hu) ∙ omega arith

pub lower_of_difference : (l u : ℕ) → l < 4294967296 → u < 4294967296 → lower_part (pos l -ℤ pos u) ≡ ((l + (4294967296 - u)) % 4294967296 + 4) % 4294967296 % 4096
lower_of_difference l u hl hu =
    let e : (pos l -ℤ pos u) +ℤ pos 4 ≡ pos (l + 4) -ℤ pos u = omega (arith, ints) in
    ap (λ z. low32 z % 4096) e ∙ ap (λ (n : ℕ). n % 4096) (low32_difference (l + 4) u hu) ∙ omega arith
