-- Words and halfwords in bytes, and the bits of a distance at their places in a word.
use Rattle.std.specs.Prelude.{ℕ, ◌+◌, ◌-◌, ◌*◌, ◌/◌, ◌%◌, ◌<◌, nat_lt, if◌then◌else◌, List, [], ◌∷◌, slice_index}

-- the word that four bytes begin with, the least byte first
abbrev pub word_at : List ℕ → ℕ
word_at s = slice_index s 0 + 256 * slice_index s 1 + 65536 * slice_index s 2 + 16777216 * slice_index s 3

-- the first four are bytes
pub record AreBytes (s : List ℕ) : Type 0 where
  pub first : slice_index s 0 < 256
  pub second : slice_index s 1 < 256
  pub third : slice_index s 2 < 256
  pub fourth : slice_index s 3 < 256

-- the halfword that two bytes begin with, the low byte first
abbrev pub half_at : List ℕ → ℕ
half_at s = slice_index s 0 + 256 * slice_index s 1

-- the first two are bytes
pub record AreTwoBytes (s : List ℕ) : Type 0 where
  pub first : slice_index s 0 < 256
  pub second : slice_index s 1 < 256

-- a halfword's bytes
abbrev pub half_bytes : ℕ → List ℕ
half_bytes half = half % 256 ∷ half / 256 % 256 ∷ []

-- a word's bytes
abbrev pub word_bytes : ℕ → List ℕ
word_bytes word = word % 256 ∷ word / 256 % 256 ∷ word / 65536 % 256 ∷ word / 16777216 ∷ []

-- the bits of a distance, below `size`
abbrev pub distance_bits : ℕ → ℕ → ℕ → ℕ
distance_bits size from to = if nat_lt to from then size - (from - to) else to - from

-- a distance's bits at their places in a jump: [19:12] at 12, [11] at 20, [10:1] at 21, [20] at 31
abbrev pub jal_bits : ℕ → ℕ
jal_bits n = n / 4096 % 256 * 4096 + n / 2048 % 2 * 1048576 + n / 2 % 1024 * 2097152 + n / 1048576 * 2147483648

-- and in a branch: [11] at 7, [4:1] at 8, [10:5] at 25, [12] at 31
abbrev pub branch_bits : ℕ → ℕ
branch_bits n = n / 2048 % 2 * 128 + n / 2 % 16 * 256 + n / 32 % 64 * 33554432 + n / 4096 * 2147483648

-- and in a jump of sixteen bits: [5] at 2, [3:1] at 3, [7] at 6, [6] at 7, [10] at 8, [9:8] at 9, [4] at 11, [11] at 12
abbrev pub compressed_jump_bits : ℕ → ℕ
compressed_jump_bits n =
    n / 32 % 2 * 4 + n / 2 % 8 * 8 + n / 128 % 2 * 64 + n / 64 % 2 * 128 + n / 1024 % 2 * 256 + n / 256 % 4 * 512 + n / 16 % 2 * 2048 + n / 2048 * 4096

-- the upper twenty bits of a distance's thirty-two, for a lower part of twelve that is read signed
abbrev pub upper_bits : ℕ → ℕ
upper_bits n = (n + 2048) % 4294967296 / 4096
