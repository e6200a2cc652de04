-- The accesses that a fence orders: input and output of devices, reads and writes of memory.
use Rattle.std.specs.Prelude.{ℕ, ◌==◌, if◌then◌else◌, List, [], ◌++◌, bit_and, codes}

-- a letter, where this bit is set
abbrev pub letter_of : ℕ → ℕ → List ℕ → List ℕ
letter_of accesses bit letter = if bit_and accesses bit == 0 then [] else letter

-- a letter for each of the four that is set; higher bits have none
abbrev pub accesses_text : ℕ → List ℕ
accesses_text accesses = letter_of accesses 8 (codes "i") ++ letter_of accesses 4 (codes "o") ++ letter_of accesses 2 (codes "r") ++ letter_of accesses 1 (codes "w")
