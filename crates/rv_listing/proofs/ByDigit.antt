-- The names of a letter and a digit, by the table of their numbers.
use Rattle.std.proofs.Common.{◌≡◌, ℕ, ◌+◌, ◌-◌, ◌<◌, ◌≤◌, List, [], ◌∷◌, Option, Some, None, refl, sym, subst, ◌∙◌, arith}
use Rattle.std.specs.Prelude.{slice_index, IfSome}
use lib.ListN.{get_or}
use borrow.Author.Count.{below_none, below_more}
use Rattle.rv_base.specs.declared.regs.RegClass.TheVariants.{Int}
use Rattle.rv_base.specs.declared.regs.Reg.{Reg}
use Rattle.rv_listing.specs.Registers.{by_letter, after_t, after_s, real}
use Rattle.rv_listing.specs.declared.registers.TheConstants.{X, A, T, S, NONE, BY_LETTER}

-- a row's number at a digit is the one that the letter and the digit stand for
abbrev InRow : ℕ → List ℕ → ℕ → Type 0
InRow letter row d = by_letter letter ((48 + d) ∷ []) ≡ real Int (slice_index row d)

x_row : (d : ℕ) → d < 10 → InRow 120 X d
unfolding by_letter real
x_row = below_more (InRow 120 X) 9 (below_more (InRow 120 X) 8 (below_more (InRow 120 X) 7 (below_more (InRow 120 X) 6 (below_more (InRow 120 X) 5 (below_more (InRow 120 X) 4 (below_more (InRow 120 X) 3 (below_more (InRow 120 X) 2 (below_more (InRow 120 X) 1 (below_more (InRow 120 X) 0 (below_none (InRow 120 X)) refl) refl) refl) refl) refl) refl) refl) refl) refl) refl

a_row : (d : ℕ) → d < 10 → InRow 97 A d
unfolding by_letter real
a_row = below_more (InRow 97 A) 9 (below_more (InRow 97 A) 8 (below_more (InRow 97 A) 7 (below_more (InRow 97 A) 6 (below_more (InRow 97 A) 5 (below_more (InRow 97 A) 4 (below_more (InRow 97 A) 3 (below_more (InRow 97 A) 2 (below_more (InRow 97 A) 1 (below_more (InRow 97 A) 0 (below_none (InRow 97 A)) refl) refl) refl) refl) refl) refl) refl) refl) refl) refl

t_row : (d : ℕ) → d < 10 → InRow 116 T d
unfolding by_letter after_t real
t_row = below_more (InRow 116 T) 9 (below_more (InRow 116 T) 8 (below_more (InRow 116 T) 7 (below_more (InRow 116 T) 6 (below_more (InRow 116 T) 5 (below_more (InRow 116 T) 4 (below_more (InRow 116 T) 3 (below_more (InRow 116 T) 2 (below_more (InRow 116 T) 1 (below_more (InRow 116 T) 0 (below_none (InRow 116 T)) refl) refl) refl) refl) refl) refl) refl) refl) refl) refl

s_row : (d : ℕ) → d < 10 → InRow 115 S d
unfolding by_letter after_s real
s_row = below_more (InRow 115 S) 9 (below_more (InRow 115 S) 8 (below_more (InRow 115 S) 7 (below_more (InRow 115 S) 6 (below_more (InRow 115 S) 5 (below_more (InRow 115 S) 4 (below_more (InRow 115 S) 3 (below_more (InRow 115 S) 2 (below_more (InRow 115 S) 1 (below_more (InRow 115 S) 0 (below_none (InRow 115 S)) refl) refl) refl) refl) refl) refl) refl) refl) refl) refl

abbrev NoneAt : ℕ → Type 0
NoneAt d = real Int (slice_index NONE d) ≡ None

no_row : (d : ℕ) → d < 10 → NoneAt d
unfolding real
no_row = below_more NoneAt 9 (below_more NoneAt 8 (below_more NoneAt 7 (below_more NoneAt 6 (below_more NoneAt 5 (below_more NoneAt 4 (below_more NoneAt 3 (below_more NoneAt 2 (below_more NoneAt 1 (below_more NoneAt 0 (below_none NoneAt) refl) refl) refl) refl) refl) refl) refl) refl) refl) refl

-- what a row reads is what the letter and the digit stand for
abbrev Reads : ℕ → List ℕ → Type 0
Reads letter row = (d : ℕ) → d < 10 → (reg : Reg) → Some reg ≡ real Int (slice_index row d) → by_letter letter ((48 + d) ∷ []) ≡ Some reg

reads : (letter : ℕ) (row : List ℕ) → ((d : ℕ) → d < 10 → InRow letter row d) → Reads letter row
reads letter row it d low reg e = it d low ∙ sym e

nothing : (letter : ℕ) → Reads letter NONE
nothing letter d low reg e = let none : Some reg ≡ None = e ∙ no_row d low in absurd (cc)

abbrev LetterReads : ℕ → Type 0
LetterReads k = (none : List ℕ) → Reads (96 + k) (get_or BY_LETTER k none)

each_letter : (k : ℕ) → k < 32 → LetterReads k
each_letter = below_more LetterReads 31 (below_more LetterReads 30 (below_more LetterReads 29 (below_more LetterReads 28 (below_more LetterReads 27 (below_more LetterReads 26 (below_more LetterReads 25 (below_more LetterReads 24 (below_more LetterReads 23 (below_more LetterReads 22 (below_more LetterReads 21 (below_more LetterReads 20 (below_more LetterReads 19 (below_more LetterReads 18 (below_more LetterReads 17 (below_more LetterReads 16 (below_more LetterReads 15 (below_more LetterReads 14 (below_more LetterReads 13 (below_more LetterReads 12 (below_more LetterReads 11 (below_more LetterReads 10 (below_more LetterReads 9 (below_more LetterReads 8 (below_more LetterReads 7 (below_more LetterReads 6 (below_more LetterReads 5 (below_more LetterReads 4 (below_more LetterReads 3 (below_more LetterReads 2 (below_more LetterReads 1 (below_more LetterReads 0 (below_none LetterReads) (λ _. nothing 96)) (λ _. reads 97 A a_row)) (λ _. nothing 98)) (λ _. nothing 99)) (λ _. nothing 100)) (λ _. nothing 101)) (λ _. nothing 102)) (λ _. nothing 103)) (λ _. nothing 104)) (λ _. nothing 105)) (λ _. nothing 106)) (λ _. nothing 107)) (λ _. nothing 108)) (λ _. nothing 109)) (λ _. nothing 110)) (λ _. nothing 111)) (λ _. nothing 112)) (λ _. nothing 113)) (λ _. nothing 114)) (λ _. reads 115 S s_row)) (λ _. reads 116 T t_row)) (λ _. nothing 117)) (λ _. nothing 118)) (λ _. nothing 119)) (λ _. reads 120 X x_row)) (λ _. nothing 121)) (λ _. nothing 122)) (λ _. nothing 123)) (λ _. nothing 124)) (λ _. nothing 125)) (λ _. nothing 126)) (λ _. nothing 127)

-- what is read by the table is what the name stands for
pub read_by_digit : (letter digit : ℕ) (none : List ℕ) (r : Option Reg) → 96 ≤ letter → letter < 128 → 48 ≤ digit → digit < 58
    → r ≡ real Int (slice_index (get_or BY_LETTER (letter - 96) none) (digit - 48)) → IfSome r (λ reg. by_letter letter (digit ∷ []) ≡ Some reg)
read_by_digit letter digit none None from to low high e = _
read_by_digit letter digit none (Some reg) from to low high e =
    let same : 96 + (letter - 96) ≡ letter = omega arith in
    let back : 48 + (digit - 48) ≡ digit = omega arith in
    subst (λ l. by_letter l (digit ∷ []) ≡ Some reg) same (subst (λ n. by_letter (96 + (letter - 96)) (n ∷ []) ≡ Some reg) back (each_letter (letter - 96) (omega arith) none (digit - 48) (omega arith) reg e))
