-- A register's name reads as that register.
use Rattle.std.proofs.Common.{◌≡◌, ℕ, ◌+◌, ◌*◌, ◌/◌, ◌%◌, ◌<◌, ◌≤◌, List, [], ◌∷◌, ◌++◌, refl, sym, subst, lit<, lit≤, arith}
use Rattle.std.specs.Fmt.{decimal}
use Rattle.std.proofs.lemmas.Fmt.{decimal_digit, decimal_step}
use borrow.Author.Count.{below_none, below_more}
use Rattle.rv_base.specs.declared.regs.RegClass.{RegClass}
use Rattle.rv_base.specs.declared.regs.RegClass.TheVariants.{Int, Float, Vector}
use Rattle.rv_base.specs.RegNames.{real_name}
use Rattle.rv_listing.specs.Registers.{register, by_letter, after_t, after_s, by_other_letter, after_f, single, fixed, float, real}

abbrev IsNamed : RegClass → ℕ → Type 0
IsNamed class n = register (real_name class n) ≡ real class n

int_low : (n : ℕ) → n < 16 → IsNamed Int n
unfolding register by_letter after_t after_s by_other_letter after_f single fixed float real
int_low = below_more (IsNamed Int) 15 (below_more (IsNamed Int) 14 (below_more (IsNamed Int) 13 (below_more (IsNamed Int) 12 (below_more (IsNamed Int) 11 (below_more (IsNamed Int) 10 (below_more (IsNamed Int) 9 (below_more (IsNamed Int) 8 (below_more (IsNamed Int) 7 (below_more (IsNamed Int) 6 (below_more (IsNamed Int) 5 (below_more (IsNamed Int) 4 (below_more (IsNamed Int) 3 (below_more (IsNamed Int) 2 (below_more (IsNamed Int) 1 (below_more (IsNamed Int) 0 (below_none (IsNamed Int)) refl) refl) refl) refl) refl) refl) refl) refl) refl) refl) refl) refl) refl) refl) refl) refl

int_named : (n : ℕ) → n < 32 → IsNamed Int n
unfolding register by_letter after_t after_s by_other_letter after_f single fixed float real
int_named = below_more (IsNamed Int) 31 (below_more (IsNamed Int) 30 (below_more (IsNamed Int) 29 (below_more (IsNamed Int) 28 (below_more (IsNamed Int) 27 (below_more (IsNamed Int) 26 (below_more (IsNamed Int) 25 (below_more (IsNamed Int) 24 (below_more (IsNamed Int) 23 (below_more (IsNamed Int) 22 (below_more (IsNamed Int) 21 (below_more (IsNamed Int) 20 (below_more (IsNamed Int) 19 (below_more (IsNamed Int) 18 (below_more (IsNamed Int) 17 (below_more (IsNamed Int) 16 int_low refl) refl) refl) refl) refl) refl) refl) refl) refl) refl) refl) refl) refl) refl) refl) refl

float_low : (n : ℕ) → n < 16 → IsNamed Float n
unfolding register by_letter after_t after_s by_other_letter after_f single fixed float real
float_low = below_more (IsNamed Float) 15 (below_more (IsNamed Float) 14 (below_more (IsNamed Float) 13 (below_more (IsNamed Float) 12 (below_more (IsNamed Float) 11 (below_more (IsNamed Float) 10 (below_more (IsNamed Float) 9 (below_more (IsNamed Float) 8 (below_more (IsNamed Float) 7 (below_more (IsNamed Float) 6 (below_more (IsNamed Float) 5 (below_more (IsNamed Float) 4 (below_more (IsNamed Float) 3 (below_more (IsNamed Float) 2 (below_more (IsNamed Float) 1 (below_more (IsNamed Float) 0 (below_none (IsNamed Float)) refl) refl) refl) refl) refl) refl) refl) refl) refl) refl) refl) refl) refl) refl) refl) refl

float_named : (n : ℕ) → n < 32 → IsNamed Float n
unfolding register by_letter after_t after_s by_other_letter after_f single fixed float real
float_named = below_more (IsNamed Float) 31 (below_more (IsNamed Float) 30 (below_more (IsNamed Float) 29 (below_more (IsNamed Float) 28 (below_more (IsNamed Float) 27 (below_more (IsNamed Float) 26 (below_more (IsNamed Float) 25 (below_more (IsNamed Float) 24 (below_more (IsNamed Float) 23 (below_more (IsNamed Float) 22 (below_more (IsNamed Float) 21 (below_more (IsNamed Float) 20 (below_more (IsNamed Float) 19 (below_more (IsNamed Float) 18 (below_more (IsNamed Float) 17 (below_more (IsNamed Float) 16 float_low refl) refl) refl) refl) refl) refl) refl) refl) refl) refl) refl) refl) refl) refl) refl) refl

by_digits : (n : ℕ) (ds : List ℕ) → decimal n ≡ ds → register (118 ∷ ds) ≡ real Vector n → IsNamed Vector n
by_digits n ds is read = subst (λ (w : List ℕ). register (118 ∷ w) ≡ real Vector n) (sym is) read

two_digits : (high low : ℕ) → 1 ≤ high → high < 10 → low < 10 → decimal (10 * high + low) ≡ (48 + high) ∷ (48 + low) ∷ []
two_digits high low some small digit =
    let tens : (10 * high + low) / 10 ≡ high = omega arith in
    let ones : (10 * high + low) % 10 ≡ low = omega arith in
    let step : decimal (10 * high + low) ≡ decimal ((10 * high + low) / 10) ++ (48 + (10 * high + low) % 10) ∷ [] = decimal_step (10 * high + low) (omega arith) (omega arith) in
    rw (tens, ones, decimal_digit high small) at step

vector_low : (n : ℕ) → n < 16 → IsNamed Vector n
unfolding register by_letter after_t after_s by_other_letter after_f single fixed float real
vector_low = below_more (IsNamed Vector) 15 (below_more (IsNamed Vector) 14 (below_more (IsNamed Vector) 13 (below_more (IsNamed Vector) 12 (below_more (IsNamed Vector) 11 (below_more (IsNamed Vector) 10 (below_more (IsNamed Vector) 9 (below_more (IsNamed Vector) 8 (below_more (IsNamed Vector) 7 (below_more (IsNamed Vector) 6 (below_more (IsNamed Vector) 5 (below_more (IsNamed Vector) 4 (below_more (IsNamed Vector) 3 (below_more (IsNamed Vector) 2 (below_more (IsNamed Vector) 1 (below_more (IsNamed Vector) 0 (below_none (IsNamed Vector)) (by_digits 0 (48 ∷ []) (decimal_digit 0 (lit< tt)) refl)) (by_digits 1 (49 ∷ []) (decimal_digit 1 (lit< tt)) refl)) (by_digits 2 (50 ∷ []) (decimal_digit 2 (lit< tt)) refl)) (by_digits 3 (51 ∷ []) (decimal_digit 3 (lit< tt)) refl)) (by_digits 4 (52 ∷ []) (decimal_digit 4 (lit< tt)) refl)) (by_digits 5 (53 ∷ []) (decimal_digit 5 (lit< tt)) refl)) (by_digits 6 (54 ∷ []) (decimal_digit 6 (lit< tt)) refl)) (by_digits 7 (55 ∷ []) (decimal_digit 7 (lit< tt)) refl)) (by_digits 8 (56 ∷ []) (decimal_digit 8 (lit< tt)) refl)) (by_digits 9 (57 ∷ []) (decimal_digit 9 (lit< tt)) refl)) (by_digits 10 (49 ∷ 48 ∷ []) (two_digits 1 0 (lit≤ tt) (lit< tt) (lit< tt)) refl)) (by_digits 11 (49 ∷ 49 ∷ []) (two_digits 1 1 (lit≤ tt) (lit< tt) (lit< tt)) refl)) (by_digits 12 (49 ∷ 50 ∷ []) (two_digits 1 2 (lit≤ tt) (lit< tt) (lit< tt)) refl)) (by_digits 13 (49 ∷ 51 ∷ []) (two_digits 1 3 (lit≤ tt) (lit< tt) (lit< tt)) refl)) (by_digits 14 (49 ∷ 52 ∷ []) (two_digits 1 4 (lit≤ tt) (lit< tt) (lit< tt)) refl)) (by_digits 15 (49 ∷ 53 ∷ []) (two_digits 1 5 (lit≤ tt) (lit< tt) (lit< tt)) refl)

vector_named : (n : ℕ) → n < 32 → IsNamed Vector n
unfolding register by_letter after_t after_s by_other_letter after_f single fixed float real
vector_named = below_more (IsNamed Vector) 31 (below_more (IsNamed Vector) 30 (below_more (IsNamed Vector) 29 (below_more (IsNamed Vector) 28 (below_more (IsNamed Vector) 27 (below_more (IsNamed Vector) 26 (below_more (IsNamed Vector) 25 (below_more (IsNamed Vector) 24 (below_more (IsNamed Vector) 23 (below_more (IsNamed Vector) 22 (below_more (IsNamed Vector) 21 (below_more (IsNamed Vector) 20 (below_more (IsNamed Vector) 19 (below_more (IsNamed Vector) 18 (below_more (IsNamed Vector) 17 (below_more (IsNamed Vector) 16 vector_low (by_digits 16 (49 ∷ 54 ∷ []) (two_digits 1 6 (lit≤ tt) (lit< tt) (lit< tt)) refl)) (by_digits 17 (49 ∷ 55 ∷ []) (two_digits 1 7 (lit≤ tt) (lit< tt) (lit< tt)) refl)) (by_digits 18 (49 ∷ 56 ∷ []) (two_digits 1 8 (lit≤ tt) (lit< tt) (lit< tt)) refl)) (by_digits 19 (49 ∷ 57 ∷ []) (two_digits 1 9 (lit≤ tt) (lit< tt) (lit< tt)) refl)) (by_digits 20 (50 ∷ 48 ∷ []) (two_digits 2 0 (lit≤ tt) (lit< tt) (lit< tt)) refl)) (by_digits 21 (50 ∷ 49 ∷ []) (two_digits 2 1 (lit≤ tt) (lit< tt) (lit< tt)) refl)) (by_digits 22 (50 ∷ 50 ∷ []) (two_digits 2 2 (lit≤ tt) (lit< tt) (lit< tt)) refl)) (by_digits 23 (50 ∷ 51 ∷ []) (two_digits 2 3 (lit≤ tt) (lit< tt) (lit< tt)) refl)) (by_digits 24 (50 ∷ 52 ∷ []) (two_digits 2 4 (lit≤ tt) (lit< tt) (lit< tt)) refl)) (by_digits 25 (50 ∷ 53 ∷ []) (two_digits 2 5 (lit≤ tt) (lit< tt) (lit< tt)) refl)) (by_digits 26 (50 ∷ 54 ∷ []) (two_digits 2 6 (lit≤ tt) (lit< tt) (lit< tt)) refl)) (by_digits 27 (50 ∷ 55 ∷ []) (two_digits 2 7 (lit≤ tt) (lit< tt) (lit< tt)) refl)) (by_digits 28 (50 ∷ 56 ∷ []) (two_digits 2 8 (lit≤ tt) (lit< tt) (lit< tt)) refl)) (by_digits 29 (50 ∷ 57 ∷ []) (two_digits 2 9 (lit≤ tt) (lit< tt) (lit< tt)) refl)) (by_digits 30 (51 ∷ 48 ∷ []) (two_digits 3 0 (lit≤ tt) (lit< tt) (lit< tt)) refl)) (by_digits 31 (51 ∷ 49 ∷ []) (two_digits 3 1 (lit≤ tt) (lit< tt) (lit< tt)) refl)

pub names_read : (class : RegClass) (n : ℕ) → n < 32 → register (real_name class n) ≡ real class n
names_read Int = int_named
names_read Float = float_named
names_read Vector = vector_named
