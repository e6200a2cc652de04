-- What is written of a number in decimal reads as that number.
use Rattle.std.proofs.Common.{◌≡◌, ℕ, ◌+◌, ◌*◌, ◌/◌, ◌%◌, ◌^◌, ◌<◌, ◌≤◌, List, [], ◌∷◌, ◌++◌, length, Bool, true, false, Option, Some, None, refl, ap, ◌∙◌, arith, length-append, ⊎_elim}
use Rattle.std.specs.Prelude.{◌==◌, nat_lt, slice_index, ◌&&◌, if◌then◌else◌}
use Rattle.std.specs.Fmt.{decimal as written}
use Rattle.std.proofs.lemmas.Fmt.{decimal_by_steps}
use Rattle.std.proofs.lemmas.Bool.{lt-ltb, ne_eqb, cases_lt}
use borrow.Author.Count.{below_none, below_more}
use Rattle.rv_listing.specs.Tokens.{◌>>=◌, below, digit, digits_after, digits, decimal}

pub below_is : (limit n : ℕ) → n < limit → below limit n ≡ Some n
below_is limit n low = rw (lt-ltb n limit low) refl

abbrev ReadsDigit : ℕ → Type 0
ReadsDigit d = digit 10 (48 + d) ≡ Some d

digit_is : (d : ℕ) → d < 10 → ReadsDigit d
digit_is = below_more ReadsDigit 9 (below_more ReadsDigit 8 (below_more ReadsDigit 7 (below_more ReadsDigit 6 (below_more ReadsDigit 5 (below_more ReadsDigit 4 (below_more ReadsDigit 3 (below_more ReadsDigit 2 (below_more ReadsDigit 1 (below_more ReadsDigit 0 (below_none ReadsDigit) refl) refl) refl) refl) refl) refl) refl) refl) refl) refl

-- the digits but the last, and then the last
digits_more : (ds : List ℕ) (m c : ℕ) → digits_after 10 m (ds ++ c ∷ []) ≡ (digits_after 10 m ds >>= λ k. digits_after 10 k (c ∷ []))
digits_more [] m c = refl
digits_more (d ∷ ds) m c = on (digit 10 d) (λ n. digits_more ds n c)
  where
    after : (o : Option ℕ) → ((n : ℕ) → digits_after 10 n (ds ++ c ∷ []) ≡ (digits_after 10 n ds >>= λ k. digits_after 10 k (c ∷ []))) → (o >>= λ k. digits_after 10 k (ds ++ c ∷ [])) ≡ ((o >>= λ k. digits_after 10 k ds) >>= λ k. digits_after 10 k (c ∷ []))
    after None more = refl
    after (Some n) more = more n

    on : (o : Option ℕ) → ((n : ℕ) → digits_after 10 n (ds ++ c ∷ []) ≡ (digits_after 10 n ds >>= λ k. digits_after 10 k (c ∷ []))) → (o >>= λ d. below (2 ^ 64) (m * 10 + d) >>= λ k. digits_after 10 k (ds ++ c ∷ [])) ≡ ((o >>= λ d. below (2 ^ 64) (m * 10 + d) >>= λ k. digits_after 10 k ds) >>= λ k. digits_after 10 k (c ∷ []))
    on None more = refl
    on (Some d) more = after (below (2 ^ 64) (m * 10 + d)) more

last_digit : (m d : ℕ) → d < 10 → m * 10 + d < 2 ^ 64 → digits_after 10 m ((48 + d) ∷ []) ≡ Some (m * 10 + d)
last_digit m d low fits = rw (digit_is d low, below_is (2 ^ 64) (m * 10 + d) fits) refl

-- digits that read as a number; those of more than one digit begin with no zero
record Reads (n : ℕ) (ds : List ℕ) : Type 0 where
  some : 0 < length ds
  first : 0 < n → (slice_index ds 0 == 48) ≡ false
  one : n < 10 → length ds ≡ 1
  value : n < 2 ^ 64 → digits_after 10 0 ds ≡ Some n

one_digit : (n : ℕ) → n < 10 → Reads n ((48 + n) ∷ [])
one_digit n low = record {
  some = omega arith;
  first = λ positive. ne_eqb (48 + n) 48 (λ e. omega arith);
  one = λ small. refl;
  value = λ fits. let same : 0 * 10 + n ≡ n = omega arith in last_digit 0 n low (omega arith) ∙ ap Some same;
}

-- the first of some digits is that of more
first_longer : (ds : List ℕ) (c : ℕ) → 0 < length ds → (slice_index ds 0 == 48) ≡ false → (slice_index (ds ++ c ∷ []) 0 == 48) ≡ false
first_longer [] c some e = absurd (omega arith)
first_longer (d ∷ ds) c some e = e

one_more : (n : ℕ) (ds : List ℕ) → 10 ≤ n → Reads (n / 10) ds → Reads n (ds ++ (48 + n % 10) ∷ [])
one_more n ds big r = record {
  some = omega (arith, length-append ds ((48 + n % 10) ∷ []));
  first = λ positive. first_longer ds (48 + n % 10) r.some (r.first (omega arith));
  one = λ low. absurd (omega arith);
  value = λ fits.
      let longer : digits_after 10 0 (ds ++ (48 + n % 10) ∷ []) ≡ (Some (n / 10) >>= λ k. digits_after 10 k ((48 + n % 10) ∷ [])) = digits_more ds 0 (48 + n % 10) ∙ ap (λ o. o >>= λ k. digits_after 10 k ((48 + n % 10) ∷ [])) (r.value (omega arith)) in
      let same : n / 10 * 10 + n % 10 ≡ n = omega arith in
      longer ∙ last_digit (n / 10) (n % 10) (omega arith) (omega arith) ∙ ap Some same;
}

no_zero : (b c : Bool) (o : Option ℕ) → (if b && (c && false) then None else o) ≡ o
no_zero true true o = refl
no_zero true false o = refl
no_zero false c o = refl

some_digits : (w : List ℕ) → 0 < length w → digits 10 w ≡ digits_after 10 0 w
some_digits w some = rw (ne_eqb (length w) 0 (λ e. omega arith)) refl

reads_decimal : (n : ℕ) (ds : List ℕ) → n < 2 ^ 64 → Reads n ds → decimal ds ≡ Some n
reads_decimal n [] fits r = absurd (let some = r.some in omega arith)
reads_decimal n (d ∷ []) fits r = r.value fits
reads_decimal n (d ∷ e ∷ ds) fits r = ⊎_elim
    (λ low. absurd (let one = r.one low in omega arith))
    (λ high.
    let first : (d == 48) ≡ false = r.first (omega arith) in
    let unzeroed : decimal (d ∷ e ∷ ds) ≡ digits 10 (d ∷ e ∷ ds) = rw first (no_zero (nat_lt 1 (length (d ∷ e ∷ ds))) (nat_lt 0 (length (d ∷ e ∷ ds))) (digits 10 (d ∷ e ∷ ds))) in
    unzeroed ∙ some_digits (d ∷ e ∷ ds) r.some ∙ r.value fits)
    (cases_lt n 10)

pub decimal_read : (n : ℕ) → n < 2 ^ 64 → decimal (written n) ≡ Some n
decimal_read n fits = reads_decimal n (written n) fits (decimal_by_steps Reads one_digit one_more n fits)
