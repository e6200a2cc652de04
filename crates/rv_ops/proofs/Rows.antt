-- The first row of a table that a number has is a row that it has, and where there is none it has no row.
use Rattle.std.proofs.Common.{◌≡◌, ℕ, zero, suc, ◌-◌, ◌≤◌, if◌then◌else◌, Bool, true, false, Option, Some, None, List, [], ◌∷◌, refl, sym, subst, arith}
use Rattle.std.specs.Prelude.{IsSomeAnd, slice_get}
use Rattle.rv_ops.specs.Fli.{Pattern, has_pattern, first_row, Format, fli_row, HasRow}

abbrev Has : ℕ → ℕ → List Pattern → ℕ → Type 0
Has width number ps row = IsSomeAnd (slice_get ps row) (λ pattern. has_pattern width number pattern ≡ true)

-- a row counted from the start of the rest of a table
record HasFrom (width number start : ℕ) (ps : List Pattern) (row : ℕ) : Type 0 where
  later : start ≤ row
  has : Has width number ps (row - start)

found_from : (width number start : ℕ) (ps : List Pattern) (row : ℕ) → first_row width number start ps ≡ Some row → HasFrom width number start ps row
found_from width number start [] row is = absurd (cc)
found_from width number start (p ∷ rest) row is = on (has_pattern width number p) refl is (found_from width number (suc start) rest row)
  where
    on : (c : Bool) → has_pattern width number p ≡ c → (if c then Some start else first_row width number (suc start) rest) ≡ Some row → (first_row width number (suc start) rest ≡ Some row → HasFrom width number (suc start) rest row) → HasFrom width number start (p ∷ rest) row
    on true test is more =
        let same : start ≡ row = cc in
        let none : row - start ≡ 0 = omega (arith, same) in
        record { later = omega (arith, same); has = subst (Has width number (p ∷ rest)) (sym none) test }
    on false test is more =
        let h = more is in
        let above = h.later in
        let next : row - start ≡ suc (row - suc start) = omega (arith, above) in
        record { later = omega (arith, above); has = subst (Has width number (p ∷ rest)) (sym next) h.has }

none_from : (width number start : ℕ) (ps : List Pattern) (row : ℕ) → first_row width number start ps ≡ None → ¬ (Has width number ps row)
none_from width number start [] row is has = absurd (has)
none_from width number start (p ∷ rest) row is has = on (has_pattern width number p) refl is row has (none_from width number (suc start) rest)
  where
    on : (c : Bool) → has_pattern width number p ≡ c → (if c then Some start else first_row width number (suc start) rest) ≡ None → (row : ℕ) → Has width number (p ∷ rest) row → ((row : ℕ) → first_row width number (suc start) rest ≡ None → ¬ (Has width number rest row)) → ⊥
    on true test is row has more = absurd (cc)
    on false test is zero has more = absurd (cc)
    on false test is (suc row) has more = more row is has

pub row_found : (f : Option Format) (number row : ℕ) → IsSomeAnd f (λ format. Some row ≡ fli_row format number) → IsSomeAnd f (λ format. HasRow format row number)
row_found (Some f) number row is =
    let whole : row - 0 ≡ row = omega arith in
    subst (Has f.width number f.patterns) whole (found_from f.width number 0 f.patterns row (sym is)).has
row_found None number row is = is

pub no_row : (f : Option Format) (number row : ℕ) → IsSomeAnd f (λ format. None ≡ fli_row format number) → IsSomeAnd f (λ format. ¬ (HasRow format row number))
no_row (Some f) number row is = none_from f.width number 0 f.patterns row (sym is)
no_row None number row is = is
