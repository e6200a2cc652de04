-- A text in lines, a line in words, and the numbers that words stand for.
use Rattle.std.specs.Prelude.{ℕ, ◌+◌, ◌-◌, ◌*◌, ◌^◌, Bool, true, false, T, ◌&&◌, List, [], ◌∷◌, Option, Some, None, nat_lt, nat_le, ◌==◌, if◌then◌else◌, slice_index, length, drop, ℤ, pos, neg_ℤ}

infixl 10 ◌>>=◌
abbrev pub ◌>>=◌ : {A B : Type 0} → Option A → (A → Option B) → Option B
(Some x) >>= f = f x
None >>= f = None

abbrev pub or_else : {A : Type 0} → Option A → Option A → Option A
or_else (Some x) other = Some x
or_else None other = other

-- what stands where a test holds, given that it holds
abbrev pub where_true : {A : Type 0} (t : Bool) → (T t → Option A) → Option A
where_true true f = f tt
where_true false f = None

-- c before the first of them
abbrev pub onto : ℕ → List (List ℕ) → List (List ℕ)
onto c [] = (c ∷ []) ∷ []
onto c (l ∷ ls) = (c ∷ l) ∷ ls

-- Each LF ends a line; the last may be missing.
abbrev pub lines_of : List ℕ → List (List ℕ)
lines_of [] = []
lines_of (c ∷ cs) = if c == 10 then [] ∷ lines_of cs else onto c (lines_of cs)

-- A part goes up to a separator or the end, so two separators in a row have an empty part between them.
abbrev pub parts_of : ℕ → List ℕ → List (List ℕ)
parts_of separator [] = [] ∷ []
parts_of separator (c ∷ cs) = if c == separator then [] ∷ parts_of separator cs else onto c (parts_of separator cs)

-- the parts after a separator, or none at the end
abbrev pub parts_after : ℕ → List ℕ → List (List ℕ)
parts_after separator [] = []
parts_after separator (c ∷ cs) = parts_of separator cs

-- the words of a line, each a space apart
abbrev pub words_of : List ℕ → List (List ℕ)
words_of = parts_of 32

-- the words after a space, or none at the end of the line
abbrev pub words_after : List ℕ → List (List ℕ)
words_after = parts_after 32

-- both parts, where there are two
abbrev pub as_pair : List (List ℕ) → Option (List ℕ × List ℕ)
as_pair [] = None
as_pair (a ∷ []) = None
as_pair (a ∷ b ∷ []) = Some (a, b)
as_pair (a ∷ b ∷ c ∷ rest) = None

-- what is after an LF, or nothing at the end of the text
abbrev pub after_lf : List ℕ → List ℕ
after_lf [] = []
after_lf (c ∷ cs) = cs

abbrev pub below : ℕ → ℕ → Option ℕ
below limit n = if nat_lt n limit then Some n else None

-- a digit: 0 to 9, and a to f where the base is above 10
abbrev pub digit : ℕ → ℕ → Option ℕ
digit base c = if nat_le 48 c && nat_lt c 58 then Some (c - 48) else if nat_lt 10 base && nat_le 97 c && nat_lt c 103 then Some (c - 87) else None

-- The digits that follow a number. No field takes 2 ^ 64 or more.
abbrev pub digits_after : ℕ → ℕ → List ℕ → Option ℕ
digits_after base n [] = Some n
digits_after base n (c ∷ cs) = digit base c >>= λ d. below (2 ^ 64) (n * base + d) >>= λ m. digits_after base m cs

abbrev pub digits : ℕ → List ℕ → Option ℕ
digits base w = if length w == 0 then None else digits_after base 0 w

abbrev pub starts : ℕ → List ℕ → Bool
starts c w = nat_lt 0 (length w) && slice_index w 0 == c

-- decimal without leading zeros
abbrev pub decimal : List ℕ → Option ℕ
decimal w = if nat_lt 1 (length w) && starts 48 w then None else digits 10 w

-- decimal, or 0x and lower-case hex digits
abbrev pub natural : List ℕ → Option ℕ
natural w = if starts 48 w && starts 120 (drop 1 w) then digits 16 (drop 2 w) else decimal w

-- a number of either sign; a minus may stand before zero
unfoldable pub signed : List ℕ → Option ℤ
signed w =
    if starts 45 w then (natural (drop 1 w) >>= λ n. Some (neg_ℤ (pos n)))
    else natural w >>= λ n. Some (pos n)
