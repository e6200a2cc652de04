-- Tokens: what the text of a number is, and where it ends.
use Rattle.std.proofs.Common.{◌≡◌, ℕ, suc, ◌+◌, ◌%◌, ◌^◌, ◌<◌, Bool, true, false, cond, not, ◌&&◌, List, [], ◌∷◌, ◌++◌, length, take, drop, ℤ, pos, negsuc, unsigned_abs, refl, sym, ap, subst, ◌∙◌, arith, Option, Some, None, Ok, Err, w64, to_z, of_z, to_z-of_z}
use Rattle.std.specs.Prelude.{◌==◌}
use Rattle.std.specs.Prelude.{Result}
use Rattle.std.specs.Str.{IsUtf8}
use Rattle.std.specs.Prelude.{FitsSigned}
use lib.Signed.{mag}
use Rattle.std.proofs.lemmas.Fmt.{IsAscii-signed}
use Rattle.std.proofs.lemmas.Str.{IsUtf8-from_ascii}
use Rattle.std.specs.Str.Parse.{ParsesSigned}
use Rattle.std.specs.List.{position_or_len}
use Rattle.std.specs.Str.{bytes_eq}
use Rattle.std.specs.Fmt.{decimal, signed_decimal}
use Rattle.std.proofs.lemmas.Fmt.{decimal_by_steps, parse-signed_decimal}
use Rattle.std.proofs.lemmas.Int.{ints}
use Rattle.std.proofs.lemmas.Bool.{eq-eqb, ne_eqb, and_parts, not-true, and_from}
use borrow.Author.Count.{below_none, below_more}
use Rattle.rv_base.specs.RegNames.{int_names, float_names, name_at}
use Rattle.rv_disasm.specs.declared.layouts.File.{File}
use Rattle.rv_disasm.specs.declared.layouts.File.TheVariants as file
use Rattle.rv_disasm.specs.Text.{number_text}
use Rattle.rv_disasm.specs.Reading.{lacks, Begins}
use Rattle.rv_disasm.specs.Text.{IsNamed, IsRegister}

-- ---- where a token ends

step : (b : Bool) (k n : ℕ) → b ≡ false → k ≡ n → cond (not b) (1 + k) 0 ≡ suc n
step false k n e h = omega arith
step true k n e h = absurd (cc)

stop : (b : Bool) (k : ℕ) → b ≡ true → cond (not b) (1 + k) 0 ≡ 0
stop true k e = refl
stop false k e = absurd (cc)

pub cut_at : (byte : ℕ) (token rest : List ℕ) → lacks byte token ≡ true → Begins byte rest → position_or_len (λ c. c == byte) (token ++ rest) ≡ length token
cut_at byte [] [] l b = refl
cut_at byte [] (c ∷ rest) l b = stop (c == byte) (position_or_len (λ c. c == byte) rest) (eq-eqb c byte b)
cut_at byte (c ∷ token) rest l b =
    let parts = and_parts (not (c == byte)) (lacks byte token) l in
    step (c == byte) (position_or_len (λ c. c == byte) (token ++ rest)) (length token) (not-true (c == byte) parts.0) (cut_at byte token rest parts.1 b)

pub take_front : (token rest : List ℕ) → take (length token) (token ++ rest) ≡ token
take_front [] rest = refl
take_front (c ∷ token) rest = ap (λ t. c ∷ t) (take_front token rest)

pub drop_front : (token rest : List ℕ) → drop (length token) (token ++ rest) ≡ rest
drop_front [] rest = refl
drop_front (c ∷ token) rest = drop_front token rest

-- ---- no comma stands in a number's text

lacks_append : (byte : ℕ) (a b : List ℕ) → lacks byte a ≡ true → lacks byte b ≡ true → lacks byte (a ++ b) ≡ true
lacks_append byte [] b h g = g
lacks_append byte (c ∷ a) b h g = let parts = and_parts (not (c == byte)) (lacks byte a) h in and_from (not (c == byte)) (lacks byte (a ++ b)) parts.0 (lacks_append byte a b parts.1 g)

one_lacks : (byte c : ℕ) → (c ≡ byte → ⊥) → lacks byte (c ∷ []) ≡ true
one_lacks byte c other = ap (λ b. not b && true) (ne_eqb c byte other)

pub decimal_lacks : (n : ℕ) → n < 2 ^ 64 → lacks 44 (decimal n) ≡ true
decimal_lacks = decimal_by_steps (λ n ds. lacks 44 ds ≡ true)
    (λ n low. one_lacks 44 (48 + n) (λ e. omega arith))
    (λ n ds big h. lacks_append 44 ds ((48 + n % 10) ∷ []) h (one_lacks 44 (48 + n % 10) (λ e. omega arith)))

pub signed_lacks : (z : ℤ) → unsigned_abs z < 2 ^ 62 → lacks 44 (signed_decimal z) ≡ true
signed_lacks (pos n) h = decimal_lacks n (omega arith)
signed_lacks (negsuc n) h = decimal_lacks (suc n) (omega arith)

abbrev NameLacks : List (List ℕ) → ℕ → Type 0
NameLacks names n = lacks 44 (name_at names n) ≡ true

abbrev NameAt : List (List ℕ) → ℕ → Type 0
NameAt names n = position_or_len (bytes_eq (name_at names n)) names ≡ n

int_low_lacks : (n : ℕ) → n < 16 → NameLacks int_names n
int_low_lacks = below_more (NameLacks int_names) 15 (below_more (NameLacks int_names) 14 (below_more (NameLacks int_names) 13 (below_more (NameLacks int_names) 12 (below_more (NameLacks int_names) 11 (below_more (NameLacks int_names) 10 (below_more (NameLacks int_names) 9 (below_more (NameLacks int_names) 8 (below_more (NameLacks int_names) 7 (below_more (NameLacks int_names) 6 (below_more (NameLacks int_names) 5 (below_more (NameLacks int_names) 4 (below_more (NameLacks int_names) 3 (below_more (NameLacks int_names) 2 (below_more (NameLacks int_names) 1 (below_more (NameLacks int_names) 0 (below_none (NameLacks int_names)) (refl)) (refl)) (refl)) (refl)) (refl)) (refl)) (refl)) (refl)) (refl)) (refl)) (refl)) (refl)) (refl)) (refl)) (refl)) (refl)

int_lacks : (n : ℕ) → n < 32 → NameLacks int_names n
int_lacks = below_more (NameLacks int_names) 31 (below_more (NameLacks int_names) 30 (below_more (NameLacks int_names) 29 (below_more (NameLacks int_names) 28 (below_more (NameLacks int_names) 27 (below_more (NameLacks int_names) 26 (below_more (NameLacks int_names) 25 (below_more (NameLacks int_names) 24 (below_more (NameLacks int_names) 23 (below_more (NameLacks int_names) 22 (below_more (NameLacks int_names) 21 (below_more (NameLacks int_names) 20 (below_more (NameLacks int_names) 19 (below_more (NameLacks int_names) 18 (below_more (NameLacks int_names) 17 (below_more (NameLacks int_names) 16 (int_low_lacks) (refl)) (refl)) (refl)) (refl)) (refl)) (refl)) (refl)) (refl)) (refl)) (refl)) (refl)) (refl)) (refl)) (refl)) (refl)) (refl)

int_low_placed : (n : ℕ) → n < 16 → NameAt int_names n
int_low_placed = below_more (NameAt int_names) 15 (below_more (NameAt int_names) 14 (below_more (NameAt int_names) 13 (below_more (NameAt int_names) 12 (below_more (NameAt int_names) 11 (below_more (NameAt int_names) 10 (below_more (NameAt int_names) 9 (below_more (NameAt int_names) 8 (below_more (NameAt int_names) 7 (below_more (NameAt int_names) 6 (below_more (NameAt int_names) 5 (below_more (NameAt int_names) 4 (below_more (NameAt int_names) 3 (below_more (NameAt int_names) 2 (below_more (NameAt int_names) 1 (below_more (NameAt int_names) 0 (below_none (NameAt int_names)) (refl)) (refl)) (refl)) (refl)) (refl)) (refl)) (refl)) (refl)) (refl)) (refl)) (refl)) (refl)) (refl)) (refl)) (refl)) (refl)

int_placed : (n : ℕ) → n < 32 → NameAt int_names n
int_placed = below_more (NameAt int_names) 31 (below_more (NameAt int_names) 30 (below_more (NameAt int_names) 29 (below_more (NameAt int_names) 28 (below_more (NameAt int_names) 27 (below_more (NameAt int_names) 26 (below_more (NameAt int_names) 25 (below_more (NameAt int_names) 24 (below_more (NameAt int_names) 23 (below_more (NameAt int_names) 22 (below_more (NameAt int_names) 21 (below_more (NameAt int_names) 20 (below_more (NameAt int_names) 19 (below_more (NameAt int_names) 18 (below_more (NameAt int_names) 17 (below_more (NameAt int_names) 16 (int_low_placed) (refl)) (refl)) (refl)) (refl)) (refl)) (refl)) (refl)) (refl)) (refl)) (refl)) (refl)) (refl)) (refl)) (refl)) (refl)) (refl)

pub int_same : (m n : ℕ) → m < 32 → n < 32 → name_at int_names m ≡ name_at int_names n → m ≡ n
int_same m n hm hn e = sym (int_placed m hm) ∙ ap (λ w. position_or_len (bytes_eq w) int_names) e ∙ int_placed n hn

float_low_lacks : (n : ℕ) → n < 16 → NameLacks float_names n
float_low_lacks = below_more (NameLacks float_names) 15 (below_more (NameLacks float_names) 14 (below_more (NameLacks float_names) 13 (below_more (NameLacks float_names) 12 (below_more (NameLacks float_names) 11 (below_more (NameLacks float_names) 10 (below_more (NameLacks float_names) 9 (below_more (NameLacks float_names) 8 (below_more (NameLacks float_names) 7 (below_more (NameLacks float_names) 6 (below_more (NameLacks float_names) 5 (below_more (NameLacks float_names) 4 (below_more (NameLacks float_names) 3 (below_more (NameLacks float_names) 2 (below_more (NameLacks float_names) 1 (below_more (NameLacks float_names) 0 (below_none (NameLacks float_names)) (refl)) (refl)) (refl)) (refl)) (refl)) (refl)) (refl)) (refl)) (refl)) (refl)) (refl)) (refl)) (refl)) (refl)) (refl)) (refl)

float_lacks : (n : ℕ) → n < 32 → NameLacks float_names n
float_lacks = below_more (NameLacks float_names) 31 (below_more (NameLacks float_names) 30 (below_more (NameLacks float_names) 29 (below_more (NameLacks float_names) 28 (below_more (NameLacks float_names) 27 (below_more (NameLacks float_names) 26 (below_more (NameLacks float_names) 25 (below_more (NameLacks float_names) 24 (below_more (NameLacks float_names) 23 (below_more (NameLacks float_names) 22 (below_more (NameLacks float_names) 21 (below_more (NameLacks float_names) 20 (below_more (NameLacks float_names) 19 (below_more (NameLacks float_names) 18 (below_more (NameLacks float_names) 17 (below_more (NameLacks float_names) 16 (float_low_lacks) (refl)) (refl)) (refl)) (refl)) (refl)) (refl)) (refl)) (refl)) (refl)) (refl)) (refl)) (refl)) (refl)) (refl)) (refl)) (refl)

float_low_placed : (n : ℕ) → n < 16 → NameAt float_names n
float_low_placed = below_more (NameAt float_names) 15 (below_more (NameAt float_names) 14 (below_more (NameAt float_names) 13 (below_more (NameAt float_names) 12 (below_more (NameAt float_names) 11 (below_more (NameAt float_names) 10 (below_more (NameAt float_names) 9 (below_more (NameAt float_names) 8 (below_more (NameAt float_names) 7 (below_more (NameAt float_names) 6 (below_more (NameAt float_names) 5 (below_more (NameAt float_names) 4 (below_more (NameAt float_names) 3 (below_more (NameAt float_names) 2 (below_more (NameAt float_names) 1 (below_more (NameAt float_names) 0 (below_none (NameAt float_names)) (refl)) (refl)) (refl)) (refl)) (refl)) (refl)) (refl)) (refl)) (refl)) (refl)) (refl)) (refl)) (refl)) (refl)) (refl)) (refl)

float_placed : (n : ℕ) → n < 32 → NameAt float_names n
float_placed = below_more (NameAt float_names) 31 (below_more (NameAt float_names) 30 (below_more (NameAt float_names) 29 (below_more (NameAt float_names) 28 (below_more (NameAt float_names) 27 (below_more (NameAt float_names) 26 (below_more (NameAt float_names) 25 (below_more (NameAt float_names) 24 (below_more (NameAt float_names) 23 (below_more (NameAt float_names) 22 (below_more (NameAt float_names) 21 (below_more (NameAt float_names) 20 (below_more (NameAt float_names) 19 (below_more (NameAt float_names) 18 (below_more (NameAt float_names) 17 (below_more (NameAt float_names) 16 (float_low_placed) (refl)) (refl)) (refl)) (refl)) (refl)) (refl)) (refl)) (refl)) (refl)) (refl)) (refl)) (refl)) (refl)) (refl)) (refl)) (refl)

pub float_same : (m n : ℕ) → m < 32 → n < 32 → name_at float_names m ≡ name_at float_names n → m ≡ n
float_same m n hm hn e = sym (float_placed m hm) ∙ ap (λ w. position_or_len (bytes_eq w) float_names) e ∙ float_placed n hn

pub number_lacks : (f : File) (z : ℤ) → IsNamed f z → unsigned_abs z < 2 ^ 62 → lacks 44 (number_text f z) ≡ true
number_lacks file.X (pos n) named h = int_lacks n named
number_lacks file.X (negsuc n) named h = absurd named
number_lacks file.F (pos n) named h = float_lacks n named
number_lacks file.F (negsuc n) named h = absurd named
number_lacks file.V (pos n) named h = decimal_lacks n (omega arith)
number_lacks file.V (negsuc n) named h = absurd named
number_lacks file.Number z named h = signed_lacks z h

-- ---- what is read

mag_small : (z : ℤ) → unsigned_abs z < 2 ^ 62 → mag z < 2 ^ 63
mag_small (pos n) h = omega arith
mag_small (negsuc n) h = omega arith

fits_small : (z : ℤ) → unsigned_abs z < 2 ^ 62 → FitsSigned w64 z
fits_small z h = record { sfits = mag_small z h }

pub from_register : (name : ℕ → List ℕ) (token : List ℕ) (r : Option ℤ) → ((n : ℕ) → n < 32 → token ≡ name n → r ≡ Some (pos n)) → (z : ℤ) → IsRegister z → token ≡ name (unsigned_abs z) → r ≡ Some z
from_register name token r reads (pos n) named e = reads n named e
from_register name token r reads (negsuc n) named e = absurd named

-- a token, and what is after it
pub token_cut : (byte : ℕ) (text token rest : List ℕ) → lacks byte token ≡ true → Begins byte rest → text ≡ token ++ rest
    → (take (position_or_len (λ c. c == byte) text) text ≡ token) × (drop (position_or_len (λ c. c == byte) text) text ≡ rest)
token_cut byte text token rest l b e =
    let at : position_or_len (λ c. c == byte) text ≡ length token = ap (position_or_len (λ c. c == byte)) e ∙ cut_at byte token rest l b in
    ((λ i. take (at i) (e i)) ∙ take_front token rest, (λ i. drop (at i) (e i)) ∙ drop_front token rest)

pub ascii_utf8 : (z : ℤ) (token : List ℕ) → unsigned_abs z < 2 ^ 62 → token ≡ signed_decimal z → IsUtf8 token
ascii_utf8 z token small e = subst IsUtf8 (sym e) (IsUtf8-from_ascii (signed_decimal z) (IsAscii-signed z (mag_small z small)))

pub signed_parsed : {E : Type 0} (z : ℤ) (bs : List ℕ) (r : Result ℤ E) → unsigned_abs z < 2 ^ 62 → bs ≡ signed_decimal z → ParsesSigned w64 10 bs r → r ≡ Ok z
signed_parsed z bs r small e h = parse-signed_decimal w64 z bs r (fits_small z small) (mag_small z small) e h

abbrev ok_of : (E : Type 0) → ℤ → Result ℤ E
ok_of E z = Ok z

abbrev err_of : (E : Type 0) → E → Result ℤ E
err_of E e = Err e

pub ok_same : {E : Type 0} (y z : ℤ) → ok_of E y ≡ ok_of E z → y ≡ z
ok_same y z e = cc

pub not_err : {E : Type 0} (z : ℤ) (err : E) → err_of E err ≡ ok_of E z → None ≡ Some z
not_err z err e = absurd (cc)

pub same_some : (y z : ℤ) → unsigned_abs z < 2 ^ 62 → y ≡ z → Some (to_z w64 (of_z w64 y)) ≡ Some z
same_some y z small e = ap (λ x. Some (to_z w64 (of_z w64 x))) e ∙ ap Some (to_z-of_z (fits_small z small))

pub found : (n m : ℕ) → m < 32 → n ≡ m → Some (to_z w64 m) ≡ Some (pos n)
found n m low e = let same : to_z w64 m ≡ pos m = omega (arith, ints) in ap Some same ∙ ap (λ k. Some (pos k)) (sym e)

pub some_z : (y z : ℤ) → Some y ≡ Some z → y ≡ z
some_z y z e = cc

pub none_z : (z : ℤ) → None ≡ Some z → ⊥
none_z z e = cc

pub kept_z : (y z : ℤ) → unsigned_abs z < 2 ^ 62 → y ≡ z → to_z w64 (of_z w64 y) ≡ z
kept_z y z small e = ap (λ x. to_z w64 (of_z w64 x)) e ∙ to_z-of_z (fits_small z small)
