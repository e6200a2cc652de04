-- What `--answer` and `--setting` say: what a unit answers, and the vector setting.
use Rattle.std.specs.Prelude.{ℕ, ◌+◌, ◌*◌, ◌^◌, true, false, ◌&&◌, ◌==◌, if◌then◌else◌, nat_lt, List, [], ◌∷◌, ◌++◌, drop, length, Option, Some, None, codes}
use Rattle.std.specs.Str.{bytes_eq}
use Rattle.rv_full.specs.declared.answer.Answer.{Answer}
use Rattle.rv_full.specs.declared.answer.Answer.TheVariants.{Bits, Vectors, Stored, Success, Length}
use Rattle.rv_full.specs.declared.units.Setting.{Setting}
use Rattle.rv_listing.specs.Tokens.{◌>>=◌, as_pair, below, digit, natural, parts_of, starts}

-- a number below a limit
abbrev pub number_below : ℕ → List ℕ → Option ℕ
number_below limit w = natural w >>= below limit

-- ---- the vector setting

-- `AVL,VTYPE`: a vector length below 32, and a vtype of eight bits
abbrev pub setting_pair : List ℕ → Option Setting
setting_pair w = as_pair (parts_of 44 w) >>= λ p. number_below 32 p.0 >>= λ avl. number_below 256 p.1 >>= λ vtype. Some (record { avl = avl; vtype = vtype })

-- ---- vector registers

-- lower-case hex digits that follow a number; a vector register has 128 bits
abbrev pub wide_after : ℕ → List ℕ → Option ℕ
wide_after n [] = Some n
wide_after n (c ∷ cs) = digit 16 c >>= λ d. below (2 ^ 128) (n * 16 + d) >>= λ m. wide_after m cs

-- 0x and such digits
abbrev pub wide : List ℕ → Option ℕ
wide w = if nat_lt 2 (length w) && starts 48 w && starts 120 (drop 1 w) then wide_after 0 (drop 2 w) else None

-- `N=0xBITS`, for a number below 32
abbrev pub vector_register : List ℕ → Option (ℕ × ℕ)
vector_register w = as_pair (parts_of 61 w) >>= λ p. number_below 32 p.0 >>= λ n. wide p.1 >>= λ bits. Some (n, bits)

-- the registers of these words, after others
abbrev pub registers_after : List (ℕ × ℕ) → List (List ℕ) → Option (List (ℕ × ℕ))
registers_after old [] = Some old
registers_after old (w ∷ ws) = vector_register w >>= λ r. registers_after (old ++ r ∷ []) ws

-- ---- bytes of a store

-- two hex digits are a byte that is written, and two minuses one that isn't
abbrev pub stored_byte : ℕ → ℕ → Option (Option ℕ)
stored_byte c d = if (c == 45) && (d == 45) then Some None else digit 16 c >>= λ high. digit 16 d >>= λ low. Some (Some (high * 16 + low))

-- the bytes of a word, after others
abbrev pub stored_after : List (Option ℕ) → List ℕ → Option (List (Option ℕ))
stored_after old [] = Some old
stored_after old (c ∷ []) = None
stored_after old (c ∷ d ∷ w) = stored_byte c d >>= λ b. stored_after (old ++ b ∷ []) w

-- ---- answers

abbrev pub bits_answer : List ℕ → Option Answer
bits_answer w = natural w >>= λ bits. Some (Bits bits)

abbrev pub length_answer : List ℕ → Option Answer
length_answer w = number_below 256 w >>= λ n. Some (Length n)

abbrev pub vector_answer : List ℕ → Option Answer
vector_answer w = registers_after [] (parts_of 44 w) >>= λ rs. Some (Vectors rs)

abbrev pub stored_answer : List ℕ → Option Answer
stored_answer w = stored_after [] w >>= λ bs. Some (Stored bs)

-- `KIND:WHAT`
abbrev pub answer_of_kind : List ℕ → List ℕ → Option Answer
answer_of_kind kind w =
    if bytes_eq kind (codes "bits") then bits_answer w else
    if bytes_eq kind (codes "length") then length_answer w else
    if bytes_eq kind (codes "vector") then vector_answer w else
    if bytes_eq kind (codes "stored") then stored_answer w else None

-- `success`, `failure`, or `KIND:WHAT`
abbrev pub answer : List ℕ → Option Answer
answer w =
    if bytes_eq w (codes "success") then Some (Success true) else
    if bytes_eq w (codes "failure") then Some (Success false) else
    as_pair (parts_of 58 w) >>= λ p. answer_of_kind p.0 p.1
