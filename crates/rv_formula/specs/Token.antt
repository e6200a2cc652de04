-- The tokens of a formula. Bytes are ASCII's.
use Rattle.std.specs.Prelude.{◌≡◌, ℕ, ◌+◌, ◌-◌, ◌<◌, ◌≤◌, Bool, not, ◌&&◌, ◌||◌, ◌==◌, nat_le, if◌then◌else◌, List, [], ◌∷◌, length, take, drop, unwrap_or, Option, Some, None, Result, Ok, Err}
use Rattle.std.specs.Char.{is_ascii_alphanumeric}
use Rattle.std.specs.List.{position}
use Rattle.rv_expr.specs.declared.ops.BinOp.TheVariants.{Add, Sub, Mul, And, Or, Xor, Shl, Shr, Sar, DivU, RemU, Ltu}
use Rattle.rv_listing.specs.Tokens.{natural}
use Rattle.rv_formula.specs.declared.error.FormulaError.{FormulaError}
use Rattle.rv_formula.specs.declared.error.FormulaError.TheVariants.{Unknown}
use Rattle.rv_formula.specs.declared.token.Lexed.{Lexed}
use Rattle.rv_formula.specs.declared.token.Token.{Token}
use Rattle.rv_formula.specs.declared.token.Token.TheVariants.{Number, Argument, Operator, Open, Close, Question, Colon}

-- how many spaces and tabs a text begins with
abbrev pub blanks : List ℕ → ℕ
blanks text = unwrap_or (position (λ c. not (c == 32) && not (c == 9)) text) (length text)

-- the tokens of one byte: + - * / % & ^ | ( ) ? :
abbrev pub sign : ℕ → Option Token
sign c =
    if c == 43 then Some (Operator Add)
    else if c == 45 then Some (Operator Sub)
    else if c == 42 then Some (Operator Mul)
    else if c == 47 then Some (Operator DivU)
    else if c == 37 then Some (Operator RemU)
    else if c == 38 then Some (Operator And)
    else if c == 94 then Some (Operator Xor)
    else if c == 124 then Some (Operator Or)
    else if c == 40 then Some Open
    else if c == 41 then Some Close
    else if c == 63 then Some Question
    else if c == 58 then Some Colon
    else None

-- after >: >>> is the arithmetic shift, >> the logical one
abbrev pub right_shift : List ℕ → Option (Token × ℕ)
right_shift [] = None
right_shift (c ∷ []) = if c == 62 then Some (Operator Shr, 2) else None
right_shift (c ∷ d ∷ rest) = if c == 62 then (if d == 62 then Some (Operator Sar, 3) else Some (Operator Shr, 2)) else None

-- after <: << is the shift, < the comparison
abbrev pub left_shift : List ℕ → Option (Token × ℕ)
left_shift [] = Some (Operator Ltu, 1)
left_shift (c ∷ rest) = if c == 60 then Some (Operator Shl, 2) else Some (Operator Ltu, 1)

abbrev pub with_length : ℕ → Option Token → Option (Token × ℕ)
with_length n None = None
with_length n (Some token) = Some (token, n)

-- the operator or sign that a text begins with, and how many bytes it has
abbrev pub symbol : List ℕ → Option (Token × ℕ)
symbol [] = None
symbol (c ∷ rest) = if c == 62 then right_shift rest else if c == 60 then left_shift rest else with_length 1 (sign c)

-- a0 to a7
abbrev pub argument : List ℕ → Option ℕ
argument [] = None
argument (c ∷ []) = None
argument (c ∷ d ∷ []) = if c == 97 then (if nat_le 48 d && nat_le d 55 then Some (d - 48) else None) else None
argument (c ∷ d ∷ e ∷ rest) = None

abbrev pub number : Option ℕ → Option Token
number None = None
number (Some n) = Some (Number n)

-- an argument, or else a number
abbrev pub argument_or : Option ℕ → Option Token → Option Token
argument_or None other = other
argument_or (Some k) other = Some (Argument k)

abbrev pub word_token : List ℕ → Option Token
word_token w = argument_or (argument w) (number (natural w))

-- how many letters and digits a text begins with
abbrev pub word_length : List ℕ → ℕ
word_length text = unwrap_or (position (λ c. not (is_ascii_alphanumeric c)) text) (length text)

-- the number or argument that a text begins with, and how many bytes it has: letters and digits as far as they go
abbrev pub word : List ℕ → Option (Token × ℕ)
word text = if word_length text == 0 then None else with_length (word_length text) (word_token (take (word_length text) text))

abbrev pub or_else : Option (Token × ℕ) → Option (Token × ℕ) → Option (Token × ℕ)
or_else None other = other
or_else (Some found) other = Some found

abbrev pub first_token : List ℕ → Option (Token × ℕ)
first_token text = or_else (symbol text) (word text)

-- a token that begins at an index; or that byte is wrong there, in the column of that index plus 1
abbrev pub lexed : ℕ → Option (Token × ℕ) → Result (Option Lexed) FormulaError
lexed start None = Err (Unknown (start + 1))
lexed start (Some (token, size)) = Ok (Some (record { token = token; start = start; end = start + size }))

abbrev pub token_at : List ℕ → ℕ → Result (Option Lexed) FormulaError
token_at text start = if start == length text then Ok None else lexed start (first_token (drop start text))

-- the first token of a text from an index on, if there is one, after spaces and tabs
abbrev pub next_of : List ℕ → ℕ → Result (Option Lexed) FormulaError
next_of text from = token_at text (from + blanks (drop from text))

-- a text has these tokens from an index on, and besides them only spaces and tabs
abbrev pub HasTokens : List ℕ → ℕ → List Lexed → Type 0
HasTokens text from [] = next_of text from ≡ Ok None
HasTokens text from (x ∷ xs) = (next_of text from ≡ Ok (Some x)) × HasTokens text x.end xs

-- at an index or after it, with at least one byte, before another index
pub record IsWithin (from before : ℕ) (t : Lexed) : Type 0 where
  pub after : from ≤ t.start
  pub some : t.start < t.end
  pub within : t.end ≤ before
