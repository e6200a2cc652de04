-- What one line more gives.
use Rattle.std.proofs.Common.{◌≡◌, ℕ, ◌+◌, ◌<◌, ◌≤◌, List, ◌∷◌, ◌++◌, length, Option, Some, None, sym, ap, ◌∙◌, arith}
use Rattle.std.specs.Prelude.{Result}
use Rattle.rv_base.specs.declared.flags.IsaFlags.{IsaFlags}
use Rattle.rv_listing.specs.Tokens.{◌>>=◌}
use Rattle.rv_dump.specs.Dump.{further}
use Rattle.rv_dump.specs.Reading.{line_bytes, or_line, reading}

some_same : (x y : List ℕ) → Some x ≡ Some y → x ≡ y
some_same x y e = cc

pub line_more : (flags : IsaFlags) (base n : ℕ) (bytes new line : List ℕ) (all ls : List (List ℕ)) (whole : Result (List ℕ) ℕ) → all ≡ line ∷ ls
    → (line_bytes flags (further base (length bytes)) line >>= λ more. Some (bytes ++ more)) ≡ Some new → reading flags base n bytes all ≡ whole → reading flags base (n + 1) new ls ≡ whole
line_more flags base n bytes new line all ls whole cut put inv = on (line_bytes flags (further base (length bytes)) line) put (sym (ap (reading flags base n bytes) cut) ∙ inv)
  where
    on : (o : Option (List ℕ)) → (o >>= λ more. Some (bytes ++ more)) ≡ Some new → or_line n o (λ more. reading flags base (n + 1) (bytes ++ more) ls) ≡ whole → reading flags base (n + 1) new ls ≡ whole
    on None e f = absurd (cc)
    on (Some more) e f = ap (λ b. reading flags base (n + 1) b ls) (sym (some_same (bytes ++ more) new e)) ∙ f

pub one_less : (n a r t : ℕ) → a < r → n + r ≤ t + 1 → n + 1 + a ≤ t + 1
one_less n a r t h g = omega arith
