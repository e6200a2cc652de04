-- Lines of bytes, one after the other.
use Rattle.std.proofs.Common.{◌≡◌, ℕ, suc, ◌+◌, ◌-◌, ◌*◌, ◌<◌, List, ◌++◌, take, drop, sym, ap, ◌∙◌, append_assoc, arith}
use Rattle.rv_listing.specs.Report.{hex_line, hex_lines}

pub next_hex_line : (out new rest total : List ℕ) (n k : ℕ) → k < n → new ≡ out ++ hex_line (16 * k) (take 16 rest)
    → out ++ hex_lines (n - k) (16 * k) rest ≡ total → new ++ hex_lines (n - (k + 1)) (16 * (k + 1)) (drop 16 rest) ≡ total
next_hex_line out new rest total n k lt put so_far =
    let words_after : n - k ≡ suc (n - (k + 1)) = omega arith in
    let at : 16 * (k + 1) ≡ 16 * k + 16 = omega arith in
    let whole : out ++ (hex_line (16 * k) (take 16 rest) ++ hex_lines (n - (k + 1)) (16 * k + 16) (drop 16 rest)) ≡ total = ap (λ (m : ℕ). out ++ hex_lines m (16 * k) rest) (sym words_after) ∙ so_far in
    rw (put, at) (append_assoc out (hex_line (16 * k) (take 16 rest)) (hex_lines (n - (k + 1)) (16 * k + 16) (drop 16 rest)) ∙ whole)
