-- Products without carries.
use Rattle.std.proofs.Common.{◌≡◌, ℕ, ◌*◌, ◌/◌, ◌%◌, ◌^◌, ◌<◌, if◌then◌else◌, arith, ap, sym, ◌∙◌, eq-eqb}
use Rattle.std.proofs.Math.Pow.{pow-lt}
use Rattle.std.proofs.lemmas.Nat.{mul-lt}
use Rattle.rv_full.specs.Carry.{partial}

pub partial_is : (n x y i : ℕ) → n ≡ x → x < 2 ^ 64 → i < 64 → y / 2 ^ i % 2 ≡ 1 → n * 2 ^ i % 2 ^ 128 ≡ partial x y i
partial_is n x y i same fits lt one =
    let below : x * 2 ^ i < 2 ^ 64 * 2 ^ 64 = mul-lt x (2 ^ i) (2 ^ 64) (2 ^ 64) fits (pow-lt lt) in
    ap (λ m. m * 2 ^ i % 2 ^ 128) same
    ∙ small (x * 2 ^ i) below
    ∙ ap (λ c. if c then x * 2 ^ i else 0) (sym (eq-eqb (y / 2 ^ i % 2) 1 one))
  where
    small : (p : ℕ) → p < 2 ^ 64 * 2 ^ 64 → p % 2 ^ 128 ≡ p
    small p lt = omega arith
