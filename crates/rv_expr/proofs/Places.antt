-- Where the places of operations are.
use Rattle.std.proofs.Common.{◌≡◌, ◌≢◌, ℕ, ◌+◌, ◌-◌, ◌*◌, ◌^◌, ◌<◌, ◌≤◌, ◌⊎◌, inl, inr, arith, refl, ap, sym, ◌∙◌}
use Rattle.rv_machine.specs.State.{wrap, low64}
use Rattle.rv_expr.specs.Frame.{depth, IsOutside}
use Rattle.rv_expr.specs.Listing.{place_offset}

-- the place of an operation: the eight bytes from this address on
abbrev pub place : ℕ → ℕ → ℕ
place sp i = wrap (sp + low64 (place_offset i))

pub place_depth : (sp i k : ℕ) → sp < 2 ^ 64 → i < 2 ^ 60 → k < 8 → depth sp (wrap (place sp i + k)) ≡ 8 * i + (8 - k)
place_depth sp i k fits few below = omega arith

pub places_apart : (sp i j k l : ℕ) → sp < 2 ^ 64 → i < 2 ^ 60 → j < 2 ^ 60 → k < 8 → l < 8 → i ≢ j → wrap (place sp i + k) ≢ wrap (place sp j + l)
places_apart sp i j k l fits fi fj bk bl other e =
    let d = place_depth sp i k fits fi bk in
    let f = place_depth sp j l fits fj bl in
    let same : depth sp (wrap (place sp i + k)) ≡ depth sp (wrap (place sp j + l)) = ap (depth sp) e in
    last (8 * i + (8 - k)) (8 * j + (8 - l)) (sym d ∙ same ∙ f) refl refl
  where
    last : (p q : ℕ) → p ≡ q → p ≡ 8 * i + (8 - k) → q ≡ 8 * j + (8 - l) → ⊥
    last p q e f g = omega arith

pub place_inside : (sp size i k : ℕ) → sp < 2 ^ 64 → 8 * i + 8 ≤ size → size < 2 ^ 60 → k < 8 → (a : ℕ) → IsOutside sp size a → a ≢ wrap (place sp i + k)
place_inside sp size i k fits room few below a outside e =
    last (depth sp a) (ap (depth sp) e ∙ place_depth sp i k fits (omega arith) below) outside
  where
    last : (d : ℕ) → d ≡ 8 * i + (8 - k) → (d ≡ 0) ⊎ (size < d) → ⊥
    last d f (inl zero_deep) = omega arith
    last d f (inr deep) = omega arith
