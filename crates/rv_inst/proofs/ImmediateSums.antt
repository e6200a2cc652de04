-- The numbers that upper and lower immediates sum to.
use Rattle.std.proofs.Common.{◌≡◌, ◌⊎◌, inl, inr, ℕ, suc, ◌+◌, ◌-◌, ◌*◌, ◌/◌, ◌%◌, ◌^◌, ◌<◌, ◌≤◌, Bool, true, false, ℤ, pos, negsuc, arith, refl}
use Rattle.std.specs.Prelude.{nat_lt, if◌then◌else◌}
use Rattle.std.proofs.lemmas.Bool.{ltb-true}
use Rattle.std.proofs.lemmas.Bool.Decides.{nat_tests}
use Rattle.std.proofs.lemmas.Int.{ints}
use Rattle.rv_machine.specs.State.{wrap, low64, signed}
use Rattle.rv_inst.specs.Addresses.{is_splittable}
use Rattle.rv_inst.specs.Immediates.{upper_of, lower_of}

-- ---- signed numbers of few bits

-- a number that is read as a signed one is itself, or so much less
abbrev pub IsRead : ℕ → ℕ → ℕ → Type 0
IsRead half n m = ((n < half) × (m ≡ n)) ⊎ ((half ≤ n) × (m + 2 * half ≡ 2 ^ 64 + n))

pub read_low : (half n : ℕ) → n < 2 * half → 2 * half < 2 ^ 64 → IsRead half n (low64 (signed half n))
read_low half n fits small = on (nat_lt n half) refl
  where
    on : (c : Bool) → nat_lt n half ≡ c → IsRead half n (low64 (if c then pos n else negsuc (2 * half - suc n)))
    on true h = inl (ltb-true n half h, refl)
    on false h = inr (grind (arith, nat_tests), let e : low64 (negsuc (2 * half - suc n)) ≡ 2 ^ 64 - suc (2 * half - suc n) = refl in omega arith)

-- ---- sums

-- of a number that isn't below 0
pub sum_of_parts : (p u d l m : ℕ) → IsRead (2 ^ 19) u l → IsRead (2 ^ 11) d m → (n : ℕ) → n < 2 ^ 31 + 2 ^ 11 → ((n + 2 ^ 11) / 2 ^ 12 ≡ u) → u < 2 ^ 19 → n % 2 ^ 12 ≡ d → wrap (wrap (p + l * 2 ^ 12) + m) ≡ wrap (p + n)
sum_of_parts p u d l m (inl a) (inl b) n fits eu small ed = omega (arith, a.0, a.1, b.0, b.1)
sum_of_parts p u d l m (inl a) (inr b) n fits eu small ed = omega (arith, a.0, a.1, b.0, b.1)
sum_of_parts p u d l m (inr a) b n fits eu small ed = absurd (omega (arith, a.0))

-- of a number below 0
pub sum_of_negative : (p u d l m : ℕ) → IsRead (2 ^ 19) u l → IsRead (2 ^ 11) d m → (n : ℕ) → 0 < n → n ≤ 2 ^ 31 + 2 ^ 11 → (2 ^ 64 - n + 2 ^ 11) / 2 ^ 12 % 2 ^ 20 ≡ u → (2 ^ 64 - n) % 2 ^ 12 ≡ d → wrap (wrap (p + l * 2 ^ 12) + m) ≡ wrap (p + (2 ^ 64 - n))
sum_of_negative p u d l m (inl a) (inl b) n some fits eu ed = omega (arith, a.0, a.1, b.0, b.1)
sum_of_negative p u d l m (inl a) (inr b) n some fits eu ed = omega (arith, a.0, a.1, b.0, b.1)
sum_of_negative p u d l m (inr a) (inl b) n some fits eu ed = omega (arith, a.0, a.1, b.0, b.1)
sum_of_negative p u d l m (inr a) (inr b) n some fits eu ed = omega (arith, a.0, a.1, b.0, b.1)

-- ---- an offset

-- nothing before
from_none : (x y n : ℕ) → wrap (wrap (0 + x) + y) ≡ wrap (0 + n) → wrap (wrap x + y) ≡ wrap n
from_none x y n e = omega arith

-- the upper and the lower immediate of an offset sum to it
pub offset_sums : (o : ℤ) → is_splittable o ≡ true → wrap (wrap (low64 (upper_of o) * 2 ^ 12) + low64 (lower_of o)) ≡ wrap (low64 o)
offset_sums (pos n) h =
    let fits : n < 2 ^ 31 - 2 ^ 11 = grind (arith, ints, nat_tests) in
    let u = (n + 2 ^ 11) / 2 ^ 12 % 2 ^ 20 in
    let d = n % 2 ^ 12 in
    from_none _ _ _ (sum_of_parts 0 u d (low64 (signed (2 ^ 19) u)) (low64 (signed (2 ^ 11) d)) (read_low (2 ^ 19) u (omega arith) (omega arith)) (read_low (2 ^ 11) d (omega arith) (omega arith)) n (omega arith) (omega arith) (omega arith) refl)
offset_sums (negsuc n) h =
    let fits : suc n ≤ 2 ^ 31 + 2 ^ 11 = grind (arith, ints, nat_tests) in
    let u = (2 ^ 64 - suc n + 2 ^ 11) / 2 ^ 12 % 2 ^ 20 in
    let d = (2 ^ 64 - suc n) % 2 ^ 12 in
    from_none _ _ _ (sum_of_negative 0 u d (low64 (signed (2 ^ 19) u)) (low64 (signed (2 ^ 11) d)) (read_low (2 ^ 19) u (omega arith) (omega arith)) (read_low (2 ^ 11) d (omega arith) (omega arith)) (suc n) (omega arith) fits refl refl)

-- before a sum
plus_before : (p a b o : ℕ) → wrap (wrap a + b) ≡ wrap o → wrap (wrap (p + a) + b) ≡ wrap (p + o)
plus_before p a b o e = omega arith

-- and so they do after an address
pub address_sums : (p : ℕ) (o : ℤ) → is_splittable o ≡ true → wrap (wrap (p + low64 (upper_of o) * 2 ^ 12) + low64 (lower_of o)) ≡ wrap (p + low64 o)
address_sums p o fits = plus_before p (low64 (upper_of o) * 2 ^ 12) (low64 (lower_of o)) (low64 o) (offset_sums o fits)
