-- A part of a number, so many bits from a bit on, cleared by a mask and put by a shift, where a register holds 64 bits.
use Rattle.std.proofs.Common.{◌≡◌, ℕ, ◌+◌, ◌-◌, ◌*◌, ◌/◌, ◌%◌, ◌^◌, ◌<◌, ◌≤◌, inl, inr, arith, sym, ap, ◌∙◌, subst, bit_and}
use Rattle.std.specs.Prelude.{bit_or, bit_xor}
use Rattle.std.specs.Int.Bits.{and_zero_r, or_zero_r, xor_add_and}
use Rattle.std.proofs.Math.Nat.{add-mul, div-add-mod', div-eq_of_lt, mod-eq_of_lt, mul_assoc, mul_comm, mul-mod_left}
use Rattle.std.proofs.lemmas.Bool.{cases_lt}
use Rattle.std.proofs.lemmas.Nat.{and_block, and_comm, and_mask, or_block, or_shifted, pow_pos, pow-add, shl-shr, shr-shr, mod-pow-add, mod_low, shr_high, shr_below, pow_below, mod_below, mul-add-lt}
use Rattle.std.proofs.lemmas.Nat.Bits.{and_high_mask}
use Rattle.rv_inst.specs.Fields.{without_part, with_part}

pow_le : (i j : ℕ) → i ≤ j → 2 ^ i ≤ 2 ^ j
pow_le i j le = elim (cases_lt i j) [
  | inl lt ↦ let more = pow_below i j lt in omega (arith, more)
  | inr ge ↦ let same : i ≡ j = omega arith in let e = ap (λ k. 2 ^ k) same in omega (arith, e)
]

-- ---- a register's upper bits: c of its c + o bits are those above its low o ones

-- of what is shifted left by o the low c bits stay
shifted : (c o y : ℕ) → y * 2 ^ o % 2 ^ (c + o) ≡ y % 2 ^ c * 2 ^ o
shifted c o y =
    mod-pow-add (y * 2 ^ o) c o
    ∙ (λ i. shl-shr y o i % 2 ^ c * 2 ^ o + mul-mod_left y (2 ^ o) i)
    ∙ omega arith

-- the complement of what is shifted left by o has ones in the low o bits
complement : (c o m : ℕ) → m < 2 ^ c → 2 ^ (c + o) - 1 - m * 2 ^ o ≡ (2 ^ c - 1 - m) * 2 ^ o + (2 ^ o - 1)
complement c o m lt =
    let whole = pow-add 2 c o in
    let some = pow_pos o in
    let sum : 2 ^ c ≡ (2 ^ c - 1 - m) + (m + 1) = omega arith in
    let product : 2 ^ c * 2 ^ o ≡ (2 ^ c - 1 - m) * 2 ^ o + (m * 2 ^ o + 1 * 2 ^ o) =
    ap (λ t. t * 2 ^ o) sum ∙ add-mul (2 ^ c - 1 - m) (m + 1) (2 ^ o) ∙ ap (λ t. (2 ^ c - 1 - m) * 2 ^ o + t) (add-mul m 1 (2 ^ o)) in
    omega (arith, whole, some, product)

-- of b ones the low c ones stay
ones_cut : (b c : ℕ) → c ≤ b → (2 ^ b - 1) % 2 ^ c ≡ 2 ^ c - 1
ones_cut b c le =
    let some = pow_pos c in
    let more = pow_le c b le in
    sym (and_mask (2 ^ b - 1) c) ∙ and_comm (2 ^ b - 1) (2 ^ c - 1) ∙ and_mask (2 ^ c - 1) b ∙ mod-eq_of_lt (omega (arith, some, more))

-- the low c bits of the low b
mod_twice : (n b c : ℕ) → c ≤ b → n % 2 ^ b % 2 ^ c ≡ n % 2 ^ c
mod_twice n b c le =
    let sum : b ≡ (b - c) + c = omega arith in
    ap (λ k. n % 2 ^ k % 2 ^ c) sum
    ∙ ap (λ t. t % 2 ^ c) (mod-pow-add n (b - c) c)
    ∙ mod_low (n / 2 ^ c % 2 ^ (b - c)) c (n % 2 ^ c) (mod_below n (2 ^ c) (pow_pos c))

-- nothing stands above the low b bits of a number of no more
none_above : (b c h : ℕ) → c ≤ b → h < 2 ^ c → h / 2 ^ b * 2 ^ b ≡ 0
none_above b c h le lt =
    let more = pow_le c b le in
    let none : h / 2 ^ b ≡ 0 = div-eq_of_lt (omega (arith, more)) in
    ap (λ q. q * 2 ^ b) none ∙ omega arith

-- the low b bits of c bits are cleared, all of them where b is more
low_cleared : (b c h : ℕ) → h < 2 ^ c → bit_and h (2 ^ c - 1 - (2 ^ b - 1) % 2 ^ c) ≡ h / 2 ^ b * 2 ^ b
low_cleared b c h lt = elim (cases_lt c b) [
  | inl less ↦
      let cut = ones_cut b c (omega arith) in
      let mask : 2 ^ c - 1 - (2 ^ b - 1) % 2 ^ c ≡ 0 = omega (arith, cut) in
      ap (bit_and h) mask ∙ and_zero_r h ∙ sym (none_above b c h (omega arith) lt)
  | inr within ↦
      let some = pow_pos b in
      let more = pow_le b c within in
      let kept : (2 ^ b - 1) % 2 ^ c ≡ 2 ^ b - 1 = mod-eq_of_lt (omega (arith, more, some)) in
      let mask : 2 ^ c - 1 - (2 ^ b - 1) % 2 ^ c ≡ 2 ^ c - 2 ^ b = omega (arith, kept, more, some) in
      ap (bit_and h) mask ∙ and_high_mask c b within h lt
]

-- b bits are put there, as many as there is room for
low_put : (b c h y : ℕ) → h < 2 ^ c → y < 2 ^ b → (h / 2 ^ b * 2 ^ b + y) % 2 ^ c ≡ h / 2 ^ b * 2 ^ b + y % 2 ^ c
low_put b c h y lt fits = elim (cases_lt c b) [
  | inl less ↦
      let none = none_above b c h (omega arith) lt in
      let alone : h / 2 ^ b * 2 ^ b + y ≡ y = omega (arith, none) in
      ap (λ t. t % 2 ^ c) alone ∙ omega (arith, none)
  | inr within ↦
      let more = pow_le b c within in
      let sum : c ≡ (c - b) + b = omega arith in
      let parted = ap (λ k. 2 ^ k) sum in
      let high = shr_below h (c - b) b (omega (arith, parted)) in
      let product = pow-add 2 (c - b) b in
      let both = mul-add-lt (h / 2 ^ b) (2 ^ b) y (2 ^ (c - b)) high fits in
      let kept : y % 2 ^ c ≡ y = mod-eq_of_lt (omega (arith, more)) in
      mod-eq_of_lt (omega (arith, parted, product, both)) ∙ ap (λ t. h / 2 ^ b * 2 ^ b + t) (sym kept)
]

-- ---- the part from bit o on

-- what stands above it
above : (o b n : ℕ) → n / 2 ^ o / 2 ^ b * 2 ^ b * 2 ^ o ≡ n / 2 ^ (o + b) * 2 ^ (o + b)
above o b n =
    mul_assoc (n / 2 ^ o / 2 ^ b) (2 ^ b) (2 ^ o)
    ∙ (λ i. shr-shr n o b i * (mul_comm (2 ^ b) (2 ^ o) ∙ sym (pow-add 2 o b)) i)

-- what is left where it is cleared, and where other bits stand in its place
without_parted : (o b n : ℕ) → n / 2 ^ o / 2 ^ b * 2 ^ b * 2 ^ o + n % 2 ^ o ≡ without_part o b n
without_parted o b n = let e = above o b n in omega (arith, e)

with_parted : (o b x n : ℕ) → (n / 2 ^ o / 2 ^ b * 2 ^ b + x % 2 ^ b) * 2 ^ o + n % 2 ^ o ≡ with_part o b x n
with_parted o b x n =
    let e = above o b n in
    let sum = add-mul (n / 2 ^ o / 2 ^ b * 2 ^ b) (x % 2 ^ b) (2 ^ o) in
    omega (arith, e, sum)

cleared : (c o b n : ℕ) → n < 2 ^ (c + o) → bit_and n (2 ^ (c + o) - 1 - (2 ^ b - 1) * 2 ^ o % 2 ^ (c + o)) ≡ without_part o b n
cleared c o b n lt =
    let some = pow_pos o in
    let low = mod_below n (2 ^ o) some in
    let cut = mod_below (2 ^ b - 1) (2 ^ c) (pow_pos c) in
    ap (λ t. bit_and n (2 ^ (c + o) - 1 - t)) (shifted c o (2 ^ b - 1))
    ∙ (λ i. bit_and (sym (div-add-mod' n (2 ^ o)) i) (complement c o ((2 ^ b - 1) % 2 ^ c) cut i))
    ∙ and_block o (n / 2 ^ o) (2 ^ c - 1 - (2 ^ b - 1) % 2 ^ c) (n % 2 ^ o) (2 ^ o - 1) low (omega (arith, some))
    ∙ (λ i. low_cleared b c (n / 2 ^ o) (shr_below n c o lt) i * 2 ^ o + (and_mask (n % 2 ^ o) o ∙ mod-eq_of_lt low) i)
    ∙ without_parted o b n

-- the number with other bits there, cut to c + o bits
cut_parted : (c o b x n : ℕ) → n < 2 ^ (c + o) → with_part o b x n % 2 ^ (c + o) ≡ (n / 2 ^ o / 2 ^ b * 2 ^ b + x % 2 ^ b % 2 ^ c) * 2 ^ o + n % 2 ^ o
cut_parted c o b x n lt =
    let low = mod_below n (2 ^ o) (pow_pos o) in
    let y = x % 2 ^ b in
    let high = n / 2 ^ o / 2 ^ b * 2 ^ b in
    ap (λ t. t % 2 ^ (c + o)) (sym (with_parted o b x n))
    ∙ mod-pow-add ((high + y) * 2 ^ o + n % 2 ^ o) c o
    ∙ (λ i. shr_high (high + y) o (n % 2 ^ o) low i % 2 ^ c * 2 ^ o + mod_low (high + y) o (n % 2 ^ o) low i)
    ∙ ap (λ t. t * 2 ^ o + n % 2 ^ o) (low_put b c (n / 2 ^ o) y (shr_below n c o lt) (mod_below x (2 ^ b) (pow_pos b)))

put : (c o b x n : ℕ) → n < 2 ^ (c + o) → bit_or (without_part o b n) (x % 2 ^ b * 2 ^ o % 2 ^ (c + o)) ≡ with_part o b x n % 2 ^ (c + o)
put c o b x n lt =
    let y = x % 2 ^ b in
    let high = n / 2 ^ o / 2 ^ b in
    let fits : y < 2 ^ b = mod_below x (2 ^ b) (pow_pos b) in
    let some = pow_pos c in
    let cut : y % 2 ^ c < 2 ^ b = omega (arith, some, fits) in
    let bits : y * 2 ^ o % 2 ^ (c + o) ≡ y % 2 ^ c * 2 ^ o + 0 = shifted c o y ∙ omega arith in
    (λ i. bit_or (sym (without_parted o b n) i) (bits i))
    ∙ or_block o (high * 2 ^ b) (y % 2 ^ c) (n % 2 ^ o) 0 (mod_below n (2 ^ o) (pow_pos o)) (pow_pos o)
    ∙ (λ i. or_shifted high b (y % 2 ^ c) cut i * 2 ^ o + or_zero_r (n % 2 ^ o) i)
    ∙ sym (cut_parted c o b x n lt)

-- nothing is cut of a part within c + o bits
whole : (c o b x n : ℕ) → b ≤ c → n < 2 ^ (c + o) → with_part o b x n % 2 ^ (c + o) ≡ with_part o b x n
whole c o b x n within lt =
    let more = pow_le b c within in
    let fits = mod_below x (2 ^ b) (pow_pos b) in
    let kept : x % 2 ^ b % 2 ^ c ≡ x % 2 ^ b = mod-eq_of_lt (omega (arith, more, fits)) in
    cut_parted c o b x n lt ∙ ap (λ y. (n / 2 ^ o / 2 ^ b * 2 ^ b + y) * 2 ^ o + n % 2 ^ o) kept ∙ with_parted o b x n

-- of one that ends above them its low bits are put
cut : (c o b x n : ℕ) → c ≤ b → n < 2 ^ (c + o) → with_part o b x n % 2 ^ (c + o) ≡ n % 2 ^ o + x % 2 ^ (c + o - o) * 2 ^ o
cut c o b x n past lt =
    let none = none_above b c (n / 2 ^ o) past (shr_below n c o lt) in
    let alone : n / 2 ^ o / 2 ^ b * 2 ^ b + x % 2 ^ b % 2 ^ c ≡ x % 2 ^ c = omega (arith, none, mod_twice x b c past) in
    let back : c ≡ c + o - o = omega arith in
    cut_parted c o b x n lt
    ∙ ap (λ y. y * 2 ^ o + n % 2 ^ o) (alone ∙ ap (λ k. x % 2 ^ k) back)
    ∙ omega arith

-- ---- of 64 bits

-- what holds with so many bits above o holds of 64
of_64 : (P : ℕ → Type 0) (o : ℕ) → o ≤ 64 → ((c : ℕ) → P (c + o)) → P 64
of_64 P o le each = let sum : (64 - o) + o ≡ 64 = omega arith in subst P sum (each (64 - o))

-- What differs from a number in all 64 bits, as by -1, is its complement.
pub complemented : (m : ℕ) → m < 2 ^ 64 → bit_xor m (2 ^ 64 - 1) ≡ 2 ^ 64 - 1 - m
complemented m lt =
    let sum = xor_add_and m (2 ^ 64 - 1) in
    let both : bit_and m (2 ^ 64 - 1) ≡ m = and_mask m 64 ∙ mod-eq_of_lt lt in
    omega (arith, sum, both)

-- The part is cleared by the complement of its mask, also where the mask is cut.
pub part_cleared : (o b n : ℕ) → o ≤ 64 → n < 2 ^ 64 → bit_and n (2 ^ 64 - 1 - (2 ^ b - 1) * 2 ^ o % 2 ^ 64) ≡ without_part o b n
part_cleared o b n le = of_64 (λ w. n < 2 ^ w → bit_and n (2 ^ w - 1 - (2 ^ b - 1) * 2 ^ o % 2 ^ w) ≡ without_part o b n) o le (λ c. cleared c o b n)

-- Other bits are put where it is cleared; the whole is cut as they are.
pub part_put : (o b x n : ℕ) → o ≤ 64 → n < 2 ^ 64 → bit_or (without_part o b n) (x % 2 ^ b * 2 ^ o % 2 ^ 64) ≡ with_part o b x n % 2 ^ 64
part_put o b x n le = of_64 (λ w. n < 2 ^ w → bit_or (without_part o b n) (x % 2 ^ b * 2 ^ o % 2 ^ w) ≡ with_part o b x n % 2 ^ w) o le (λ c. put c o b x n)

-- The one after the other.
pub part_merged : (o b x n : ℕ) → o ≤ 64 → n < 2 ^ 64 → bit_or (bit_and n (2 ^ 64 - 1 - (2 ^ b - 1) * 2 ^ o % 2 ^ 64)) (x % 2 ^ b * 2 ^ o % 2 ^ 64) ≡ with_part o b x n % 2 ^ 64
part_merged o b x n le lt = ap (λ t. bit_or t (x % 2 ^ b * 2 ^ o % 2 ^ 64)) (part_cleared o b n le lt) ∙ part_put o b x n le lt

-- Where the part ends within the 64 bits, nothing is cut.
pub part_whole : (o b x n : ℕ) → o + b ≤ 64 → n < 2 ^ 64 → with_part o b x n % 2 ^ 64 ≡ with_part o b x n
part_whole o b x n le =
    of_64 (λ w. o + b ≤ w → n < 2 ^ w → with_part o b x n % 2 ^ w ≡ with_part o b x n) o (omega arith) (λ c within. whole c o b x n (omega arith)) le

-- Where it doesn't, only its bits up to the 64th are put, and nothing stands above them.
pub part_cut : (o b x n : ℕ) → o ≤ 64 → 64 ≤ o + b → n < 2 ^ 64 → with_part o b x n % 2 ^ 64 ≡ n % 2 ^ o + x % 2 ^ (64 - o) * 2 ^ o
part_cut o b x n le past = of_64 (λ w. w ≤ o + b → n < 2 ^ w → with_part o b x n % 2 ^ w ≡ n % 2 ^ o + x % 2 ^ (w - o) * 2 ^ o) o le (λ c over. cut c o b x n (omega arith)) past
