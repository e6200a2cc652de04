-- The numbers of a count of zeros: which bit is the next, and how many zeros are left.
use Rattle.rv_code.{proofs.Registers.half_power, proofs.Words.{alu_rri, bit_at, bit_shift, div-div-eq-div-mul, leading_zeros, pow-suc, pow_below, trailing_zeros, wrap, zeros}}
use Rattle.std.proofs.Common.{◌≡◌, ℕ, zero, suc, ◌+◌, ◌-◌, ◌*◌, ◌/◌, ◌%◌, ◌^◌, ◌<◌, ◌≤◌, pos, Bool, true, false, arith, refl, ap, subst, ◌∙◌, lit≤, ◌==◌, if◌then◌else◌}

-- which bit is the next, where so many are left and one more: the highest of them or the lowest
abbrev pub index_of : Bool → ℕ → ℕ → ℕ
index_of true bits left = left
index_of false bits left = bits - suc left

-- the next one's power, where so many are left; where none is, what a last shift leaves
abbrev pub power_of : Bool → ℕ → ℕ → ℕ
power_of true bits left = 2 ^ left / 2
power_of false bits left = wrap (2 ^ (bits - left))

-- the zeros that are still to be counted
abbrev pub zeros_left : Bool → ℕ → ℕ → ℕ → ℕ
zeros_left true bits left n = leading_zeros left n
zeros_left false bits left n = trailing_zeros left (n / 2 ^ (bits - left))

pub power_is : (leading : Bool) (bits left : ℕ) → bits ≤ 64 → left < bits → power_of leading bits (suc left) ≡ 2 ^ index_of leading bits left
power_is true bits left few lt = half_power left
power_is false bits left few lt = let fits = pow_below (bits - suc left) 64 (omega arith) in omega arith

pub power_up : (bits left : ℕ) → left < bits → 2 ^ (bits - suc left) * 2 ≡ 2 ^ (bits - left)
power_up bits left lt =
    let one : suc (bits - suc left) ≡ bits - left = omega arith in
    let twice = pow-suc 2 (bits - suc left) in
    let e : 2 ^ (bits - suc left) * 2 ≡ 2 ^ suc (bits - suc left) = omega arith in
    e ∙ ap (λ k. 2 ^ k) one

-- a shift makes another bit the next
pub power_next : (leading : Bool) (bits left : ℕ) → left < bits → alu_rri (bit_shift leading) (2 ^ index_of leading bits left) (pos 1) ≡ power_of leading bits left
power_next true bits left lt = refl
power_next false bits left lt = ap wrap (power_up bits left lt)

-- the zeros where one more bit is left
pub zeros_more : (leading : Bool) (bits left n : ℕ) → left < bits → zeros_left leading bits (suc left) n ≡ (if bit_at n (index_of leading bits left) == 1 then 0 else suc (zeros_left leading bits left n))
zeros_more true bits left n lt = refl
zeros_more false bits left n lt =
    let e : n / 2 ^ (bits - suc left) / 2 ≡ n / 2 ^ (bits - left) = div-div-eq-div-mul n (2 ^ (bits - suc left)) 2 ∙ ap (λ d. n / d) (power_up bits left lt) in
    ap (λ m. if bit_at n (bits - suc left) == 1 then 0 else suc (trailing_zeros left m)) e

pub none_to_count : (leading : Bool) (bits n : ℕ) → zeros_left leading bits 0 n ≡ 0
none_to_count true bits n = refl
none_to_count false bits n = refl

pub zeros_all : (leading : Bool) (bits n : ℕ) → zeros_left leading bits bits n ≡ zeros leading bits n
zeros_all true bits n = refl
zeros_all false bits n = let none : bits - bits ≡ 0 = omega arith in ap (λ k. trailing_zeros bits (n / 2 ^ k)) none ∙ (let whole : n / 1 ≡ n = omega arith in ap (trailing_zeros bits) whole)

pub chosen_few : (b : Bool) (x y : ℕ) → x ≤ y → (if b then 0 else suc x) ≤ suc y
chosen_few b x y le = elim b as (λ c. (if c then 0 else suc x) ≤ suc y) [ true ↦ omega arith | false ↦ omega arith ]

pub zeros_few : (leading : Bool) (bits n : ℕ) → zeros leading bits n ≤ bits
zeros_few true zero n = lit≤ tt
zeros_few true (suc bits) n = chosen_few (bit_at n bits == 1) (leading_zeros bits n) bits (zeros_few true bits n)
zeros_few false zero n = lit≤ tt
zeros_few false (suc bits) n = chosen_few (n % 2 == 1) (trailing_zeros bits (n / 2)) bits (zeros_few false bits (n / 2))

-- a one ends the count, a zero is counted
pub ends_at : (b rest count total : ℕ) → count + (if b == 1 then 0 else suc rest) ≡ total → b ≡ 1 → count ≡ total
ends_at b rest count total all is = let e = subst (λ x. count + (if x == 1 then 0 else suc rest) ≡ total) is all in omega arith

pub counts_on : (b rest count total : ℕ) → count + (if b == 1 then 0 else suc rest) ≡ total → b ≡ 0 → 1 + count + rest ≡ total
counts_on b rest count total all is = let e = subst (λ x. count + (if x == 1 then 0 else suc rest) ≡ total) is all in omega arith
