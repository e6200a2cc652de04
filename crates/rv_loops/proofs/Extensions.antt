-- Two shifts, to the left and back, extend the low bits of a number.
use Rattle.std.proofs.Common.{◌≡◌, ℕ, suc, ◌+◌, ◌-◌, ◌*◌, ◌/◌, ◌%◌, ◌^◌, ◌<◌, ◌≤◌, nat_lt, Bool, true, false, if◌then◌else◌, pos, negsuc, arith, refl, sym, ap, ◌∙◌, mod-lt, mul-le-mul}
use Rattle.std.{proofs.Math.Nat.{mul-div_cancel, mul-mod_left, mul_assoc, pow-suc}, proofs.lemmas.Bool.Decides.nat_tests, proofs.lemmas.Int.{ints, to_z-of_z}, proofs.lemmas.Nat.{div-mul-add, mod-pow-add, pow-add, pow_pos}, specs.Int.Signed.shr_z}
use mir.Syntax.{w64}
use Rattle.rv_machine.specs.Arithmetic.{signed64}
use Rattle.rv_machine.specs.State.{low64, signed, wrap}
use Rattle.rv_ops.specs.Operations.{is_carry_unary}
use Rattle.rv_ops.specs.declared.alu.AluOPRRI.TheVariants.{Slli}
use Rattle.rv_inst.specs.Bits.{extended}
use Rattle.rv_inst.specs.Meaning.{alu_rri}
use Rattle.rv_inst.specs.Sizes.{right_shift}

-- a shift to the left drops the high bits
shifted : (x bits k : ℕ) → bits + k ≡ 64 → wrap (x * 2 ^ k) ≡ x % 2 ^ bits * 2 ^ k
shifted x bits k all = ap (λ n. x * 2 ^ k % 2 ^ n) (sym all) ∙ (mod-pow-add (x * 2 ^ k) bits k) ∙ (λ i. (mul-div_cancel x (pow_pos k)) i % 2 ^ bits * 2 ^ k + (mul-mod_left x (2 ^ k)) i) ∙ omega arith

-- numbers of 64 bits, read as signed ones
negative : (n m : ℕ) → 2 ^ 63 ≤ n → n + suc m ≡ 2 ^ 64 → signed64 n ≡ negsuc m
negative n m high all =
    let bits : low64 (negsuc m) ≡ n = omega (arith, ints) in
    ap signed64 (sym bits) ∙ to_z-of_z w64 (negsuc m) (omega arith)

-- and one back copies the highest bit
signed_back : (half power n : ℕ) → half * power ≡ 2 ^ 63 → 0 < power → n < 2 * half → shr_z (signed64 (n * power)) power ≡ signed half n
signed_back half power n whole some lt =
    (elim (nat_lt n half) as (λ c. nat_lt n half ≡ c → shr_z (signed64 (n * power)) power ≡ (if c then pos n else negsuc (2 * half - suc n))) [
      | true ↦ λ test.
          let below : n < half = grind (arith, nat_tests) in
          let more : (n + 1) * power ≤ half * power = mul-le-mul (omega arith) (omega arith) in
          let e : signed64 (n * power) ≡ pos (n * power) = omega (arith, ints) in
          ap (λ z. shr_z z power) e ∙ ap pos (mul-div_cancel n some)
      | false ↦ λ test.
          let above : half ≤ n = grind (arith, nat_tests) in
          let m = 2 * half - suc n in
          let all : (n + m + 1) * power ≡ 2 * (half * power) = (let e : n + m + 1 ≡ 2 * half = omega arith in ap (λ j. j * power) e ∙ mul_assoc 2 half power) in
          let high : half * power ≤ n * power = mul-le-mul above (omega arith) in
          ap (λ z. shr_z z power) (negative (n * power) (m * power + (power - 1)) (omega arith) (omega arith)) ∙ ap negsuc (div-mul-add m power (power - 1) (omega arith))
    ]) refl

extended_back : (x bits k : ℕ) (sign : Bool) → 1 ≤ bits → bits + k ≡ 64 → alu_rri (right_shift sign) (x % 2 ^ bits * 2 ^ k) (pos k) ≡ extended sign bits x
extended_back x bits k true some all =
    let amount : low64 (pos k) % 64 ≡ k = omega (arith, ints) in
    let one : suc (bits - 1) ≡ bits = omega arith in
    let double : 2 ^ bits ≡ 2 * 2 ^ (bits - 1) = ap (λ n. 2 ^ n) (sym one) ∙ pow-suc 2 (bits - 1) ∙ omega arith in
    let rest : bits - 1 + k ≡ 63 = omega arith in
    ap (λ n. low64 (shr_z (signed64 (x % 2 ^ bits * 2 ^ k)) (2 ^ n))) amount ∙ ap low64 (signed_back (2 ^ (bits - 1)) (2 ^ k) (x % 2 ^ bits) (sym (pow-add 2 (bits - 1) k) ∙ ap (λ n. 2 ^ n) rest) (pow_pos k) (omega (arith, mod-lt x (pow_pos bits))))
extended_back x bits k false some all = (let amount : low64 (pos k) % 64 ≡ k = omega (arith, ints) in ap (λ n. x % 2 ^ bits * 2 ^ k / 2 ^ n) amount) ∙ mul-div_cancel (x % 2 ^ bits) (pow_pos k)

pub extended_by : (x bits : ℕ) (sign : Bool) → 1 ≤ bits → bits ≤ 64 → alu_rri (right_shift sign) (alu_rri Slli x (pos (64 - bits))) (pos (64 - bits)) ≡ extended sign bits x
extended_by x bits sign some few =
    let k = 64 - bits in
    let all : bits + k ≡ 64 = omega arith in
    let amount : low64 (pos k) % 64 ≡ k = omega (arith, ints) in
    ap (λ y. alu_rri (right_shift sign) y (pos k)) (ap (λ n. wrap (x * 2 ^ n)) amount ∙ shifted x bits k all) ∙ extended_back x bits k sign some all

-- both shifts are operations of integers
pub right_shift_is : (sign : Bool) → is_carry_unary (right_shift sign) ≡ false
right_shift_is true = refl
right_shift_is false = refl
