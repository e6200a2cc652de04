-- Sets of registers by what they have: none, or what a set had and one register more.
use Rattle.std.proofs.Common.{◌≡◌, ◌≢◌, ℕ, ◌^◌, ◌<◌, ◌⊎◌, inl, inr, true, false, IsTrue, eqb, bit_or, sym, ap, ◌∙◌, arith}
use Rattle.std.specs.Int.{bit_at}
use Rattle.std.proofs.lemmas.Bool.{eqb-true}
use Rattle.std.proofs.lemmas.Bool.Decides.{eqb_tells}
use Rattle.std.proofs.lemmas.Nat.Bits.{bit_at-zero, bit_at-lt, bit_at-pow_same, bit_at-pow_other, bit_at_or, same_from_bits}
use Rattle.rv_base.specs.declared.preg_set.PRegSet.{PRegSet}
use Rattle.rv_base.specs.declared.regs.PReg.{PReg}
use Rattle.rv_base.specs.declared.regs.RegClass.{RegClass}
use Rattle.rv_base.specs.declared.regs.RegClass.TheVariants.{Int, Float, Vector}
use Rattle.rv_base.specs.PRegSet.{contains}
use Rattle.rv_base.specs.Regs.{IsPReg}
use Rattle.rv_listing.specs.Calls.{no_registers, with_bits, with_register}

same_bit : (x y : ℕ) → x < 2 → y < 2 → eqb x 1 ≡ eqb y 1 → x ≡ y
same_bit x y hx hy e = on (eqb_tells x 1) (eqb_tells y 1)
  where
    on : ((eqb x 1 ≡ true) × (x ≡ 1)) ⊎ ((eqb x 1 ≡ false) × (x ≢ 1)) → ((eqb y 1 ≡ true) × (y ≡ 1)) ⊎ ((eqb y 1 ≡ false) × (y ≢ 1)) → x ≡ y
    on (inl p) (inl q) = p.1 ∙ sym q.1
    on (inl p) (inr q) = let clash : true ≡ false = sym p.0 ∙ e ∙ q.0 in absurd (cc)
    on (inr p) (inl q) = let clash : false ≡ true = sym p.0 ∙ e ∙ q.0 in absurd (cc)
    on (inr p) (inr q) = omega (arith, p.1, q.1)

same_number : (a b : ℕ) → ((i : ℕ) → eqb (bit_at a i) 1 ≡ eqb (bit_at b i) 1) → a ≡ b
same_number a b same = same_from_bits a b (λ i. same_bit (bit_at a i) (bit_at b i) (bit_at-lt a i) (bit_at-lt b i) (same i))

no_bits : (n : ℕ) → ((i : ℕ) → eqb (bit_at n i) 1 ≡ false) → n ≡ 0
no_bits n none = same_number n 0 (λ i. none i ∙ sym (ap (λ (b : ℕ). eqb b 1) (bit_at-zero i)))

one_bit_more : (old new k : ℕ) → eqb (bit_at new k) 1 ≡ true → ((i : ℕ) → i ≢ k → eqb (bit_at new i) 1 ≡ eqb (bit_at old i) 1) → new ≡ bit_or old (2 ^ k)
one_bit_more old new k has others = same_from_bits new (bit_or old (2 ^ k)) (λ i. at i (eqb_tells i k))
  where
    at : (i : ℕ) → ((eqb i k ≡ true) × (i ≡ k)) ⊎ ((eqb i k ≡ false) × (i ≢ k)) → bit_at new i ≡ bit_at (bit_or old (2 ^ k)) i
    at i (inl is) =
        let set : bit_at (bit_or old (2 ^ k)) k ≡ 1 = omega (arith, bit_at_or old (2 ^ k) k, bit_at-pow_same k, bit_at-lt old k) in
        ap (bit_at new) is.1 ∙ eqb-true (bit_at new k) 1 has ∙ sym set ∙ ap (bit_at (bit_or old (2 ^ k))) (sym is.1)
    at i (inr other) =
        let kept : bit_at (bit_or old (2 ^ k)) i ≡ bit_at old i = omega (arith, bit_at_or old (2 ^ k) i, bit_at-pow_other k i other.1) in
        same_bit (bit_at new i) (bit_at old i) (bit_at-lt new i) (bit_at-lt old i) (others i other.1) ∙ sym kept

pub no_registers_is : (set : PRegSet) → ((class : RegClass) (number : ℕ) → contains set class number ≡ false) → set ≡ no_registers
no_registers_is set none =
    let ints = no_bits set.int (none Int) in
    let floats = no_bits set.float (none Float) in
    let vectors = no_bits set.vector (none Vector) in
    λ i. record { int = ints i; float = floats i; vector = vectors i }

one_more : (old new : PRegSet) (class : RegClass) (k : ℕ) → contains new class k ≡ true
    → ((c : RegClass) (n : ℕ) → ((class ≡ c) × (k ≡ n) → ⊥) → contains new c n ≡ contains old c n) → new ≡ with_bits old class (2 ^ k)
one_more old new Int k has others =
    let ints = one_bit_more old.int new.int k has (λ i differs. others Int i (λ p. differs (sym p.1))) in
    let floats = same_number new.float old.float (λ i. others Float i (λ p. let clash : Int ≡ Float = p.0 in cc)) in
    let vectors = same_number new.vector old.vector (λ i. others Vector i (λ p. let clash : Int ≡ Vector = p.0 in cc)) in
    λ i. record { int = ints i; float = floats i; vector = vectors i }
one_more old new Float k has others =
    let ints = same_number new.int old.int (λ i. others Int i (λ p. let clash : Float ≡ Int = p.0 in cc)) in
    let floats = one_bit_more old.float new.float k has (λ i differs. others Float i (λ p. differs (sym p.1))) in
    let vectors = same_number new.vector old.vector (λ i. others Vector i (λ p. let clash : Float ≡ Vector = p.0 in cc)) in
    λ i. record { int = ints i; float = floats i; vector = vectors i }
one_more old new Vector k has others =
    let ints = same_number new.int old.int (λ i. others Int i (λ p. let clash : Vector ≡ Int = p.0 in cc)) in
    let floats = same_number new.float old.float (λ i. others Float i (λ p. let clash : Vector ≡ Float = p.0 in cc)) in
    let vectors = one_bit_more old.vector new.vector k has (λ i differs. others Vector i (λ p. differs (sym p.1))) in
    λ i. record { int = ints i; float = floats i; vector = vectors i }

pub with_register_is : (old new : PRegSet) (r : PReg) → IsTrue (contains new r.class r.number)
    → ((class : RegClass) (number : ℕ) → (IsPReg r class number → ⊥) → contains new class number ≡ contains old class number) → new ≡ with_register old r
with_register_is old new r has others = one_more old new r.class r.number has others
