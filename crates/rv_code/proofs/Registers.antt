-- What a write to a register leaves, and the registers of a count of bits.
pub use Rattle.{rv_inst.proofs.Sequences.reads_set, rv_machine.proofs.States.are_values_set}
use Rattle.rv_code.proofs.Words.{AreValues, bits_of, cases_eq, eqb-false, ints, IrType, is_among, lt-ltb, nat_tests, number_of, pow-suc, reg, Reg, reg_of, Same, SameBut, set_reg, set_reg_of, signed64, signed_below, Values, Writable}
use Rattle.std.{proofs.Common.{◌≡◌, ℕ, ◌/◌, ◌^◌, ◌<◌, ◌≤◌, pos, Bool, true, false, arith, refl, ap, ◌∙◌, suc, nat_eq, zero, ◌≢◌, List, length, sym, ⊎_elim, eqb-true, ◌∷◌, subst, ◌*◌, [], rules, nat_le, nat_lt, int_lt, ◌||◌}, proofs.Math.ListN.length-set, proofs.Math.Seq.get_or-set_other}
use Rattle.std.proofs.lemmas.Grind.{get_or-set_at}

-- ---- tests of numbers, and halves of powers of two, as the proofs of several sequences have them.

pub or_true : (a : Bool) → (a || true) ≡ true
or_true true = refl
or_true false = refl

pub not_zero : (n : ℕ) → 0 < n → nat_eq 0 n ≡ false
not_zero n some = grind (arith, nat_tests)

pub not_below : (m n : ℕ) → n ≤ m → nat_lt m n ≡ false
not_below m n le = grind (arith, nat_tests)

-- a shift amount in its range
pub small_shift : (n : ℕ) → n < 64 → nat_le 64 n ≡ false
small_shift n lt = grind (arith, nat_tests)

-- 0 is below a small number that isn't 0, both read as signed numbers
pub none_below : (k : ℕ) → k < 64 → signed_below 0 (suc k) ≡ true
none_below k lt = let e : signed64 (suc k) ≡ pos (suc k) = omega (arith, ints) in ap (int_lt (pos 0)) e ∙ lt-ltb 0 (suc k) (omega arith)

pub half_power : (k : ℕ) → 2 ^ suc k / 2 ≡ 2 ^ k
half_power k = let e = pow-suc 2 k in omega arith

-- ---- what a write to a register leaves.

reg_set : (xs ys : List ℕ) (n m v : ℕ) → length xs ≡ 31 → length ys ≡ 31 → n < 32 → reg_of xs m ≡ reg_of ys m → reg_of (set_reg_of xs n v) m ≡ reg_of (set_reg_of ys n v) m
reg_set xs ys zero m v lx ly lt e = e
reg_set xs ys (suc n) zero v lx ly lt e = refl
reg_set xs ys (suc n) (suc m) v lx ly lt e =
    ⊎_elim
    (λ (here : m ≡ n). get_or-set_at xs n m v 0 here (omega arith) ∙ sym (get_or-set_at ys n m v 0 here (omega arith)))
    (λ (other : m ≢ n). get_or-set_other xs n m v 0 other ∙ e ∙ sym (get_or-set_other ys n m v 0 other)) (cases_eq m n)

-- one number written to one register of values that are the same
pub same_set : (v w : Values) (n x : ℕ) → AreValues v → AreValues w → n < 32 → Same v w → Same (set_reg v n x) (set_reg w n x)
same_set v w n x hv hw lt same = record { regs = λ m below. reg_set v.regs w.regs n m x hv.count hw.count lt (same.regs m below); mem = same.mem }

pub count_set : (v : Values) (n x : ℕ) → length v.regs ≡ 31 → length (set_reg v n x).regs ≡ 31
count_set v zero x h = h
count_set v (suc n) x h = length-set v.regs n x ∙ h

pub reads_back : (v : Values) (n x : ℕ) → AreValues v → 0 < n → n < 32 → reg (set_reg v n x) n ≡ x
reads_back v n x h some lt = reads_set v n x h.count some lt

pub reads_other : (v : Values) (n m x : ℕ) → m ≢ n → reg (set_reg v n x) m ≡ reg v m
reads_other v (suc n) (suc m) x other = get_or-set_other v.regs n m x 0 (λ e. other (ap suc e))
reads_other v _ _ x other = refl

-- one number written to one register of both
pub but_set : {free : List ℕ} (v w : Values) (n x : ℕ) → AreValues v → AreValues w → n < 32 → SameBut free v w → SameBut free (set_reg v n x) (set_reg w n x)
but_set v w n x hv hw lt same = record { regs = λ m below other. reg_set v.regs w.regs n m x hv.count hw.count lt (same.regs m below other); mem = same.mem }

-- a temporary is written
pub temporary_set : {free : List ℕ} (v w : Values) (n x : ℕ) → is_among free n ≡ true → SameBut free v w → SameBut free v (set_reg w n x)
temporary_set {free} v w n x among same = record { regs = λ m below other. same.regs m below other ∙ sym (reads_other w n m x (λ (e : m ≡ n). let f = ap (is_among free) e in absurd (cc))); mem = same.mem }

-- x30 or x31 is written
pub spare_set : {free : List ℕ} (v w : Values) (n x : ℕ) → 30 ≤ n → SameBut free v w → SameBut free v (set_reg w n x)
spare_set v w n x high same = record { regs = λ m below other. same.regs m below other ∙ sym (reads_other w n m x (λ e. omega arith)); mem = same.mem }

-- a register holds what is written to the same one, and only temporaries differ beside it
pub own_set : {free : List ℕ} (v w : Values) (n x : ℕ) → AreValues v → 0 < n → n < 30 → reg w n ≡ x → SameBut (n ∷ free) v w → SameBut free (set_reg v n x) w
own_set {free} v w n x hv some lt is same =
    let kept = λ (m : ℕ) (below : m < 30) (other : is_among free m ≡ false).
    (elim (nat_eq n m) as (λ own. nat_eq n m ≡ own → reg (set_reg v n x) m ≡ reg w m) [
      | true ↦ λ test. subst (λ k. reg (set_reg v n x) k ≡ reg w k) (eqb-true n m test) (reads_back v n x hv some (omega arith) ∙ sym is)
      | false ↦ λ test. reads_other v n m x (λ e. eqb-false n m test (sym e)) ∙ same.regs m below (λ i. test i || other i)
    ]) refl in
    record { regs = kept; mem = same.mem }

-- ---- the registers of a sequence that counts bits of a register in a loop.

-- the registers of a count, by their numbers, and how many bits there are
pub record Count : Type 0 where
  pub sum : ℕ
  pub tmp : ℕ
  pub step : ℕ
  pub rs : ℕ
  pub bits : ℕ

abbrev pub count_of : Writable Reg → Writable Reg → Writable Reg → Reg → IrType → Count
count_of sum tmp step rs type = record { sum = number_of sum.reg; tmp = number_of tmp.reg; step = number_of step.reg; rs = number_of rs; bits = bits_of type }

-- integer registers below x30; those that are written aren't x0, and differ from all others
pub record IsCount (c : Count) : Type 0 where
  pub sum_usable : c.sum < 30
  pub tmp_usable : c.tmp < 30
  pub step_usable : c.step < 30
  pub rs_usable : c.rs < 30
  pub sum_written : 0 < c.sum
  pub tmp_written : 0 < c.tmp
  pub step_written : 0 < c.step
  pub sum_tmp : c.sum ≢ c.tmp
  pub sum_step : c.sum ≢ c.step
  pub sum_rs : c.sum ≢ c.rs
  pub tmp_step : c.tmp ≢ c.step
  pub tmp_rs : c.tmp ≢ c.rs
  pub step_rs : c.step ≢ c.rs
  pub some : 1 ≤ c.bits
  pub few : c.bits ≤ 64

abbrev pub written : Count → List ℕ
written c = c.sum ∷ c.tmp ∷ c.step ∷ []

-- how many bits are left, the next one's power, and how many are counted; all else is as it was
pub record CountHolds (c : Count) (left next count : ℕ) (v w : Values) : Type 0 where
  pub step : reg w c.step ≡ left
  pub tmp : reg w c.tmp ≡ next
  pub sum : reg w c.sum ≡ count
  pub others : SameBut (written c) v w

-- and of values with all registers
pub record InCount (c : Count) (left next count : ℕ) (v w : Values) : Type 0 where
  pub all : length w.regs ≡ 31
  pub holds : CountHolds c left next count v w

-- and the next bit is in x30, in its own place
pub record TestsBit (c : Count) (left next count bit : ℕ) (v w : Values) : Type 0 where
  pub now : InCount c left next count v w
  pub tested : reg w 30 ≡ bit * next

-- what is counted is as it was
pub source_kept : {c : Count} {left next count : ℕ} {v w : Values} → IsCount c → CountHolds c left next count v w → reg w c.rs ≡ reg v c.rs
source_kept {c} h k =
    let other : is_among (written c) c.rs ≡ false = (let a = h.sum_rs in let b = h.tmp_rs in let d = h.step_rs in grind (arith, nat_tests)) in
    sym (k.others.regs c.rs h.rs_usable other)

pub spare_kept : {c : Count} {left next count : ℕ} {v w : Values} (x : ℕ) → IsCount c → CountHolds c left next count v w → CountHolds c left next count v (set_reg w 30 x)
spare_kept {c} {v = v} {w = w} x h k = search (rules, arith, reads_other, k, h, spare_set)

-- how many are counted; the temporaries hold anything
pub record Counted (c : Count) (count : ℕ) (v w : Values) : Type 0 where
  pub sum : reg w c.sum ≡ count
  pub others : SameBut (written c) v w

pub counted : {c : Count} {left next count : ℕ} {v : Values} (w : Values) → CountHolds c left next count v w → Counted c count v w
counted w k = record { sum = k.sum; others = k.others }

-- the count stands in its register, and only temporaries differ beside it
pub same_beside : {c : Count} {count : ℕ} {v w : Values} → IsCount c → AreValues v → Counted c count v w → SameBut (c.tmp ∷ c.step ∷ []) (set_reg v c.sum count) w
same_beside {c} {count} {v} {w} h hv k = own_set v w c.sum count hv h.sum_written h.sum_usable k.sum k.others
