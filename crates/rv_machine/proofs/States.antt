-- What keeps a state one: registers of 64 bits and memory of bytes.
use Rattle.std.proofs.Common.{◌≡◌, ℕ, zero, suc, ◌^◌, ◌<◌, ◌≢◌, Bool, true, false, cond, Some, None, List, length, arith, refl, sym, subst, ◌∙◌, ⊎_elim, lit<}
use Rattle.std.specs.Prelude.{slice_index, slice_set, replicate, unwrap_or}
use Rattle.std.specs.FinMap as map
use Rattle.std.specs.FinMap.{get-insert, get-remove, get-empty}
use Rattle.std.specs.Ordering.{nat_cmp, eq_by_cmp}
use Rattle.std.specs.Cmp.{nat_cmp_total}
use Rattle.std.proofs.Math.Seq.{get_or-set_other}
use Rattle.std.proofs.Math.ListN.{length-set}
use Rattle.std.proofs.lemmas.Grind.{get_or-set_at}
use Rattle.std.proofs.lemmas.Bool.{cases_eq}
use Rattle.rv_machine.specs.State.{Memory, State, IsState, Values, AreValues, byte, reg_of, set_reg, set_reg_of, at}
use Rattle.rv_machine.specs.Steps.{zero_at}

-- ---- registers

index_set_fits : (xs : List ℕ) (n m v : ℕ) → length xs ≡ 31 → n < 31 → v < 2 ^ 64 → slice_index xs m < 2 ^ 64 → slice_index (slice_set xs n v) m < 2 ^ 64
index_set_fits xs n m v lx lt fits h =
    ⊎_elim
    (λ (here : m ≡ n). let e = get_or-set_at xs n m v 0 here (omega arith) in omega arith)
    (λ (other : m ≢ n). let e = get_or-set_other xs n m v 0 other in omega arith)
    (cases_eq m n)

reg_set_fits : (xs : List ℕ) (n m v : ℕ) → length xs ≡ 31 → n < 32 → v < 2 ^ 64 → reg_of xs m < 2 ^ 64 → reg_of (set_reg_of xs n v) m < 2 ^ 64
reg_set_fits xs zero m v lx lt fits h = h
reg_set_fits xs (suc n) zero v lx lt fits h = h
reg_set_fits xs (suc n) (suc m) v lx lt fits h = index_set_fits xs n m v lx (omega arith) fits h

count_set : (xs : List ℕ) (n v : ℕ) → length xs ≡ 31 → length (set_reg_of xs n v) ≡ 31
count_set xs zero v h = h
count_set xs (suc n) v h = length-set xs n v ∙ h

pub are_values_set : (v : Values) (n x : ℕ) → AreValues v → n < 32 → x < 2 ^ 64 → AreValues (set_reg v n x)
are_values_set v n x h lt fits = record {
  count = count_set v.regs n x h.count;
  fits = λ m. reg_set_fits v.regs n m x h.count lt fits (h.fits m);
  bytes = h.bytes;
}

-- ---- memory

byte_set_fits : (mem : Memory) (k b a : ℕ) → b < 256 → byte mem a < 256 → byte (map.insert mem k b) a < 256
byte_set_fits mem k b a fits h = subst (λ o. unwrap_or o 0 < 256) (sym (get-insert nat_cmp_total mem k b a)) (on (eq_by_cmp nat_cmp a k))
  where
    on : (c : Bool) → unwrap_or (cond c (Some b) (map.get mem a)) 0 < 256
    on true = fits
    on false = h

pub set_byte_state : (s : State) (k b : ℕ) → IsState s → b < 256 → IsState (at s.pc (record { regs = s.values.regs; mem = map.insert s.values.mem k b }))
set_byte_state s k b h fits = record {
  pc = h.pc;
  values = record { count = h.values.count; fits = h.values.fits; bytes = λ a. byte_set_fits s.values.mem k b a fits (h.values.bytes a) };
}

byte_clear_fits : (mem : Memory) (k a : ℕ) → byte mem a < 256 → byte (map.remove mem k) a < 256
byte_clear_fits mem k a h = subst (λ o. unwrap_or o 0 < 256) (sym (get-remove nat_cmp_total mem k a)) (on (eq_by_cmp nat_cmp a k))
  where
    on : (c : Bool) → unwrap_or (cond c None (map.get mem a)) 0 < 256
    on true = lit< tt
    on false = h

pub clear_byte_state : (s : State) (k : ℕ) → IsState s → IsState (at s.pc (record { regs = s.values.regs; mem = map.remove s.values.mem k }))
clear_byte_state s k h = record {
  pc = h.pc;
  values = record { count = h.values.count; fits = h.values.fits; bytes = λ a. byte_clear_fits s.values.mem k a (h.values.bytes a) };
}

-- ---- the first state

zeros : (k n : ℕ) → slice_index (replicate k 0) n ≡ 0
zeros zero n = refl
zeros (suc k) zero = refl
zeros (suc k) (suc n) = zeros k n

zero_reg : (n : ℕ) → reg_of (replicate 31 0) n < 2 ^ 64
zero_reg zero = lit< tt
zero_reg (suc n) = subst (λ x. x < 2 ^ 64) (sym (zeros 31 n)) (lit< tt)

zero_byte : (a : ℕ) → byte map.empty a < 256
zero_byte a = subst (λ o. unwrap_or o 0 < 256) (sym (get-empty nat_cmp a)) (lit< tt)

pub zero_state : (pc : ℕ) → pc < 2 ^ 64 → IsState (zero_at pc)
zero_state pc fits = record { pc = fits; values = record { count = refl; fits = zero_reg; bytes = zero_byte } }
