-- What loads read and stores write of memories that are the same, and the code that a store leaves as it was.
use Rattle.{rv_code.proofs.Words.{addresses_from, AllByRecursion, AreOutside, AreValues, byte, ints, IsPlacedAt, load_bytes, load_result, Memory, nat_tests, put_bytes, SameBut, Site, store, store_bytes, store_op, store_size, StoreOP, Values, wrap}, rv_machine.specs.declared.ops.LoadOp.LoadOp}
use Rattle.std.{proofs.Common.{◌≡◌, ◌≢◌, ℕ, zero, suc, ◌+◌, ◌*◌, ◌^◌, ◌<◌, ◌≤◌, false, true, cond, List, [], ◌∷◌, length, Some, arith, refl, sym, ap, subst, ◌∙◌, ⊎_elim, rules, ◌==◌, unwrap_or}, specs.Cmp.{nat_cmp_total, unsigned_tied}, specs.FinMap.get-insert}
use Rattle.std.specs.FinMap as map
use Rattle.rv_machine.specs.declared.ops.LoadOp.TheVariants as load
use Rattle.rv_ops.specs.declared.memory.StoreOP.TheVariants as stores

-- the byte at an address after one is written
byte_inserted : (mem : Memory) (k b a : ℕ) → byte (map.insert mem k b) a ≡ cond (a == k) b (byte mem a)
byte_inserted mem k b a =
    ap (λ o. unwrap_or o 0) (get-insert nat_cmp_total mem k b a ∙ ap (λ c. cond c (Some b) (map.get mem a)) (unsigned_tied a k))
    ∙ elim (a == k) as (λ c. unwrap_or (cond c (Some b) (map.get mem a)) 0 ≡ cond c b (byte mem a)) [ true ↦ refl | false ↦ refl ]

-- the same bytes, stored at the same address of memories that are the same
pub store_same : (m w : Memory) (at : ℕ) (bytes : List ℕ) → ((a : ℕ) → byte m a ≡ byte w a) → (a : ℕ) → byte (store m at bytes) a ≡ byte (store w at bytes) a
store_same m w at [] same = same
store_same m w at (b ∷ bs) same = store_same (map.insert m at b) (map.insert w at b) (wrap (at + 1)) bs (λ a. byte_inserted m at b a ∙ ap (cond (a == at) b) (same a) ∙ sym (byte_inserted w at b a))

store_fits : (mem : Memory) (at : ℕ) (bytes : List ℕ) → AllByRecursion (λ b. b < 256) bytes → ((a : ℕ) → byte mem a < 256) → (a : ℕ) → byte (store mem at bytes) a < 256
store_fits mem at [] fits h = h
store_fits mem at (b ∷ bs) fits h = store_fits (map.insert mem at b) (wrap (at + 1)) bs fits.1 (λ a. subst (λ n. n < 256) (sym (byte_inserted mem at b a)) (elim (a == at) as (λ c. cond c b (byte mem a) < 256) [ true ↦ fits.0 | false ↦ h a ]))

-- a byte of a region outside which all the addresses are
store_outside : (mem : Memory) (at from size a : ℕ) (bytes : List ℕ) → AreOutside from size (addresses_from at (length bytes)) → from ≤ a → a < from + size → byte (store mem at bytes) a ≡ byte mem a
store_outside mem at from size a [] out low high = refl
store_outside mem at from size a (b ∷ bs) out low high =
    let other : a ≢ at = (λ same. ⊎_elim (λ (before : at < from). absurd (omega arith)) (λ (past : from + size ≤ at). absurd (omega arith)) (out 0 (omega arith))) in
    let apart : (a == at) ≡ false = grind (arith, nat_tests) in
    store_outside (map.insert mem at b) (wrap (at + 1)) from size a bs (λ k lt. out (suc k) (omega arith)) low high ∙ byte_inserted mem at b a ∙ ap (λ c. cond c b (byte mem a)) apart

-- the code stands where it stood
pub placed_after : (site : Site) (mem : Memory) (at : ℕ) (bytes : List ℕ) → IsPlacedAt site mem → AreOutside site.base (length site.bytes) (addresses_from at (length bytes)) → IsPlacedAt site (store mem at bytes)
placed_after site mem at bytes placed out =
    let there = λ (k : ℕ) (lt : k < length site.bytes). store_outside mem at site.base (length site.bytes) (site.base + k) bytes out (omega arith) (omega arith) ∙ placed.bytes.there k lt in
    search (rules, placed, there)

pub put_same : {free : List ℕ} (v w : Values) (at : ℕ) (bytes : List ℕ) → SameBut free v w → SameBut free (put_bytes v at bytes) (put_bytes w at bytes)
put_same v w at bytes same = record { regs = same.regs; mem = store_same v.mem w.mem at bytes same.mem }

pub put_values : (v : Values) (at : ℕ) (bytes : List ℕ) → AreValues v → AllByRecursion (λ b. b < 256) bytes → AreValues (put_bytes v at bytes)
put_values v at bytes h fits = record { count = h.count; fits = h.fits; bytes = store_fits v.mem at bytes fits h.bytes }

pub stored_bytes : (op : StoreOP) (x : ℕ) → AllByRecursion (λ b. b < 256) (store_bytes (store_op op) x)
stored_bytes stores.Sb x = search rules
stored_bytes _ x = search (rules, arith)

pub stored_length : (op : StoreOP) (x : ℕ) → length (store_bytes (store_op op) x) ≡ store_size op
stored_length stores.Sb x = refl
stored_length _ x = refl

pub loaded_same : (m w : Memory) (at n : ℕ) → ((a : ℕ) → byte m a ≡ byte w a) → load_bytes m at n ≡ load_bytes w at n
loaded_same m w at zero same = refl
loaded_same m w at (suc n) same = λ i. loaded_same m w at n same i + same (wrap (at + n)) i * 2 ^ (8 * n)

pub load_same : (op : LoadOp) (m w : Memory) (at : ℕ) → ((a : ℕ) → byte m a ≡ byte w a) → load_result op m at ≡ load_result op w at
load_same load.Lb m w at same = cc (loaded_same m w at 1 same, loaded_same m w at 2 same, loaded_same m w at 4 same, loaded_same m w at 8 same)
load_same _ m w at same = cc (loaded_same m w at 1 same, loaded_same m w at 2 same, loaded_same m w at 4 same, loaded_same m w at 8 same)

-- eight bytes, or fewer, are below 2 ^ 64
pub eight_fit : (mem : Memory) (at : ℕ) → ((a : ℕ) → byte mem a < 256) → load_bytes mem at 8 < 2 ^ 64
eight_fit mem at h =
    omega (arith, h (wrap (at + 0)), h (wrap (at + 1)), h (wrap (at + 2)), h (wrap (at + 3)), h (wrap (at + 4)), h (wrap (at + 5)), h (wrap (at + 6)), h (wrap (at + 7)))

pub load_fits : (op : LoadOp) (mem : Memory) (at : ℕ) → ((a : ℕ) → byte mem a < 256) → load_result op mem at < 2 ^ 64
load_fits load.Ld mem at h = eight_fit mem at h
load_fits _ mem at h = let all = eight_fit mem at h in omega (arith, ints)
