-- Bytes put one after the other.
use Rattle.std.proofs.Common.{◌≡◌, ℕ, zero, suc, ◌+◌, ◌^◌, ◌<◌, ◌≤◌, ◌==◌, false, cond, Some, List, [], ◌∷◌, ◌++◌, length, take, get_or, slice_index, arith, refl, ap, sym, ◌∙◌, length-take, eq-eqb}
use Rattle.std.specs.Prelude.{unwrap_or}
use Rattle.std.proofs.lemmas.Bool.Decides.{nat_tests}
use Rattle.std.specs.Cmp.{nat_cmp_total, unsigned_tied}
use Rattle.std.proofs.lemmas.List.{take_more}
use Rattle.std.specs.FinMap as map
use Rattle.std.specs.FinMap.{get-insert}
use Rattle.rv_machine.specs.State.{Memory, byte, store, wrap}
use Rattle.rv_machine.specs.Steps.{Machine, with_memory, with_bytes, HasBytes}

-- one byte after some others
store-push : (mem : Memory) (at : ℕ) (bs : List ℕ) (b : ℕ) → at < 2 ^ 64 → store mem at (bs ++ b ∷ []) ≡ map.insert (store mem at bs) (wrap (at + length bs)) b
store-push mem at [] b fits = let same : at ≡ wrap (at + 0) = omega arith in ap (λ a. map.insert mem a b) same
store-push mem at (c ∷ bs) b fits =
    let fits_next : wrap (at + 1) < 2 ^ 64 = omega arith in
    let same : wrap (wrap (at + 1) + length bs) ≡ wrap (at + length (c ∷ bs)) = omega arith in
    store-push (map.insert mem at c) (wrap (at + 1)) bs b fits_next ∙ ap (λ a. map.insert (store (map.insert mem at c) (wrap (at + 1)) bs) a b) same

-- an image that has come to its byte number i, and that byte
pub image-push : (m : Machine) (at place b i : ℕ) (bs : List ℕ) → at < 2 ^ 64 → place ≡ wrap (at + i) → i < length bs → b ≡ get_or bs i 0 → with_memory (with_bytes m at (take i bs)) (map.insert (store m.state.values.mem at (take i bs)) place b) ≡ with_bytes m at (take (i + 1) bs)
image-push m at place b i bs fits here below is =
    let mem = m.state.values.mem in
    let long : length (take i bs) ≡ i = omega (arith, length-take {A = ℕ}) in
    let spot : place ≡ wrap (at + length (take i bs)) = here ∙ ap (λ n. wrap (at + n)) (sym long) in
    ap (λ e. with_memory m e)
    (ap (λ p. map.insert (store mem at (take i bs)) p b) spot
    ∙ sym (store-push mem at (take i bs) b fits)
    ∙ ap (λ c. store mem at (take i bs ++ c ∷ [])) is
    ∙ ap (store mem at) (sym (take_more bs i 0 below)))

-- ---- what stands there then

byte_put : (mem : Memory) (at b : ℕ) → byte (map.insert mem at b) at ≡ b
byte_put mem at b = ap (λ o. unwrap_or o 0) (get-insert nat_cmp_total mem at b at ∙ ap (λ c. cond c (Some b) (map.get mem at)) (unsigned_tied at at ∙ eq-eqb at at refl))

byte_other : (mem : Memory) (at b a : ℕ) → a < at → byte (map.insert mem at b) a ≡ byte mem a
byte_other mem at b a lt = ap (λ o. unwrap_or o 0) (get-insert nat_cmp_total mem at b a ∙ ap (λ c. cond c (Some b) (map.get mem a)) (unsigned_tied a at ∙ apart))
  where
    apart : (a == at) ≡ false
    apart = grind (arith, nat_tests)

-- bytes that end before the memory does change none before them
byte_before : (mem : Memory) (at a : ℕ) (bs : List ℕ) → at + length bs ≤ 2 ^ 64 → a < at → byte (store mem at bs) a ≡ byte mem a
byte_before mem at a [] room lt = refl
byte_before mem at a (b ∷ []) room lt = byte_other mem at b a lt
byte_before mem at a (b ∷ c ∷ bs) room lt =
    let next : wrap (at + 1) ≡ at + 1 = omega arith in
    ap (λ n. byte (store (map.insert mem at b) n (c ∷ bs)) a) next ∙ byte_before (map.insert mem at b) (at + 1) a (c ∷ bs) (omega arith) (omega arith) ∙ byte_other mem at b a lt

-- bytes that end before the memory does stand where they were put
pub byte_stored : (mem : Memory) (at k : ℕ) (bs : List ℕ) → at + length bs ≤ 2 ^ 64 → k < length bs → byte (store mem at bs) (at + k) ≡ slice_index bs k
byte_stored mem at k [] room lt = absurd (omega arith)
byte_stored mem at zero (b ∷ []) room lt = let here : at + 0 ≡ at = omega arith in ap (byte (map.insert mem at b)) here ∙ byte_put mem at b
byte_stored mem at (suc k) (b ∷ []) room lt = absurd (omega arith)
byte_stored mem at zero (b ∷ c ∷ bs) room lt =
    let here : at + 0 ≡ at = omega arith in
    let next : wrap (at + 1) ≡ at + 1 = omega arith in
    ap (λ a. byte (store (map.insert mem at b) (wrap (at + 1)) (c ∷ bs)) a) here ∙ ap (λ n. byte (store (map.insert mem at b) n (c ∷ bs)) at) next
    ∙ byte_before (map.insert mem at b) (at + 1) at (c ∷ bs) (omega arith) (omega arith) ∙ byte_put mem at b
byte_stored mem at (suc k) (b ∷ c ∷ bs) room lt =
    let next : wrap (at + 1) ≡ at + 1 = omega arith in
    let moved : at + suc k ≡ at + 1 + k = omega arith in
    ap (λ a. byte (store (map.insert mem at b) (wrap (at + 1)) (c ∷ bs)) a) moved ∙ ap (λ n. byte (store (map.insert mem at b) n (c ∷ bs)) (at + 1 + k)) next
    ∙ byte_stored (map.insert mem at b) (at + 1) k (c ∷ bs) (omega arith) (omega arith)

pub has_bytes : (m : Machine) (at : ℕ) (bs : List ℕ) → at + length bs ≤ 2 ^ 64 → HasBytes (with_bytes m at bs) at bs
has_bytes m at bs room = λ k lt. byte_stored m.state.values.mem at k bs room lt
