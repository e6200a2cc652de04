-- A memory that is kept as a map's entries.
use Rattle.std.proofs.Common.{◌≡◌, ℕ, subst, Bool, true, false, ◌==◌, List, [], ◌∷◌, Option, Some, None, cond, refl, ap, sym, ◌∙◌, arith, OnOk, OnErr, eq-eqb, Result, Ok, Err}
use Rattle.std.proofs.lemmas.Bool.Decides.{nat_tests}
use Rattle.std.specs.FinMap.{get, insert, remove, from_entries, from_sorted, entries, keys, entries-from_sorted, get-from_entries, get-from_sorted, get-insert, get-remove, find, same_map, nat_cmp-IsAntisymmetric}
use Rattle.std.specs.FinMap.Entries.{below_all, is_sorted}
use Rattle.std.specs.List.Sorted.{IsStrictlySortedBy}
use Rattle.std.specs.Ordering.{nat_cmp, eq_by_cmp, is_lt}
use Rattle.std.specs.List.{All, AllByRecursion}
use Rattle.std.specs.declared.ops.Bound.{Bound}
use Rattle.std.specs.declared.ops.Bound.TheVariants.{Unbounded}
use Rattle.std.specs.BTreeMap.Range.{IsEntryInRange}
use Rattle.std.specs.Prelude.{T, ◌+◌, ◌*◌, ◌^◌, ◌<◌, ◌&&◌, map, unwrap_or}
use Rattle.std.specs.declared.cmp.Ordering.TheVariants.{Less}
use Rattle.std.specs.Cmp.{nat_cmp_total, eq_by_cmp_equiv, unsigned_tied}
use Rattle.std.specs.Map.{lookup}
use Rattle.std.specs.BTreeMap.{BTreeMap, is_at}
use Rattle.rv_machine.specs.Memory.{load_bytes}
use Rattle.rv_machine.specs.State.{Memory, byte, wrap}
use Rattle.rv_machine.specs.Steps.{Machine, with_memory}

find_at : (es : List (ℕ × ℕ)) (q : ℕ) → find nat_cmp q es ≡ lookup (is_at (nat_cmp q)) es
find_at [] q = refl
find_at (e ∷ es) q = ap (cond (is_at (nat_cmp q) e.0) (Some e.1)) (find_at es q)

-- what the map of some entries has at an address
pub get_at : (es : List (ℕ × ℕ)) (q : ℕ) → get (from_entries {R = nat_cmp} es) q ≡ lookup (is_at (nat_cmp q)) es
get_at es q = get-from_entries nat_cmp_total es q ∙ find_at es q

-- entries that give what others give after an insertion make the map after it
pub inserted : (es fs : List (ℕ × ℕ)) (k v : ℕ) → ((q : ℕ) → lookup (is_at (nat_cmp q)) fs ≡ cond (is_at (nat_cmp k) q) (Some v) (lookup (is_at (nat_cmp q)) es)) → from_entries {R = nat_cmp} fs ≡ insert (from_entries es) k v
inserted es fs k v h =
    same_map nat_cmp_total nat_cmp-IsAntisymmetric _ _ (λ q.
    get_at fs q
    ∙ h q
    ∙ ap (λ b. cond b (Some v) (lookup (is_at (nat_cmp q)) es)) ((eq_by_cmp_equiv nat_cmp_total).symm k q)
    ∙ sym (get-insert nat_cmp_total (from_entries es) k v q ∙ ap (cond (eq_by_cmp nat_cmp q k) (Some v)) (get_at es q)))

-- entries that give what others give after a removal make the map after it
pub removed : (es fs : List (ℕ × ℕ)) (k : ℕ) → ((q : ℕ) → lookup (is_at (nat_cmp q)) fs ≡ cond (is_at (nat_cmp k) q) None (lookup (is_at (nat_cmp q)) es)) → from_entries {R = nat_cmp} fs ≡ remove (from_entries es) k
removed es fs k h =
    same_map nat_cmp_total nat_cmp-IsAntisymmetric _ _ (λ q.
    get_at fs q
    ∙ h q
    ∙ ap (λ b. cond b None (lookup (is_at (nat_cmp q)) es)) ((eq_by_cmp_equiv nat_cmp_total).symm k q)
    ∙ sym (get-remove nat_cmp_total (from_entries es) k q ∙ ap (cond (eq_by_cmp nat_cmp q k) None) (get_at es q)))

-- ---- a byte written, and what was there before put back

back : (mem : Memory) (k c q : ℕ) (o : Option ℕ) → get mem k ≡ o → cond (eq_by_cmp nat_cmp q k) o (cond (eq_by_cmp nat_cmp q k) (Some c) (get mem q)) ≡ get mem q
back mem k c q o was = on (eq_by_cmp nat_cmp q k) (sym (unsigned_tied q k))
  where
    on : (t : Bool) → (q == k) ≡ t → cond t o (cond t (Some c) (get mem q)) ≡ get mem q
    on true e = let here : k ≡ q = grind (arith, nat_tests) in sym was ∙ ap (get mem) here
    on false e = refl

pub put_back : (mem : Memory) (k b c : ℕ) → get mem k ≡ Some b → insert (insert mem k c) k b ≡ mem
put_back mem k b c was =
    same_map nat_cmp_total nat_cmp-IsAntisymmetric _ _ (λ q.
    get-insert nat_cmp_total (insert mem k c) k b q
    ∙ ap (cond (eq_by_cmp nat_cmp q k) (Some b)) (get-insert nat_cmp_total mem k c q)
    ∙ back mem k c q (Some b) was)

pub taken_back : (mem : Memory) (k c : ℕ) → get mem k ≡ None → remove (insert mem k c) k ≡ mem
taken_back mem k c was =
    same_map nat_cmp_total nat_cmp-IsAntisymmetric _ _ (λ q.
    get-remove nat_cmp_total (insert mem k c) k q
    ∙ ap (cond (eq_by_cmp nat_cmp q k) None) (get-insert nat_cmp_total mem k c q)
    ∙ back mem k c q None was)

-- ---- the machine that it is put back in

pub on_err : {A E P : Type 0} (r : Result A E) → P → OnErr r P
on_err (Ok v) p = tt
on_err (Err e) p = p

on_ok : {A E P Q : Type 0} (r : Result A E) → OnOk r P → OnErr r Q → (Q → ⊥) → P
on_ok (Ok v) p q refuted = p
on_ok (Err e) p q refuted = absurd (refuted q)

-- what is written somewhere is there
written : (mem : Memory) (k c : ℕ) → get (insert mem k c) k ≡ Some c
written mem k c = get-insert nat_cmp_total mem k c k ∙ ap (λ t. cond t (Some c) (get mem k)) (unsigned_tied k k ∙ eq-eqb k k refl)

pub restored : {A E : Type 0} (r : Result A E) (m old new : Machine) (k b c : ℕ) → get m.state.values.mem k ≡ Some b → old ≡ with_memory m (insert m.state.values.mem k c) →
    OnOk r (new ≡ with_memory old (insert old.state.values.mem k b)) → OnErr r (get old.state.values.mem k ≡ None) → new ≡ m
restored r m old new k b c was wrote ok err =
    let there : get old.state.values.mem k ≡ Some c = ap (λ (o : Machine). get o.state.values.mem k) wrote ∙ written m.state.values.mem k c in
    on_ok r ok err (λ none. absurd (cc))
    ∙ ap (λ (o : Machine). with_memory o (insert o.state.values.mem k b)) wrote
    ∙ ap (with_memory m) (put_back m.state.values.mem k b c was)

pub cleared : (m old new : Machine) (k c : ℕ) → get m.state.values.mem k ≡ None → old ≡ with_memory m (insert m.state.values.mem k c) → new ≡ with_memory old (remove old.state.values.mem k) → new ≡ m
cleared m old new k c was wrote gone =
    gone
    ∙ ap (λ (o : Machine). with_memory o (remove o.state.values.mem k)) wrote
    ∙ ap (with_memory m) (taken_back m.state.values.mem k c was)

-- ---- the addresses

both : (a b : Bool) → T a → T b → T (a && b)
both true b p q = q
both false b p q = p

abbrev firsts : List (ℕ × ℕ) → List ℕ
firsts es = map (λ e. e.0) es

below : (k : ℕ) (es : List (ℕ × ℕ)) → AllByRecursion (λ y. nat_cmp k y ≡ Less) (firsts es) → T (below_all nat_cmp k es)
below k [] h = tt
below k (e ∷ es) h = both _ _ (subst (λ r. T (is_lt r)) (sym h.0) tt) (below k es h.1)

rises : (es : List (ℕ × ℕ)) → IsStrictlySortedBy nat_cmp (firsts es) → T (is_sorted nat_cmp es)
unfolding IsStrictlySortedBy
rises [] h = tt
rises (e ∷ es) h = both _ _ (below e.0 es h.0) (rises es h.1)

-- the map of entries in order has them
has_entries : (es : List (ℕ × ℕ)) → IsStrictlySortedBy nat_cmp (firsts es) → entries (from_entries {R = nat_cmp} es) ≡ es
has_entries es h =
    ap entries (same_map nat_cmp_total nat_cmp-IsAntisymmetric (from_entries es) (from_sorted es) (λ q.
    get-from_entries nat_cmp_total es q ∙ sym (get-from_sorted nat_cmp es q (rises es h))))
    ∙ entries-from_sorted nat_cmp es (rises es h)

pub has_keys : (es : List (ℕ × ℕ)) → IsStrictlySortedBy nat_cmp (firsts es) → keys (from_entries {R = nat_cmp} es) ≡ firsts es
has_keys es h = ap firsts (has_entries es h)

-- ---- bytes that stand one after the other

-- an entry of a range is the byte at its address
byte_there : (m : BTreeMap ℕ ℕ) (from : Bound ℕ) (e : ℕ × ℕ) → IsEntryInRange nat_cmp from Unbounded m e → byte (from_entries m.entries) e.0 ≡ e.1
byte_there m from e there = ap (λ o. unwrap_or o 0) (get_at m.entries e.0 ∙ there.1)

-- four of them, each at the address after the one before
pub word_there : (m : BTreeMap ℕ ℕ) (from : Bound ℕ) (at a b c d : ℕ) (more : List (ℕ × ℕ)) → All (IsEntryInRange nat_cmp from Unbounded m) ((at, a) ∷ (at + 1, b) ∷ (at + 2, c) ∷ (at + 3, d) ∷ more) → at + 3 < 2 ^ 64 → load_bytes (from_entries m.entries) at 4 ≡ a + b * 256 + c * 65536 + d * 16777216
word_there m from at a b c d more all fits =
    let mem : Memory = from_entries m.entries in
    let at0 : wrap (at + 0) ≡ at = omega arith in
    let at1 : wrap (at + 1) ≡ at + 1 = omega arith in
    let at2 : wrap (at + 2) ≡ at + 2 = omega arith in
    let at3 : wrap (at + 3) ≡ at + 3 = omega arith in
    let first = ap (byte mem) at0 ∙ byte_there m from (at, a) (all 0 (0, 0) (omega arith)) in
    let second = ap (byte mem) at1 ∙ byte_there m from (at + 1, b) (all 1 (0, 0) (omega arith)) in
    let third = ap (byte mem) at2 ∙ byte_there m from (at + 2, c) (all 2 (0, 0) (omega arith)) in
    let fourth = ap (byte mem) at3 ∙ byte_there m from (at + 3, d) (all 3 (0, 0) (omega arith)) in
    (λ i. 0 + first i * 1 + second i * 256 + third i * 65536 + fourth i * 16777216) ∙ omega arith
