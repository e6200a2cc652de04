-- What the order of veneers says of uses, that each reaches its veneer, and how sorted keys give the order.
use Rattle.std.proofs.lemmas.List.{map-id}
use Rattle.std.proofs.lemmas.Simd.{map-map}
use Rattle.std.proofs.Common.{[], ◌≡◌, ◌≢◌, ℕ, suc, ◌+◌, ◌<◌, ◌≤◌, Bool, true, cond, List, ◌∷◌, length, map, Option, Some, refl, ap, sym, ◌∙◌, arith, false, ◌++◌, None, subst, Ordering, not, ◌&&◌, append_assoc}
use Rattle.mach_uses.proofs.Words.{nat_tests, get_or_from_slice_get, length-map, map-append, is_count_by, IsPermutation-map, length_permutation, sum_by-IsPermutation, ranks_by, sorted_far, IsPermutation-append_right, IsPermutation-trans, All-permutation, nat_cmp_total, on_total, then_total, All-map, slice_get, nat_eq, nat_le, IsPermutation, slice_index_or, filter, IsSorted, Kinds, Use, is_reached, is_pending, deadlines, due_by, StillReaches, is_other, numbers_of, by_deadline, by_place, by_number, IsOrder, deadline_in, deadline_at, test_at, keys_where, is_queued, queue_of, is_other_queued, key_number, Keeps, AreKept, IsNone, CanPut, IsStrictWeakOrder, nat_cmp, ordering_then, is_lt, MachLabel, PendingKey, Pending}
use Rattle.mach_uses.proofs.QueueContents.{IsNumber, number_is, numbers_differ, number_there, none_by, deadlines_from, numbers_parts, keeps_fewer}
use Rattle.mach_uses.proofs.Lists.{below, comes_from}

-- a use in reach of its label is none of those that get veneers
pub not_pending : {L : Type 0} (kinds : Kinds L) (place : ℕ → Option ℕ) (u : Use L) → is_reached kinds (place u.label.number) u ≡ true → is_pending kinds place u ≡ true → ⊥
not_pending kinds place u reached pending = absurd (grind (arith, nat_tests))

-- deadlines in another order
due_permuted : (end : ℕ) (ds es : List ℕ) → IsPermutation ds es → due_by end es ≡ due_by end ds
due_permuted end ds es perm =
    let count = is_count_by (due_by end) (λ d. nat_le d end) refl (λ d es. grind (arith, nat_tests)) in
    count es ∙ sum_by-IsPermutation (λ d. cond (nat_le d end) 1 0) ds es perm ∙ sym (count ds)

none_sooner : (due : ℕ → ℕ) (d end : ℕ) (ns : List ℕ) → ((k j : ℕ) → slice_get ns k ≡ Some j → d ≤ due j) → 1 ≤ due_by end (map due ns) → d ≤ end
none_sooner due d end [] all one = absurd (omega arith)
none_sooner due d end (j ∷ ns) all one = grind (arith, nat_tests, all 0 j, none_sooner due d end ns (λ k x h. all (suc k) x h))

module _ {L : Type 0} (kinds : Kinds L) (test : Use L → Bool) (uses : List (Use L)) where
  can_list : (cur : ℕ) (order : List ℕ) → StillReaches cur (map (deadline_at kinds uses) order) → ((u : Use L) → test u ≡ true → kinds.has_veneer u.kind ≡ true) → ((k i : ℕ) → slice_get order k ≡ Some i → IsNumber test uses i) →
      ((a b i j : ℕ) → a < b → slice_get order a ≡ Some i → slice_get order b ≡ Some j → (i ≢ j) × (deadline_at kinds uses i ≤ deadline_at kinds uses j)) → CanPut kinds uses cur order
  can_list cur [] reach may each pairs = tt
  can_list cur (i ∷ order) reach may each pairs =
      let n = each 0 i refl in
      let D : ℕ → ℕ = deadline_at kinds uses in
      let near : cur ≤ D i = grind (arith, nat_tests, reach.each (D i)) in
      let sooner : (end : ℕ) → 1 ≤ due_by end (map D order) → D i ≤ end = λ end. none_sooner D (D i) end order (λ k j h. (pairs 0 (suc k) i j (omega arith) refl h).1) in
      -- the soonest gets its veneer: eight bytes on, and one less is due
      let next : StillReaches (cur + 8) (map D order) = record { each = λ end one. grind (arith, nat_tests, sooner end, reach.each end) } in (
        record { user = n.user; there = n.there; supported = may n.user n.holds; near = omega (arith, ap (deadline_in kinds) n.there) },
        none_by i order (λ k j h e. (pairs 0 (suc k) i j (omega arith) refl h).0 (sym e)),
        can_list (cur + 8) order next may (λ k j h. each (suc k) j h) (λ a b x y lt ha hb. pairs (suc a) (suc b) x y (omega arith) ha hb),
      )

-- ---- the uses of an order

module _ {L : Type 0} {kinds : Kinds L} {test : Use L → Bool} {uses : List (Use L)} where
  -- a use for which the test fails is none of them, and one for which it holds is
  pub order_none : {order : List ℕ} → IsOrder kinds test uses order → (j : ℕ) (u : Use L) → slice_get uses j ≡ Some u → (test u ≡ true → ⊥) → IsNone j order
  order_none {order} o j u there fails = none_by j order (λ k i h e. let n = number_is test uses order o.exactly k i h in fails (grind arith))

  pub order_has : {order : List ℕ} → IsOrder kinds test uses order → (j : ℕ) (u : Use L) → slice_get uses j ≡ Some u → test u ≡ true → IsNone j order → ⊥
  order_has {order} o = number_there test uses order o.exactly

  pub order_long : {order : List ℕ} → IsOrder kinds test uses order → length order ≡ length (deadlines test kinds uses)
  order_long {order} o = length_permutation (numbers_of test uses) order o.exactly ∙ sym (ap (length {A = ℕ}) (deadlines_from kinds test [] uses) ∙ length-map (numbers_of test uses) (deadline_at kinds uses))

  -- the veneers of these uses can be put in their order, where each still reaches its own
  pub can_order : {order : List ℕ} (cur : ℕ) → IsOrder kinds test uses order → ((u : Use L) → test u ≡ true → kinds.has_veneer u.kind ≡ true) → StillReaches cur (deadlines test kinds uses) → CanPut kinds uses cur order
  can_order {order} cur o may reach =
      let D : ℕ → ℕ = deadline_at kinds uses in
      let same : (end : ℕ) → due_by end (map D order) ≡ due_by end (deadlines test kinds uses) = λ end. due_permuted end _ (map D order) (IsPermutation-map D (numbers_of test uses) order o.exactly) ∙ sym (ap (due_by end) (deadlines_from kinds test [] uses)) in
      let is = number_is test uses order o.exactly in
      can_list kinds test uses cur order (record { each = λ end one. grind (arith, same end, reach.each end) }) may is (λ a b i j lt ha hb.
      let x = is a i ha in
      let y = is b j hb in
      (numbers_differ test uses order o.exactly a b i j lt ha hb, grind (arith, o.sorted a b i j x.user y.user lt ha hb x.there y.there, ap (deadline_in kinds) x.there, ap (deadline_in kinds) y.there)))

-- ---- keys of uses

abbrev offset_in : {L : Type 0} → Option (Use L) → ℕ
offset_in None = 0
offset_in (Some u) = u.offset

-- the key of the use of a number
abbrev key_at : {L : Type 0} → Kinds L → List (Use L) → ℕ → PendingKey
key_at kinds uses i = record { deadline = deadline_at kinds uses i; offset = offset_in (slice_get uses i); index = i }

keys_are : {L : Type 0} (kinds : Kinds L) (test : Use L → Bool) (uses : List (Use L)) (numbers : List ℕ) → keys_where kinds test uses numbers ≡ map (key_at kinds uses) (filter (test_at test uses) numbers)
keys_are kinds test uses [] = refl
keys_are kinds test uses (n ∷ ns) = grind (arith, nat_tests, keys_are kinds test uses ns)

-- ---- sorted keys

abbrev key_cmp : PendingKey → PendingKey → Ordering
key_cmp a b = ordering_then (nat_cmp a.deadline b.deadline) (ordering_then (nat_cmp a.offset b.offset) (nat_cmp a.index b.index))

key_order : IsStrictWeakOrder (λ a b. is_lt (key_cmp a b))
key_order = ranks_by (then_total (on_total (λ (t : PendingKey). t.deadline) nat_cmp_total) (then_total (on_total (λ (t : PendingKey). t.offset) nat_cmp_total) (on_total (λ (t : PendingKey). t.index) nat_cmp_total))) (λ t. t)

in_order : (ts : List PendingKey) → IsSorted key_cmp ts → (a b : ℕ) (s t : PendingKey) → a < b → slice_get ts a ≡ Some s → slice_get ts b ≡ Some t → is_lt (key_cmp t s) ≡ false
in_order ts up a b s t lt ha hb =
    let there : is_lt (key_cmp (slice_index_or ts b s) (slice_index_or ts a s)) ≡ is_lt (key_cmp t s) = λ i. is_lt (key_cmp (get_or_from_slice_get ts b t s hb i) (get_or_from_slice_get ts a s s ha i)) in
    sym there ∙ sorted_far (λ c d. is_lt (key_cmp c d)) key_order ts up a b s (omega arith) (below ts b t hb)

-- ---- the order of all queues

-- the numbers of a test are those of its uses in each queue
numbers_queues : {L : Type 0} (kinds : Kinds L) (place : ℕ → Option ℕ) (after_island : Option MachLabel) (uses : List (Use L)) → let Q : ℕ → Use L → Bool = λ n. is_other_queued kinds place n after_island in IsPermutation (numbers_of (is_other kinds place after_island) uses) (numbers_of (Q 0) uses ++ numbers_of (Q 1) uses ++ numbers_of (Q 2) uses)
numbers_queues {L} kinds place after_island uses =
    let test = is_other kinds place after_island in
    let Q : ℕ → Use L → Bool = λ n. is_other_queued kinds place n after_island in
    let rest : Use L → Bool = λ u. test u && not (nat_eq (queue_of kinds u) 0) in
    let first = numbers_parts test (Q 0) rest (λ u. nat_eq (queue_of kinds u) 0) (λ u. grind (arith, nat_tests)) (λ u. refl) uses in
    let second = numbers_parts rest (Q 1) (Q 2) (λ u. nat_eq (queue_of kinds u) 1) (λ u. grind (arith, nat_tests)) (λ u. grind (arith, nat_tests)) uses in
    let both = IsPermutation-append_right (numbers_of (Q 0) uses) (numbers_of rest uses) (numbers_of (Q 1) uses ++ numbers_of (Q 2) uses) second in
    IsPermutation-trans (numbers_of test uses) (numbers_of (Q 0) uses ++ numbers_of rest uses) (numbers_of (Q 0) uses ++ numbers_of (Q 1) uses ++ numbers_of (Q 2) uses) first (rw (append_assoc (numbers_of (Q 0) uses) (numbers_of (Q 1) uses) (numbers_of (Q 2) uses)) both)

module _ {L : Type 0} {kinds : Kinds L} {place : ℕ → Option ℕ} {uses : List (Use L)} {p : Pending} where
  pub order_is : (after_island : Option MachLabel) (short_keys near_keys keys sorted : List PendingKey) → let Q : ℕ → Use L → Bool = λ n. is_other_queued kinds place n after_island in AreKept kinds place uses p → short_keys ≡ [] ++ keys_where kinds (Q 0) uses p.short.numbers.items →
      near_keys ≡ short_keys ++ keys_where kinds (Q 1) uses p.near.numbers.items → keys ≡ near_keys ++ keys_where kinds (Q 2) uses p.far.numbers.items → IsPermutation keys sorted → IsSorted key_cmp sorted → IsOrder kinds (is_other kinds place after_island) uses (map key_number sorted)
  order_is after_island short_keys near_keys keys sorted k es en et perm up =
      let Q : ℕ → Use L → Bool = λ n. is_other_queued kinds place n after_island in
      let K : ℕ → PendingKey = key_at kinds uses in
      let N = (numbers_of (Q 0) uses ++ numbers_of (Q 1) uses) ++ numbers_of (Q 2) uses in
      let queue : (n : ℕ) (ns : List ℕ) (slack : ℕ) → Keeps kinds (is_queued kinds place n) uses ns slack → keys_where kinds (Q n) uses ns ≡ map K (numbers_of (Q n) uses) =
      λ n ns slack q. keys_are kinds (Q n) uses ns ∙ ap (map K) (keeps_fewer (Q n) (λ u h. grind (arith, nat_tests)) q).same in
      let first : short_keys ≡ map K (numbers_of (Q 0) uses) = es ∙ queue 0 _ _ k.short in
      let second : near_keys ≡ map K (numbers_of (Q 0) uses ++ numbers_of (Q 1) uses) = en ∙ (λ i. first i ++ queue 1 _ _ k.near i) ∙ sym (map-append K (numbers_of (Q 0) uses) (numbers_of (Q 1) uses)) in
      let whole : keys ≡ map K N = et ∙ (λ i. second i ++ queue 2 _ _ k.far i) ∙ sym (map-append K (numbers_of (Q 0) uses ++ numbers_of (Q 1) uses) (numbers_of (Q 2) uses)) in
      let exactly : IsPermutation (numbers_of (is_other kinds place after_island) uses) (map key_number sorted) =
      IsPermutation-trans _ N (map key_number sorted) (numbers_queues kinds place after_island uses) (rw (whole, map-map key_number K N ∙ map-id N) at (IsPermutation-map key_number keys sorted perm)) in
      -- each key is that of the use of its number
      let IsKey : PendingKey → Type 0 = λ t. K t.index ≡ t in
      let each : (j : ℕ) (t : PendingKey) → slice_get sorted j ≡ Some t → K t.index ≡ t = λ j t h.
      subst IsKey (get_or_from_slice_get sorted j t t h) (All-permutation IsKey (map K N) sorted (rw whole at perm) (All-map IsKey K N (λ i d lt. refl)) j t (below sorted j t h)) in
      record {
        exactly = exactly;
        sorted = λ a b i j u v lt ha hb hu hv.
            let s = comes_from key_number sorted a i ha in
            let t = comes_from key_number sorted b j hb in
            let differ = numbers_differ (is_other kinds place after_island) uses (map key_number sorted) exactly a b i j lt ha hb in
            grind (arith, nat_tests, each a s.from s.there, each b t.from t.there, in_order sorted up a b s.from t.from lt s.there t.there, by_deadline, by_place, by_number);
      }
