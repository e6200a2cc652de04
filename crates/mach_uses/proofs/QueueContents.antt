-- Uses by their numbers, and the queues of pending uses, as uses and labels come, and the search in them for a deadline that might be missed.
use Rattle.std.proofs.Common.{[], ◌≡◌, ℕ, ◌+◌, ◌*◌, ◌<◌, ◌≤◌, Bool, true, false, List, ◌∷◌, ◌++◌, length, map, Option, Some, None, ap, sym, subst, ◌∙◌, arith, ◌-◌, refl, ◌≢◌, zero, suc, not, ◌&&◌, cond, take, get_or, append_assoc, add-one}
use Rattle.mach_uses.proofs.Words.{option_map, same_Some, nat_tests, and_left, true_from_ne_false, nil_from_length, length-append, map-append, length-map, filter-append, is_count_by, count_by-le-length, IsPermutation-refl, slice_get, filter, count_by, is_some, Kinds, Use, Pending, deadline, is_pending, deadlines, due_by, HasSlack, island_margin, is_needed_from, numbers_of, test_at, use_where, is_due_at, deadline_at, is_queued, queue_of, HoldNone, slack_after, Keeps, AreKept, due_in, shows_slack, true≢false, get_or_from_slice_get, slice_get-get_or, length_push, length-take-le, get_or-take, get_or-le-sum_by, sum_by_more_le, IsPermutation-filter_both, sum_by-IsPermutation, nat_eq, IsPermutation, numbers_from, passes, IsNone}
use Rattle.mach_uses.proofs.Lists.{below, append_each, append_none, slice_get-append_last, slice_get-append, slice_get-append_at}
use Rattle.mach_uses.proofs.Slack.{due_append, due_fewer, due_le_length, deadlines_append, slack_same, none_from, slack_not_needed}

-- the deadlines of uses are those at their numbers
pub deadlines_from : {L : Type 0} (kinds : Kinds L) (test : Use L → Bool) (front uses : List (Use L)) → deadlines test kinds uses ≡ map (deadline_at kinds (front ++ uses)) (numbers_from (length front) test uses)
deadlines_from kinds test front [] = refl
deadlines_from kinds test front (u ∷ uses) =
    let rest = rw (append_assoc, length_push, add-one) at (deadlines_from kinds test (front ++ u ∷ []) uses) in
    grind (arith, nat_tests, slice_get-append_at front u uses, rest)

-- a test that asks more, of uses or of their numbers
pub numbers_where : {L : Type 0} (test new_test : Use L → Bool) (passes_too : ℕ → Bool) (front uses : List (Use L)) → ((i : ℕ) (u : Use L) → slice_get (front ++ uses) i ≡ Some u → new_test u ≡ (test u && passes_too i)) → filter passes_too (numbers_from (length front) test uses) ≡ numbers_from (length front) new_test uses
numbers_where test new_test passes_too front [] same = refl
numbers_where test new_test passes_too front (u ∷ uses) same =
    let rest = rw (length_push, add-one) at (numbers_where test new_test passes_too (front ++ u ∷ []) uses (λ i w h. same i w (rw append_assoc at h))) in
    grind (arith, nat_tests, same (length front) u, slice_get-append_at front u uses, rest)

pub filter_fewer : {L : Type 0} (test new_test : Use L → Bool) → ((u : Use L) → new_test u ≡ true → test u ≡ true) → (uses : List (Use L)) (ns : List ℕ) → filter (test_at new_test uses) (filter (test_at test uses) ns) ≡ filter (test_at new_test uses) ns
filter_fewer test new_test sub uses [] = refl
filter_fewer test new_test sub uses (n ∷ ns) = grind (arith, nat_tests, sub, filter_fewer test new_test sub uses ns)

-- a use more
pub numbers_more : {L : Type 0} (n : ℕ) (test : Use L → Bool) (uses : List (Use L)) (u : Use L) → numbers_from n test (uses ++ u ∷ []) ≡ numbers_from n test uses ++ cond (test u) ((n + length uses) ∷ []) []
numbers_more n test [] u = let same : n ≡ n + 0 = omega arith in ap (λ (m : ℕ). cond (test u) (m ∷ []) []) same
numbers_more n test (w ∷ uses) u = grind (arith, nat_tests, numbers_more (suc n) test uses u)

pub filter_more : {L : Type 0} (test : Use L → Bool) (uses : List (Use L)) (u : Use L) (ns : List ℕ) → ((k i : ℕ) → slice_get ns k ≡ Some i → i < length uses) → filter (test_at test (uses ++ u ∷ [])) ns ≡ filter (test_at test uses) ns
filter_more test uses u [] low = refl
filter_more test uses u (n ∷ ns) low = grind (arith, nat_tests, slice_get-append uses (u ∷ []) n (get_or uses n u) (slice_get-get_or uses n u (low 0 n refl)), slice_get-get_or uses n u, low 0 n, filter_more test uses u ns (λ k i h. low (suc k) i h))

-- those of a test and those of its two parts
pub numbers_parts : {L : Type 0} (test a b : Use L → Bool) (c : Use L → Bool) → ((u : Use L) → a u ≡ (test u && c u)) → ((u : Use L) → b u ≡ (test u && not (c u))) → (uses : List (Use L)) → IsPermutation (numbers_of test uses) (numbers_of a uses ++ numbers_of b uses)
numbers_parts test a b c ha hb uses =
    let first = numbers_where test a (test_at c uses) [] uses (λ i u h. grind (arith, nat_tests, ha u)) in
    let second = numbers_where test b (λ i. not (test_at c uses i)) [] uses (λ i u h. grind (arith, nat_tests, hb u)) in
    subst (IsPermutation (numbers_of test uses)) (λ i. first i ++ second i) (IsPermutation-filter_both (test_at c uses) (λ i. not (test_at c uses i)) (λ i. refl) (numbers_of test uses))

-- ---- the same numbers in another order

-- how often a number is there
abbrev times : ℕ → List ℕ → ℕ
times i [] = 0
times i (j ∷ ns) = cond (nat_eq j i) (1 + times i ns) (times i ns)

times_none : {L : Type 0} (n m : ℕ) (test : Use L → Bool) (uses : List (Use L)) → m < n → times m (numbers_from n test uses) ≡ 0
times_none n m test [] lt = refl
times_none n m test (u ∷ uses) lt = grind (arith, nat_tests, times_none (suc n) m test uses)

-- once, where the test holds of its use
times_from : {L : Type 0} (n i m : ℕ) (test : Use L → Bool) (uses : List (Use L)) → n + i ≡ m → times m (numbers_from n test uses) ≡ cond (test_at test uses i) 1 0
times_from n i m test [] e = refl
times_from n zero m test (u ∷ uses) e = grind (arith, nat_tests, times_none (suc n) m test uses)
times_from n (suc i) m test (u ∷ uses) e = grind (arith, nat_tests, times_from (suc n) i m test uses)

-- what a number is: that of a use for which the test holds
pub record IsNumber {L : Type 0} (test : Use L → Bool) (uses : List (Use L)) (i : ℕ) : Type 0 where
  pub user : Use L
  pub there : slice_get uses i ≡ Some user
  pub holds : test user ≡ true

passed : {L : Type 0} (test : Use L → Bool) (uses : List (Use L)) (i : ℕ) (o : Option (Use L)) → slice_get uses i ≡ o → passes test o ≡ true → IsNumber test uses i
passed test uses i None e h = absurd (true≢false (sym h))
passed test uses i (Some u) e h = record { user = u; there = e; holds = h }

pub none_by : (i : ℕ) (ns : List ℕ) → ((k j : ℕ) → slice_get ns k ≡ Some j → j ≢ i) → IsNone i ns
none_by i [] f = tt
none_by i (j ∷ ns) f = (f 0 j refl, none_by i ns (λ k x h. f (suc k) x h))

none_times : (i : ℕ) (ns : List ℕ) → IsNone i ns → times i ns ≡ 0
none_times i [] none = refl
none_times i (j ∷ ns) none = grind (arith, nat_tests, none.0, none_times i ns none.1)

times_count : (i : ℕ) (ns : List ℕ) → times i ns ≡ count_by (λ k. nat_eq k i) ns
times_count i = is_count_by (times i) (λ k. nat_eq k i) refl (λ k ks. refl)

module _ {L : Type 0} (test : Use L → Bool) (uses : List (Use L)) (ns : List ℕ) where
  times_here : IsPermutation (numbers_of test uses) ns → (i : ℕ) → times i ns ≡ cond (test_at test uses i) 1 0
  times_here perm i = times_count i ns ∙ sum_by-IsPermutation (λ k. cond (nat_eq k i) 1 0) (numbers_of test uses) ns perm ∙ sym (times_count i (numbers_of test uses)) ∙ times_from 0 i i test uses (omega arith)

  pub number_is : IsPermutation (numbers_of test uses) ns → (k i : ℕ) → slice_get ns k ≡ Some i → IsNumber test uses i
  number_is perm k i h =
      let one = get_or-le-sum_by (λ m. cond (nat_eq m i) 1 0) ns k i (below ns k i h) in
      passed test uses i (slice_get uses i) refl (grind (arith, nat_tests, times_here perm i, times_count i ns, one, get_or_from_slice_get ns k i i h))

  pub numbers_differ : IsPermutation (numbers_of test uses) ns → (a b i j : ℕ) → a < b → slice_get ns a ≡ Some i → slice_get ns b ≡ Some j → i ≢ j
  numbers_differ perm a b i j lt ha hb e =
      let f : ℕ → ℕ = λ m. cond (nat_eq m i) 1 0 in
      let within = below ns b j hb in
      let first = get_or-le-sum_by f (take b ns) a i (omega (arith, length-take-le b ns (omega arith))) in
      absurd (grind (arith, nat_tests, times_here perm i, times_count i ns, sum_by_more_le f ns b i within, first, get_or-take b ns a i lt, get_or_from_slice_get ns a i i ha, get_or_from_slice_get ns b j i hb))

  pub number_there : IsPermutation (numbers_of test uses) ns → (j : ℕ) (u : Use L) → slice_get uses j ≡ Some u → test u ≡ true → IsNone j ns → ⊥
  number_there perm j u h holds none = absurd (grind (arith, nat_tests, times_here perm j, none_times j ns none))

-- a deadline more
pub room_after : (slack d n : ℕ) (ds : List ℕ) → length ds < n → (1 ≤ slack → HasSlack slack 0 ds) → 1 ≤ slack_after slack d n → HasSlack (slack_after slack d n) 0 (ds ++ d ∷ [])
room_after slack d n ds few room one = record { each = λ end due. let a = due_append end ds (d ∷ []) in let b = due_le_length end ds in let r : 1 ≤ slack → 1 ≤ due_by end ds → slack + 0 + 8 * due_by end ds ≤ end = λ le. (room le).each end in grind (arith, nat_tests, r) }

-- ---- one queue

module _ {L : Type 0} {kinds : Kinds L} {test : Use L → Bool} {uses : List (Use L)} {numbers : List ℕ} {slack : ℕ} where
  -- its numbers are those of the deadlines
  pub kept_deadlines : Keeps kinds test uses numbers slack → deadlines test kinds uses ≡ map (deadline_at kinds uses) (filter (test_at test uses) numbers)
  kept_deadlines k = deadlines_from kinds test [] uses ∙ ap (map (deadline_at kinds uses)) (sym k.same)

  -- how many are due, and how many there are, by what is counted
  pub kept_due : Keeps kinds test uses numbers slack → (end : ℕ) → count_by (λ i. is_due_at kinds test uses end i) numbers ≡ due_by end (deadlines test kinds uses)
  kept_due k end = sym (ap (due_by end) (kept_deadlines k) ∙ is_count_by (λ is. due_by end (map (deadline_at kinds uses) (filter (test_at test uses) is))) (λ i. is_due_at kinds test uses end i) refl (λ i is. grind (arith, nat_tests)) numbers)

  pub kept_count : Keeps kinds test uses numbers slack → count_by (λ i. is_some (use_where test uses i)) numbers ≡ length (deadlines test kinds uses)
  kept_count k = sym (ap (length {A = ℕ}) (kept_deadlines k) ∙ is_count_by (λ is. length (map (deadline_at kinds uses) (filter (test_at test uses) is))) (λ i. is_some (use_where test uses i)) refl (λ i is. grind (arith, nat_tests)) numbers)

  pub kept_few : Keeps kinds test uses numbers slack → length (deadlines test kinds uses) ≤ length numbers
  kept_few k = omega (arith, kept_count k, count_by-le-length (λ i. is_some (use_where test uses i)) numbers)

  -- a test that asks more
  pub keeps_fewer : (new_test : Use L → Bool) → ((u : Use L) → new_test u ≡ true → test u ≡ true) → Keeps kinds test uses numbers slack → Keeps kinds new_test uses numbers slack
  keeps_fewer new_test sub k =
      let same = sym (filter_fewer test new_test sub uses numbers) ∙ ap (filter (test_at new_test uses)) k.same ∙ numbers_where test new_test (test_at new_test uses) [] uses (λ i u h. grind (arith, nat_tests, sub u)) in
      let room : 1 ≤ slack → HasSlack slack 0 (deadlines new_test kinds uses) = λ one. slack_same slack 0 _ _ (λ end. due_fewer test new_test kinds end uses sub) (k.room one) in
      assumption

  -- a use of this queue, and one that isn't
  pub keeps_push : (u : Use L) → test u ≡ true → Keeps kinds test uses numbers slack → Keeps kinds test (uses ++ u ∷ []) (numbers ++ length uses ∷ []) (slack_after slack (deadline kinds u) (length numbers + 1))
  keeps_push u holds k =
      let long = length-append uses (u ∷ []) in
      let few = kept_few k in
      let last = slice_get-append_last uses u in
      let low = append_each (λ i. i < length (uses ++ u ∷ [])) numbers (length uses) (omega arith) (λ j i h. let l = k.low j i h in omega arith) in
      let room = room_after slack (deadline kinds u) (length numbers + 1) (deadlines test kinds uses) in
      grind (arith, nat_tests, filter-append, filter_more test uses u numbers k.low, numbers_more 0 test uses u, deadlines_append test kinds uses (u ∷ []))

  pub keeps_skip : (u : Use L) → test u ≡ false → Keeps kinds test uses numbers slack → Keeps kinds test (uses ++ u ∷ []) numbers slack
  keeps_skip u idle k = grind (arith, nat_tests, filter_more, numbers_more, append_none, deadlines_append, length-append uses (u ∷ []))

-- a queue with nothing in it, where nothing passes the test
pub keeps_none : {L : Type 0} (kinds : Kinds L) (test : Use L → Bool) (uses : List (Use L)) (numbers : List ℕ) (slack : ℕ) → numbers ≡ [] → ((j : ℕ) (u : Use L) → slice_get uses j ≡ Some u → test u ≡ false) → Keeps kinds test uses numbers slack
keeps_none kinds test uses numbers slack e idle =
    let none = none_from test kinds uses idle in
    let from = deadlines_from kinds test [] uses in
    let long = length-map (numbers_of test uses) (deadline_at kinds uses) in
    rw e (grind (arith, nil_from_length (numbers_of test uses)))

-- ---- a queue of those that are still pending

-- of the numbers so far, those are kept whose uses pass; and the slack is room before their deadlines
pub record Tidied {L : Type 0} (kinds : Kinds L) (test : Use L → Bool) (uses : List (Use L)) (numbers : List ℕ) (slack : ℕ) (taken : List ℕ) : Type 0 where
  pub passed : numbers ≡ filter (test_at test uses) taken
  pub room : 1 ≤ slack → HasSlack slack 0 (map (deadline_at kinds uses) numbers)

module _ {L : Type 0} {kinds : Kinds L} {test : Use L → Bool} {uses : List (Use L)} {numbers taken : List ℕ} {slack : ℕ} where
  tidy_use : (i : ℕ) (u : Use L) → Some u ≡ use_where test uses i → Tidied kinds test uses numbers slack taken → Tidied kinds test uses (numbers ++ i ∷ []) (slack_after slack (deadline kinds u) (length numbers + 1)) (taken ++ i ∷ [])
  tidy_use i u some t =
      let long = length-map numbers (deadline_at kinds uses) in
      let room = room_after slack (deadline kinds u) (length numbers + 1) (map (deadline_at kinds uses) numbers) in
      grind (arith, nat_tests, filter-append, map-append)

  tidy_found : (i d : ℕ) (o : Option (Use L)) → o ≡ use_where test uses i → Some d ≡ option_map (deadline kinds) o → Tidied kinds test uses numbers slack taken → Tidied kinds test uses (numbers ++ i ∷ []) (slack_after slack d (length numbers + 1)) (taken ++ i ∷ [])
  tidy_found i d None is some t = absurd (cc)
  tidy_found i d (Some u) is some t = subst (λ (e : ℕ). Tidied kinds test uses (numbers ++ i ∷ []) (slack_after slack e (length numbers + 1)) (taken ++ i ∷ [])) (same_Some _ _ (sym some)) (tidy_use i u is t)

  pub tidy_take : (i d : ℕ) → Some d ≡ option_map (deadline kinds) (use_where test uses i) → Tidied kinds test uses numbers slack taken → Tidied kinds test uses (numbers ++ i ∷ []) (slack_after slack d (length numbers + 1)) (taken ++ i ∷ [])
  tidy_take i d some t = tidy_found i d (use_where test uses i) refl some t

  pub tidy_end : {old_slack : ℕ} → Keeps kinds test uses taken old_slack → Tidied kinds test uses numbers slack taken → Keeps kinds test uses numbers slack
  tidy_end k t =
      let whole : numbers ≡ numbers_of test uses = t.passed ∙ k.same in
      let low : (j i : ℕ) → slice_get numbers j ≡ Some i → i < length uses = λ j i h. let n = number_is test uses (numbers_of test uses) (IsPermutation-refl (numbers_of test uses)) j i (rw whole at h) in below uses i n.user n.there in
      let same = numbers_where test test (test_at test uses) [] uses (λ i u h. grind (arith, nat_tests)) in
      grind (arith, deadlines_from kinds test [] uses)

-- ---- all queues

-- nothing is pending
pub kept_none : {L : Type 0} (kinds : Kinds L) (place : ℕ → Option ℕ) (uses : List (Use L)) (p : Pending) → HoldNone p → ((j : ℕ) (u : Use L) → slice_get uses j ≡ Some u → is_pending kinds place u ≡ false) → AreKept kinds place uses p
kept_none {L} kinds place uses p none idle =
    let not_queued : (n : ℕ) (j : ℕ) (u : Use L) → slice_get uses j ≡ Some u → is_queued kinds place n u ≡ false = λ n j u h. and_left (is_pending kinds place u) (nat_eq (queue_of kinds u) n) (idle j u h) in
    record { short = keeps_none kinds _ uses _ _ none.short (not_queued 0); near = keeps_none kinds _ uses _ _ none.near (not_queued 1); far = keeps_none kinds _ uses _ _ none.far (not_queued 2) }

-- fewer are pending
pub kept_fewer : {L : Type 0} {kinds : Kinds L} {place : ℕ → Option ℕ} {uses : List (Use L)} {p : Pending} (new_place : ℕ → Option ℕ) → ((u : Use L) → is_pending kinds new_place u ≡ true → is_pending kinds place u ≡ true) → AreKept kinds place uses p → AreKept kinds new_place uses p
kept_fewer {L} {kinds} {place} {uses} {p} new_place sub k =
    let queue : (n : ℕ) (u : Use L) → is_queued kinds new_place n u ≡ true → is_queued kinds place n u ≡ true = λ n u h. grind (arith, nat_tests, sub u) in
    record { short = keeps_fewer (is_queued kinds new_place 0) (queue 0) k.short; near = keeps_fewer (is_queued kinds new_place 1) (queue 1) k.near; far = keeps_fewer (is_queued kinds new_place 2) (queue 2) k.far }

-- ---- the pending uses are those of all queues

pub due_parts : {L : Type 0} (kinds : Kinds L) (place : ℕ → Option ℕ) (uses : List (Use L)) (end : ℕ) → due_in kinds place uses end ≡ due_by end (deadlines (is_queued kinds place 0) kinds uses) + due_by end (deadlines (is_queued kinds place 1) kinds uses) + due_by end (deadlines (is_queued kinds place 2) kinds uses)
due_parts kinds place [] end = refl
due_parts kinds place (u ∷ uses) end = grind (arith, nat_tests, due_parts kinds place uses end)

pub count_parts : {L : Type 0} (kinds : Kinds L) (place : ℕ → Option ℕ) (uses : List (Use L)) → length (deadlines (is_pending kinds place) kinds uses) ≡ length (deadlines (is_queued kinds place 0) kinds uses) + length (deadlines (is_queued kinds place 1) kinds uses) + length (deadlines (is_queued kinds place 2) kinds uses)
count_parts kinds place [] = refl
count_parts kinds place (u ∷ uses) = grind (arith, nat_tests, count_parts kinds place uses)

-- ---- where slack is and isn't

not_needed : (cur : ℕ) (all ds : List ℕ) → HasSlack cur island_margin all → ((end : ℕ) → due_by end ds ≤ due_by end all) → is_needed_from cur all ds ≡ false
not_needed cur all [] h part = refl
not_needed cur all (d ∷ ds) h part = grind (arith, nat_tests, h.each d, part d, not_needed cur all ds h (λ end. grind (arith, nat_tests, part end)))

module _ {L : Type 0} {kinds : Kinds L} {place : ℕ → Option ℕ} {uses : List (Use L)} {p : Pending} where
  -- no island is needed then
  pub slack_shown : AreKept kinds place uses p → (start : ℕ) → island_margin ≤ start → shows_slack p start ≡ true → is_needed_from (start - island_margin) (deadlines (is_pending kinds place) kinds uses) (deadlines (is_pending kinds place) kinds uses) ≡ false
  slack_shown k start some shows =
      let sum = due_parts kinds place uses in
      let short = kept_few k.short in
      let near = kept_few k.near in
      not_needed (start - island_margin) (deadlines (is_pending kinds place) kinds uses) _ (record { each = λ end one. grind (arith, nat_tests, due_le_length) }) (λ end. omega arith)

-- wherever too many are due, at most so many are
pub record IsBound (start count : ℕ) (ds : List ℕ) : Type 0 where
  pub each : (end : ℕ) → end < start + 8 * due_by end ds → due_by end ds ≤ count

pub bound_none : (start : ℕ) (ds : List ℕ) → island_margin ≤ start → IsBound start 0 ds → is_needed_from (start - island_margin) ds ds ≡ false
bound_none start ds some b = not_needed (start - island_margin) ds ds (record { each = λ end one. grind (arith, nat_tests, b.each end) }) (λ end. omega arith)

pub bound_many : (start count due end : ℕ) (ds : List ℕ) → island_margin ≤ start → 1 ≤ count → end + 1 ≡ start + 8 * count → due ≡ due_by end ds → count ≤ due → is_needed_from (start - island_margin) ds ds ≡ true
bound_many start count due end ds some one e d many = true_from_ne_false (is_needed_from (start - island_margin) ds ds) (λ q.
    let same : (start - island_margin) + 0 ≡ start - island_margin = omega arith in
    let h = slack_not_needed (start - island_margin) 0 ds (ap (λ (n : ℕ). is_needed_from n ds ds) same ∙ q) in
    absurd (omega (arith, h.each end)))
