-- Deadlines and the room before them.
use Rattle.std.proofs.Common.{[], ◌≡◌, ◌≢◌, ℕ, zero, suc, ◌+◌, ◌*◌, ◌≤◌, Bool, true, false, List, ◌∷◌, ◌++◌, length, Option, Some, None, refl, subst, ⊎_elim, arith}
use Rattle.mach_uses.proofs.Words.{nat_tests, cases_lt, or_parts, Use, slice_get, Kinds, AllOf, CanReach, VeneersReach, StillReaches, deadline, is_pending, deadlines, due_by, HasSlack, island_front, island_margin, is_needed_from, is_needed}

-- ---- how many are due

pub due_append : (end : ℕ) (ds es : List ℕ) → due_by end (ds ++ es) ≡ due_by end ds + due_by end es
due_append end [] es = omega arith
due_append end (d ∷ ds) es = grind (arith, nat_tests, due_append end ds es)

-- more are due by a later offset
pub due_mono : (a b : ℕ) (ds : List ℕ) → a ≤ b → due_by a ds ≤ due_by b ds
due_mono a b [] le = omega arith
due_mono a b (d ∷ ds) le = grind (arith, nat_tests, due_mono a b ds le)

-- ---- slack as code grows

pub slack_less : (cur slack new_cur new_slack : ℕ) (ds : List ℕ) → new_cur + new_slack ≤ cur + slack → HasSlack cur slack ds → HasSlack new_cur new_slack ds
slack_less cur slack new_cur new_slack ds le h = record { each = λ end one. let e = h.each end one in omega arith }

pub slack_none : (cur slack : ℕ) → HasSlack cur slack []
slack_none cur slack = record { each = λ end one. absurd (omega arith) }

-- what counts as much at each end has as much slack
pub slack_same : (cur slack : ℕ) (ds es : List ℕ) → ((end : ℕ) → due_by end es ≤ due_by end ds) → HasSlack cur slack ds → HasSlack cur slack es
slack_same cur slack ds es le h = record { each = λ end one. let l = le end in let g = h.each end (omega arith) in omega arith }

-- ---- from the deadlines themselves to every offset, and back

-- an offset at which one more is due is a deadline
due_is_deadline : (P : ℕ → Type 0) (d : ℕ) (ds : List ℕ) → AllOf P ds → suc (due_by d ds) ≤ due_by (suc d) ds → P (suc d)
due_is_deadline P d [] h lt = absurd (omega arith)
due_is_deadline P d (e ∷ ds) h lt = grind (arith, nat_tests, h.0, due_is_deadline P d ds h.1)

due_at_zero : (P : ℕ → Type 0) (ds : List ℕ) → AllOf P ds → 1 ≤ due_by 0 ds → P 0
due_at_zero P [] h one = absurd (omega arith)
due_at_zero P (e ∷ ds) h one = grind (arith, nat_tests, h.0, due_at_zero P ds h.1)

-- what each deadline keeps, and a later offset does with as many due, every offset keeps by which one is due
each_end : (P : ℕ → ℕ → Type 0) → ((d n : ℕ) → P d n → P (suc d) n) → (ds : List ℕ) → AllOf (λ d. P d (due_by d ds)) ds → (end : ℕ) → 1 ≤ due_by end ds → P end (due_by end ds)
each_end P later ds h zero one = due_at_zero (λ d. P d (due_by d ds)) ds h one
each_end P later ds h (suc end) one = ⊎_elim
    (λ more. due_is_deadline (λ d. P d (due_by d ds)) end ds h more)
    (λ le. let same : due_by end ds ≡ due_by (suc end) ds = omega (arith, le, due_mono end (suc end) ds (omega arith)) in subst (P (suc end)) same (later end (due_by end ds) (each_end P later ds h end (omega arith))))
    (cases_lt (due_by end ds) (due_by (suc end) ds))

pub reaches_from_each : (start : ℕ) (ds : List ℕ) → VeneersReach start ds → StillReaches start ds
reaches_from_each start ds h = record { each = each_end (λ d n. start + 8 * n ≤ d + 8) (λ d n le. omega arith) ds h }

-- what is said of every offset by which one is due is said of each deadline
pub each_due : (P : ℕ → Type 0) (all ds : List ℕ) → ((end : ℕ) → due_by end ds ≤ due_by end all) → ((end : ℕ) → 1 ≤ due_by end all → P end) → AllOf P ds
each_due P all [] part h = tt
each_due P all (d ∷ ds) part h = (h d (grind (arith, nat_tests, part d)), each_due P all ds (λ end. grind (arith, nat_tests, part end)) h)

-- where no island is needed before so many bytes, there is slack for them
not_needed_each : (cur : ℕ) (all ds : List ℕ) → is_needed_from cur all ds ≡ false → AllOf (λ d. cur + island_margin + 8 * due_by d all ≤ d) ds
not_needed_each cur all [] h = tt
not_needed_each cur all (d ∷ ds) h = (grind (arith, nat_tests), not_needed_each cur all ds (or_parts _ _ h).1)

pub slack_not_needed : (cur distance : ℕ) (ds : List ℕ) → is_needed cur distance ds ≡ false → HasSlack (cur + distance) island_margin ds
slack_not_needed cur distance ds h = record { each = each_end (λ d n. cur + distance + island_margin + 8 * n ≤ d) (λ d n le. omega arith) ds (not_needed_each (cur + distance) ds ds h) }

-- ---- the deadlines of uses

-- a use more
pub deadlines_append : {L : Type 0} (test : Use L → Bool) (kinds : Kinds L) (uses more : List (Use L)) → deadlines test kinds (uses ++ more) ≡ deadlines test kinds uses ++ deadlines test kinds more
deadlines_append test kinds [] more = refl
deadlines_append test kinds (u ∷ uses) more = grind (arith, nat_tests, deadlines_append test kinds uses more)

-- a label is bound: fewer uses are pending
pub due_fewer : {L : Type 0} (test new_test : Use L → Bool) (kinds : Kinds L) (end : ℕ) (uses : List (Use L)) → ((u : Use L) → new_test u ≡ true → test u ≡ true) → due_by end (deadlines new_test kinds uses) ≤ due_by end (deadlines test kinds uses)
due_fewer test new_test kinds end [] h = omega arith
due_fewer test new_test kinds end (u ∷ uses) h = grind (arith, nat_tests, h u, due_fewer test new_test kinds end uses h)

-- bound where none was: what is pending now was pending before
pub bound_pending : {L : Type 0} (kinds : Kinds L) (place new_place : ℕ → Option ℕ) (label : ℕ) → place label ≡ None → ((other : ℕ) → other ≢ label → new_place other ≡ place other) → (u : Use L) →
    is_pending kinds new_place u ≡ true → is_pending kinds place u ≡ true
bound_pending kinds place new_place label none kept u h = grind (arith, nat_tests, none, kept u.label.number)

-- a use is recorded: eight bytes of slack for it
pub slack_use : {L : Type 0} (test : Use L → Bool) (kinds : Kinds L) (cur slack : ℕ) (uses : List (Use L)) (u : Use L) → cur + slack + 8 ≤ deadline kinds u → HasSlack cur (slack + 8) (deadlines test kinds uses) → HasSlack cur slack (deadlines test kinds (uses ++ u ∷ []))
slack_use test kinds cur slack uses u le h = record { each = λ end one. grind (arith, nat_tests, h.each end, due_append end (deadlines test kinds uses) (deadlines test kinds (u ∷ [])), deadlines_append test kinds uses (u ∷ [])) }

-- ---- what is put from here on

pub reaches_from_slack : (cur slack new_cur : ℕ) (ds : List ℕ) → new_cur ≤ cur + slack + 8 → HasSlack cur slack ds → StillReaches new_cur ds
reaches_from_slack cur slack new_cur ds le h = record { each = λ end one. let g = h.each end one in omega arith }

-- and back: each pending use reaches its veneer
pub veneers_reach : (start : ℕ) (ds : List ℕ) → StillReaches start ds → VeneersReach start ds
veneers_reach start ds h = each_due (λ d. start + 8 * due_by d ds ≤ d + 8) ds ds (λ end. omega arith) h.each

-- Reach is slack of an island's front
pub slack_from_reach : (cur : ℕ) (ds : List ℕ) → CanReach cur ds → HasSlack cur island_front ds
slack_from_reach cur ds h = record { each = each_end (λ d n. cur + island_front + 8 * n ≤ d) (λ d n le. omega arith) ds h }

pub reach_from_slack : (cur : ℕ) (ds : List ℕ) → HasSlack cur island_front ds → CanReach cur ds
reach_from_slack cur ds h = each_due (λ d. cur + island_front + 8 * due_by d ds ≤ d) ds ds (λ end. omega arith) h.each

abbrev pub total : List ℕ → ℕ
total [] = 0
total (d ∷ ds) = d + total ds

pub due_total : (ds : List ℕ) (end : ℕ) → total ds ≤ end → due_by end ds ≡ length ds
due_total [] end le = refl
due_total (d ∷ ds) end le = grind (arith, nat_tests, due_total ds end)

pub none_pending : {L : Type 0} (test : Use L → Bool) (kinds : Kinds L) (uses : List (Use L)) → deadlines test kinds uses ≡ [] → (j : ℕ) (u : Use L) → slice_get uses j ≡ Some u → test u ≡ false
none_pending test kinds [] e j u h = absurd (cc)
none_pending test kinds (w ∷ uses) e zero u h = grind (arith, nat_tests)
none_pending test kinds (w ∷ uses) e (suc j) u h = grind (arith, nat_tests, none_pending test kinds uses)

pub none_from : {L : Type 0} (test : Use L → Bool) (kinds : Kinds L) (uses : List (Use L)) → ((j : ℕ) (u : Use L) → slice_get uses j ≡ Some u → test u ≡ false) → deadlines test kinds uses ≡ []
none_from test kinds [] h = refl
none_from test kinds (w ∷ uses) h = rw (h 0 w refl) (none_from test kinds uses (λ j u e. h (suc j) u e))

-- no more than there are uses
pub deadlines_few : {L : Type 0} (test : Use L → Bool) (kinds : Kinds L) (uses : List (Use L)) → length (deadlines test kinds uses) ≤ length uses
deadlines_few test kinds [] = omega arith
deadlines_few test kinds (u ∷ uses) = grind (arith, nat_tests, deadlines_few test kinds uses)

pub due_le_length : (end : ℕ) (ds : List ℕ) → due_by end ds ≤ length ds
due_le_length end [] = omega arith
due_le_length end (d ∷ ds) = grind (arith, nat_tests, due_le_length end ds)
