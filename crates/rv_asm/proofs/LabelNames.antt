-- Which labels are bound and named, how long code may be, and that a buffer can be finished.
use Rattle.{mach_uses.specs.declared.uses.LabelPlace.LabelPlace, rv_asm.proofs.LinesInBuffer.LineAppends, rv_asm.proofs.RefusalOrder.{all_at, AllBound, bind_at, test_none}, rv_asm.proofs.Spans.{get_after, given_from, given_next}}
use Rattle.rv_asm.proofs.Words.{[], allocated_of, ap, append-nil, append_each, Appends, AppendsIsland, AppendsSequence, arith, asked_by, before_last, Bind, binding_line, binds_from, Bool, both_lists, bound_kept, Branches, broken_rule, Buffer, bytes_of, CanFinish, CanReach, cases_eq, cases_lt, code_long}
use Rattle.rv_asm.proofs.Words.{comes_from, cond, Constant, constant_label, constants_sum, Context, core, deadlines, due_by, due_total, Each, each_more, each_none, emitted_keeps, end_after, ends_within, Fallthrough, false, few_allocated, few_ways, Finishes, first_constant, first_inner, fits_most}
use Rattle.rv_asm.proofs.Words.{Gap, has_veneer_of, HasSlack, high_kept, inl, inr, Inst, inst_code, inst_labels, inst_rule, inst_size, inst_sum, inst_ways, is_bound, is_far, is_some, IsConstantLabel, IsFarUse, IslandAsked, IslandIfNeeded, IsNamed, IsSoundBuffer, IsUsable, Jal20, jump_kind, Jumps}
use Rattle.rv_asm.proofs.Words.{keeps, label_kinds, labels_of, LabelUse, last_end, last_near, leb-false, length, length-append, Line, line_size, line_space, line_sum, lines_sum, LineSpan, LinesStand, List, listed, lt-ltb, MachLabel, map-append, most_counts, Named, named_labels, named_of, nat_le, nat_tests}
use Rattle.rv_asm.proofs.Words.{no_own, None, none-some, Nowhere, Option, PCRelLo12I, pending, pending_adds, pending_at, place_of, Put, reach_from_slack, reaches_from_slack, recorded, recorded_get, Refers, RefersConstant, refl, registered_of, Request, request_of, reserve_from, reserve_of}
use Rattle.rv_asm.proofs.Words.{reserve_other, room_by, room_keeps, shape_of, size_limit, size_sum, Sized, slack_from_reach, slack_same, slice_get, slice_get-append, slice_get-append_last, Some, space_in, start_of, still_pending, subst, suc, sym, table_of, target_names, target_uses, Targets}
use Rattle.rv_asm.proofs.Words.{targets_of, ToLabel as Label, total, true, true≢false, try_call_of, try_labels, TryCallInfo, Use, use_at, use_usable, uses_by, uses_in, uses_kinds, uses_of, uses_start, veneers_reach, ℕ, ⊎_elim, ◌*◌, ◌++◌, ◌+◌, ◌-◌, ◌<◌, ◌||◌, ◌∙◌, ◌∷◌, ◌≡◌, ◌≤◌, ◌⊎◌}

-- ---- the binds of lines

-- that of a line
abbrev own_binds : ℕ → ℕ → ℕ → Line → List LabelPlace
own_binds i start end (Put inst) = []
own_binds i start end (Bind l) = (record { label = l; offset = start }) ∷ []

-- by what each line gives
binds_given : (spans : List LineSpan) (i : ℕ) (lines : List Line) → binds_from spans i lines ≡ given_from own_binds spans i lines
binds_given spans i [] = refl
binds_given spans i (Put inst ∷ lines) = binds_given spans (suc i) lines
binds_given spans i (Bind l ∷ lines) = ap (λ bs. (record { label = l; offset = start_of spans i }) ∷ bs) (binds_given spans (suc i) lines)

-- the binds of one line more
binds_next : (lines : List Line) (spans : List LineSpan) (line : Line) (span : LineSpan) → length spans ≡ length lines → binds_from (spans ++ span ∷ []) 0 (lines ++ line ∷ []) ≡ binds_from spans 0 lines ++ own_binds (length spans) span.start span.end line
binds_next lines spans line span count = binds_given (spans ++ span ∷ []) 0 (lines ++ line ∷ []) ∙ given_next own_binds lines spans line span count ∙ ap (λ bs. bs ++ own_binds (length spans) span.start span.end line) (sym (binds_given spans 0 lines))

pub bound_append : (lines more : List Line) (label : ℕ) → is_bound (lines ++ more) label ≡ (is_bound lines label || is_bound more label)
bound_append [] more label = refl
bound_append (line ∷ lines) more label = grind (arith, bound_append lines more label)

-- ---- the uses and what they name

-- a label is bound, named by a line, or among those of constants
abbrev pub IsKnownLabel : List Line → Buffer → ℕ → Type 0
IsKnownLabel lines b label = (is_some (place_of b label) ≡ true) ⊎ IsNamed lines label ⊎ (first_constant ≤ label)

-- a use may go by a veneer or reaches all code, and its label is one of these
abbrev pub IsGood : List Line → Buffer → Use LabelUse → Type 0
IsGood lines b u = ((has_veneer_of u.kind ≡ true) ⊎ (is_far label_kinds u ≡ true)) × IsKnownLabel lines b u.label.number

abbrev pub AreGood : List Line → Buffer → Type 0
AreGood lines b = Each (IsGood lines b) (recorded (uses_of b))

pub good_from_named : (lines : List Line) (spans : List LineSpan) (b : Buffer) → Named lines spans b → AreGood lines b
good_from_named lines spans b n j u h =
    let from = comes_from core (uses_of b) j u h in
    subst (IsGood lines b) from.is (n.kinds j from.from from.there, n.named j from.from from.there)

-- places are only added, to those below the labels of constants
abbrev Keeps : Buffer → Buffer → Type 0
Keeps old new = (label : ℕ) → label < first_constant → is_some (place_of old label) ≡ true → is_some (place_of new label) ≡ true

known_kept : (lines more : List Line) (old new : Buffer) → Keeps old new → (label : ℕ) → IsKnownLabel lines old label → IsKnownLabel (lines ++ more) new label
known_kept lines more old new keeps label (inl bound) = ⊎_elim (λ low. inl (keeps label low bound)) (λ high. inr (inr high)) (cases_lt label first_constant)
known_kept lines more old new keeps label (inr (inl n)) = inr (inl (record { index = n.index; line = n.line; there = slice_get-append lines more n.index n.line n.there; place = n.place; label = n.label; names = n.names; is = n.is }))
known_kept lines more old new keeps label (inr (inr high)) = inr (inr high)

good_kept : (lines more : List Line) (old new : Buffer) → Keeps old new → (u : Use LabelUse) → IsGood lines old u → IsGood (lines ++ more) new u
good_kept lines more old new keeps u g = (g.0, known_kept lines more old new keeps u.label.number g.1)

good_as : (lines : List Line) (b : Buffer) (uses : List (Use LabelUse)) → recorded (uses_of b) ≡ uses → Each (IsGood lines b) uses → AreGood lines b
good_as lines b uses e h j u at = h j u (sym (ap (λ us. slice_get us j) e) ∙ at)

no_more : (lines : List Line) (b : Buffer) → AreGood (lines ++ []) b → AreGood lines b
no_more lines b h j u at = let g = h j u at in (g.0, subst (λ ls. IsKnownLabel ls b u.label.number) (append-nil lines) g.1)

-- ---- an island and a sequence

good_island : (lines : List Line) (old new : Buffer) → AppendsIsland old new → AreGood lines old → AreGood lines new
good_island lines old new p h =
    let jump = use_at (length (bytes_of old)) p.after_island Jal20 in
    let uses = uses_of old ++ jump ∷ [] in
    let first : Each (IsGood (lines ++ []) new) (recorded uses) =
    subst (Each (IsGood (lines ++ []) new)) (sym (map-append core (uses_of old) (jump ∷ [])))
    (append_each (IsGood (lines ++ []) new) (recorded (uses_of old)) jump ((inl refl, inl (ap is_some p.bound))) (λ j u e. good_kept lines [] old new (λ label low h. grind (arith, p.bound, p.places label low, cases_eq label p.after_island.number)) u (h j u e))) in
    no_more lines new
    (good_as (lines ++ []) new (recorded uses ++ p.own.more) p.own.grown
    (both_lists (IsGood (lines ++ []) new) (recorded uses) p.own.more first
    (λ k u e.
    let x = p.own.own k u e in
    (inr x.far, subst (λ (l : MachLabel). IsKnownLabel (lines ++ []) new l.number) x.names (first x.user (core x.used) (recorded_get uses x.user x.used x.there)).1))))

pub good_room : (lines : List Line) (distance : ℕ) (old new : Buffer) (made : Bool) → IslandIfNeeded distance old new made → AreGood lines old → AreGood lines new
good_room lines distance old new made m h = room_by (AreGood lines) distance old new made m h (λ put. good_island lines old new put h)

-- a label is one of these
pub record IsOf (labels : List MachLabel) (number : ℕ) : Type 0 where
  pub place : ℕ
  pub label : MachLabel
  pub names : slice_get labels place ≡ Some label
  pub is : label.number ≡ number

-- a use is of one of these labels; or its label is among those of constants, and it goes by no veneer
abbrev pub UsesOneOf : List MachLabel → Use LabelUse → Type 0
UsesOneOf labels u = IsOf labels u.label.number ⊎ ((first_constant ≤ u.label.number) × (has_veneer_of u.kind ≡ false))

-- a use of a table's label is of one that the instruction names
pub table_named : (inst : Inst) (u : Use LabelUse) → IsFarUse (table_of inst) u → IsOf (inst_labels inst) u.label.number
table_named inst u f = record { place = length (try_labels (try_call_of inst) ++ target_names (targets_of inst)) + f.index; label = u.label; names = get_after (try_labels (try_call_of inst) ++ target_names (targets_of inst)) (table_of inst) f.index ∙ f.names; is = refl }

pub uses_labels : (context : Context) (start end : ℕ) (inst : Inst) → Each (UsesOneOf (try_labels (try_call_of inst) ++ target_names (targets_of inst))) (uses_in context start end inst)
uses_labels context start end inst = by (uses_start (inst_code context inst).led start) (try_call_of inst)
  where
    first : (label : MachLabel) (labels : List MachLabel) → IsOf (label ∷ labels) label.number
    first label labels = record { place = 0; label = label; names = refl; is = refl }

    second : (other label : MachLabel) → IsOf (other ∷ label ∷ []) label.number
    second other label = record { place = 1; label = label; names = refl; is = refl }

    on : (from : ℕ) (targets : Targets) → Each (UsesOneOf (target_names targets)) (target_uses context.flags from targets)
    on from Nowhere = each_none _
    on from (Jumps label) = each_more (UsesOneOf (label ∷ [])) _ [] (inl (first label [])) (each_none _)
    on from (Branches Fallthrough not_taken) = each_none _
    on from (Branches (Label t) Fallthrough) = each_more (UsesOneOf (t ∷ [])) _ [] (inl (first t [])) (each_none _)
    on from (Branches (Label t) (Label f)) =
        each_more (UsesOneOf (t ∷ f ∷ [])) _ (use_at (from + 4) f (jump_kind context.flags) ∷ []) (inl (first t (f ∷ [])))
        (each_more (UsesOneOf (t ∷ f ∷ [])) _ [] (inl (second t f)) (each_none _))
    on from (Refers label) =
        each_more (UsesOneOf (label ∷ [])) _ (use_at (from + 4) label PCRelLo12I ∷ []) (inl (first label []))
        (each_more (UsesOneOf (label ∷ [])) _ [] (inl (first label [])) (each_none _))
    on from (RefersConstant k read) =
        each_more (UsesOneOf []) _ (use_at (from + 4) (constant_label k) PCRelLo12I ∷ []) (inr (omega arith, refl))
        (each_more (UsesOneOf []) _ [] (inr (omega arith, refl)) (each_none _))

    by : (from : ℕ) (t : Option TryCallInfo) → Each (UsesOneOf (try_labels t ++ target_names (targets_of inst))) (uses_by context.flags from end t (targets_of inst))
    by from None = on from (targets_of inst)
    by from (Some t) = each_more (UsesOneOf _) _ [] (inl (first t.continuation _)) (each_none _)

own_named : (lines : List Line) (inst : Inst) (number : ℕ) → IsOf (inst_labels inst) number → IsNamed (lines ++ Put inst ∷ []) number
own_named lines inst number o = record { index = length lines; line = Put inst; there = slice_get-append_last lines (Put inst); place = o.place; label = o.label; names = o.names; is = o.is }

-- uses are put that are good
good_code : (lines more : List Line) {count : ℕ} (code : List ℕ) (own : List (Use LabelUse)) (old new : Buffer) → AppendsSequence count code own old new → Each (IsGood (lines ++ more) new) own → AreGood lines old → AreGood (lines ++ more) new
good_code lines more code own old new p good h =
    let all = lines ++ more in
    let each : Each (IsGood all new) (recorded own) = λ j u e. let from = comes_from core own j u e in subst (IsGood all new) from.is (good j from.from from.there) in
    good_as all new (recorded (uses_of old) ++ recorded own) (ap recorded p.uses ∙ map-append core (uses_of old) own)
    (both_lists (IsGood all new) (recorded (uses_of old)) (recorded own) (λ j u e. good_kept lines more old new (λ label low h. grind (arith, bound_kept p label)) u (h j u e)) each)

-- those of an instruction are
own_good : (context : Context) (lines : List Line) (inst : Inst) (start end : ℕ) (new : Buffer) → Each (IsGood (lines ++ Put inst ∷ []) new) (uses_in context start end inst)
own_good context lines inst start end new j u e = (uses_kinds context start end inst j u e, inr (⊎_elim (λ o. inl (own_named lines inst u.label.number (record { place = o.place; label = o.label; names = slice_get-append _ (table_of inst) o.place o.label o.names; is = o.is }))) (λ high. inr high.0) (uses_labels context start end inst j u e)))

pub good_emitted : (context : Context) (lines : List Line) (inst : Inst) (old new : Buffer) → Appends context inst old new → AreGood lines old → AreGood (lines ++ Put inst ∷ []) new
good_emitted context lines inst old new a h =
    let own = uses_in context (length (bytes_of old)) (length (bytes_of new)) inst in
    let first = no_more lines a.mid (good_code lines [] a.front [] old a.mid (no_own a.front [] old a.mid a.first) (each_none _) h) in
    good_code lines (Put inst ∷ []) a.code (own ++ a.direct) a.last new a.adds
    (both_lists (IsGood (lines ++ Put inst ∷ []) new) own a.direct (own_good context lines inst (length (bytes_of old)) (length (bytes_of new)) new)
    (λ j u e. ⊎_elim
    (λ f. (inr f.far, inr (inl (own_named lines inst u.label.number (table_named inst u f)))))
    (λ o. (inl o.served, inl (ap (λ (l : MachLabel). is_some (place_of new l.number)) o.names ∙ a.adds.bound o.index o.own)))
    (a.each j u e)))
    (asked_by (AreGood lines) (space_in (request_of context inst) (length a.code)) a.mid a.last a.island first (λ put. good_island lines a.mid a.last put first))

-- ---- the loop's invariant

pub named_none : (b : Buffer) → uses_of b ≡ [] → labels_of b ≡ [] → ((label : ℕ) → place_of b label ≡ None) → Named [] [] b
named_none b uses labels none = record { labels = labels; unbound = λ label low free. none label; kinds = λ j u h. absurd (no_use j u h); named = λ j u h. absurd (no_use j u h) }
  where
    no_use : (j : ℕ) (u : Use LabelUse) → slice_get (uses_of b) j ≡ Some u → ⊥
    no_use j u h = none-some u (sym (ap (λ us. slice_get us j) uses) ∙ h)

named_from : (lines : List Line) (spans : List LineSpan) (b : Buffer) → labels_of b ≡ binds_from spans 0 lines → ((label : ℕ) → label < first_inner → is_bound lines label ≡ false → place_of b label ≡ None) → AreGood lines b → Named lines spans b
named_from lines spans b labels unbound good = record {
  labels = labels;
  unbound = unbound;
  kinds = λ j u h. (good j (core u) (recorded_get (uses_of b) j u h)).0;
  named = λ j u h. (good j (core u) (recorded_get (uses_of b) j u h)).1;
}

-- a label of the listing is reported
listed_low : (label : MachLabel) (at : ℕ) → label.number < first_inner → listed label at ≡ (record { label = label; offset = at }) ∷ []
listed_low label at low = ap (λ b. cond b ((record { label = label; offset = at }) ∷ []) []) (lt-ltb label.number first_inner low)

-- a label that a line binds is one of the listing's
pub low_label : (context : Context) (label : MachLabel) → broken_rule context (Bind label) ≡ None → label.number < first_inner
low_label context label rule = leb-false _ _ (test_none (nat_le first_inner label.number) _ rule)

pub named_next : (context : Context) (lines : List Line) (spans : List LineSpan) (line : Line) (span : LineSpan) (old new : Buffer) → broken_rule context line ≡ None → Named lines spans old → length spans ≡ length lines → LineAppends context line old new span → Named (lines ++ line ∷ []) (spans ++ span ∷ []) new
named_next context lines spans (Put inst) span old new rule n count p =
    let first = room_keeps line_space old p.mid p.made p.room in
    let then_ = emitted_keeps context inst p.mid new p.emitted in
    named_from (lines ++ Put inst ∷ []) (spans ++ span ∷ []) new
    (then_.0 ∙ first.0 ∙ n.labels ∙ sym (append-nil _) ∙ sym (binds_next lines spans (Put inst) span count))
    (λ label low free. grind (arith, then_.1 label low, first.1 label low, n.unbound label low, bound_append lines (Put inst ∷ []) label))
    (good_emitted context lines inst p.mid new p.emitted (good_room lines line_space old p.mid p.made p.room (good_from_named lines spans old n)))
named_next context lines spans (Bind label) span old new rule n count p =
    named_from (lines ++ Bind label ∷ []) (spans ++ span ∷ []) new
    (grind (arith, p.labels, n.labels, listed_low label (length (bytes_of old)) (low_label context label rule), p.start, binds_next lines spans (Bind label) span count))
    (λ other lt free. grind (arith, nat_tests, bound_append lines (Bind label ∷ []) other, p.kept other, n.unbound other lt))
    (good_as (lines ++ Bind label ∷ []) new (recorded (uses_of old)) (ap recorded p.uses)
    (λ j u e. good_kept lines (Bind label ∷ []) old new (λ other low h. grind (arith, p.bound, p.kept other, cases_eq other label.number)) u (good_from_named lines spans old n j u e)))

-- ==== How long code may be, and that an instruction finds its room.

-- ---- sums

lines_append : (context : Context) (lines more : List Line) → lines_sum context (lines ++ more) ≡ lines_sum context lines + lines_sum context more
lines_append context [] more = omega arith
lines_append context (line ∷ lines) more = let rest = lines_append context lines more in omega arith

pub sum_next : (context : Context) (lines : List Line) (line : Line) → size_sum context (lines ++ line ∷ []) ≡ size_sum context lines + line_sum context line
sum_next context lines line = let whole = lines_append context lines (line ∷ []) in omega arith

-- each line counts for that of each, and more
pub sum_least : (context : Context) (line : Line) → line_size ≤ line_sum context line
sum_least context (Bind label) = omega arith
sum_least context (Put inst) = omega arith

-- ---- room for constants that don't stand yet

-- it depends on the places of their labels alone
reserve_kept : (old new : Buffer) → registered_of new ≡ registered_of old → ((k : ℕ) → place_of new (first_constant + k) ≡ place_of old (first_constant + k)) → reserve_of (shape_of new) ≡ reserve_of (shape_of old)
reserve_kept old new registered places = ap (reserve_from (place_of new) 0) registered ∙ reserve_other (place_of old) (place_of new) 0 (registered_of old) (λ k least. places k)

-- where none stands, it is what they count for
reserve_all : (place : ℕ → Option ℕ) (i : ℕ) (constants : List Constant) → ((label : ℕ) → place label ≡ None) → reserve_from place i constants ≡ constants_sum constants
reserve_all place i [] none = refl
reserve_all place i (c ∷ constants) none =
    λ j. cond (is_some (none (first_constant + i) j)) 0 (length c.bytes + 16) + (reserve_all place (suc i) constants none) j

-- ---- fewer that are due

-- where fewer are due at each end, there are fewer
pub fewer_from_due : (ds es : List ℕ) → ((end : ℕ) → due_by end ds ≤ due_by end es) → length ds ≤ length es
fewer_from_due ds es h = let end = total ds + total es in omega (arith, due_total ds end (omega arith), due_total es end (omega arith), h end)

-- ---- what is used up

-- bytes, with a veneer for each use that is pending and the constants that don't stand yet
abbrev pub used : Buffer → ℕ
used b = length (bytes_of b) + 8 * length (pending b) + reserve_of (shape_of b)

-- at most so many bytes and five inner labels more
pub record Uses (bytes : ℕ) (old new : Buffer) : Type 0 where
  pub size : used new ≤ used old + bytes
  pub allocated : allocated_of new ≤ allocated_of old + 5

pub island_uses : (old new : Buffer) → AppendsIsland old new → Uses 17 old new
island_uses old new p = record {
  size = let none : length (pending new) ≡ 0 = ap length p.settled in let short = p.short in omega arith;
  allocated = let one = p.allocated in omega arith;
}

pub room_uses : (distance : ℕ) (old new : Buffer) (made : Bool) → IslandIfNeeded distance old new made → Uses 17 old new
room_uses distance old new made m = room_by (Uses 17 old) distance old new made m (record { size = omega arith; allocated = omega arith }) (island_uses old new)

-- so many bytes, veneers for so many uses more, and five own labels at most
code_uses : (count : ℕ) (code : List ℕ) (own : List (Use LabelUse)) (size more : ℕ) (old new : Buffer) → count ≤ 5 → AppendsSequence count code own old new → length (bytes_of new) ≡ length (bytes_of old) + size → length (pending new) ≤ length (pending old) + more → Uses (size + 8 * more) old new
code_uses count code own size more old new own_few p long few =
    -- code puts no constant
    record { size = omega (arith, long, few, reserve_kept old new p.registered (λ k. high_kept p (first_constant + k) (omega arith))); allocated = omega (arith, p.allocated, own_few) }

-- one thing after another, of which one allocates no label
uses_then : (first rest : ℕ) (old mid new : Buffer) → (allocated_of mid ≡ allocated_of old) ⊎ (allocated_of new ≡ allocated_of mid) → Uses first old mid → Uses rest mid new → Uses (first + rest) old new
uses_then first rest old mid new same a b =
    record { size = omega (arith, a.size, b.size); allocated = ⊎_elim (λ none. omega (arith, b.allocated, none)) (λ none. omega (arith, a.allocated, none)) same }

more_uses : (least most : ℕ) (old new : Buffer) → least ≤ most → Uses least old new → Uses most old new
more_uses least most old new le u = let x = u.size in record { size = omega (arith, le, x); allocated = u.allocated }

-- an island, where one is asked for, before what allocates no label
asked_uses : {size : ℕ} {mid last new : Buffer} (request : Option Request) (n : ℕ) → IslandAsked (space_in request n) mid last → (is_some request ≡ true → allocated_of new ≡ allocated_of last) → Uses size last new → Uses (17 + size) mid new
asked_uses {size} {mid} {last} {new} None n same alone u = more_uses size (17 + size) mid new (omega arith) (subst (λ b. Uses size b new) same u)
asked_uses {size} {mid} {last} {new} (Some r) n (made, room) alone u = uses_then 17 size mid last new (inr (alone refl)) (room_uses (r.space n) mid last made room) u

-- what comes before it apart, an instruction uses no more than it counts for: its bytes, an island, and the veneers of the labels to which
-- it goes
pub emitted_uses : (context : Context) (inst : Inst) (old new : Buffer) → inst_rule context inst ≡ None → Appends context inst old new → Uses (inst_sum context inst - 17) old new
emitted_uses context inst old new rule a =
    let ways = length (inst_ways inst) in
    let last : length (bytes_of new) ≡ length (bytes_of a.last) + length a.code = ap length a.adds.bytes ∙ length-append (bytes_of a.last) a.code in
    let still : length (pending a.mid) ≤ length (pending old) + 0 = let same = ap length (still_pending a.first) in omega (arith, same) in
    let few : length (pending new) ≤ length (pending a.last) + ways = omega (arith, (ap length (pending_adds context inst old new a) ∙ length-append (pending a.last) _), few_ways context (place_of new) (length (bytes_of old)) (length (bytes_of new)) inst) in
    let front = code_uses 0 a.front [] (length a.front) 0 old a.mid (omega arith) (no_own a.front [] old a.mid a.first) (code_long a.first) still in
    let rest = code_uses a.own a.code _ (length a.code) ways a.last new a.few a.adds last few in
    let alone : is_some (request_of context inst) ≡ true → allocated_of new ≡ allocated_of a.last = λ some. let none = a.alone some in omega (arith, none, a.adds.allocated) in
    more_uses (length a.front + 8 * 0 + (17 + (length a.code + 8 * ways))) _ old new (omega (arith, fits_most (inst_size context inst) _ a.fits, most_counts context inst rule))
    (uses_then (length a.front + 8 * 0) (17 + (length a.code + 8 * ways)) old a.mid new (inl a.first.allocated) front (asked_uses (request_of context inst) (length a.code) a.island alone rest))

-- ---- the loop's invariant

pub sized_none : (context : Context) (b : Buffer) → bytes_of b ≡ [] → uses_of b ≡ [] → ((label : ℕ) → place_of b label ≡ None) → registered_of b ≡ context.constants → allocated_of b ≡ 0 → Sized context [] b
sized_none context b bytes uses places registered allocated =
    let none : pending b ≡ [] = ap (deadlines (pending_at (place_of b)) label_kinds) uses in
    record { reach = subst (CanReach (length (bytes_of b))) (sym none) tt; size = omega (arith, ap length none, ap length bytes, (reserve_all (place_of b) 0 (registered_of b) places ∙ ap constants_sum registered)); allocated = omega arith }

pub sized_next : (context : Context) (lines : List Line) (line : Line) (old new : Buffer) (span : LineSpan) → broken_rule context line ≡ None → Sized context lines old → LineAppends context line old new span → Sized context (lines ++ line ∷ []) new
sized_next context lines (Put inst) old new span rule s p =
    let room : Uses 17 old p.mid = room_uses line_space old p.mid p.made p.room in
    let block : Uses (inst_sum context inst - 17) p.mid new = emitted_uses context inst p.mid new rule p.emitted in
    let sum = sum_next context lines (Put inst) in
    let least = sum_least context (Put inst) in
    record { reach = p.reach; size = omega (arith, room.size, block.size, sum, least, s.size); allocated = omega (arith, room.allocated, block.allocated, sum, least, s.allocated) }
sized_next context lines (Bind label) old new span rule s p =
    let sum = sum_next context lines (Bind label) in
    let long : length (bytes_of new) ≡ length (bytes_of old) = ap length p.bytes in
    let slack : HasSlack (length (bytes_of old)) 14 (pending new) = slack_same (length (bytes_of old)) 14 (pending old) (pending new) p.fewer (slack_from_reach (length (bytes_of old)) (pending old) s.reach) in
    let reach : CanReach (length (bytes_of old)) (pending new) = reach_from_slack (length (bytes_of old)) (pending new) slack in
    record { reach = subst (λ n. CanReach n (pending new)) (sym long) reach; size = omega (arith, sum, long, fewer_from_due (pending new) (pending old) p.fewer, reserve_kept old new p.registered (λ k. p.kept (first_constant + k) (λ e. absurd (omega (arith, e, p.low)))), s.size); allocated = omega (arith, sum, p.allocated, s.allocated) }

-- ==== A buffer of lines can be finished, and how long its code is.

-- each label that a line names is bound
abbrev pub NamesBound : List Line → Type 0
NamesBound lines = (i : ℕ) (line : Line) → slice_get lines i ≡ Some line → AllBound lines (named_labels line)

-- a bound label stands where the line that binds it does
pub bound_place : {context : Context} {gaps : List Gap} (lines : List Line) (spans : List LineSpan) (b : Buffer) (number : ℕ) → LinesStand context lines spans gaps b → is_bound lines number ≡ true → place_of b number ≡ Some (start_of spans (binding_line lines number))
bound_place lines spans b number built h =
    let at = bind_at lines number h in
    ap (place_of b) (sym at.2) ∙ (built.each (binding_line lines number) (Bind at.0) at.1).there.1

named_place : {context : Context} {gaps : List Gap} (lines : List Line) (spans : List LineSpan) (b : Buffer) (number : ℕ) → LinesStand context lines spans gaps b → NamesBound lines → IsNamed lines number → is_some (place_of b number) ≡ true
named_place lines spans b number built all n =
    ap (λ m. is_some (place_of b m)) (sym n.is) ∙ ap is_some (bound_place lines spans b n.label.number built (all_at (λ (l : MachLabel). is_bound lines l.number ≡ true) (named_labels n.line) (all n.index n.line n.there) n.place n.label n.names))

-- a label that a use may name, among those of constants, is that of one that was named
constant_usable : (b : Buffer) (label : ℕ) → IsSoundBuffer b → first_constant ≤ label → IsUsable (shape_of b) label → IsConstantLabel (named_of b) label
constant_usable b label sound high usable = let few = few_allocated label_kinds b sound in ⊎_elim (λ known. absurd (omega (arith, few, high, known))) (λ constant. constant) usable

-- the last veneers, and the constants after them, are within the size of lines and constants, but for the zero bytes before them
last_within : (context : Context) (lines : List Line) (b : Buffer) → IsSoundBuffer b → Sized context lines b → end_after (shape_of b) (last_end label_kinds (shape_of b)) ≤ size_sum context lines + 3
last_within context lines b sound s =
    omega (arith, last_near (bytes_of b) (length (pending b)), ends_within label_kinds b sound (last_end label_kinds (shape_of b)), s.size)

pub can_finish : {gaps : List Gap} (context : Context) (lines : List Line) (spans : List LineSpan) (b : Buffer) → LinesStand context lines spans gaps b → Named lines spans b → Sized context lines b → size_sum context lines ≤ size_limit → NamesBound lines → CanFinish label_kinds (shape_of b)
can_finish context lines spans b built n s sum all =
    let near : length (before_last (bytes_of b) (length (pending b))) ≤ length (bytes_of b) + 3 = last_near (bytes_of b) (length (pending b)) in
    record {
      windows = built.windows;
      bound = λ j u h. ⊎_elim (λ known. inl known)
          (λ other. ⊎_elim (λ by_line. inl (named_place lines spans b u.label.number built all by_line)) (λ high. inr (constant_usable b u.label.number built.sound high (use_usable label_kinds b built.sound j u h))) other)
          (n.named j u h);
      direct = λ j u h no_veneer near. absurd (⊎_elim (λ yes. true≢false (sym yes ∙ no_veneer)) (λ far. true≢false (sym far ∙ near)) (n.kinds j u h));
      reach = veneers_reach (length (before_last (bytes_of b) (length (pending b)))) (pending b) (reaches_from_slack (length (bytes_of b)) 14 (length (before_last (bytes_of b) (length (pending b)))) (pending b) (omega arith) (slack_from_reach (length (bytes_of b)) (pending b) s.reach));
      short = omega (arith, last_within context lines b built.sound s, sum);
      constants = built.stand;
    }

-- and the code is at most 16 bytes longer than its lines and constants count for
pub finished_short : (context : Context) (lines : List Line) (b : Buffer) (bytes : List ℕ) → IsSoundBuffer b → Sized context lines b → Finishes label_kinds (shape_of b) bytes → length bytes ≤ size_sum context lines + 16
finished_short context lines b bytes sound s f = omega (arith, last_within context lines b sound s, f.long, f.same_length)
