-- What is pending since the last island, by the lines and their spans, where islands end, and that none is early or too long.
use Rattle.{rv_asm.proofs.LabelNames.uses_labels, rv_asm.proofs.LinesInBuffer.{InstAppends, line_gap, LineAppends}, rv_asm.proofs.RefusalOrder.{all_at, all_both, none_any}}
use Rattle.rv_asm.proofs.Spans.{bound_by_append, bound_by_more, get_drop, open_low, open_more, open_on, open_own, OpenAfter, own_uses, uses_more, of_cond, read_last, as_before, as_last}
use Rattle.rv_asm.proofs.Words.{[], AfterLastIsland, aligned, ap, append_each, Appends, AppendsIsland, AppendsSequence, arith, before_or_last, Bind, BindPut, Bool, both_lists, both_ways, bound_by, bound_kept, bound_pending, broken_rule, Buffer, bytes_of, cases_Bool, cases_eq, cases_lt, cond}
use Rattle.rv_asm.proofs.Words.{constants_end, constants_named, constants_of, constants_taken, constants_waiting, Context, deadline, deadlines, deadlines_as, direct_never_pending, drop, Each, each_none, emitted_keeps, end_before, end_of, EndsIn, false, false_from_ne_true, first_after_island}
use Rattle.rv_asm.proofs.Words.{first_inner, forward_of, from_of, Gap, has_veneer_of, inl, inr, Inst, inst_rule, is_buffer_label, is_pending, IsDue, island_after, island_end, IslandAsked, IslandIfNeeded, Jal20, keeps, label_kinds, LabelUse, le-ltb, leb-false, length, length-append, length-drop}
use Rattle.rv_asm.proofs.Words.{length-take-le, Line, line_space, LineSpan, LinesStand, List, lt-ltb, MachLabel, map, named_of, nat_lt, nat_tests, no_own, None, none-some, none_pending, NotEarly, Option, or_left, or_place, or_right, passing, pending, pending_at, pending_still, place_of}
use Rattle.rv_asm.proofs.Words.{Put, refl, registered_of, request_of, room_keeps, same_Some, shape_of, slice_get, slice_get_within, Some, space_in, start_of, still_pending, subst, suc, sym, take, take-append-le, take_all, target_names as labels_of, targets_of, to_of, true, true≢false, try_call_of}
use Rattle.{rv_asm.proofs.Words.{try_labels, unplaced_of, Use, uses_after_island, uses_from, uses_in, uses_of, VCodeConstant, waiting, ℕ, ⊎_elim, ◌++◌, ◌+◌, ◌-◌, ◌<◌, ◌||◌, ◌∙◌, ◌∷◌, ◌≡◌, ◌≤◌, ◌⊎◌}, std.proofs.lemmas.List.append-nil}

-- ---- what is pending

-- the deadlines of uses for which a test holds are those of the uses that pass it
deadlines_passing : (test : Use LabelUse → Bool) (uses : List (Use LabelUse)) → deadlines test label_kinds uses ≡ map (deadline label_kinds) (passing test uses)
deadlines_passing test [] = refl
deadlines_passing test (u ∷ uses) = (λ j. cond (test u) (deadline label_kinds u ∷ deadlines_passing test uses j) (deadlines_passing test uses j)) ∙ sym (of_cond (map (deadline label_kinds)) (test u) (u ∷ passing test uses) (passing test uses))

-- ==== Where islands end, and what follows the last line, by the lines and their spans.

-- ---- the uses that go by a veneer

abbrev Low : Use LabelUse → Type 0
Low u = has_veneer_of u.kind ≡ true → u.label.number < first_inner

-- each names a label of the listing
low_uses : (context : Context) (start end : ℕ) (inst : Inst) → inst_rule context inst ≡ None → Each Low (uses_in context start end inst)
low_uses context start end inst rule j u h served =
    let k = keeps context inst rule in
    let none = all_both (λ l. is_buffer_label l ≡ false) (try_labels (try_call_of inst)) (labels_of (targets_of inst)) (none_any is_buffer_label _ k.listed_try) (none_any is_buffer_label _ k.listed) in
    ⊎_elim
    (λ o. subst (λ n. n < first_inner) o.is (leb-false first_inner o.label.number (all_at (λ l. is_buffer_label l ≡ false) _ none o.place o.label o.names)))
    (λ high. absurd (both_ways _ high.1 served)) (uses_labels context start end inst j u h)

low_from : (context : Context) (spans : List LineSpan) (first : ℕ) (lines : List Line) → ((i : ℕ) (line : Line) → slice_get lines i ≡ Some line → broken_rule context line ≡ None) → Each Low (uses_from context spans first lines)
low_from context spans first [] ruled = each_none _
low_from context spans first (Put inst ∷ lines) ruled = both_lists Low (uses_in context (start_of spans first) (end_of spans first) inst) (uses_from context spans (suc first) lines) (low_uses context _ _ inst (ruled 0 (Put inst) refl)) (low_from context spans (suc first) lines (λ i. ruled (suc i)))
low_from context spans first (Bind label ∷ lines) ruled = low_from context spans (suc first) lines (λ i. ruled (suc i))

-- so whether it is pending is known from where lines bind labels
same_test : (place other : ℕ → Option ℕ) (u : Use LabelUse) → (has_veneer_of u.kind ≡ true → place u.label.number ≡ other u.label.number) → is_pending label_kinds place u ≡ is_pending label_kinds other u
same_test place other u same = grind (arith, same, cases_Bool (has_veneer_of u.kind))

-- ---- what waits in a buffer

-- the same waits in two buffers
pub record WaitsAs (b other : Buffer) : Type 0 where
  pub waits : pending b ≡ pending other
  pub stand : constants_of b ≡ constants_of other
  pub named : named_of b ≡ named_of other
  pub registered : registered_of b ≡ registered_of other

module _ (context : Context) (lines : List Line) (spans : List LineSpan) (gaps : List Gap) (b : Buffer) (built : LinesStand context lines spans gaps b) (since : AfterLastIsland context lines spans gaps b) where
  -- the uses
  pub uses_waiting : waiting context lines spans gaps ≡ pending b
  uses_waiting =
      let uses = uses_after_island context lines spans gaps in
      let test = is_pending label_kinds (bound_by spans 0 lines) in
      let same : deadlines (pending_at (place_of b)) label_kinds uses ≡ deadlines test label_kinds uses = deadlines_as (pending_at (place_of b)) test label_kinds uses (λ j u h.
      let k = first_after_island spans gaps (length lines) in
      same_test (place_of b) (bound_by spans 0 lines) u (λ served. since.places u.label.number (low_from context spans k (drop k lines) (λ i line e. since.ruled (k + i) line (sym (get_drop lines k i) ∙ e)) j u h served))) in
      sym (deadlines_passing (pending_at (place_of b)) (uses_of b) ∙ ap (map (deadline label_kinds)) since.ends.same ∙ sym (deadlines_passing (pending_at (place_of b)) uses) ∙ same)

  -- the constants
  pub constants_left : constants_waiting context lines spans gaps ≡ unplaced_of (shape_of b)
  constants_left = λ i. drop (sym since.ends.stand i) (sym built.named i)

  -- so an island ends where it must
  pub island_ends : (mid new : Buffer) → WaitsAs mid b → AppendsIsland mid new → length (bytes_of new) ≡ island_after context lines spans gaps (length (bytes_of mid))
  island_ends mid new same put =
      let left : unplaced_of (shape_of mid) ≡ constants_waiting context lines spans gaps = (λ i. drop (length (same.stand i)) (same.named i)) ∙ sym constants_left in
      put.end ∙ (λ i. island_end (λ n. constants_end ((same.registered ∙ built.registered) i) (left i) n) (aligned (length (bytes_of mid) + 4)) (length ((same.waits ∙ sym uses_waiting) i)) (length (bytes_of mid) + forward_of Jal20))

-- ---- as spans are added

module _ (context : Context) (lines : List Line) (spans more : List LineSpan) (gaps more_gaps : List Gap) (le : length lines ≤ length spans) (gap_le : length lines ≤ length gaps) where
  last_same : first_after_island (spans ++ more) (gaps ++ more_gaps) (length lines) ≡ first_after_island spans gaps (length lines)
  last_same = open_more spans more gaps more_gaps (length lines) le gap_le

  waiting_same : waiting context lines (spans ++ more) (gaps ++ more_gaps) ≡ waiting context lines spans gaps
  waiting_same =
      let k = first_after_island spans gaps (length lines) in
      let places : (label : ℕ) → bound_by (spans ++ more) 0 lines label ≡ bound_by spans 0 lines label = λ label. bound_by_more spans more 0 lines label (omega (arith, le)) in
      (λ j. deadlines (is_pending label_kinds (bound_by (spans ++ more) 0 lines)) label_kinds (uses_from context (spans ++ more) (last_same j) (drop (last_same j) lines)))
      ∙ (λ j. deadlines (is_pending label_kinds (λ label. places label j)) label_kinds (uses_more context spans more k (drop k lines) (omega (arith, open_low spans gaps (length lines), length-drop k lines, le)) j))

  ends_same : (from : ℕ) → island_after context lines (spans ++ more) (gaps ++ more_gaps) from ≡ island_after context lines spans gaps from
  ends_same from = λ j. island_end (constants_end context.constants (drop (length (constants_named (take (last_same j) lines))) (constants_named lines))) (aligned (from + 4)) (length (waiting_same j)) (from + forward_of Jal20)

-- lines and spans more change nothing before them, nor do offsets that are the same
due_kept : {context : Context} {lines : List Line} {spans : List LineSpan} {gaps : List Gap} {i from to start end distance : ℕ} (more : List Line) (more_spans : List LineSpan) (more_gaps : List Gap) → length spans ≡ length lines → length gaps ≡ length lines → i ≤ length lines → from ≡ start → to ≡ end → IsDue context lines spans gaps i from to distance →
    IsDue context (lines ++ more) (spans ++ more_spans) (gaps ++ more_gaps) i start end distance
due_kept {context} {lines} {spans} {gaps} {i} {from} {to} {start} {end} {distance} more more_spans more_gaps count gap_count le starts ends d =
    let short : length (take i lines) ≤ length lines = omega (arith, length-take-le i lines le, le) in
    let long : length (take i lines) ≤ length spans = omega (arith, count, short) in
    let gap_long : length (take i lines) ≤ length gaps = omega (arith, gap_count, short) in
    rw (sym starts, sym ends) (record {
      needed = grind (arith, take-append-le i lines more le, waiting_same context (take i lines) spans more_spans gaps more_gaps long gap_long, d.needed);
      ends = grind (arith, take-append-le i lines more le, ends_same context (take i lines) spans more_spans gaps more_gaps long gap_long from, d.ends);
    })

-- ==== What is pending since the last island, as lines are put.

-- ---- what a step does to the uses that are open

-- the uses of two lists that pass
pub passing_both : (test : Use LabelUse → Bool) (xs ys : List (Use LabelUse)) → passing test (xs ++ ys) ≡ passing test xs ++ passing test ys
passing_both test [] ys = refl
passing_both test (u ∷ xs) ys = (λ j. cond (test u) (u ∷ passing_both test xs ys j) (passing_both test xs ys j)) ∙ sym (of_cond (λ us. us ++ passing test ys) (test u) (u ∷ passing test xs) (passing test xs))

-- where none passes
passing_none : (test : Use LabelUse → Bool) (uses : List (Use LabelUse)) → Each (λ u. test u ≡ false) uses → passing test uses ≡ []
passing_none test [] none = refl
passing_none test (u ∷ uses) none = (λ i. cond (none 0 u refl i) (u ∷ passing test uses) (passing test uses)) ∙ passing_none test uses (λ j v h. none (suc j) v h)

-- of those that pass one test, those that pass one that is no weaker
passing_less : (test less : Use LabelUse → Bool) → ((u : Use LabelUse) → test u ≡ false → less u ≡ false) → (uses : List (Use LabelUse)) → passing less (passing test uses) ≡ passing less uses
passing_less test less weaker [] = refl
passing_less test less weaker (u ∷ uses) = grind (arith, weaker u, passing_less test less weaker uses)

-- after an island nothing is pending, and all constants that were named stand
ends_island : (old new : Buffer) → AppendsIsland old new → EndsIn [] (length (named_of old)) new
ends_island old new p = record {
  same = passing_none (pending_at (place_of new)) (uses_of new) (none_pending (pending_at (place_of new)) label_kinds (uses_of new) p.settled);
  stand = p.taken ∙ ap length p.named;
}

-- code adds its own uses, and leaves fewer of the others pending where it binds labels
ends_code : {count stand : ℕ} (code : List ℕ) (own uses : List (Use LabelUse)) (old new : Buffer) → AppendsSequence count code own old new → EndsIn uses stand old → EndsIn (uses ++ own) stand new
ends_code code own uses old new p e =
    let before = pending_at (place_of old) in
    let after = pending_at (place_of new) in
    let weaker : (u : Use LabelUse) → before u ≡ false → after u ≡ false = pending_still (place_of old) (place_of new) (bound_kept p) in
    record { same = grind (arith, p.uses, ap (passing after) e.same, passing_less before after weaker (uses_of old), passing_less before after weaker uses, passing_both); stand = ap length p.constants ∙ e.stand }

-- an instruction adds its own, of which those of a table's and of its own labels are never pending
ends_inst : (context : Context) (inst : Inst) (old new : Buffer) (uses : List (Use LabelUse)) {stand : ℕ} (a : Appends context inst old new) → EndsIn uses stand a.last → EndsIn (uses ++ uses_in context (length (bytes_of old)) (length (bytes_of new)) inst) stand new
ends_inst context inst old new uses a e =
    let own = uses_in context (length (bytes_of old)) (length (bytes_of new)) inst in
    let test = pending_at (place_of new) in
    let none : passing test a.direct ≡ [] = passing_none test a.direct (direct_never_pending context inst old new a) in
    let all = ends_code a.code (own ++ a.direct) uses a.last new a.adds e in
    record { same = grind (arith, all.same, passing_both, append-nil, none); stand = all.stand }

-- what was not pending is not pending once a label more is bound
ends_bind : (label : MachLabel) (old new : Buffer) (span : LineSpan) (uses : List (Use LabelUse)) {stand : ℕ} → BindPut label old new span → EndsIn uses stand old → EndsIn uses stand new
ends_bind label old new span uses p e =
    let before = pending_at (place_of old) in
    let after = pending_at (place_of new) in
    let weaker : (u : Use LabelUse) → before u ≡ false → after u ≡ false = λ u none. false_from_ne_true (after u) (λ h. true≢false (sym (bound_pending label_kinds (place_of old) (place_of new) label.number p.unbound p.kept u h) ∙ none)) in
    record { same = ap (passing after) p.uses ∙ sym (passing_less before after weaker (uses_of old)) ∙ ap (passing after) e.same ∙ passing_less before after weaker uses; stand = ap length p.constants ∙ e.stand }

-- an island where one is needed leaves nothing that is pending
room_empty : (space : Option ℕ) (old new : Buffer) (uses : List (Use LabelUse)) {stand : ℕ} → IslandAsked space old new → EndsIn uses stand old → ((length (bytes_of old) < length (bytes_of new)) × EndsIn [] (length (named_of old)) new) ⊎ ((length (bytes_of new) ≡ length (bytes_of old)) × EndsIn uses stand new)
room_empty None old new uses {stand} same h = inr (ap (λ (b : Buffer). length (bytes_of b)) same, subst (EndsIn uses stand) (sym same) h)
room_empty (Some space) old new uses {stand} (made, room) h = ⊎_elim
    (λ same. inr (ap (λ (b : Buffer). length (bytes_of b)) same.1, subst (EndsIn uses stand) (sym same.1) h))
    (λ put. let longer = put.1.longer in inl (omega (arith, longer), ends_island old new put.1))
    room.put

-- an instruction: its uses are added, to those before it where no island stands in it
emitted_ends : (context : Context) (inst : Inst) (mid new : Buffer) (start end : ℕ) (uses : List (Use LabelUse)) (stand : ℕ) → start ≡ length (bytes_of mid) → end ≡ length (bytes_of new) → (a : Appends context inst mid new) → EndsIn uses stand mid →
    ((nat_lt (length (bytes_of a.mid)) (length (bytes_of a.last)) ≡ true) × EndsIn (uses_in context start end inst) (length (named_of mid)) new) ⊎ ((nat_lt (length (bytes_of a.mid)) (length (bytes_of a.last)) ≡ false) × EndsIn (uses ++ uses_in context start end inst) stand new)
emitted_ends context inst mid new start end uses stand starts ends a h =
    let placed : (more : List (Use LabelUse)) (count : ℕ) → EndsIn (more ++ uses_in context (length (bytes_of mid)) (length (bytes_of new)) inst) count new → EndsIn (more ++ uses_in context start end inst) count new = λ more count g. subst (λ n. EndsIn (more ++ uses_in context n end inst) count new) (sym starts) (subst (λ n. EndsIn (more ++ uses_in context (length (bytes_of mid)) n inst) count new) (sym ends) g) in
    let first = subst (λ us. EndsIn us stand a.mid) (append-nil uses) (ends_code a.front [] uses mid a.mid (no_own a.front [] mid a.mid a.first) h) in
    ⊎_elim
    (λ put. let longer = put.0 in inl (lt-ltb (length (bytes_of a.mid)) (length (bytes_of a.last)) longer, placed [] (length (named_of mid)) (ends_inst context inst mid new [] a (subst (λ names. EndsIn [] (length names) a.last) a.unnamed put.1))))
    (λ none. let level = none.0 in inr (le-ltb (length (bytes_of a.mid)) (length (bytes_of a.last)) (omega (arith, level)), placed uses stand (ends_inst context inst mid new uses a none.1)))
    (room_empty (space_in (request_of context inst) (length a.code)) a.mid a.last uses a.island first)

-- ---- labels

or_none : (o : Option ℕ) → or_place o None ≡ o
or_none None = refl
or_none (Some at) = refl

bound_next : (lines : List Line) (spans : List LineSpan) (line : Line) (span : LineSpan) (label : ℕ) → length spans ≡ length lines → bound_by (spans ++ span ∷ []) 0 (lines ++ line ∷ []) label ≡ or_place (bound_by spans 0 lines label) (bound_by (spans ++ span ∷ []) (length spans) (line ∷ []) label)
bound_next lines spans line span label count =
    grind (arith, bound_by_append (spans ++ span ∷ []) 0 lines (line ∷ []) label, bound_by_more spans (span ∷ []) 0 lines label (omega arith))

bound_bind : (lines : List Line) (spans : List LineSpan) (l : MachLabel) (span : LineSpan) (old new : Buffer) (label : ℕ) → length spans ≡ length lines → BindPut l old new span → place_of old label ≡ bound_by spans 0 lines label → place_of new label ≡ bound_by (spans ++ span ∷ []) 0 (lines ++ Bind l ∷ []) label
bound_bind lines spans l span old new label count p places =
    let whole = bound_next lines spans (Bind l) span label count in
    ⊎_elim (λ e. grind (arith, nat_tests, read_last spans span (λ x. x.start), p.start, p.bound, p.unbound)) (λ differ. grind (arith, nat_tests, p.kept label differ, or_none)) (cases_eq label l.number)

-- ---- the loop's invariant

pub since_none : (context : Context) (b : Buffer) → uses_of b ≡ [] → constants_of b ≡ [] → ((label : ℕ) → place_of b label ≡ None) → AfterLastIsland context [] [] [] b
since_none context b uses constants none = record {
  ends = record { same = ap (passing (pending_at (place_of b))) uses; stand = ap length constants };
  places = λ label low. none label;
  ruled = λ i line h. absurd (none-some line h);
}

module _ (context : Context) (lines : List Line) (spans : List LineSpan) (gaps : List Gap) (line : Line) (span : LineSpan) (gap : Gap) (old : Buffer) (built : LinesStand context lines spans gaps old) (since : EndsIn (uses_after_island context lines spans gaps) (length (constants_taken context lines spans gaps)) old) where
  abbrev EndsAfter : Buffer → Type 0
  EndsAfter new = EndsIn (uses_after_island context (lines ++ line ∷ []) (spans ++ span ∷ []) (gaps ++ gap ∷ [])) (length (constants_taken context (lines ++ line ∷ []) (spans ++ span ∷ []) (gaps ++ gap ∷ []))) new

  abbrev Opens : List (Use LabelUse) → List VCodeConstant → Type 0
  Opens uses taken = OpenAfter context lines spans gaps line span gap built.count built.gap_count uses taken

  -- by what is open after the line, and the constants that islands took
  ends_by : (uses : List (Use LabelUse)) (taken : List VCodeConstant) (new : Buffer) → Opens uses taken → EndsIn uses (length taken) new → EndsAfter new
  ends_by uses taken new o h = subst (λ us. EndsIn us (length (constants_taken context (lines ++ line ∷ []) (spans ++ span ∷ []) (gaps ++ gap ∷ []))) new) (sym o.0) (subst (λ ks. EndsIn uses (length ks) new) (sym o.1) h)

  -- the uses that are open after what stands before the line, to which the line adds its own
  record Roomed (mid : Buffer) : Type 0 where
    pub uses : List (Use LabelUse)
    pub taken : List VCodeConstant
    pub ends : EndsIn uses (length taken) mid
    pub names : named_of mid ≡ constants_named lines
    pub adds : nat_lt gap.from gap.to ≡ false → Opens (uses ++ own_uses context line span.start span.end) taken

  room_ends : (mid : Buffer) (made : Bool) → IslandIfNeeded line_space old mid made → span.start ≡ length (bytes_of mid) → Roomed mid
  room_ends mid made m start = ⊎_elim
      (λ same.
      let level : nat_lt (end_before spans (length lines)) span.start ≡ false = le-ltb (end_before spans (length lines)) span.start (omega (arith, (sym built.ends ∙ ap (λ (b : Buffer). length (bytes_of b)) (sym same.1) ∙ sym start))) in
      record {
        uses = uses_after_island context lines spans gaps;
        taken = constants_taken context lines spans gaps;
        ends = subst (EndsIn (uses_after_island context lines spans gaps) (length (constants_taken context lines spans gaps))) (sym same.1) since;
        names = ap (λ (b : Buffer). named_of b) same.1 ∙ built.named;
        adds = λ e. open_on context lines spans gaps line span gap built.count built.gap_count (λ j. e j || level j);
      })
      (λ put.
      record {
        uses = [];
        taken = constants_named lines;
        ends = subst (λ names. EndsIn [] (length names) mid) built.named (ends_island old mid put.1);
        names = put.1.named ∙ built.named;
        adds = λ e. open_own context lines spans gaps line span gap built.count built.gap_count (or_right (nat_lt gap.from gap.to) _ (lt-ltb (end_before spans (length lines)) span.start (omega (arith, put.1.longer, built.ends, start))));
      })
      m.put

line_ends : (context : Context) (lines : List Line) (spans : List LineSpan) (gaps : List Gap) (line : Line) (span : LineSpan) (old new : Buffer) (b : LinesStand context lines spans gaps old) (s : EndsIn (uses_after_island context lines spans gaps) (length (constants_taken context lines spans gaps)) old) →
    (p : LineAppends context line old new span) → EndsAfter context lines spans gaps line span (line_gap context old new span line p) old b s new
line_ends context lines spans gaps (Put inst) span old new b s p =
    let gap = line_gap context old new span (Put inst) p in
    let r = room_ends context lines spans gaps (Put inst) span gap old b s p.mid p.made p.room p.start in
    ⊎_elim
    (λ among. ends_by context lines spans gaps (Put inst) span gap old b s _ (constants_named lines) new (open_own context lines spans gaps (Put inst) span gap b.count b.gap_count (or_left _ _ among.0)) (subst (λ names. EndsIn (uses_in context span.start span.end inst) (length names) new) r.names among.1))
    (λ block. ends_by context lines spans gaps (Put inst) span gap old b s _ r.taken new (r.adds block.0) block.1)
    (emitted_ends context inst p.mid new span.start span.end r.uses (length r.taken) p.start p.end p.emitted r.ends)
line_ends context lines spans gaps (Bind label) span old new b s p =
    let at = length (bytes_of old) in
    let none : nat_lt at at ≡ false = le-ltb at at (omega arith) in
    let level : nat_lt (end_before spans (length lines)) span.start ≡ false = le-ltb (end_before spans (length lines)) span.start (omega (arith, (sym b.ends ∙ sym p.start))) in
    ends_by context lines spans gaps (Bind label) span (line_gap context old new span (Bind label) p) old b s _ (constants_taken context lines spans gaps) new (open_on context lines spans gaps (Bind label) span (line_gap context old new span (Bind label) p) b.count b.gap_count (λ j. none j || level j))
    (rw (append-nil (uses_after_island context lines spans gaps)) (ends_bind label old new span (uses_after_island context lines spans gaps) p s))

pub since_next : (context : Context) (lines : List Line) (spans : List LineSpan) (gaps : List Gap) (line : Line) (span : LineSpan) (old new : Buffer) → LinesStand context lines spans gaps old → AfterLastIsland context lines spans gaps old → broken_rule context line ≡ None → (p : LineAppends context line old new span) → AfterLastIsland context (lines ++ line ∷ []) (spans ++ span ∷ []) (gaps ++ line_gap context old new span line p ∷ []) new
since_next context lines spans gaps (Put inst) span old new b s rule p =
    let next = emitted_keeps context inst p.mid new p.emitted in
    record {
      ends = line_ends context lines spans gaps (Put inst) span old new b s.ends p;
      places = λ label low. next.1 label low ∙ (room_keeps line_space old p.mid p.made p.room).1 label low ∙ s.places label low ∙ sym (bound_next lines spans (Put inst) span label b.count ∙ or_none _);
      ruled = append_each (λ line. broken_rule context line ≡ None) lines (Put inst) rule s.ruled;
    }
since_next context lines spans gaps (Bind label) span old new b s rule p = record {
  ends = line_ends context lines spans gaps (Bind label) span old new b s.ends p;
  places = λ other low. bound_bind lines spans label span old new other b.count p (s.places other low);
  ruled = append_each (λ line. broken_rule context line ≡ None) lines (Bind label) rule s.ruled;
}

-- ==== No island is early or too long, as lines are put.

-- ---- no island is early

-- where one was put before so many bytes it is due, and ends where it must
room_due : (context : Context) (lines : List Line) (spans : List LineSpan) (gaps : List Gap) (distance : ℕ) (old mid new : Buffer) (made : Bool) → LinesStand context lines spans gaps old → AfterLastIsland context lines spans gaps old → WaitsAs mid old → IslandIfNeeded distance mid new made →
    length (bytes_of mid) < length (bytes_of new) → IsDue context lines spans gaps (length lines) (length (bytes_of mid)) (length (bytes_of new)) distance
room_due context lines spans gaps distance old mid new made b s same m longer = ⊎_elim
    (λ none. let level : length (bytes_of new) ≡ length (bytes_of mid) = ap (λ (b : Buffer). length (bytes_of b)) none.1 in absurd (omega (arith, level, longer)))
    (λ put.
    record {
      needed = grind (arith, same.waits, uses_waiting context lines spans gaps old b s, take_all, m.asked, put.0);
      ends = grind (arith, island_ends context lines spans gaps old b s mid new same put.1, take_all);
    })
    m.put

-- in a line, before which one is put only where none is put in it
in_line : (context : Context) (lines : List Line) (spans : List LineSpan) (gaps : List Gap) (space : ℕ) (old mid next last : Buffer) (made second : Bool) → LinesStand context lines spans gaps old → AfterLastIsland context lines spans gaps old → IslandIfNeeded line_space old mid made → WaitsAs next mid →
    IslandIfNeeded space next last second → length (bytes_of next) < length (bytes_of last) → IsDue context lines spans gaps (length lines) (length (bytes_of next)) (length (bytes_of last)) space
in_line context lines spans gaps space old mid next last made second b s before keeps within longer = ⊎_elim
    (λ same. room_due context lines spans gaps space old next last second b s (subst (WaitsAs next) same.1 keeps) within longer)
    (λ put. absurd (no_second put.1.settled))
    before.put
  where
    no_second : pending mid ≡ [] → ⊥
    no_second settled = grind (arith, within.put, within.asked, keeps.waits, settled, longer)

module _ (context : Context) (lines : List Line) (spans : List LineSpan) (gaps : List Gap) (line : Line) (span : LineSpan) (old new : Buffer) (b : LinesStand context lines spans gaps old) (s : AfterLastIsland context lines spans gaps old) (p : LineAppends context line old new span) (h : NotEarly context lines spans gaps) where
  abbrev all : List LineSpan
  all = spans ++ span ∷ []

  abbrev all_gaps : List Gap
  all_gaps = gaps ++ line_gap context old new span line p ∷ []

  abbrev DueBefore : ℕ → Type 0
  DueBefore i = end_before all i < start_of all i → IsDue context (lines ++ line ∷ []) all all_gaps i (end_before all i) (start_of all i) line_space

  abbrev DueWithin : ℕ → Inst → Type 0
  DueWithin i inst = (space : ℕ) → from_of all_gaps i < to_of all_gaps i → space_in (request_of context inst) (end_of all i - to_of all_gaps i) ≡ Some space → IsDue context (lines ++ line ∷ []) all all_gaps i (from_of all_gaps i) (to_of all_gaps i) space

  kept : {i from to start end distance : ℕ} → i ≤ length lines → from ≡ start → to ≡ end → IsDue context lines spans gaps i from to distance → IsDue context (lines ++ line ∷ []) all all_gaps i start end distance
  kept le starts ends d = due_kept (line ∷ []) (span ∷ []) (line_gap context old new span line p ∷ []) b.count b.gap_count le starts ends d

  before : (i : ℕ) → i < length lines → DueBefore i
  before i lt =
      as_before (λ before start from to end. before < start → IsDue context (lines ++ line ∷ []) all all_gaps i before start line_space) spans (span ∷ []) gaps (line_gap context old new span line p ∷ []) i (omega (arith, lt, b.count)) (omega (arith, lt, b.gap_count)) (λ gap. kept (omega arith) refl refl (h.before i lt gap))

  before_last : (x : Line) → LineAppends context x old new span → end_before spans (length lines) < span.start → IsDue context (lines ++ line ∷ []) all all_gaps (length lines) (end_before spans (length lines)) span.start line_space
  before_last (Put inst) q gap = kept (omega arith) b.ends (sym q.start) (room_due context lines spans gaps line_space old old q.mid q.made b s (record { waits = refl; stand = refl; named = refl; registered = refl }) q.room (omega (arith, b.ends, q.start, gap)))
  before_last (Bind label) q gap = absurd (omega (arith, b.ends, q.start, gap))

  each_before : (i : ℕ) → i < length (lines ++ line ∷ []) → DueBefore i
  each_before i lt = ⊎_elim (before i)
      (λ high.
      let last : length lines ≡ i = omega (arith, lt, high, length-append lines (line ∷ [])) in
      subst DueBefore last (as_last (λ before start from to end. before < start → IsDue context (lines ++ line ∷ []) all all_gaps (length lines) before start line_space) spans span gaps (line_gap context old new span line p) (length lines) (sym b.count) (sym b.gap_count) (before_last line p)))
      (cases_lt i (length lines))

  within : (i : ℕ) (inst : Inst) → slice_get lines i ≡ Some (Put inst) → DueWithin i inst
  within i inst was =
      let lt = slice_get_within lines i (Put inst) was in
      as_before (λ before start from to end. (space : ℕ) → from < to → space_in (request_of context inst) (end - to) ≡ Some space → IsDue context (lines ++ line ∷ []) all all_gaps i from to space) spans (span ∷ []) gaps (line_gap context old new span line p ∷ []) i (omega (arith, lt, b.count)) (omega (arith, lt, b.gap_count))
      (λ space gap asked. kept (omega arith) refl refl (h.within i inst space was gap asked))

within_last : (context : Context) (lines : List Line) (spans : List LineSpan) (gaps : List Gap) (inst : Inst) (span : LineSpan) (old new : Buffer) (b : LinesStand context lines spans gaps old) (s : AfterLastIsland context lines spans gaps old) (p : InstAppends context inst old new span) (h : NotEarly context lines spans gaps) → DueWithin context lines spans gaps (Put inst) span old new b s p h (length lines) inst
within_last context lines spans gaps inst span old new b s p h =
    as_last (λ before start from to end. (space : ℕ) → from < to → space_in (request_of context inst) (end - to) ≡ Some space → IsDue context (lines ++ Put inst ∷ []) (spans ++ span ∷ []) (gaps ++ own ∷ []) (length lines) from to space) spans span gaps own (length lines) (sym b.count) (sym b.gap_count)
    (λ space gap asked. by space gap asked (space_in (request_of context inst) (length a.code)) refl a.island)
  where
    a : Appends context inst p.mid new
    a = p.emitted

    own : Gap
    own = line_gap context old new span (Put inst) p

    rest : span.end - length (bytes_of a.last) ≡ length a.code
    rest = omega (arith, p.end, (ap length a.adds.bytes ∙ length-append (bytes_of a.last) a.code))

    same : WaitsAs a.mid p.mid
    same = record { waits = still_pending a.first; stand = a.first.constants; named = a.unnamed; registered = a.first.registered }

    by : (space : ℕ) → length (bytes_of a.mid) < length (bytes_of a.last) → space_in (request_of context inst) (span.end - length (bytes_of a.last)) ≡ Some space → (o : Option ℕ) → space_in (request_of context inst) (length a.code) ≡ o → IslandAsked o a.mid a.last → IsDue context (lines ++ Put inst ∷ []) (spans ++ span ∷ []) (gaps ++ own ∷ []) (length lines) (length (bytes_of a.mid)) (length (bytes_of a.last)) space
    by space gap asked None is level = let e : length (bytes_of a.last) ≡ length (bytes_of a.mid) = ap (λ (b : Buffer). length (bytes_of b)) level in absurd (omega (arith, e, gap))
    by space gap asked (Some n) is (second, room) =
        let n_is : n ≡ space = same_Some n space (sym is ∙ ap (space_in (request_of context inst)) (sym rest) ∙ asked) in
        due_kept (Put inst ∷ []) (span ∷ []) (own ∷ []) b.count b.gap_count (omega arith) refl refl
        (subst (IsDue context lines spans gaps (length lines) (length (bytes_of a.mid)) (length (bytes_of a.last))) n_is (in_line context lines spans gaps n old p.mid a.mid a.last p.made second b s p.room same room gap))

pub early_next : (context : Context) (lines : List Line) (spans : List LineSpan) (gaps : List Gap) (line : Line) (span : LineSpan) (old new : Buffer) → LinesStand context lines spans gaps old → AfterLastIsland context lines spans gaps old → (p : LineAppends context line old new span) → NotEarly context lines spans gaps → NotEarly context (lines ++ line ∷ []) (spans ++ span ∷ []) (gaps ++ line_gap context old new span line p ∷ [])
early_next context lines spans gaps (Put own) span old new b s p h = record {
  before = each_before context lines spans gaps (Put own) span old new b s p h;
  within = λ i inst space at gap asked. ⊎_elim
      (λ was. within context lines spans gaps (Put own) span old new b s p h i inst was space gap asked)
      (λ here.
      let same : own ≡ inst = let e = here.1 in cc in
      let Due = DueWithin context lines spans gaps (Put own) span old new b s p h in
      subst (λ m. Due m inst) (sym here.0) (subst (Due (length lines)) same (within_last context lines spans gaps own span old new b s p h)) space gap asked)
      (before_or_last lines (Put own) i (Put inst) at);
}
early_next context lines spans gaps (Bind label) span old new b s p h = record {
  before = each_before context lines spans gaps (Bind label) span old new b s p h;
  within = λ i inst space at gap asked. ⊎_elim (λ was. within context lines spans gaps (Bind label) span old new b s p h i inst was space gap asked) (λ here. let e = here.1 in absurd (cc)) (before_or_last lines (Bind label) i (Put inst) at);
}
