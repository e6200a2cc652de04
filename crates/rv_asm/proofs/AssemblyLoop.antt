-- The loop over lines: what it keeps, turn by turn, and what it ends with.
use Rattle.{mach_records.{specs.Ranges.RecordedFits, specs.Records.by_kind}, rv_asm.{proofs.AfterLastIsland.{early_next, since_next, since_none}, proofs.LabelNames.{can_finish, finished_short, low_label, named_next, named_none, sized_next, sized_none}}}
use Rattle.rv_asm.{proofs.LinesInBuffer.{built_more, built_none, LastsTo, line_gap, line_added, line_appends, LineAppends, returns_within}, proofs.RefusalOrder.{not_before, frame_small, lines_small, lines_take, names_bound, no_rule_broken, none_stuck, parts, sum_small}}
use Rattle.rv_asm.proofs.Spans.{get_drop, open_more, returns_next, read_last, read_more}
use Rattle.rv_asm.proofs.Words.{AllByRecursion, ReturnFits, SpanFits, [], AfterLastIsland, allocated_of, ap, arith, before_or_last, below, Bind, BindPut, binds, Bool, Buffer, bytes_of, CallReturn, calls_in, CanFinish, CanPut, Code, cond, cond_both, constants_of, Context}
use Rattle.rv_asm.proofs.Words.{drop, EmitVState, end_of, eqb-true, false, Finishes, first_after_island, Gap, get_or_from_slice_get, GoStraight, has_bad_frame, has_veneer_of, inl, inr, Inst, is_bound, is_none, is_reached, IsaFlags, IsFinished, IsIn, IsSoundBuffer}
use Rattle.rv_asm.proofs.Words.{label_kinds, labels_of, LabelUse, length, length-take-le, Line, line_returns, LinePut, LineSpan, LinesStand, List, MachLabel, maps_in, Named, named_of, None, not, NotEarly, offset_or_zero, or_parts, passing, patches_in, pending_at}
use Rattle.rv_asm.proofs.Words.{place_of, Put, records_of, refl, registered_of, relocs_in, returns_from, ReturnsWithin, same_Some, shape_of, Sized, slice_get, slice_get-append, slice_get_read, slice_get_within, slice_index_or, Some, start_of, subst, suc, sym, take}
use Rattle.rv_asm.{proofs.Words.{take_all, take_more, traps_in, tries_in, true, unwinds_in, Use, uses_after_island, uses_bare, uses_from, uses_in, uses_of, zero, ℕ, ◌&&◌, ◌++◌, ◌+◌, ◌-◌, ◌<◌, ◌^◌, ◌∙◌, ◌∷◌, ◌≡◌, ◌≤◌, ◌⊎◌}, specs.Refusal.lines_refusal}

-- ---- among uses

in_later : (v : Use LabelUse) (uses : List (Use LabelUse)) (u : Use LabelUse) → IsIn uses u → IsIn (v ∷ uses) u
in_later v uses u h = record { index = suc h.index; there = h.there }

in_first : (uses more : List (Use LabelUse)) (u : Use LabelUse) → IsIn uses u → IsIn (uses ++ more) u
in_first uses more u h = record { index = h.index; there = slice_get-append uses more h.index u h.there }

in_second : (uses more : List (Use LabelUse)) (u : Use LabelUse) → IsIn more u → IsIn (uses ++ more) u
in_second [] more u h = h
in_second (v ∷ uses) more u h = in_later v (uses ++ more) u (in_second uses more u h)

-- what passes a test is among those that do
passes : (test : Use LabelUse → Bool) (uses : List (Use LabelUse)) (j : ℕ) (u : Use LabelUse) → slice_get uses j ≡ Some u → test u ≡ true → IsIn (passing test uses) u
passes test [] j u h e = absurd (cc)
passes test (v ∷ uses) zero u h e = record { index = 0; there = (λ i. slice_get (cond ((ap test (same_Some v u h) ∙ e) i) (v ∷ passing test uses) (passing test uses)) 0) ∙ h }
passes test (v ∷ uses) (suc j) u h e =
    let rest = passes test uses j u h e in
    cond_both (test v) (v ∷ passing test uses) (passing test uses) (λ us. IsIn us u) (λ holds. in_later v (passing test uses) u rest) (λ fails. rest)

-- and among all
passed : (test : Use LabelUse → Bool) (uses : List (Use LabelUse)) (u : Use LabelUse) → IsIn (passing test uses) u → IsIn uses u
passed test [] u h = h
passed test (v ∷ uses) u h =
    cond_both (test v) (v ∷ passing test uses) (passing test uses) (λ us. IsIn us u → IsIn (v ∷ uses) u) (λ holds g. at g.index g.there (passed test uses u)) (λ fails g. in_later v uses u (passed test uses u g)) h
  where
    at : (j : ℕ) → slice_get (v ∷ passing test uses) j ≡ Some u → (IsIn (passing test uses) u → IsIn uses u) → IsIn (v ∷ uses) u
    at zero e rest = record { index = 0; there = e }
    at (suc j) e rest = in_later v uses u (rest (record { index = j; there = e }))

-- ---- the uses of lines

line_uses_in : (context : Context) (spans : List LineSpan) (first : ℕ) (lines : List Line) (i : ℕ) (inst : Inst) (k : ℕ) (u : Use LabelUse) → slice_get lines i ≡ Some (Put inst) → slice_get (uses_in context (start_of spans (first + i)) (end_of spans (first + i)) inst) k ≡ Some u → IsIn (uses_from context spans first lines) u
line_uses_in context spans first [] i inst k u there own = absurd (cc)
line_uses_in context spans first (Put x ∷ lines) zero inst k u there own =
    in_first _ (uses_from context spans (suc first) lines) u (record { index = k; there = grind (arith, own, there) })
line_uses_in context spans first (Bind l ∷ lines) zero inst k u there own = absurd (cc)
line_uses_in context spans first (Put x ∷ lines) (suc i) inst k u there own =
    in_second (uses_in context (start_of spans first) (end_of spans first) x) _ u (line_uses_in context spans (suc first) lines i inst k u there (grind (arith, own)))
line_uses_in context spans first (Bind l ∷ lines) (suc i) inst k u there own =
    line_uses_in context spans (suc first) lines i inst k u there (grind (arith, own))

-- a use of a line after which no island stands: while its label isn't bound, it is in the buffer
still_there : (context : Context) (lines : List Line) (spans : List LineSpan) (gaps : List Gap) (b : Buffer) (i : ℕ) (inst : Inst) (k : ℕ) (u : Use LabelUse) → AfterLastIsland context lines spans gaps b → first_after_island spans gaps (length lines) ≤ i → slice_get lines i ≡ Some (Put inst) → slice_get (uses_in context (start_of spans i) (end_of spans i) inst) k ≡ Some u → has_veneer_of u.kind ≡ true → place_of b u.label.number ≡ None → IsIn (uses_of b) u
still_there context lines spans gaps b i inst k u since le there own served unbound =
    let test = pending_at (place_of b) in
    let waits : test u ≡ true = λ j. served j && (is_none (uses_bare context (start_of spans i) (end_of spans i) inst k u own j) && not (is_reached label_kinds (unbound j) u)) in
    let n = first_after_island spans gaps (length lines) in
    let among = line_uses_in context spans n (drop n lines) (i - n) inst k u (grind (arith, get_drop lines n (i - n), there)) (grind (arith, own)) in
    passed test (uses_of b) u (subst (λ us. IsIn us u) (sym since.ends.same) (passes test (uses_after_island context lines spans gaps) among.index u among.there waits))

-- ---- the loop

module _ (context : Context) (lines : List Line) (spans : List LineSpan) (gaps : List Gap) (line : Line) (span : LineSpan) (old new : Buffer) (built : LinesStand context lines spans gaps old) (since : AfterLastIsland context lines spans gaps old) (lasts : LastsTo old new) (put : LineAppends context line old new span) (known : GoStraight context lines spans gaps old) where
  abbrev all : List LineSpan
  all = spans ++ span ∷ []

  abbrev all_gaps : List Gap
  all_gaps = gaps ++ line_gap context old new span line put ∷ []

  -- a line's offsets are as they were
  old_use : (i : ℕ) (inst : Inst) (k : ℕ) (u : Use LabelUse) → i < length lines → slice_get (uses_in context (start_of all i) (end_of all i) inst) k ≡ Some u → slice_get (uses_in context (start_of spans i) (end_of spans i) inst) k ≡ Some u
  old_use i inst k u lt own =
      (λ j. slice_get (uses_in context (sym (read_more spans (span ∷ []) (λ x. x.start) i (omega (arith, built.count, lt))) j) (sym (read_more spans (span ∷ []) (λ x. x.end) i (omega (arith, built.count, lt))) j) inst) k) ∙ own

  both_old : (i : ℕ) (inst : Inst) (k : ℕ) (u : Use LabelUse) (m : ℕ) (l : MachLabel) → slice_get lines i ≡ Some (Put inst) → slice_get (uses_in context (start_of spans i) (end_of spans i) inst) k ≡ Some u → has_veneer_of u.kind ≡ true → slice_get lines m ≡ Some (Bind l) → l.number ≡ u.label.number → is_reached label_kinds (Some (start_of spans m)) u ≡ true → first_after_island spans gaps m ≤ i → IsIn (uses_of new) u
  both_old i inst k u m l hi own served hm is reached le =
      let was = known.each i inst k u m l hi own served hm is reached le in
      let bare : u.veneer ≡ None = uses_bare context (start_of spans i) (end_of spans i) inst k u own in
      record { index = was.index; there = lasts.straight was.index u was.there bare (ap (λ place. is_reached label_kinds place u) (ap (place_of old) (sym is) ∙ (built.each m (Bind l) hm).there.1) ∙ reached) }

  each : (i : ℕ) (inst : Inst) (k : ℕ) (u : Use LabelUse) (m : ℕ) (l : MachLabel) → (slice_get lines i ≡ Some (Put inst)) ⊎ ((i ≡ length lines) × (line ≡ Put inst)) → slice_get (uses_in context (start_of all i) (end_of all i) inst) k ≡ Some u → has_veneer_of u.kind ≡ true → (slice_get lines m ≡ Some (Bind l)) ⊎ ((m ≡ length lines) × (line ≡ Bind l)) → l.number ≡ u.label.number → is_reached label_kinds (Some (start_of all m)) u ≡ true → first_after_island all all_gaps m ≤ i → IsIn (uses_of new) u
  each i inst k u m l (inl hi) own served (inl hm) is reached le =
      let m_lt = below lines m (Bind l) hm in
      let opens = open_more spans (span ∷ []) gaps (line_gap context old new span line put ∷ []) m (omega (arith, built.count, m_lt)) (omega (arith, built.gap_count, m_lt)) in
      both_old i inst k u m l hi (old_use i inst k u (below lines i (Put inst) hi) own) served hm is (grind (arith, read_more spans (span ∷ []) (λ x. x.start) m (omega (arith, built.count, m_lt)), reached)) (omega (arith, opens, le))
  each i inst k u m l (inl hi) own served (inr (e, binds)) is reached le =
      let p : BindPut l old new span = subst (λ x. LineAppends context x old new span) binds put in
      let opens = open_more spans (span ∷ []) gaps (line_gap context old new span line put ∷ []) (length lines) (omega (arith, built.count)) (omega (arith, built.gap_count)) in
      let here : first_after_island all all_gaps (length lines) ≤ i = subst (λ n. first_after_island all all_gaps n ≤ i) e le in
      subst (λ us. IsIn us u) (sym p.uses)
      (still_there context lines spans gaps old i inst k u since (omega (arith, opens, here)) hi (old_use i inst k u (below lines i (Put inst) hi) own) served (ap (place_of old) (sym is) ∙ p.unbound))
  each i inst k u m l (inr (e, puts)) own served (inl hm) is reached le =
      let p : LineAppends context (Put inst) old new span = subst (λ x. LineAppends context x old new span) puts put in
      let last : i ≡ length spans = e ∙ sym built.count in
      let start : start_of all i ≡ length (bytes_of p.mid) = ap (start_of all) last ∙ read_last spans span (λ x. x.start) ∙ p.start in
      let end : end_of all i ≡ length (bytes_of new) = ap (end_of all) last ∙ read_last spans span (λ x. x.end) ∙ p.end in
      subst (λ us. IsIn us u) (sym p.emitted.adds.uses) (in_second (uses_of p.emitted.last) _ u (in_first _ p.emitted.direct u (record { index = k; there = (λ j. slice_get (uses_in context (sym start j) (sym end j) inst) k) ∙ own })))
  each i inst k u m l (inr (e, puts)) own served (inr (g, binds)) is reached le = absurd (cc)

  pub straight_next : GoStraight context (lines ++ line ∷ []) all all_gaps new
  straight_next = record {
    each = λ i inst k u m l hi own served hm is reached le. each i inst k u m l (before_or_last lines line i (Put inst) hi) own served (before_or_last lines line m (Bind l) hm) is reached le;
  }

-- ==== The loop over lines: what it keeps, turn by turn, and what it ends with.

-- after some lines
pub record Built (context : Context) (lines : List Line) (spans : List LineSpan) (b : Buffer) : Type 0 where
  pub gaps : List Gap
  pub built : LinesStand context lines spans gaps b
  pub named : Named lines spans b
  pub sized : Sized context lines b
  pub since : AfterLastIsland context lines spans gaps b
  pub early : NotEarly context lines spans gaps
  pub straight : GoStraight context lines spans gaps b

-- after so many lines
abbrev pub SoFar : Context → List Line → ℕ → List LineSpan → Buffer → Type 0
SoFar context lines count spans b = Built context (take count lines) spans b

-- before the first
pub so_far_none : (context : Context) (lines : List Line) (b : Buffer) → bytes_of b ≡ [] → uses_of b ≡ [] → ((label : ℕ) → place_of b label ≡ None) → labels_of b ≡ [] → allocated_of b ≡ 0 → records_of b ≡ [] → registered_of b ≡ context.constants → named_of b ≡ [] → constants_of b ≡ [] → IsSoundBuffer b → SoFar context lines 0 [] b
so_far_none context lines b bytes uses places labels allocated records registered named constants sound = record {
  gaps = [];
  built = built_none context b bytes uses records registered named constants sound;
  named = named_none b uses labels places;
  sized = sized_none context b bytes uses places registered allocated;
  since = since_none context b uses constants places;
  early = record { before = λ i lt. absurd (omega arith); within = λ i inst space h. absurd (cc) };
  straight = record { each = λ i inst k u m l hi own served hm is reached le. absurd (cc) };
}

-- ---- lists by an index

take_next : (lines : List Line) (n : ℕ) (line : Line) → slice_get lines n ≡ Some line → take (n + 1) lines ≡ take n lines ++ line ∷ []
take_next lines n line h = let lt = slice_get_within lines n line h in take_more lines n line lt ∙ ap (λ x. take n lines ++ x ∷ []) (get_or_from_slice_get lines n line line h)

take_count : (lines : List Line) (n : ℕ) (line : Line) → slice_get lines n ≡ Some line → length (take n lines) ≡ n
take_count lines n line h = let lt = slice_get_within lines n line h in length-take-le n lines (omega (arith, lt))

-- the line that a turn reads
pub line_read : (lines : List Line) (n : ℕ) (line : Line) → n < length lines → line ≡ slice_index_or lines n line → slice_get lines n ≡ Some line
line_read lines n line lt e = slice_get_read lines (length lines) n line refl lt e

-- ---- a turn

unbound_next : (context : Context) (lines : List Line) (n : ℕ) (spans : List LineSpan) (b : Buffer) (line : Line) → lines_refusal context lines ≡ None → SoFar context lines n spans b → slice_get lines n ≡ Some line → (label : ℕ) → binds line label ≡ true → place_of b label ≡ None
unbound_next context lines n spans b (Put inst) e s h label is = absurd (cc)
unbound_next context lines n spans b (Bind l) e s h label is =
    subst (λ k. place_of b k ≡ None) (eqb-true l.number label is) (s.named.unbound l.number (low_label context l (no_rule_broken context lines e n (Bind l) h)) ((or_parts (is_bound (take n lines) l.number) _ (not_before (λ label. false) lines n l (parts context lines e).twice h)).0))

-- the next line can be put
pub can_put : (context : Context) (lines : List Line) (n : ℕ) (spans : List LineSpan) (b : Buffer) (line : Line) → has_bad_frame context.frame lines ≡ false → lines_refusal context lines ≡ None → SoFar context lines n spans b → slice_get lines n ≡ Some line → CanPut context line b
can_put context lines n spans b line frame e s h =
    let small = sum_small context lines e in
    let least = lines_take context lines n line h in
    record {
      rule = no_rule_broken context lines e n line h;
      frame = frame_small context.frame lines frame;
      fit = none_stuck context.frame lines frame n line h;
      sound = s.built.sound;
      reach = s.sized.reach;
      few = omega (arith, small, least, s.sized.allocated);
      room = omega (arith, small, least, s.sized.size);
      unbound = unbound_next context lines n spans b line e s h;
    }

-- and once it was put the loop goes on
pub so_far_next : (context : Context) (setting : EmitVState) (lines : List Line) (n : ℕ) (spans new_spans : List LineSpan) (old new : Buffer) (line : Line) (span : LineSpan) → lines_refusal context lines ≡ None → SoFar context lines n spans old → slice_get lines n ≡ Some line → span.index ≡ n → LinePut context setting line old new span → new_spans ≡ spans ++ span ∷ [] → SoFar context lines (n + 1) new_spans new
so_far_next context setting lines n spans new_spans old new line span e s h index put pushed =
    let rule = no_rule_broken context lines e n line h in
    let p = line_appends context setting line old new span rule (lines_small context lines e n line h) s.built.sound put in
    let added = line_added context line old new span rule s.built.sound s.built.windows s.built.fields p in
    subst (λ ss. SoFar context lines (n + 1) ss new) (sym pushed) (subst (λ ls. Built context ls (spans ++ span ∷ []) new) (sym (take_next lines n line h)) (record {
      gaps = s.gaps ++ line_gap context old new span line p ∷ [];
      built = built_more context (take n lines) line spans span s.gaps (line_gap context old new span line p) old new s.built added (index ∙ sym (take_count lines n line h));
      named = named_next context (take n lines) spans line span old new rule s.named s.built.count p;
      sized = sized_next context (take n lines) line old new span rule s.sized p;
      since = since_next context (take n lines) spans s.gaps line span old new s.built s.since rule p;
      early = early_next context (take n lines) spans s.gaps line span old new s.built s.since p s.early;
      straight = straight_next context (take n lines) spans s.gaps line span old new s.built s.since added.lasts p s.straight;
    }))

-- where its call returns is within it
pub within_line : (context : Context) (setting : EmitVState) (lines : List Line) (n : ℕ) (spans : List LineSpan) (old new : Buffer) (line : Line) (span : LineSpan) → lines_refusal context lines ≡ None → SoFar context lines n spans old → slice_get lines n ≡ Some line → LinePut context setting line old new span → ReturnsWithin context.flags line span
within_line context setting lines n spans old new line span e s h put = returns_within context line old new span (line_appends context setting line old new span (no_rule_broken context lines e n line h) (lines_small context lines e n line h) s.built.sound put)

-- and is added to those of the lines before
pub returns_so_far : (context : Context) (flags : IsaFlags) (lines : List Line) (n : ℕ) (spans new_spans : List LineSpan) (b : Buffer) (returns new_returns : List CallReturn) (line : Line) (span : LineSpan) → SoFar context lines n spans b → slice_get lines n ≡ Some line → span.index ≡ n → new_spans ≡ spans ++ span ∷ [] → returns ≡ returns_from flags spans 0 (take n lines) → new_returns ≡ returns ++ line_returns flags span.index span.start line → new_returns ≡ returns_from flags new_spans 0 (take (n + 1) lines)
returns_so_far context flags lines n spans new_spans b returns new_returns line span s h index pushed before added =
    grind (arith, returns_next flags (take n lines) spans line span s.built.count, take_next lines n line h, take_count lines n line h, s.built.count)

-- after the last
at_end : (context : Context) (lines : List Line) (n : ℕ) (spans : List LineSpan) (b : Buffer) → length lines ≤ n → SoFar context lines n spans b → Built context lines spans b
at_end context lines n spans b le s = subst (λ ls. Built context ls spans b) (take_all n lines le) s

-- after the last, the buffer can be finished
pub ready : (context : Context) (lines : List Line) (n : ℕ) (spans : List LineSpan) (b : Buffer) → lines_refusal context lines ≡ None → length lines ≤ n → SoFar context lines n spans b → CanFinish label_kinds (shape_of b)
ready context lines n spans b e le s =
    let all = at_end context lines n spans b le s in
    can_finish context lines spans b all.built all.named all.sized (sum_small context lines e) (names_bound lines lines (parts context lines e).unbound)

-- and then it is finished
pub finished : (context : Context) (lines : List Line) (n : ℕ) (code : Code) (b : Buffer) → lines_refusal context lines ≡ None → length lines ≤ n → SoFar context lines n code.lines b → code.returns ≡ returns_from context.flags code.lines 0 (take n lines) → (f : Finishes label_kinds (shape_of b) code.bytes) → code.constants ≡ f.put.constants → code.labels ≡ labels_of b → code.relocs ≡ relocs_in (records_of b) → code.traps ≡ traps_in (records_of b) → code.call_sites ≡ calls_in (records_of b) → code.try_call_sites ≡ tries_in (offset_or_zero (place_of b)) (records_of b) → code.patchable_call_sites ≡ patches_in (records_of b) → code.stack_maps ≡ maps_in (records_of b) → code.unwinds ≡ unwinds_in (records_of b) → code.end ≡ length (bytes_of b) → AllByRecursion (λ b. b < 256) code.bytes → AllByRecursion SpanFits code.lines → AllByRecursion ReturnFits code.returns → RecordedFits (by_kind (place_of b) (records_of b)) → IsFinished context lines code
finished context lines n code b e le s returns f constants labels relocs traps call_sites try_call_sites patchable_call_sites stack_maps unwinds end bytes_fit spans_fit returns_fit records_fit =
    let all = at_end context lines n code.lines b le s in
    record { sink = b; gaps = all.gaps; built = all.built; named = all.named; sized = all.sized; since = all.since; early = all.early; straight = all.straight; ready = ready context lines n code.lines b e le s; finished = f; constants = constants; returns = returns ∙ ap (returns_from context.flags code.lines 0) (take_all n lines le); labels = labels; relocs = relocs; traps = traps; call_sites = call_sites; try_call_sites = try_call_sites; patchable_call_sites = patchable_call_sites; stack_maps = stack_maps; unwinds = unwinds; end = end; bytes_fit = bytes_fit; spans_fit = spans_fit; returns_fit = returns_fit; records_fit = records_fit }

-- the code is short
pub code_short : (context : Context) (lines : List Line) (n : ℕ) (spans : List LineSpan) (b : Buffer) (bytes : List ℕ) → lines_refusal context lines ≡ None → length lines ≤ n → SoFar context lines n spans b → Finishes label_kinds (shape_of b) bytes → length bytes < 2 ^ 32
code_short context lines n spans b bytes e le s f =
    let all = at_end context lines n spans b le s in
    omega (arith, finished_short context lines b bytes all.built.sound all.sized f, sum_small context lines e)
