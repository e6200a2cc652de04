-- What a line appends to the buffer, what lasts in it, and what the loop of `assemble` keeps of where lines stand.
use Rattle.rv_asm.proofs.Spans.{records_next, as_before, as_last, read_last, read_more}
use Rattle.rv_asm.proofs.Words.{[], adds_both, adds_none, AddsConstants, AllByRecursion, AllClear, AllStand, ap, append-nil, append_none, Appends, appends, arith, asked_by, before_or_last, below, Bind, BindPut, Bool, broken_rule, Buffer, bytes_of, CallReturn, CanReach, code_limit, code_long}
use Rattle.rv_asm.proofs.Words.{cond-false, cond-true, Constant, constants_after, constants_last, constants_of, ConstPlace, Context, EmitsIn, EmitVState, empty_built, end_before, end_of, EndsWithin, eq-eqb, even_length, FieldsStand, first_in, from_of, Gap, gap_last, gap_put, GapAsked, grows_put}
use Rattle.rv_asm.proofs.Words.{HasWindows, inl, inr, Inst, inst_constant, inst_records, inst_size, IsaFlags, IslandAsked, IslandIfNeeded, IsOfSize, IsSoundBuffer, label_kinds, LabelUse, Lasts, lasts_more, length, length-append, Line, line_constant, line_records, line_returns, line_space, line_sum}
use Rattle.rv_asm.proofs.Words.{LinePut, LineSpan, LinesStand, LineStands, List, MachLabel, marks_of, named_by, named_of, nat_eq, ne_eqb, None, none-some, Option, parts_are_self_contained, parts_last, parts_of, parts_put, pending, place_of, Put, recorded, records_of, refl, registered_of, Request}
use Rattle.rv_asm.proofs.Words.{request_of, Return, return_at, return_from, return_of, returns_from, ReturnsWithin, room_named, room_records, room_sound, same_Some, setting_beyond, Shape, shape_of, slice_get, Some, space_in, SpansIn, StandInTurn, StandOutside, StandsAfter, start_of, subst, suc, sym}
use Rattle.{rv_asm.proofs.Words.{to_of, uses_of, VCodeConstant, zero, ℕ, ⊎_elim, ◌%◌, ◌++◌, ◌+◌, ◌<◌, ◌∙◌, ◌∷◌, ◌≡◌, ◌≤◌, ◌⊎◌}, rv_emit.specs.EmitRuns.IsBuilt}

-- between two buffers stands nothing, or an island where one is needed
asked_gap : (flags : IsaFlags) (request : Option Request) (n : ℕ) (old new : Buffer) → IslandAsked (space_in request n) old new → IsSoundBuffer old → HasWindows old → FieldsStand (shape_of old) → GapAsked flags request (shape_of new) (length (bytes_of old)) (length (bytes_of new))
asked_gap flags None n old new same s w f = ap (λ (b : Buffer). length (bytes_of b)) (sym same)
asked_gap flags (Some r) n old new (made, room) s w f = (gap_put flags (r.space n) old new made s w f room).gap

gap_asked_last : {f g : Shape LabelUse} (flags : IsaFlags) (request : Option Request) (from to : ℕ) → GapAsked flags request f from to → Lasts label_kinds f g → GapAsked flags request g from to
gap_asked_last flags None from to gap l = gap
gap_asked_last flags (Some r) from to gap l = gap_last from to gap l

-- the bytes of an instruction are as many as it may have, around an island that it asks for
pub appended_spans : (context : Context) (inst : Inst) (old new : Buffer) → HasWindows old → FieldsStand (shape_of old) → (a : Appends context inst old new) → SpansIn context inst (shape_of new) (length (bytes_of old)) (length (bytes_of a.mid)) (length (bytes_of a.last)) (length (bytes_of new))
appended_spans context inst old new w f a =
    let kept = a.stands w f in
    let first = code_long a.first in
    let last : length (bytes_of new) ≡ length (bytes_of a.last) + length a.code = ap length a.adds.bytes ∙ length-append (bytes_of a.last) a.code in
    record {
      first = omega (arith, first);
      gap = gap_asked_last context.flags (request_of context inst) _ _ (asked_gap context.flags (request_of context inst) (length a.code) a.mid a.last a.island a.first.sound kept.0 kept.1) a.lasts;
      last = omega (arith, last);
      begins = subst (IsOfSize (first_in (request_of context inst))) (omega (arith, first)) a.begins;
      size = subst (IsOfSize (inst_size context inst)) (omega (arith, first, last)) a.fits;
      least = λ some. let l = a.least some in record { returns = λ r e. omega (arith, l.returns r e, first); filled = omega (arith, l.filled, last) };
      back = a.back;
    }

-- an instruction, after an island where one was needed
pub record InstAppends (context : Context) (inst : Inst) (old new : Buffer) (span : LineSpan) : Type 0 where
  pub mid : Buffer
  pub made : Bool
  pub room : IslandIfNeeded line_space old mid made
  pub setting : EmitVState
  pub puts : EmitsIn context setting inst mid new
  pub emitted : Appends context inst mid new
  pub reach : CanReach (length (bytes_of new)) (pending new)
  pub start : span.start ≡ length (bytes_of mid)
  pub end : span.end ≡ length (bytes_of new)

abbrev pub LineAppends : (context : Context) → Line → Buffer → Buffer → LineSpan → Type 0
LineAppends context (Put inst) old new span = InstAppends context inst old new span
LineAppends context (Bind label) old new span = BindPut label old new span

-- where an island stands in it, or may
abbrev pub line_gap : (context : Context) (old new : Buffer) (span : LineSpan) (line : Line) → LineAppends context line old new span → Gap
line_gap context old new span (Put inst) p = record { from = length (bytes_of p.emitted.mid); to = length (bytes_of p.emitted.last) }
line_gap context old new span (Bind label) p = record { from = length (bytes_of old); to = length (bytes_of old) }

pub line_appends : (context : Context) (setting : EmitVState) (line : Line) (old new : Buffer) (span : LineSpan) → broken_rule context line ≡ None → line_sum context line ≤ code_limit → IsSoundBuffer old → LinePut context setting line old new span → LineAppends context line old new span
line_appends context setting (Put inst) old new span rule small sound p = record {
  mid = p.mid;
  made = p.made;
  room = p.room;
  setting = setting_beyond p.made setting;
  puts = p.emitted;
  emitted = appends context (setting_beyond p.made setting) inst p.mid new rule small (room_sound line_space old p.mid p.made p.room sound) p.emitted;
  reach = p.reach;
  start = p.start;
  end = p.end;
}
line_appends context setting (Bind label) old new span rule small sound p = p

-- ==== What stands in a buffer lasts, and what a line adds.

-- what lasts from one buffer to another
abbrev pub LastsTo : Buffer → Buffer → Type 0
LastsTo old new = Lasts label_kinds (shape_of old) (shape_of new)

line_lasts : (context : Context) (line : Line) (old new : Buffer) → LastsTo old new → (start from to end : ℕ) → LineStands context line old start from to end → LineStands context line new start from to end
line_lasts context (Put inst) old new l start from to end (setting, parts, spans) = (setting, parts_last context.flags (parts_of context setting inst) start end parts l, record { first = spans.first; gap = gap_asked_last context.flags (request_of context inst) from to spans.gap l; last = spans.last; begins = spans.begins; size = spans.size; least = spans.least; back = spans.back })
line_lasts context (Bind label) old new l start from to end (same, bound, none) = (same, l.grows.places label.number start bound, none)

pub stands_last : (context : Context) (line : Line) (old new : Buffer) → LastsTo old new → (before start from to end : ℕ) → StandsAfter context line old before start from to end → StandsAfter context line new before start from to end
stands_last context line old new l before start from to end h = record {
  gap = gap_last before start h.gap l;
  there = line_lasts context line old new l start from to end h.there;
  even = h.even;
  within = let a = h.within in let b = l.grows.longer in omega arith;
  ends = let a = h.ends in let b = l.grows.longer in omega arith;
}

-- ---- the constants that come to stand

-- no constant has a byte among the bytes of an instruction
abbrev pub HoldsNone : Line → Buffer → ℕ → ℕ → ℕ → ℕ → Type 0
HoldsNone (Put inst) b start from to end = StandOutside (registered_of b) (constants_of b) start from × StandOutside (registered_of b) (constants_of b) to end
HoldsNone (Bind label) b start from to end = Unit {0}

-- those that stand end before words that are put, or begin after them
words_apart : (old mid new : Buffer) → StandInTurn (shape_of old) → constants_of mid ≡ constants_of old → registered_of new ≡ registered_of old → AddsConstants (shape_of mid) (shape_of new) → StandOutside (registered_of new) (constants_of new) (length (bytes_of old)) (length (bytes_of mid))
words_apart old mid new turn same known adds j c k hc hk = ⊎_elim
    (λ stood. inr (turn.within j c k (ap (λ (cs : List ConstPlace). slice_get cs j) (sym same) ∙ stood) (ap (λ (ks : List Constant). slice_get ks c.constant.number) (sym known) ∙ hk)))
    (λ after. inl after) (adds.fresh j c hc)

appended_apart : (context : Context) (inst : Inst) (old new : Buffer) → StandInTurn (shape_of old) → (a : Appends context inst old new) → HoldsNone (Put inst) new (length (bytes_of old)) (length (bytes_of a.mid)) (length (bytes_of a.last)) (length (bytes_of new))
appended_apart context inst old new turn a =
    let first : AddsConstants (shape_of old) (shape_of a.mid) = let long = code_long a.first in adds_none (omega (arith, long)) a.first.constants a.first.registered in
    let island = asked_by (λ b. AddsConstants (shape_of a.mid) (shape_of b)) _ a.mid a.last a.island (adds_none (omega arith) refl refl) (λ put. put.adds) in
    let last : AddsConstants (shape_of a.last) (shape_of new) = adds_none a.lasts.grows.longer a.adds.constants a.adds.registered in (
      words_apart old a.mid new turn a.first.constants (last.registered ∙ island.registered ∙ first.registered) (adds_both island last),
      words_apart a.last new new (island.in_turn (first.in_turn turn)) a.adds.constants a.adds.registered (adds_none (omega arith) refl refl),
    )

-- ---- a line

-- after what stood there the line was put, at its span
pub record LineAdded (context : Context) (line : Line) (old new : Buffer) (span : LineSpan) (gap : Gap) : Type 0 where
  pub lasts : LastsTo old new
  pub stands : StandsAfter context line new (length (bytes_of old)) span.start gap.from gap.to span.end
  pub end : span.end ≡ length (bytes_of new)
  pub windows : HasWindows new
  pub fields : FieldsStand (shape_of new)
  pub sound : IsSoundBuffer new
  pub first : uses_of old ≡ [] → span.start ≡ length (bytes_of old)
  pub records : records_of new ≡ records_of old ++ line_records context span.start span.end line
  pub named : named_of new ≡ named_by (line_constant line) (named_of old)
  pub constants : AllStand label_kinds (shape_of old) → AllStand label_kinds (shape_of new)
  pub adds : AddsConstants (shape_of old) (shape_of new)
  pub apart : StandInTurn (shape_of old) → HoldsNone line new span.start gap.from gap.to span.end

-- ---- a bind

bind_lasts : (label : MachLabel) (old new : Buffer) (span : LineSpan) → BindPut label old new span → LastsTo old new
bind_lasts label old new span p = record {
  grows = grows_put [] [] (λ k u h. absurd (cc)) (bytes_of new) (uses_of new) (place_of new) (p.bytes ∙ sym (append_none (bytes_of old))) (ap recorded p.uses ∙ sym (append_none (recorded (uses_of old))))
      (λ other to h. p.kept other (λ e. none-some to (sym p.unbound ∙ ap (place_of old) (sym e) ∙ h)) ∙ h);
  straight = λ j u h bare reached. ap (λ us. slice_get us j) p.uses ∙ h;
  allocated = let e = p.allocated in omega arith;
  records = record { stay = λ k r h. ap (λ rs. slice_get rs k) p.records ∙ h; later = λ k r h. inl (ap (λ rs. slice_get rs k) (sym p.records) ∙ h) };
  registered = p.registered;
  named = λ i k h. ap (λ ks. slice_get ks i) p.named ∙ h;
  constants = λ j c h. ap (λ cs. slice_get cs j) p.constants ∙ h;
}

pub line_added : (context : Context) (line : Line) (old new : Buffer) (span : LineSpan) → broken_rule context line ≡ None → IsSoundBuffer old → HasWindows old → FieldsStand (shape_of old) → (p : LineAppends context line old new span) → LineAdded context line old new span (line_gap context old new span line p)
line_added context (Put inst) old new span rule s w f p =
    let a = p.emitted in
    let from = length (bytes_of a.mid) in
    let to = length (bytes_of a.last) in
    let room = gap_put context.flags line_space old p.mid p.made s w f p.room in
    let put = parts_put context.flags (parts_of context p.setting inst) p.mid new (parts_are_self_contained context p.setting inst rule) room.sound room.windows room.fields p.puts in
    record {
      lasts = lasts_more room.lasts put.lasts;
      stands = subst (λ n. StandsAfter context (Put inst) new (length (bytes_of old)) n from to span.end) (sym p.start) (record {
        gap = gap_last (length (bytes_of old)) (length (bytes_of p.mid)) room.gap put.lasts;
        there = subst (LineStands context (Put inst) new (length (bytes_of p.mid)) from to) (sym p.end) (p.setting, put.stand, appended_spans context inst p.mid new room.windows room.fields a);
        even = even_length label_kinds p.mid room.sound;
        within = put.lasts.grows.longer;
        ends = let e = p.end in omega (arith, e);
      });
      end = p.end;
      windows = put.windows;
      fields = put.fields;
      sound = put.sound;
      first = λ h. p.start ∙ grind (arith, p.room.put, p.room.asked, h);
      records = a.records ∙ (λ i. room_records line_space old p.mid p.made p.room i ++ inst_records context (sym p.start i) (sym p.end i) inst);
      named = a.named ∙ ap (named_by (inst_constant inst)) (room_named line_space old p.mid p.made p.room);
      constants = λ h. put.constants (room.constants h);
      adds = adds_both room.adds put.adds;
      apart = λ turn. subst (λ n. HoldsNone (Put inst) new n from to span.end) (sym p.start) (subst (HoldsNone (Put inst) new (length (bytes_of p.mid)) from to) (sym p.end) (appended_apart context inst p.mid new (room.adds.in_turn turn) a));
    }
line_added context (Bind label) old new span rule s w f p = record {
  lasts = bind_lasts label old new span p;
  stands = record {
    gap = inl (sym p.start);
    there = (p.start ∙ sym p.end, subst (λ n. place_of new label.number ≡ Some n) (sym p.start) p.bound, refl);
    even = ap (λ n. n % 2) p.start ∙ even_length label_kinds old s;
    within = let e = p.start in let same : length (bytes_of new) ≡ length (bytes_of old) = ap (length {A = ℕ}) p.bytes in omega arith;
    ends = let e = p.end in let same : length (bytes_of new) ≡ length (bytes_of old) = ap (length {A = ℕ}) p.bytes in omega arith;
  };
  end = p.end ∙ ap (length {A = ℕ}) (sym p.bytes);
  windows = rw (p.bytes, p.uses) w;
  fields = record {
    ends = λ k r h. subst (λ (bs : List ℕ). EndsWithin (length bs) r.offset r.event) (sym p.bytes) (f.ends k r (ap (λ rs. slice_get rs k) (sym p.records) ∙ h));
    clear = λ j u h. subst (λ rs. AllClear rs u.offset (length (marks_of u.kind))) (sym p.records) (f.clear j u (ap (λ us. slice_get us j) (sym p.uses) ∙ h));
  };
  sound = p.sound;
  first = λ h. p.start;
  records = p.records ∙ sym (append-nil (records_of old));
  named = p.named;
  constants = λ h. constants_last (bind_lasts label old new span p) p.constants h;
  adds = adds_none (bind_lasts label old new span p).grows.longer p.constants p.registered;
  apart = λ turn. tt;
}

-- ---- constants apart from an instruction

-- constants that come to stand after an offset don't touch what ends by it
pub outside_more : (registered : List Constant) (old new : List ConstPlace) (by from to : ℕ) → to ≤ by → ((j : ℕ) (c : ConstPlace) → slice_get new j ≡ Some c → (slice_get old j ≡ Some c) ⊎ (by ≤ c.offset)) → StandOutside registered old from to → StandOutside registered new from to
outside_more registered old new by from to le fresh apart j c k hc hk = ⊎_elim (λ stood. apart j c k stood hk) (λ after. inl (omega (arith, le, after))) (fresh j c hc)

pub gap_within : (flags : IsaFlags) (request : Option Request) (f : Shape LabelUse) (from to : ℕ) → GapAsked flags request f from to → from ≤ to
gap_within flags None f from to same = omega arith
gap_within flags (Some r) f from to gap = ⊎_elim (λ same. omega arith) (λ island. let longer = island.longer in omega (arith, longer)) gap

-- ==== What the loop of `assemble` keeps: of no lines, and of one line more.

-- no line stands in an empty buffer
pub built_none : (context : Context) (b : Buffer) → bytes_of b ≡ [] → uses_of b ≡ [] → records_of b ≡ [] → registered_of b ≡ context.constants → named_of b ≡ [] → constants_of b ≡ [] → IsSoundBuffer b → LinesStand context [] [] [] b
built_none context b eb eu et er en ec s = record {
  count = refl;
  gap_count = refl;
  indices = λ i x h. absurd (cc);
  each = λ i line h. absurd (cc);
  ends = ap (length {A = ℕ}) eb;
  first = refl;
  nothing = λ e. eu;
  records = et;
  registered = er;
  named = en;
  stand = built.constants;
  in_turn = record { ascend = λ i j c d k lt h hd hk. absurd (none_there i c h); within = λ j c k h hk. absurd (none_there j c h) };
  apart = λ i inst h. absurd (cc);
  windows = built.windows;
  fields = built.fields;
  sound = s;
}
  where
    built : IsBuilt b
    built = empty_built b eb eu et ec s

    none_there : (j : ℕ) (c : ConstPlace) → slice_get (constants_of b) j ≡ Some c → ⊥
    none_there j c h = none-some c (sym (ap (λ cs. slice_get cs j) ec) ∙ h)

-- the constants that a line more names
constants_more : (named : List VCodeConstant) (lines : List Line) (line : Line) → constants_after named (lines ++ line ∷ []) ≡ named_by (line_constant line) (constants_after named lines)
constants_more named [] line = refl
constants_more named (first ∷ lines) line = constants_more (named_by (line_constant first) named) lines line

-- ---- one line more

module _ (context : Context) (lines : List Line) (line : Line) (spans : List LineSpan) (span : LineSpan) (gaps : List Gap) (gap : Gap) (old new : Buffer) (b : LinesStand context lines spans gaps old) (a : LineAdded context line old new span gap) where
  abbrev all : List LineSpan
  all = spans ++ span ∷ []

  abbrev all_gaps : List Gap
  all_gaps = gaps ++ gap ∷ []

  each : (i : ℕ) (l : Line) → (slice_get lines i ≡ Some l) ⊎ ((i ≡ length lines) × (line ≡ l)) → StandsAfter context l new (end_before all i) (start_of all i) (from_of all_gaps i) (to_of all_gaps i) (end_of all i)
  each i l (inl h) =
      let lt = below lines i l h in
      as_before (StandsAfter context l new) spans (span ∷ []) gaps (gap ∷ []) i (omega (arith, b.count, lt)) (omega (arith, b.gap_count, lt)) (stands_last context l old new a.lasts (end_before spans i) (start_of spans i) (from_of gaps i) (to_of gaps i) (end_of spans i) (b.each i l h))
  each i l (inr (e, is)) =
      as_last (StandsAfter context l new) spans span gaps gap i (omega (arith, b.count, e)) (omega (arith, b.gap_count, e)) (subst (λ n. StandsAfter context l new n span.start gap.from gap.to span.end) (b.ends ∙ ap (end_before spans) (sym e)) (subst (λ x. StandsAfter context x new (length (bytes_of old)) span.start gap.from gap.to span.end) is a.stands))

  first : (ls : List Line) → lines ≡ ls → start_of all 0 ≡ 0
  first [] e = let at : 0 ≡ length spans = sym (b.count ∙ ap length e) in ap (start_of all) at ∙ read_last spans span (λ x. x.start) ∙ a.first (b.nothing (ap length e)) ∙ b.ends ∙ ap (λ ls. end_before spans (length ls)) e
  first (l ∷ ls) e = let some : length lines ≡ suc (length ls) = ap length e in read_more spans (span ∷ []) (λ x. x.start) 0 (omega (arith, b.count, some)) ∙ b.first

  abbrev Apart : ℕ → ℕ → ℕ → ℕ → ℕ → Type 0
  Apart before start from to end = StandOutside context.constants (constants_of new) start from × StandOutside context.constants (constants_of new) to end

  -- from a line that stood, since it ends before constants that are new begin; from the last, since those that stand end before it
  apart : (i : ℕ) (inst : Inst) → (slice_get lines i ≡ Some (Put inst)) ⊎ ((i ≡ length lines) × (line ≡ Put inst)) → Apart (end_before all i) (start_of all i) (from_of all_gaps i) (to_of all_gaps i) (end_of all i)
  apart i inst (inl h) =
      let stood = b.each i (Put inst) h in
      let lt = below lines i (Put inst) h in
      let spread = stood.there.2 in
      let le = gap_within context.flags (request_of context inst) (shape_of old) (from_of gaps i) (to_of gaps i) spread.gap in
      let was = b.apart i inst h in
      as_before Apart spans (span ∷ []) gaps (gap ∷ []) i (omega (arith, b.count, lt)) (omega (arith, b.gap_count, lt)) (
        outside_more context.constants (constants_of old) (constants_of new) (length (bytes_of old)) (start_of spans i) (from_of gaps i) (omega (arith, le, spread.last, stood.ends)) a.adds.fresh was.0,
        outside_more context.constants (constants_of old) (constants_of new) (length (bytes_of old)) (to_of gaps i) (end_of spans i) stood.ends a.adds.fresh was.1,
      )
  apart i inst (inr (e, is)) =
      as_last Apart spans span gaps gap i (omega (arith, b.count, e)) (omega (arith, b.gap_count, e))
      (subst (λ known. StandOutside known (constants_of new) span.start gap.from × StandOutside known (constants_of new) gap.to span.end) (a.lasts.registered ∙ b.registered)
      (subst (λ l. HoldsNone l new span.start gap.from gap.to span.end) is (a.apart b.in_turn)))

  pub built_more : span.index ≡ length lines → LinesStand context (lines ++ line ∷ []) all all_gaps new
  built_more index = record {
    count = length-append spans (span ∷ []) ∙ ap (λ n. n + 1) b.count ∙ sym (length-append lines (line ∷ []));
    gap_count = length-append gaps (gap ∷ []) ∙ ap (λ n. n + 1) b.gap_count ∙ sym (length-append lines (line ∷ []));
    indices = λ i s h. ⊎_elim (b.indices i s) (λ x. let e = x.0 in let k : s.index ≡ span.index = ap (λ (t : LineSpan). t.index) (sym x.1) in omega (arith, b.count, index, e, k)) (before_or_last spans span i s h);
    each = λ i l h. each i l (before_or_last lines line i l h);
    ends = sym a.end ∙ sym (read_last spans span (λ x. x.end)) ∙ ap (end_before all) (ap suc b.count ∙ omega (arith, length-append lines (line ∷ [])));
    first = first lines refl;
    nothing = λ e. absurd (omega (arith, length-append lines (line ∷ []), e));
    records = a.records ∙ ap (λ ts. ts ++ line_records context span.start span.end line) b.records ∙ sym (records_next context lines spans line span b.count);
    registered = a.lasts.registered ∙ b.registered;
    named = a.named ∙ ap (named_by (line_constant line)) b.named ∙ sym (constants_more [] lines line);
    stand = a.constants b.stand;
    in_turn = a.adds.in_turn b.in_turn;
    apart = λ i inst h. apart i inst (before_or_last lines line i (Put inst) h);
    windows = a.windows;
    fields = a.fields;
    sound = a.sound;
  }

-- ==== Where the calls of lines return: of one line more, and the one that is found by a line's index.

-- ---- a call returns within its line

returned : (i start : ℕ) (returns : Option Return) (end : ℕ) → ((r : Return) → returns ≡ Some r → start + r.offset ≤ end) → AllByRecursion (λ (r : CallReturn). r.offset ≤ end) (return_from i start returns)
returned i start None end within = tt
returned i start (Some r) end within = (within r refl, tt)

pub returns_within : (context : Context) (line : Line) (old new : Buffer) (span : LineSpan) → LineAppends context line old new span → ReturnsWithin context.flags line span
returns_within context (Put inst) old new span p = returned span.index span.start (return_of context.flags inst) span.end (λ r e. omega (arith, p.emitted.back.returns r e, p.start, p.end))
returns_within context (Bind label) old new span p = tt

-- ---- the first return with an index

first_return : (i start : ℕ) (returned : Option Return) (r : Return) (more : List CallReturn) → returned ≡ Some r → return_at (return_from i start returned ++ more) i ≡ start + r.offset
first_return i start None r more e = absurd (cc)
first_return i start (Some x) r more e = cond-true (nat_eq i i) (start + x.offset) (return_at more i) (eq-eqb i i refl) ∙ ap (λ (y : Return). start + y.offset) (same_Some x r e)

later_return : (i j start : ℕ) (returned : Option Return) (more : List CallReturn) → i < j → return_at (return_from i start returned ++ more) j ≡ return_at more j
later_return i j start None more lt = refl
later_return i j start (Some x) more lt = cond-false (nat_eq i j) (start + x.offset) (return_at more j) (ne_eqb i j (λ same. absurd (omega arith)))

later_line : (flags : IsaFlags) (i j start : ℕ) (line : Line) (more : List CallReturn) → i < j → return_at (line_returns flags i start line ++ more) j ≡ return_at more j
later_line flags i j start (Put inst) more lt = later_return i j start (return_of flags inst) more lt
later_line flags i j start (Bind label) more lt = refl

-- of a line, whose index is i and some
pub found_from : (flags : IsaFlags) (spans : List LineSpan) (i k : ℕ) (lines : List Line) (inst : Inst) (r : Return) → slice_get lines k ≡ Some (Put inst) → return_of flags inst ≡ Some r → return_at (returns_from flags spans i lines) (k + i) ≡ start_of spans (k + i) + r.offset
found_from flags spans i k [] inst r e returned = absurd (cc)
found_from flags spans i zero (line ∷ lines) inst r e returned =
    grind (arith, first_return i (start_of spans i) (return_of flags inst) r (returns_from flags spans (suc i) lines) returned)
found_from flags spans i (suc k) (line ∷ lines) inst r e returned =
    grind (arith, later_line flags i (suc k + i) (start_of spans i) line (returns_from flags spans (suc i) lines) (omega arith), found_from flags spans (suc i) k lines inst r e returned)
