-- Labels that an instruction allocates and binds itself, and the pieces that name them.
use Rattle.rv_code.{proofs.MadeOfPieces.{binds_none, jump_reach}, specs.Pieces.{LoadFrom, Note, Name, Constant, NameAddress, OfLabel, Take, literal_size}, specs.Slots.uses_of}
use Rattle.rv_emit.proofs.Terms.{jump_len, jump_size, plain_keeps, pos, ◌≡◌, ℕ, ◌+◌, Bool, true, false, List, [], ◌∷◌, length, Some, refl, ap, sym, ◌∙◌, arith, ◌≢◌, inl, inr, ◌<◌, ◌≤◌, ◌++◌, Option, None, subst, nat_eq, if◌then◌else◌, nat_lt, is_some, ◌&&◌, eqb-true}
use Rattle.rv_emit.proofs.Terms.{le-leb, same_Some, IsaFlags, LabelUse, Shape, IsUsable, placed_same, few_allocated, use_usable, placed_other, Slot, Allocate, Here, own_label, here_at, PutsSlot, Puts, slot_bytes, lasts_after_slots, puts_bytes, puts_uses, puts_named}
use Rattle.rv_emit.proofs.Terms.{puts_constants, puts_records, nat_tests, append-nil, MachLabel, first_inner, inner_count, is_reached, shape_of, bytes_of, place_of, allocated_of, named_of, Context, jump_kind, label_kinds, forward_of, backward_of, has_veneer_of}
use Rattle.rv_emit.proofs.Terms.{inst_records, inst_size, IsOfSize, HasReturn, Appends, adds_alone, use_at, Inst, B12, Jal20, RVCJump, slots_alone, Piece, Do, Branch, Jump, New, Bind, Go, slots_for, slots_of, piece_size, pieces_size, after, own_labels, AreAmong}
use Rattle.{rv_emit.proofs.Terms.{GoNowhere, pieces_long, pieces_few, IsMadeOf, pieces_name, PutsParts, Buffer, IsSoundBuffer, IsOwnUse, zero, suc, slice_get, drop, length-drop}, std.proofs.lemmas.List.take-append-drop}
use Rattle.mach_records.specs.declared.records.Event.TheVariants as event

-- what holds of each element
abbrev pub Each : {X : Type 0} → (X → Type 0) → List X → Type 0
Each {X} P xs = (k : ℕ) (x : X) → slice_get xs k ≡ Some x → P x

pub each_none : {X : Type 0} (P : X → Type 0) → Each P []
each_none P k x h = absurd (cc)

pub each_more : {X : Type 0} (P : X → Type 0) (x : X) (xs : List X) → P x → Each P xs → Each P (x ∷ xs)
each_more P x xs p rest zero y h = subst P (same_Some _ _ h) p
each_more P x xs p rest (suc k) y h = rest k y h

-- ---- labels

-- a label that is bound at the end of the bytes is bound there from then on
pub bound_here : (flags : IsaFlags) (allocated k : ℕ) (slots : List Slot) (s mid t : Shape LabelUse) → PutsSlot flags allocated (Here k) s mid → Puts flags allocated slots mid t → t.place (own_label allocated k).number ≡ Some (length s.bytes)
bound_here flags allocated k slots s mid t p q =
    (lasts_after_slots flags allocated slots mid t q).grows.places (own_label allocated k).number (length s.bytes)
    ((λ i. (p.1 i).place (own_label allocated k).number) ∙ placed_same s.place (own_label allocated k).number (length s.bytes))

-- each own label of slots is bound where they say, counted from an offset
pub own_bound : (flags : IsaFlags) (allocated from : ℕ) (slots : List Slot) (at : ℕ) (s t : Shape LabelUse) → Puts flags allocated slots s t → length s.bytes ≡ from + at → (k to : ℕ) → here_at k at slots ≡ Some to → t.place (own_label allocated k).number ≡ Some (from + to)
own_bound flags allocated from [] at s t p e k to h = absurd (cc)
own_bound flags allocated from (Here j ∷ slots) at s t p e k to h = on (nat_eq j k) refl (own_bound flags allocated from slots at p.0 t p.2 (let l = slot_bytes flags allocated (Here j) s p.0 p.1 in omega arith) k to) h
  where
    on : (c : Bool) → nat_eq j k ≡ c → (here_at k at slots ≡ Some to → t.place (own_label allocated k).number ≡ Some (from + to)) → (if c then Some at else here_at k at slots) ≡ Some to → t.place (own_label allocated k).number ≡ Some (from + to)
    on true is rest here =
        (λ i. t.place (own_label allocated (sym (eqb-true j k is) i)).number) ∙ bound_here flags allocated j slots s p.0 t p.1 p.2
        ∙ ap (λ (n : ℕ). Some n) (e ∙ ap (λ n. from + n) (same_Some at to here))
    on false is rest here = rest here
own_bound flags allocated from (slot ∷ slots) at s t p e k to h = let l = slot_bytes flags allocated slot s p.0 p.1 in own_bound flags allocated from slots _ p.0 t p.2 (omega arith) k to h

-- ---- pieces

-- so many labels of a sequence's own, from that one on
abbrev IsOther : ℕ → ℕ → ℕ → Type 0
IsOther a total label = (k : ℕ) → k < total → label ≢ (own_label a k).number

-- labels were added; other labels' places are as they were
record AddsOwn (a total news : ℕ) (s t : Shape LabelUse) : Type 0 where
  labels : t.labels ≡ s.labels
  allocated : t.allocated ≡ s.allocated + news
  places : (label : ℕ) → IsOther a total label → t.place label ≡ s.place label

-- none was
adds_none : {a total : ℕ} (s m t : Shape LabelUse) → t ≡ m → m.labels ≡ s.labels → m.allocated ≡ s.allocated → m.place ≡ s.place → AddsOwn a total 0 s t
adds_none s m t e labels allocated place = record { labels = ap (λ x. x.labels) e ∙ labels; allocated = ap (λ x. x.allocated) e ∙ allocated ∙ omega arith; places = λ label other. ap (λ x. x.place label) e ∙ ap (λ p. p label) place }

adds_both : {a total m n : ℕ} {s t u : Shape LabelUse} → AddsOwn a total m s t → AddsOwn a total n t u → AddsOwn a total (m + n) s u
adds_both x y = record { labels = y.labels ∙ x.labels; allocated = let e = x.allocated in let f = y.allocated in omega arith; places = λ label other. y.places label other ∙ x.places label other }

-- one piece does
adds_piece : (flags : IsaFlags) (a total : ℕ) (p : Piece) (s t : Shape LabelUse) → AreAmong total (p ∷ []) → Puts flags a (slots_for flags p) s t → AddsOwn a total (own_labels (p ∷ [])) s t
adds_piece flags a total New s t among put = let e = put.2 ∙ put.1 in record { labels = ap (λ x. x.labels) e; allocated = ap (λ x. x.allocated) e; places = λ label other. ap (λ x. x.place label) e }
adds_piece flags a total (Bind k) s t among put =
    let e = put.2 ∙ put.1.1 in
    let own = own_label a k in
    let high : nat_lt own.number first_inner ≡ false = grind (arith, nat_tests) in
    record {
      labels = ap (λ x. x.labels) e ∙ ap (λ c. s.labels ++ (if c then (record { label = own; offset = length s.bytes }) ∷ [] else [])) high ∙ append-nil s.labels;
      allocated = ap (λ x. x.allocated) e ∙ omega arith;
      places = λ label other. ap (λ x. x.place label) e ∙ placed_other s.place own.number (length s.bytes) label (other k among.0);
    }
adds_piece flags a total p s t among put = let kept = plain_keeps flags a (slots_for flags p) s t (binds_none flags p tt) put in adds_none s t t refl kept.1 kept.2 kept.0

-- slots, and others after them
puts_split : (flags : IsaFlags) (a : ℕ) (slots more : List Slot) (s t : Shape LabelUse) → Puts flags a (slots ++ more) s t → (m : Shape LabelUse) × Puts flags a slots s m × Puts flags a more m t
puts_split flags a [] more s t p = (s, refl, p)
puts_split flags a (slot ∷ slots) more s t (m, put, q) = let r = puts_split flags a slots more m t q in (r.0, (m, put, r.1), r.2)

own_split : (p : Piece) (ps : List Piece) → own_labels (p ∷ ps) ≡ own_labels (p ∷ []) + own_labels ps
own_split (Do d) ps = omega arith
own_split p ps = omega arith

among_split : (total : ℕ) (p : Piece) (ps : List Piece) → AreAmong total (p ∷ ps) → AreAmong total (p ∷ []) × AreAmong total ps
among_split total (Branch how a b k) ps h = ((h.0, tt), h.1)
among_split total (Jump k) ps h = ((h.0, tt), h.1)
among_split total (Bind k) ps h = ((h.0, tt), h.1)
among_split total p ps h = (tt, h)

adds : (flags : IsaFlags) (a total : ℕ) (ps : List Piece) (s t : Shape LabelUse) → AreAmong total ps → Puts flags a (slots_of flags ps) s t → AddsOwn a total (own_labels ps) s t
adds flags a total [] s t among p = adds_none s s t p refl refl refl
adds flags a total (p ∷ ps) s t among puts =
    let b = among_split total p ps among in
    let r = puts_split flags a (slots_for flags p) (slots_of flags ps) s t puts in
    subst (λ n. AddsOwn a total n s t) (sym (own_split p ps)) (adds_both (adds_piece flags a total p s r.0 b.0 r.1) (adds flags a total ps r.0 t b.1 r.2))

-- ---- an own label that is bound among them

record IsBoundAmong (a k : ℕ) (s t : Shape LabelUse) : Type 0 where
  before : s.place (own_label a k).number ≡ None
  to : ℕ
  there : t.place (own_label a k).number ≡ Some to
  low : length s.bytes ≤ to
  high : to ≤ length t.bytes

-- no label was bound by the first
later : {a k : ℕ} {s m t : Shape LabelUse} (n : ℕ) → length m.bytes ≡ length s.bytes + n → m.place (own_label a k).number ≡ s.place (own_label a k).number → IsBoundAmong a k m t → IsBoundAmong a k s t
later n long same b = record { before = sym same ∙ b.before; to = b.to; there = b.there; low = let l = b.low in omega arith; high = b.high }

bound : (flags : IsaFlags) (a k : ℕ) (ps qs : List Piece) (s t : Shape LabelUse) → after k ps ≡ Some qs → Puts flags a (slots_of flags ps) s t → IsBoundAmong a k s t
bound flags a k [] qs s t e p = absurd (cc)
bound flags a k (New ∷ ps) qs s t e (m, put, q) = later _ (slot_bytes flags a Allocate s m put) (ap (λ x. x.place (own_label a k).number) put) (bound flags a k ps qs m t e q)
bound flags a k (Bind j ∷ ps) qs s t e (m, put, q) = by (nat_eq j k) refl e (λ f. bound flags a k ps qs m t f q)
  where
    apart : nat_eq j k ≡ false → (own_label a k).number ≢ (own_label a j).number
    apart test = let d : j ≢ k = grind (arith, nat_tests) in λ same. d (omega arith)

    by : (c : Bool) → nat_eq j k ≡ c → (if c then Some ps else after k ps) ≡ Some qs → (after k ps ≡ Some qs → IsBoundAmong a k m t) → IsBoundAmong a k s t
    by true test e rest =
        let same : j ≡ k = eqb-true j k test in
        let there : m.place (own_label a j).number ≡ Some (length s.bytes) = ap (λ x. x.place (own_label a j).number) put.1 ∙ placed_same s.place (own_label a j).number (length s.bytes) in
        subst (λ n. IsBoundAmong a n s t) same (record { before = put.0; to = length s.bytes; low = omega arith; high = omega (arith, slot_bytes flags a (Here j) s m put, puts_bytes flags a (slots_of flags ps) m t q); there = (lasts_after_slots flags a (slots_of flags ps) m t q).grows.places (own_label a j).number (length s.bytes) there })
    by false test e rest = later _ (slot_bytes flags a (Here j) s m put) (ap (λ x. x.place (own_label a k).number) put.1 ∙ placed_other s.place (own_label a j).number (length s.bytes) (own_label a k).number (apart test)) (rest e)
bound flags a k (p ∷ ps) qs s t e puts =
    let slots = slots_for flags p in
    let r = puts_split flags a slots (slots_of flags ps) s t puts in
    later _ (puts_bytes flags a slots s r.0 r.1) (ap (λ place. place (own_label a k).number) (plain_keeps flags a slots s r.0 (binds_none flags p tt) r.1).0) (bound flags a k ps qs r.0 t e r.2)

-- ---- the uses of own labels

-- a label that stands near a use is in its reach
pub near : (kind : LabelUse) (label : MachLabel) (place : Option ℕ) (at to : ℕ) → place ≡ Some to → to ≤ at + forward_of kind → at ≤ to + backward_of kind → is_reached label_kinds place (use_at at label kind) ≡ true
near kind label place at to e forward backward =
    ap (λ o. is_reached label_kinds o (use_at at label kind)) e
    ∙ (λ i. le-leb to (at + forward_of kind) forward i && le-leb at (to + backward_of kind) backward i)

pub jump_served : (flags : IsaFlags) → has_veneer_of (jump_kind flags) ≡ true
jump_served flags = elim flags.has_zca as (λ c. has_veneer_of (if c then RVCJump else Jal20) ≡ true) [ true ↦ refl | false ↦ refl ]

each_own : (flags : IsaFlags) (a total at : ℕ) (s t : Shape LabelUse) (ps : List Piece) → at + pieces_size flags ps ≤ length t.bytes → length s.bytes ≤ at → length t.bytes ≤ length s.bytes + 2046 → GoNowhere ps → AreAmong total ps → ((k : ℕ) → k < total → IsBoundAmong a k s t) → Each (IsOwnUse total a t.place) (uses_of a at (slots_of flags ps))
each_own flags a total at s t [] le low small nowhere among all = each_none _
each_own flags a total at s t (Branch how x y k ∷ ps) le low small nowhere among all =
    let p = all k among.0 in
    each_more (IsOwnUse total a t.place) (use_at at (own_label a k) B12) _ (record { index = k; own = among.0; names = refl; served = refl; bare = refl; reached = near B12 (own_label a k) _ at p.to p.there (omega (arith, p.high)) (omega (arith, p.low)) })
    (each_own flags a total (at + 4) s t ps (omega arith) (omega arith) small nowhere among.1 all)
each_own flags a total at s t (Jump k ∷ ps) le low small nowhere among all =
    let p = all k among.0 in
    let r = jump_reach flags in
    each_more (IsOwnUse total a t.place) (use_at at (own_label a k) (jump_kind flags)) _ (record { index = k; own = among.0; names = refl; served = jump_served flags; bare = refl; reached = near (jump_kind flags) (own_label a k) _ at p.to p.there (omega (arith, p.high, r.0)) (omega (arith, p.low, r.1)) })
    (each_own flags a total (at + piece_size flags (Jump k)) s t ps (omega arith) (omega arith) small nowhere among.1 all)
each_own flags a total at s t (Bind k ∷ ps) le low small nowhere among all = each_own flags a total at s t ps (omega arith) low small nowhere among.1 all
each_own flags a total at s t (Go l ∷ ps) le low small nowhere among all = absurd nowhere
each_own flags a total at s t (Take rd (OfLabel l) ∷ ps) le low small nowhere among all = absurd nowhere.0
each_own flags a total at s t (Take rd to ∷ ps) le low small nowhere among all = each_own flags a total _ s t ps (omega arith) (omega arith) small nowhere.1 among all
each_own flags a total at s t (LoadFrom op rd trap l ∷ ps) le low small nowhere among all = absurd nowhere
each_own flags a total at s t (Name constant ∷ ps) le low small nowhere among all = absurd nowhere
each_own flags a total at s t (Note event ∷ ps) le low small nowhere among all = each_own flags a total at s t ps (omega arith) low small nowhere among all
each_own flags a total at s t (Constant rd (NameAddress name addend) ∷ ps) le low small nowhere among all = let jump = jump_len flags (pos (8 + jump_size flags)) in each_own flags a total _ s t ps (omega arith) (omega arith) small nowhere among all
each_own flags a total at s t (Constant rd l ∷ ps) le low small nowhere among all = let jump = jump_len flags (pos (literal_size l + jump_size flags)) in each_own flags a total _ s t ps (omega arith) (omega arith) small nowhere among all
each_own flags a total at s t (p ∷ ps) le low small nowhere among all = each_own flags a total _ s t ps (omega arith) (omega arith) small nowhere among all

-- ---- an instruction

-- a label that was not allocated yet is none that a use may name
not_usable : (s : Shape LabelUse) (label k count : ℕ) → k < count → s.allocated + count ≤ inner_count → IsUsable s label → label ≢ (own_label s.allocated k).number
not_usable s label k count lt few (inl known) e = absurd (omega arith)
not_usable s label k count lt few (inr c) e = let is = c.is in absurd (omega arith)

-- what the pieces that make it add
pub made_appends : {context : Context} {inst : Inst} {pieces : List Piece} {old new : Buffer} → IsMadeOf context inst pieces → IsSoundBuffer old → HasReturn context inst (length (bytes_of old)) (length (bytes_of new)) → PutsParts context.flags (slots_alone (slots_of context.flags pieces)) old new → Appends context inst old new
made_appends {context} {inst} {pieces = ps} {old} {new} made before back (mid, p, same) = subst (Appends context inst old) (sym same) (adds_alone {own = own_labels ps} (uses_of a start (slots_of flags ps)) (drop start (bytes_of mid)) before made.asks
    (record {
      bytes = bytes;
      uses = puts_uses flags a (slots_of flags ps) (shape_of old) (shape_of mid) p.puts ∙ ap (λ us. (shape_of old).uses ++ (us ++ uses_of a start (slots_of flags ps))) (made.uses start (length (bytes_of mid)));
      allocated = x.allocated;
      unbound = λ k lt. (there k lt).before;
      unnamed = λ k lt j u h e. let few = few_allocated label_kinds mid p.sound in let more = x.allocated in not_usable (shape_of old) u.label.number k (own_labels ps) lt (omega arith) (use_usable label_kinds old before j u h) e;
      bound = λ k lt. ap is_some (there k lt).there;
      places = λ label other. x.places label other;
      labels = x.labels;
      registered = (lasts_after_slots flags a (slots_of flags ps) (shape_of old) (shape_of mid) p.puts).registered;
      constants = puts_constants flags a (slots_of flags ps) (shape_of old) (shape_of mid) p.puts;
      sound = p.sound;
    }) made.owns (λ j u h. inr (own_uses j u h))
    (puts_records flags a (slots_of flags ps) (shape_of old) (shape_of mid) p.puts ∙ ap (λ more. (shape_of old).records ++ more) (made.records start ∙ ap (λ n. inst_records context start n inst) (sym end)))
    (puts_named flags a (slots_of flags ps) (shape_of old) (shape_of mid) p.puts ∙ pieces_name flags ps (named_of old) made.nowhere ∙ made.names (named_of old))
    (subst (IsOfSize (inst_size context inst)) (omega (arith, end, length-drop start (bytes_of mid))) made.fits) (lasts_after_slots flags a (slots_of flags ps) (shape_of old) (shape_of mid) p.puts) (subst (λ (b : Buffer). HasReturn context inst start (length (bytes_of b))) same back))
  where
    flags : IsaFlags
    flags = context.flags

    a : ℕ
    a = allocated_of old

    start : ℕ
    start = length (bytes_of old)

    end : length (bytes_of mid) ≡ start + pieces_size flags ps
    end = puts_bytes flags a (slots_of flags ps) (shape_of old) (shape_of mid) p.puts ∙ ap (λ n. start + n) (pieces_long flags ps)

    bytes : bytes_of mid ≡ bytes_of old ++ drop start (bytes_of mid)
    bytes = sym (take-append-drop start (bytes_of mid)) ∙ ap (λ front. front ++ drop start (bytes_of mid)) (lasts_after_slots flags a (slots_of flags ps) (shape_of old) (shape_of mid) p.puts).grows.before

    x : AddsOwn a (own_labels ps) (own_labels ps) (shape_of old) (shape_of mid)
    x = adds flags a (own_labels ps) ps (shape_of old) (shape_of mid) made.closed.among p.puts

    there : (k : ℕ) → k < own_labels ps → IsBoundAmong a k (shape_of old) (shape_of mid)
    there k lt = bound flags a k ps (made.closed.bound k lt).0 (shape_of old) (shape_of mid) (made.closed.bound k lt).1 p.puts

    own_uses : Each (IsOwnUse (own_labels ps) a (place_of mid)) (uses_of a start (slots_of flags ps))
    own_uses = each_own flags a (own_labels ps) start (shape_of old) (shape_of mid) ps (omega (arith, end)) (omega arith) (omega (arith, end, pieces_few flags ps, made.within)) made.nowhere made.closed.among there
