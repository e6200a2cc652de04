-- What was put part by part stands in the buffer, its windows and what relocations fill with it, and lasts.
use Rattle.rv_emit.proofs.NewConstants.{adds_both, adds_none, adds_same}
use Rattle.rv_emit.proofs.Terms.{◌≡◌, inl, inr, ⊎_elim, ℕ, ◌+◌, ◌≤◌, List, [], ◌∷◌, ◌++◌, length, Some, ap, sym, ◌∙◌, subst, arith, ◌⊎◌, ◌%◌, Bool, true, false, refl, slice_get, Option, length-append, IsaFlags, LabelUse, Jal20, label_kinds, marks_of, use_at, shape_of, bytes_of, uses_of, with_record}
use Rattle.rv_emit.proofs.Terms.{allocated_of, RecordsLast, Lasts, Shape, with_bytes, with_allocated, AllEnd, AreWindows, Event, Reloc, MachRecord, Use, append_each, recorded_at, lasts_same, lasts_more, lasts_allocated, windows_with_bytes, windows_with_use, stands_last, even_length, Buffer}
use Rattle.rv_emit.proofs.Terms.{AppendsIsland, IsSoundBuffer, HasWindows, IslandIfNeeded, EndsWithin, IsClear, AllClear, FieldsEnd, FieldsStand, AsksNothing, PutsSlot, Puts, eight_zeros, slot_ends, slot_bytes, lasts_after_slots, puts_bytes, puts_constants, Slot, Op, Fixup, Data, Records, Here, RelocPair}
use Rattle.rv_emit.proofs.Terms.{Address, CallTo, label_of, upper_event, lower_event, address_event, call_event, AddressOf, SlotOf, Symbol, slot_size, Part, Ask, Slots, Label, AreClosed, PartsAreSelfContained, AllStand, wide_jump_to, PutsParts, SlotsIn, IslandIn, GapStandsIn, PartsIn, AddsConstants}
use Rattle.rv_emit.proofs.Terms.{marks_even}

-- What relocations fill.
-- ---- one event

-- what ends before some bytes is apart from them, and so is what begins after them
pub ends_clear : (from size offset : ℕ) (e : Event) → EndsWithin from offset e → IsClear from size offset e
ends_clear from size offset (Reloc kind target addend) h = inr h
ends_clear from size offset e h = tt

pub after_clear : (from size offset : ℕ) (e : Event) → from + size ≤ offset → IsClear from size offset e
after_clear from size offset (Reloc kind target addend) h = inl h
after_clear from size offset e h = tt

pub ends_later : (n m offset : ℕ) (e : Event) → n ≤ m → EndsWithin n offset e → EndsWithin m offset e
ends_later n m offset (Reloc kind target addend) le h = omega arith
ends_later n m offset e le h = tt

nothing_ends : (n offset : ℕ) (e : Event) → AsksNothing e → EndsWithin n offset e
nothing_ends n offset (Reloc kind target addend) h = absurd h
nothing_ends n offset e h = tt

upper_ends : (n at : ℕ) (symbol : Symbol) → at + 4 ≤ n → EndsWithin n at (upper_event symbol)
upper_ends n at (AddressOf name addend) le = le
upper_ends n at (SlotOf name) le = le

-- ---- records

-- bytes that were put, and recorded nothing, are apart from all that relocations fill, however the buffer grows
pub clear_there : (s mid f : Shape LabelUse) (size : ℕ) → FieldsEnd s → mid.records ≡ s.records → length mid.bytes ≡ length s.bytes + size → RecordsLast mid f → AllClear f.records (length s.bytes) size
clear_there s mid f size ends same long last k r h = ⊎_elim
    (λ old. ends_clear (length s.bytes) size r.offset r.event (ends k r (sym (ap (λ rs. slice_get rs k) same) ∙ old)))
    (λ le. after_clear (length s.bytes) size r.offset r.event (omega arith))
    (last.later k r h)

-- and all that relocations fill ends before what comes later
pub clear_later : (s : Shape LabelUse) (from size : ℕ) → FieldsEnd s → length s.bytes ≤ from → AllClear s.records from size
clear_later s from size ends le k r h = ends_clear from size r.offset r.event (ends_later (length s.bytes) from r.offset r.event le (ends k r h))

-- bytes more
bytes_end : (s : Shape LabelUse) (more : List ℕ) → FieldsEnd s → FieldsEnd (with_bytes more s)
bytes_end s more ends k r h = ends_later (length s.bytes) (length (s.bytes ++ more)) r.offset r.event (omega (arith, length-append s.bytes more)) (ends k r h)

-- the record of an event, and bytes after it within which it ends
event_end : (s : Shape LabelUse) (e : Event) (more : List ℕ) → EndsWithin (length s.bytes + length more) (length s.bytes) e → FieldsEnd s → FieldsEnd (with_bytes more (with_record e s))
event_end s e more h ends =
    let within = subst (λ n. EndsWithin n (length s.bytes) e) (sym (length-append s.bytes more)) h in
    append_each (λ (x : MachRecord). EndsWithin (length (s.bytes ++ more)) x.offset x.event) s.records (record { offset = length s.bytes; event = e }) within (bytes_end s more ends)

-- ---- slots

pub slot_fields_end : (flags : IsaFlags) (allocated : ℕ) (slot : Slot) (s t : Shape LabelUse) → PutsSlot flags allocated slot s t → FieldsEnd s → FieldsEnd t
slot_fields_end flags allocated (Op d) s t p ends = subst FieldsEnd (sym p.3) (bytes_end s p.0 ends)
slot_fields_end flags allocated (Fixup kind target ops) s t p ends = subst FieldsEnd (sym p.2) (bytes_end s p.0 ends)
slot_fields_end flags allocated (Data bytes) s t p ends = subst FieldsEnd (sym p) (bytes_end s bytes ends)
slot_fields_end flags allocated (Records e) s t p ends = subst FieldsEnd (sym p.1) (append_each (λ (x : MachRecord). EndsWithin (length s.bytes) x.offset x.event) s.records (record { offset = length s.bytes; event = e }) (nothing_ends (length s.bytes) (length s.bytes) e p.0) ends)
slot_fields_end flags allocated (Here k) s t p ends = subst FieldsEnd (sym p.1) ends
slot_fields_end flags allocated (RelocPair symbol upper lower) s t (first, second, hi, lo, e) ends =
    let half : Shape LabelUse = with_bytes first (with_record (upper_event symbol) s) in
    let ends_half : FieldsEnd half = event_end s (upper_event symbol) first (upper_ends _ (length s.bytes) symbol (omega (arith, hi.long))) ends in
    subst FieldsEnd (sym e) (event_end half (lower_event (length s.bytes)) second (omega (arith, lo.long)) ends_half)
slot_fields_end flags allocated (Address name addend) s t e ends = subst FieldsEnd (sym e) (event_end s (address_event name addend) eight_zeros (omega arith) ends)
slot_fields_end flags allocated (CallTo name ops) s t (code, is, e) ends = subst FieldsEnd (sym e) (event_end s (call_event name) code (omega (arith, is.long)) ends)
slot_fields_end flags allocated slot s t p ends = subst FieldsEnd (sym p) ends

-- what is filled is apart from the windows of uses
abbrev AreApart : Shape LabelUse → Type 0
AreApart s = (j : ℕ) (u : Use LabelUse) → slice_get s.uses j ≡ Some u → AllClear s.records u.offset (length (marks_of u.kind))

-- an event more at the end of the bytes is apart from them, too
event_apart : (s : Shape LabelUse) (e : Event) → AllEnd label_kinds s → AreApart s → AreApart (with_record e s)
event_apart s e ends apart j u there = append_each (λ (x : MachRecord). IsClear u.offset (length (marks_of u.kind)) x.offset x.event) s.records (record { offset = length s.bytes; event = e }) (after_clear u.offset (length (marks_of u.kind)) (length s.bytes) e (ends j u there)) (apart j u there)

slot_apart : (flags : IsaFlags) (allocated : ℕ) (slot : Slot) (s t : Shape LabelUse) → PutsSlot flags allocated slot s t → AllEnd label_kinds s → FieldsStand s → AreApart t
slot_apart flags allocated (Op d) s t p ends f = subst AreApart (sym p.3) f.clear
slot_apart flags allocated (Fixup kind target ops) s t p ends f =
    subst AreApart (sym p.2) (append_each (λ (x : Use LabelUse). AllClear s.records x.offset (length (marks_of x.kind))) s.uses (use_at (length s.bytes) (label_of allocated target) kind) (clear_later s (length s.bytes) (length (marks_of kind)) f.ends (omega arith)) f.clear)
slot_apart flags allocated (Records e) s t p ends f = subst AreApart (sym p.1) (event_apart s e ends f.clear)
slot_apart flags allocated (Here k) s t p ends f = subst AreApart (sym p.1) f.clear
slot_apart flags allocated (RelocPair symbol upper lower) s t (first, second, hi, lo, e) ends f =
    let half = with_bytes first (with_record (upper_event symbol) s) in
    subst AreApart (sym e) (event_apart half (lower_event (length s.bytes)) (λ j u h. omega (arith, length-append s.bytes first, ends j u h)) (event_apart s (upper_event symbol) ends f.clear))
slot_apart flags allocated (Address name addend) s t e ends f = subst AreApart (sym e) (event_apart s (address_event name addend) ends f.clear)
slot_apart flags allocated (CallTo name ops) s t (code, is, e) ends f = subst AreApart (sym e) (event_apart s (call_event name) ends f.clear)
slot_apart flags allocated slot s t p ends f = subst AreApart (sym p) f.clear

pub slot_fields : (flags : IsaFlags) (allocated : ℕ) (slot : Slot) (s t : Shape LabelUse) → PutsSlot flags allocated slot s t → AllEnd label_kinds s → FieldsStand s → FieldsStand t
slot_fields flags allocated slot s t p ends f = record { ends = slot_fields_end flags allocated slot s t p f.ends; clear = slot_apart flags allocated slot s t p ends f }

pub puts_fields : (flags : IsaFlags) (allocated : ℕ) (slots : List Slot) (s t : Shape LabelUse) → Puts flags allocated slots s t → AllEnd label_kinds s → FieldsStand s → FieldsStand t
puts_fields flags allocated [] s t p ends f = subst FieldsStand (sym p) f
puts_fields flags allocated (slot ∷ slots) s t (mid, first, rest) ends f = puts_fields flags allocated slots mid t rest (slot_ends flags allocated slot s mid first ends) (slot_fields flags allocated slot s mid first ends f)

-- ---- islands

pub island_fields : (old new : Buffer) → AppendsIsland old new → FieldsStand (shape_of old) → FieldsStand (shape_of new)
island_fields old new p f =
    let jump = use_at (length (bytes_of old)) p.after_island Jal20 in
    let was : (j : ℕ) (x : Use LabelUse) → slice_get (uses_of old ++ jump ∷ []) j ≡ Some x → AllClear (shape_of old).records x.offset (length (marks_of x.kind)) =
    append_each (λ (x : Use LabelUse). AllClear (shape_of old).records x.offset (length (marks_of x.kind))) (uses_of old) jump (clear_later (shape_of old) (length (bytes_of old)) 4 f.ends (omega arith)) f.clear in
    record {
      ends = λ k r h. ends_later (length (bytes_of old)) (length (bytes_of new)) r.offset r.event (let l = p.longer in omega arith) (f.ends k r (sym (ap (λ rs. slice_get rs k) p.records) ∙ h));
      clear = λ j u h. subst (λ rs. AllClear rs u.offset (length (marks_of u.kind))) (sym p.records) (⊎_elim
          (λ w. subst (λ (x : Use LabelUse). AllClear (shape_of old).records x.offset (length (marks_of x.kind))) w.alike (was j w.was w.there))
          (λ (k, is, there). clear_later (shape_of old) u.offset (length (marks_of u.kind)) f.ends (let a = (p.own.own k _ there).after in omega arith))
          (recorded_at (uses_of new) (uses_of old ++ jump ∷ []) p.own.more p.own.grown j u h));
    }

-- ---- what stands stays

slots_in_last : {flags : IsaFlags} {slots : List Slot} {f g : Shape LabelUse} (start end : ℕ) → SlotsIn flags slots f start end → Lasts label_kinds f g → SlotsIn flags slots g start end
slots_in_last start end q l = record { old = q.old; new = q.new; puts = q.puts; windows = q.windows; fields = q.fields; starts = q.starts; ends = q.ends; lasts = lasts_more q.lasts l }

pub gap_last : {flags : IsaFlags} {f g : Shape LabelUse} (from to : ℕ) → GapStandsIn flags f from to → Lasts label_kinds f g → GapStandsIn flags g from to
gap_last from to (inl e) l = inl e
gap_last from to (inr i) l = inr (record { after_island = i.after_island; jump = slots_in_last from (from + 4) i.jump l; bound = l.grows.places i.after_island.number to i.bound; longer = i.longer })

pub parts_last : (flags : IsaFlags) (parts : List Part) {f g : Shape LabelUse} (start end : ℕ) → PartsIn flags parts f start end → Lasts label_kinds f g → PartsIn flags parts g start end
parts_last flags [] start end e l = e
parts_last flags (Ask space ∷ parts) start end (mid, gap, rest) l = (mid, gap_last start mid gap l, parts_last flags parts mid end rest l)
parts_last flags (Slots slots ∷ parts) start end (mid, q, rest) l = (mid, slots_in_last start mid q l, parts_last flags parts mid end rest l)

-- ---- windows

-- the windows of the uses of a shape stand
abbrev StandWell : Shape LabelUse → Type 0
StandWell s = AreWindows label_kinds s.bytes s.uses

slot_well : (flags : IsaFlags) (allocated : ℕ) (slot : Slot) (s t : Shape LabelUse) → length s.bytes % 2 ≡ 0 → PutsSlot flags allocated slot s t → StandWell s → StandWell t
slot_well flags allocated (Op d) s t even (bytes, long, encodes, e, own) w = subst StandWell (sym e) (windows_with_bytes s w bytes)
slot_well flags allocated (Fixup kind target ops) s t even (window, is, e) w =
    subst StandWell (sym e) (windows_with_use s w even window (use_at (length s.bytes) (label_of allocated target) kind) (record { at = refl; bare = refl; long = is.long }) is.fresh)
slot_well flags allocated (Data bytes) s t even e w = subst StandWell (sym e) (windows_with_bytes s w bytes)
slot_well flags allocated (RelocPair symbol upper lower) s t even (first, second, hi, lo, e) w = subst StandWell (sym e) (windows_with_bytes (with_bytes first s) (windows_with_bytes s w first) second)
slot_well flags allocated (Address name addend) s t even e w = subst StandWell (sym e) (windows_with_bytes s w eight_zeros)
slot_well flags allocated (CallTo name ops) s t even (code, is, e) w = subst StandWell (sym e) (windows_with_bytes s w code)
slot_well flags allocated (Records event) s t even (asks, e) w = subst StandWell (sym e) w
slot_well flags allocated (Here k) s t even (unbound, e) w = subst StandWell (sym e) w
slot_well flags allocated slot s t even e w = subst StandWell (sym e) w

-- a piece of self-contained slots has an even length, and what comes after it is self-contained from there
pub even_after : (here : ℕ → Option ℕ) (at : ℕ) (slot : Slot) (slots : List Slot) → AreClosed here at (slot ∷ slots) → (slot_size slot % 2 ≡ 0) × ((n : ℕ) × (n ≡ at + slot_size slot) × AreClosed here n slots)
even_after here at (Op d) slots c = (c.0, (at + d.len, refl, c.1))
even_after here at (Fixup kind target ops) slots c = (marks_even kind, (at + length (marks_of kind), refl, c.1))
even_after here at (Data bytes) slots c = (c.0, (at + length bytes, refl, c.1))
even_after here at slot slots c = (refl, (_, omega arith, c))

puts_well : (flags : IsaFlags) (allocated : ℕ) (slots : List Slot) (here : ℕ → Option ℕ) (at : ℕ) (s t : Shape LabelUse) → AreClosed here at slots → length s.bytes % 2 ≡ 0 → Puts flags allocated slots s t → StandWell s → StandWell t
puts_well flags allocated [] here at s t c even p w = subst StandWell (sym p) w
puts_well flags allocated (slot ∷ slots) here at s t c even (m, first, rest) w =
    let e = even_after here at slot slots c in
    puts_well flags allocated slots here e.1.0 m t e.1.2 (omega (arith, slot_bytes flags allocated slot s m first)) rest (slot_well flags allocated slot s m even first w)

-- ---- an island where one is needed

-- what stands after what stood there, its windows and constants, and that all of it lasts
pub record GapPut (flags : IsaFlags) (old new : Buffer) : Type 0 where
  pub gap : GapStandsIn flags (shape_of new) (length (bytes_of old)) (length (bytes_of new))
  pub windows : HasWindows new
  pub fields : FieldsStand (shape_of new)
  pub constants : AllStand label_kinds (shape_of old) → AllStand label_kinds (shape_of new)
  pub adds : AddsConstants (shape_of old) (shape_of new)
  pub lasts : Lasts label_kinds (shape_of old) (shape_of new)
  pub sound : IsSoundBuffer new

island_in : (flags : IsaFlags) (old new : Buffer) → HasWindows old → FieldsEnd (shape_of old) → (p : AppendsIsland old new) → IslandIn flags (shape_of new) (length (bytes_of old)) (length (bytes_of new))
island_in flags old new w ends p = record {
  after_island = p.after_island;
  jump = record {
    old = with_allocated (shape_of old);
    new = p.jumped;
    puts = p.puts flags;
    windows = w;
    fields = ends;
    starts = refl;
    ends = sym (puts_bytes flags (allocated_of old + 1) (wide_jump_to (Label p.after_island) ∷ []) (with_allocated (shape_of old)) p.jumped (p.puts flags));
    lasts = p.lasts;
  };
  bound = p.bound;
  longer = p.longer;
}

pub gap_put : (flags : IsaFlags) (distance : ℕ) (old new : Buffer) (made : Bool) → IsSoundBuffer old → HasWindows old → FieldsStand (shape_of old) → IslandIfNeeded distance old new made → GapPut flags old new
gap_put flags distance old new made s w f r = on r.put
  where
    on : ((made ≡ false) × (new ≡ old)) ⊎ ((made ≡ true) × AppendsIsland old new) → GapPut flags old new
    on (inl (e, same)) = subst (GapPut flags old) (sym same) (record { gap = inl refl; windows = w; fields = f; constants = λ all. all; adds = adds_same (shape_of old); lasts = lasts_same label_kinds (shape_of old); sound = s })
    on (inr (e, p)) = record {
      gap = inr (island_in flags old new w f.ends p);
      windows = p.windows w;
      fields = island_fields old new p f;
      constants = λ all. p.constants w all;
      adds = p.adds;
      lasts = lasts_more (lasts_allocated label_kinds (shape_of old)) (lasts_more (lasts_after_slots flags (allocated_of old + 1) (wide_jump_to (Label p.after_island) ∷ []) (with_allocated (shape_of old)) p.jumped (p.puts flags)) p.lasts);
      sound = p.sound;
    }

-- ---- parts

-- parts stand where they were put, their windows with them, and all that stood there lasts, constants among it
pub record PartsPut (flags : IsaFlags) (parts : List Part) (old new : Buffer) : Type 0 where
  pub stand : PartsIn flags parts (shape_of new) (length (bytes_of old)) (length (bytes_of new))
  pub windows : HasWindows new
  pub fields : FieldsStand (shape_of new)
  pub constants : AllStand label_kinds (shape_of old) → AllStand label_kinds (shape_of new)
  pub adds : AddsConstants (shape_of old) (shape_of new)
  pub lasts : Lasts label_kinds (shape_of old) (shape_of new)
  pub sound : IsSoundBuffer new

pub parts_put : (flags : IsaFlags) (parts : List Part) (old new : Buffer) → PartsAreSelfContained parts → IsSoundBuffer old → HasWindows old → FieldsStand (shape_of old) → PutsParts flags parts old new → PartsPut flags parts old new
parts_put flags [] old new contained s w f p = subst (PartsPut flags [] old) (sym p) (record { stand = refl; windows = w; fields = f; constants = λ all. all; adds = adds_same (shape_of old); lasts = lasts_same label_kinds (shape_of old); sound = s })
parts_put flags (Ask space ∷ parts) old new contained s w f (mid, made, r, rest) =
    let g = gap_put flags space old mid made s w f r in
    let q = parts_put flags parts mid new contained g.sound g.windows g.fields rest in
    record { stand = (length (bytes_of mid), gap_last _ _ g.gap q.lasts, q.stand); windows = q.windows; fields = q.fields; constants = λ all. q.constants (g.constants all); adds = adds_both g.adds q.adds; lasts = lasts_more g.lasts q.lasts; sound = q.sound }
parts_put flags (Slots slots ∷ parts) old new contained s w f (mid, p, rest) =
    let well = puts_well flags (allocated_of old) slots _ 0 (shape_of old) (shape_of mid) contained.0 (even_length label_kinds old s) p.puts w in
    let q = parts_put flags parts mid new contained.1 p.sound well (puts_fields flags (allocated_of old) slots (shape_of old) (shape_of mid) p.puts w.inside f) rest in
    let lasts = lasts_after_slots flags (allocated_of old) slots (shape_of old) (shape_of mid) p.puts in
    record {
      stand = (length (bytes_of mid), record { old = shape_of old; new = shape_of mid; puts = p.puts; windows = w; fields = f.ends; starts = refl; ends = refl; lasts = q.lasts }, q.stand);
      windows = q.windows;
      fields = q.fields;
      constants = λ all. q.constants (stands_last lasts (puts_constants flags (allocated_of old) slots (shape_of old) (shape_of mid) p.puts) all);
      adds = adds_both (adds_none lasts.grows.longer (puts_constants flags (allocated_of old) slots (shape_of old) (shape_of mid) p.puts) lasts.registered) q.adds;
      lasts = lasts_more lasts q.lasts;
      sound = q.sound;
    }
