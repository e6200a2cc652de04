-- What was put into a buffer, whatever followed, stands in the finished code.
use Rattle.{mach_buffer.proofs.Laws.{recorded_at as use_recorded_at}, rv_code.specs.Slots.uses_of, rv_emit.{proofs.OwnPieces.{bound_here, own_bound, near}, proofs.PartsInBuffer.{even_after, clear_there, clear_later, slot_fields_end}}}
use Rattle.rv_emit.proofs.Terms.{◌≡◌, ◌⊎◌, ℕ, ◌+◌, ◌%◌, ◌≤◌, Bool, true, false, ⊎_elim, List, [], ◌∷◌, ◌++◌, length, Option, Some, None, ℤ, pos, ◌-ℤ◌, refl, ap, sym, ◌∙◌, subst, arith, slice_get, true≢false, same_Some, MachLabel, to_le_bytes, w64, length-append}
use Rattle.rv_emit.proofs.Terms.{SameOutside, ExternalName, Decoded, LabelUse, PCRel32, PCRelHi20, PCRelLo12I, label_kinds, Aims, marks_of, has_veneer_of, veneer_of, use_at, Use, Shape, with_bytes, with_record, veneer_use, Event, MachRecord, AllEnd, window, is_reached}
use Rattle.rv_emit.proofs.Terms.{Lasts, RecordsLast, ByVeneer, UseFinished, lasts_more, lasts_bytes, lasts_record, piece_finished, use_finished, slice_get-append, slice_get-append_last, wide_jump_to, access_slots, Symbol, AddressOf, Target, Label, Own, Slot, Op, Fixup}
use Rattle.rv_emit.proofs.Terms.{Data, Records, Here, RelocPair, Address, CallTo, upper_event, lower_event, address_event, call_event, Part, Ask, Slots, slot_size, size_of, own_label, label_of, between, here_at, IsClosed, AreClosed, AreSelfContained}
use Rattle.rv_emit.proofs.Terms.{PartsAreSelfContained, Site, BytesAt, IsPlacedAt, CodeHas, LeadsOn, Leads, Reaches, AimsFrom, symbol_address, FillsFrom, LinksFrom, StandsIn, GapIn, PartsStand, Memory, fetch, TrapCode, IsOwnForm, low_funct3, AllClear, FieldsEnd}
use Rattle.rv_emit.{proofs.Terms.{FieldsStand, KeepsOutside, IsFilled, Encodes, eight_zeros, PutsSlot, Puts, SlotsIn, IslandIn, GapStandsIn, PartsIn, IsFinishedTo, slot_bytes, slot_ends, lasts_after_slots, puts_bytes, puts_uses, leads_here, leads_both, jump_leads}, proofs.Terms.closed_even}
use Rattle.rv_emit.proofs.VeneerRuns.{window_length, window_fits, window_there, veneer_leads}
use Rattle.mach_records.specs.declared.records.Event.TheVariants as event

-- ---- slots

-- slots were put from an offset on, with their own labels where they say
record ArePut (f : Shape LabelUse) (allocated from : ℕ) (here : ℕ → Option ℕ) (new : Shape LabelUse) : Type 0 where
  pub own : (k to : ℕ) → here k ≡ Some to → new.place (own_label allocated k).number ≡ Some (from + to)
  pub lasts : Lasts label_kinds new f

module _ (site : Site) (f : Shape LabelUse) (final : List ℕ) (fin : IsFinishedTo f final) (keeps : KeepsOutside site final) (same : site.place ≡ fin.finishes.put.place) (same_records : site.records ≡ f.records) where
  -- the bytes of a shape that lasts are among those of the code
  pub within : (s : Shape LabelUse) → Lasts label_kinds s f → length s.bytes ≤ length site.bytes
  within s lasts = let a = lasts.grows.longer in let b = fin.finishes.grows.longer in let c = fin.finishes.same_length in let d = keeps.long in omega arith

  -- a label stands at an even offset of the code
  pub place_within : (label at : ℕ) → fin.finishes.put.place label ≡ Some at → (at ≤ length site.bytes) × (at % 2 ≡ 0)
  place_within label at h = let there = fin.finishes.places label at h in (omega (arith, there, keeps.long), there.1)

  -- an event that was recorded is recorded in the code
  recorded_at : (s mid : Shape LabelUse) (e : Event) → mid ≡ with_record e s → RecordsLast mid f → slice_get site.records (length s.records) ≡ Some (record { offset = length s.bytes; event = e })
  recorded_at s mid e is last =
      let r : MachRecord = record { offset = length s.bytes; event = e } in
      ap (λ rs. slice_get rs (length s.records)) same_records ∙ last.stay (length s.records) r (ap (λ (x : Shape LabelUse). slice_get x.records (length s.records)) is ∙ slice_get-append_last s.records r)

  -- ---- what a linker leaves

  -- bytes that were put and recorded nothing are as they are in the finished code
  left_there : (s mid : Shape LabelUse) (size : ℕ) → FieldsEnd s → mid.records ≡ s.records → length mid.bytes ≡ length s.bytes + size → Lasts label_kinds mid f → window site.bytes (length s.bytes) size ≡ window final (length s.bytes) size
  left_there s mid size ends quiet long lasts =
      keeps.same (length s.bytes) size (omega (arith, within mid lasts)) (subst (λ rs. AllClear rs (length s.bytes) size) (sym same_records) (clear_there s mid f size ends quiet long lasts.records))

  -- what the bytes of a window encode, the code has there
  code_has : (at size : ℕ) (ops : List Decoded) → at + size ≤ length site.bytes → Encodes site.context.flags (window site.bytes at size) ops → CodeHas site at ops
  code_has at size ops le encodes = λ mem placed. encodes mem (site.base + at) (window_there mem site.base site.bytes at size le placed.bytes)

  -- bytes with no use stand as they were put
  piece_there : (s mid : Shape LabelUse) (bytes : List ℕ) → mid ≡ with_bytes bytes s → AllEnd label_kinds s → FieldsEnd s → Lasts label_kinds mid f → window site.bytes (length s.bytes) (length bytes) ≡ bytes
  piece_there s mid bytes e ends fields lasts =
      left_there s mid (length bytes) fields (ap (λ (x : Shape LabelUse). x.records) e) (ap (λ (x : Shape LabelUse). length x.bytes) e ∙ length-append s.bytes bytes) lasts
      ∙ piece_finished s ends (subst (λ (x : Shape LabelUse). Lasts label_kinds x f) e lasts) fin.finishes

  -- ---- targets

  -- what relocations fill is apart from a veneer
  veneer_clear : FieldsStand f → (u : Use LabelUse) (at : ℕ) → ByVeneer label_kinds fin.finishes.put final u at → AllClear f.records at 8
  veneer_clear fields u at g =
      let own = veneer_use (veneer_of u.kind) at u.label in
      let here : at + 0 ≡ at = omega arith in
      subst (λ n. AllClear f.records n 8) here (⊎_elim
      (λ w. subst (λ (x : Use LabelUse). AllClear f.records x.offset (length (marks_of x.kind))) w.alike (fields.clear g.stood.index w.was w.there))
      (λ (k, is, there). clear_later f (at + 0) 8 fields.ends (fin.finishes.grows.after k _ there))
      (use_recorded_at fin.finishes.put.uses f.uses fin.finishes.grows.more fin.finishes.grows.grown g.stood.index own g.stood.own))

  -- a veneer of the buffer leads to the place of its label
  by_veneer : FieldsStand f → (u : Use LabelUse) (at : ℕ) (g : ByVeneer label_kinds fin.finishes.put final u at) → LeadsOn site at g.to
  by_veneer fields u at g =
      let l = keeps.long in
      let left : window site.bytes at 8 ≡ window final at 8 = keeps.same at 8 (omega arith) (subst (λ rs. AllClear rs at 8) (sym same_records) (veneer_clear fields u at g)) in
      veneer_leads site final u.kind u g.to at g.via g.here fin.all_bytes l left (place_within u.label.number g.to g.bound).1

  leads : FieldsStand f → (kind : LabelUse) (label : MachLabel) (at to : ℕ) (c : Bool) → has_veneer_of kind ≡ c → (fin.finishes.put.place label.number ≡ Some to) ⊎ ByVeneer label_kinds fin.finishes.put final (use_at at label kind) to → Leads site c label to
  leads fields kind label at to true h goes = ⊎_elim
      (λ e. (to, ap (λ (p : ℕ → Option ℕ). p label.number) same ∙ e, leads_here site to to refl))
      (λ g. (g.to, ap (λ (p : ℕ → Option ℕ). p label.number) same ∙ g.bound, by_veneer fields (use_at at label kind) to g))
      goes
  leads fields kind label at to false h goes = ⊎_elim
      (λ e. (ap (λ (p : ℕ → Option ℕ). p label.number) same ∙ e, (place_within label.number to e).1))
      (λ g. absurd (true≢false (sym g.supported ∙ h)))
      goes

  reaches : FieldsStand f → (allocated from : ℕ) (here : ℕ → Option ℕ) (new : Shape LabelUse) → ArePut f allocated from here new → (at : ℕ) (kind : LabelUse) (target : Target) (s : Shape LabelUse) (piece : List ℕ) → length s.bytes ≡ from + at → slice_get new.uses (length s.uses) ≡ Some (use_at (length s.bytes) (label_of allocated target) kind) → IsClosed here kind target at →
      (x : UseFinished label_kinds s f fin.finishes.put final piece (use_at (length s.bytes) (label_of allocated target) kind)) → Reaches site allocated kind target x.target
  reaches fields allocated from here new put at kind (Label label) s piece e there closed x = leads fields kind label (length s.bytes) x.target (has_veneer_of kind) refl x.goes
  reaches fields allocated from here new put at kind (Own k) s piece e there closed x =
      let number = (own_label allocated k).number in
      let u = use_at (length s.bytes) (own_label allocated k) kind in
      let bound : new.place number ≡ Some (from + closed.to) = put.own k closed.to closed.there in
      let reached : (place : Option ℕ) → place ≡ Some (from + closed.to) → is_reached label_kinds place u ≡ true = λ place h. near kind (own_label allocated k) place (length s.bytes) (from + closed.to) h (omega (arith, closed.forward)) (omega (arith, closed.backward)) in
      ap (λ (p : ℕ → Option ℕ). p number) same ∙ x.straight (put.lasts.straight (length s.uses) u there refl (reached (new.place number) bound)) (reached (f.place number) (put.lasts.grows.places number (from + closed.to) bound))

  -- ---- slots in the code

  -- a slot of so many bytes was put, and what followed lasts
  record IsAfter (s mid : Shape LabelUse) (size : ℕ) : Type 0 where
    pub lasts : Lasts label_kinds mid f
    pub long : length mid.bytes ≡ length s.bytes + size
    pub ends : AllEnd label_kinds s → AllEnd label_kinds mid
    pub fields : FieldsEnd s → FieldsEnd mid
    pub room : length s.bytes + size ≤ length site.bytes

  after_slot : (allocated : ℕ) (slot : Slot) (slots : List Slot) (s mid new : Shape LabelUse) → Lasts label_kinds new f → PutsSlot site.context.flags allocated slot s mid → Puts site.context.flags allocated slots mid new → IsAfter s mid (slot_size slot)
  after_slot allocated slot slots s mid new lasts p q =
      let here = lasts_more (lasts_after_slots site.context.flags allocated slots mid new q) lasts in
      let long = slot_bytes site.context.flags allocated slot s mid p in
      record { lasts = here; long = long; ends = slot_ends site.context.flags allocated slot s mid p; fields = slot_fields_end site.context.flags allocated slot s mid p; room = let w = within mid here in omega arith }

  -- what becomes of the window of a use
  pub aim_finished : (allocated : ℕ) (kind : LabelUse) (target : Target) (ops : ℤ → List Decoded) (s mid : Shape LabelUse) (p : PutsSlot site.context.flags allocated (Fixup kind target ops) s mid) → Lasts label_kinds mid f → UseFinished label_kinds s f fin.finishes.put final p.0 (use_at (length s.bytes) (label_of allocated target) kind)
  aim_finished allocated kind target ops s mid p lasts =
      use_finished {s = s} {piece = p.0} {u = use_at (length s.bytes) (label_of allocated target) kind} (record { at = refl; bare = refl; long = p.1.long }) (subst (λ (y : Shape LabelUse). Lasts label_kinds y f) p.2 lasts) fin.finishes

  -- its operations stand in the code, by the distance to where it aims
  pub aim_has : (allocated : ℕ) (kind : LabelUse) (target : Target) (ops : ℤ → List Decoded) (s mid : Shape LabelUse) (p : PutsSlot site.context.flags allocated (Fixup kind target ops) s mid) → FieldsEnd s → Lasts label_kinds mid f → length s.bytes + length (marks_of kind) ≤ length site.bytes → (x : UseFinished label_kinds s f fin.finishes.put final p.0 (use_at (length s.bytes) (label_of allocated target) kind)) → CodeHas site (length s.bytes) (ops (between (length s.bytes) x.target))
  aim_has allocated kind target ops s mid p fields lasts room x =
      let size = length (marks_of kind) in
      let left = left_there s mid size fields (λ i. (p.2 i).records) (slot_bytes site.context.flags allocated (Fixup kind target ops) s mid p) lasts in
      code_has (length s.bytes) size (ops (between (length s.bytes) x.target)) room
      (p.1.patched (window site.bytes (length s.bytes) size) (between (length s.bytes) x.target) (window_length site.bytes (length s.bytes) size room) (window_fits site.bytes (length s.bytes) size room keeps.bytes)
      (subst (SameOutside (marks_of kind) p.0) (sym left) x.kept)
      (subst (λ w. Aims kind w (between (length s.bytes) x.target)) (sym left) x.aimed))

  aim_stands : FieldsStand f → (allocated from : ℕ) (here : ℕ → Option ℕ) (new : Shape LabelUse) → ArePut f allocated from here new → (at : ℕ) (kind : LabelUse) (target : Target) (ops : ℤ → List Decoded) (slots : List Slot) (s mid : Shape LabelUse) → PutsSlot site.context.flags allocated (Fixup kind target ops) s mid → Puts site.context.flags allocated slots mid new → IsAfter s mid (length (marks_of kind)) → length s.bytes ≡ from + at → IsClosed here kind target at → FieldsEnd s →
      AimsFrom site allocated (length s.bytes) kind target ops
  aim_stands fields allocated from here new put at kind target ops slots s mid p q after e closed ends =
      let x = aim_finished allocated kind target ops s mid p after.lasts in
      record { to = x.target; reaches = reaches fields allocated from here new put at kind target s p.0 e there closed x; has = aim_has allocated kind target ops s mid p ends after.lasts after.room x }
    where
      u : Use LabelUse
      u = use_at (length s.bytes) (label_of allocated target) kind

      there : slice_get new.uses (length s.uses) ≡ Some u
      there =
          ap (λ us. slice_get us (length s.uses)) (puts_uses site.context.flags allocated slots mid new q ∙ (λ i. (p.2 i).uses ++ uses_of allocated (length mid.bytes) slots))
          ∙ slice_get-append (s.uses ++ u ∷ []) (uses_of allocated (length mid.bytes) slots) (length s.uses) u (slice_get-append_last s.uses u)

  -- two words that a linker fills
  fill_stands : IsFilled site final → (allocated : ℕ) (symbol : Symbol) (upper lower : ℤ → List Decoded) (s mid : Shape LabelUse) → PutsSlot site.context.flags allocated (RelocPair symbol upper lower) s mid → AllEnd label_kinds s → Lasts label_kinds mid f → length s.bytes + 8 ≤ length site.bytes → FillsFrom site (length s.bytes) symbol upper lower
  fill_stands filled allocated symbol upper lower s mid (first, second, hi, lo, e) ends lasts room =
      let at = length s.bytes in
      let s1 = with_record (upper_event symbol) s in
      let s2 = with_bytes first s1 in
      let s3 = with_record (lower_event at) s2 in
      let s4 = with_bytes second s3 in
      let l4 : Lasts label_kinds s4 f = subst (λ (x : Shape LabelUse). Lasts label_kinds x f) e lasts in
      let l3 : Lasts label_kinds s3 f = lasts_more (lasts_bytes label_kinds second s3) l4 in
      let l2 : Lasts label_kinds s2 f = lasts_more (lasts_record label_kinds (lower_event at) s2) l3 in
      let l1 : Lasts label_kinds s1 f = lasts_more (lasts_bytes label_kinds first s1) l2 in
      let next : length (s.bytes ++ first) ≡ at + 4 = length-append s.bytes first ∙ ap (λ n. at + n) hi.long in
      let x = filled.distances (length s.records) (length s2.records) at symbol (recorded_at s s1 (upper_event symbol) refl l1.records) ((recorded_at s2 s3 (lower_event at) refl l3.records) ∙ (λ i. Some (record { offset = next i; event = lower_event at }))) in
      let ends2 : AllEnd label_kinds s2 = λ j u h. let le = ends j u h in omega arith in
      let one : window final at 4 ≡ first = ap (window final at) (sym hi.long) ∙ piece_finished s1 ends l2 fin.finishes in
      let two : window final (at + 4) 4 ≡ second = (λ i. window final (sym next i) (sym lo.long i)) ∙ piece_finished s3 ends2 l4 fin.finishes in
      record {
        distance = x.distance;
        near = x.near;
        leads = x.leads;
        has_upper = code_has at 4 (upper x.distance) (omega arith) (hi.patched (window site.bytes at 4) x.distance (window_length site.bytes at 4 (omega arith)) (window_fits site.bytes at 4 (omega arith) keeps.bytes) (subst (λ w. SameOutside (marks_of PCRelHi20) w (window site.bytes at 4)) one x.holds.upper_kept) x.holds.upper);
        has_lower = code_has (at + 4) 4 (lower (x.distance -ℤ pos 4)) (omega arith) (lo.patched (window site.bytes (at + 4) 4) (x.distance -ℤ pos 4) (window_length site.bytes (at + 4) 4 (omega arith)) (window_fits site.bytes (at + 4) 4 (omega arith) keeps.bytes) (subst (λ w. SameOutside (marks_of PCRelLo12I) w (window site.bytes (at + 4) 4)) two x.holds.lower_kept) x.holds.lower);
      }

  -- eight bytes that it fills
  address_stands : IsFilled site final → (allocated : ℕ) (name : ExternalName) (addend : ℤ) (s mid : Shape LabelUse) → PutsSlot site.context.flags allocated (Address name addend) s mid → Lasts label_kinds mid f → length s.bytes + 8 ≤ length site.bytes → (mem : Memory) → IsPlacedAt site mem → BytesAt mem (site.base + length s.bytes) (to_le_bytes w64 (symbol_address site (AddressOf name addend)))
  address_stands filled allocated name addend s mid e lasts room mem placed =
      let s1 = with_record (address_event name addend) s in
      let l1 : Lasts label_kinds s1 f = lasts_more (lasts_bytes label_kinds eight_zeros s1) (subst (λ (x : Shape LabelUse). Lasts label_kinds x f) e lasts) in
      subst (BytesAt mem (site.base + length s.bytes)) (filled.addresses (length s.records) (length s.bytes) name addend (recorded_at s s1 (address_event name addend) refl l1.records))
      (window_there mem site.base site.bytes (length s.bytes) 8 room placed.bytes)

  -- two words that it fills as one
  call_stands : IsFilled site final → (allocated : ℕ) (name : ExternalName) (ops : ℤ → List Decoded) (s mid : Shape LabelUse) → PutsSlot site.context.flags allocated (CallTo name ops) s mid → AllEnd label_kinds s → Lasts label_kinds mid f → length s.bytes + 8 ≤ length site.bytes → LinksFrom site (length s.bytes) name ops
  call_stands filled allocated name ops s mid (code, is, e) ends lasts room =
      let at = length s.bytes in
      let s1 = with_record (call_event name) s in
      let l2 : Lasts label_kinds (with_bytes code s1) f = subst (λ (x : Shape LabelUse). Lasts label_kinds x f) e lasts in
      let l1 : Lasts label_kinds s1 f = lasts_more (lasts_bytes label_kinds code s1) l2 in
      let x = filled.calls (length s.records) at name (recorded_at s s1 (call_event name) refl l1.records) in
      let there : window final at 8 ≡ code = ap (window final at) (sym is.long) ∙ piece_finished s1 ends l2 fin.finishes in
      record {
        distance = x.distance;
        near = x.near;
        leads = x.leads;
        has = code_has at 8 (ops x.distance) room (is.patched (window site.bytes at 8) x.distance (window_length site.bytes at 8 room) (window_fits site.bytes at 8 room keeps.bytes) (subst (λ w. SameOutside (marks_of PCRel32) w (window site.bytes at 8)) there x.kept) x.aims);
      }

  -- a slot stands, and what was put after it
  slot_stands : FieldsStand f → IsFilled site final → (allocated from : ℕ) (here : ℕ → Option ℕ) (new : Shape LabelUse) → ArePut f allocated from here new → (at : ℕ) (slot : Slot) (slots : List Slot) (s mid : Shape LabelUse) → PutsSlot site.context.flags allocated slot s mid → Puts site.context.flags allocated slots mid new → IsAfter s mid (slot_size slot) → AreClosed here at (slot ∷ slots) → length s.bytes ≡ from + at → AllEnd label_kinds s → FieldsEnd s →
      ((n : ℕ) → n ≡ length s.bytes + slot_size slot → StandsIn site allocated n slots) → StandsIn site allocated (length s.bytes) (slot ∷ slots)
  slot_stands fields filled allocated from here new put at (Op d) slots s mid p q after closed e ends kept rest =
      let has = subst (λ w. Encodes site.context.flags w (d ∷ [])) (sym (piece_there s mid p.0 p.3 ends kept after.lasts) ∙ ap (window site.bytes (length s.bytes)) p.1) p.2 in
      (code_has (length s.bytes) d.len (d ∷ []) after.room has, rest _ refl)
  slot_stands fields filled allocated from here new put at (Fixup kind target ops) slots s mid p q after closed e ends kept rest = (aim_stands fields allocated from here new put at kind target ops slots s mid p q after e closed.0 kept, rest _ refl)
  slot_stands fields filled allocated from here new put at (Data bytes) slots s mid p q after closed e ends kept rest =
      (λ mem placed. subst (BytesAt mem (site.base + length s.bytes)) (piece_there s mid bytes p ends kept after.lasts) (window_there mem site.base site.bytes (length s.bytes) (length bytes) after.room placed.bytes), rest _ refl)
  slot_stands fields filled allocated from here new put at (Records noted) slots s mid p q after closed e ends kept rest = (record { index = length s.records; there = recorded_at s mid noted p.1 after.lasts.records }, rest _ (omega arith))
  slot_stands fields filled allocated from here new put at (Here k) slots s mid p q after closed e ends kept rest =
      (ap (λ (p : ℕ → Option ℕ). p (own_label allocated k).number) same ∙ fin.finishes.grows.places (own_label allocated k).number (length s.bytes) (put.lasts.grows.places (own_label allocated k).number (length s.bytes) (bound_here site.context.flags allocated k slots s mid new p q)), rest _ (omega arith))
  slot_stands fields filled allocated from here new put at (RelocPair symbol upper lower) slots s mid p q after closed e ends kept rest = (fill_stands filled allocated symbol upper lower s mid p ends after.lasts after.room, rest _ refl)
  slot_stands fields filled allocated from here new put at (Address name addend) slots s mid p q after closed e ends kept rest = (address_stands filled allocated name addend s mid p after.lasts after.room, rest _ refl)
  slot_stands fields filled allocated from here new put at (CallTo name ops) slots s mid p q after closed e ends kept rest = (call_stands filled allocated name ops s mid p ends after.lasts after.room, rest _ refl)
  slot_stands fields filled allocated from here new put at slot slots s mid p q after closed e ends kept rest = rest _ (omega arith)

  stands : FieldsStand f → IsFilled site final → (allocated from : ℕ) (here : ℕ → Option ℕ) (new : Shape LabelUse) → ArePut f allocated from here new → (at : ℕ) (slots : List Slot) (s : Shape LabelUse) → Puts site.context.flags allocated slots s new → AreClosed here at slots → length s.bytes ≡ from + at → AllEnd label_kinds s → FieldsEnd s → StandsIn site allocated (length s.bytes) slots
  stands fields filled allocated from here new put at [] s p closed e ends kept = tt
  stands fields filled allocated from here new put at (slot ∷ slots) s (mid, p, q) closed e ends kept =
      let a = after_slot allocated slot slots s mid new put.lasts p q in
      let c = even_after here at slot slots closed in
      let rest = stands fields filled allocated from here new put c.1.0 slots mid q c.1.2 (omega (arith, a.long, e, c.1.1)) (a.ends ends) (a.fields kept) in
      slot_stands fields filled allocated from here new put at slot slots s mid p q a closed e ends kept (λ n is. subst (λ n. StandsIn site allocated n slots) (a.long ∙ sym is) rest)

  -- slots that were put between two offsets
  pub slots_stand : FieldsStand f → IsFilled site final → (slots : List Slot) (start end : ℕ) → AreSelfContained slots → (q : SlotsIn site.context.flags slots f start end) → StandsIn site q.old.allocated start slots × (end ≡ start + size_of slots)
  slots_stand fields filled slots start end closed q =
      let long = puts_bytes site.context.flags q.old.allocated slots q.old q.new q.puts in
      let starts = q.starts in
      let put : ArePut f q.old.allocated (length q.old.bytes) (λ k. here_at k 0 slots) q.new = record { own = own_bound site.context.flags q.old.allocated (length q.old.bytes) slots 0 q.old q.new q.puts (omega arith); lasts = q.lasts } in (
        subst (λ n. StandsIn site q.old.allocated n slots) (sym starts) (stands fields filled q.old.allocated (length q.old.bytes) (λ k. here_at k 0 slots) q.new put 0 slots q.old q.puts closed (omega arith) q.windows.inside q.fields),
        omega arith,
      )

  -- the operation of a slot stands there in its own form
  own_at : (allocated : ℕ) (d : Decoded) (s mid new : Shape LabelUse) → Lasts label_kinds new f → PutsSlot site.context.flags allocated (Op d) s mid → Puts site.context.flags allocated [] mid new → AllEnd label_kinds s → FieldsEnd s → (mem : Memory) → IsPlacedAt site mem → IsOwnForm d (fetch mem (site.base + length s.bytes))
  own_at allocated d s mid new lasts p rest ends kept mem placed rd imm is holds =
      let a = after_slot allocated (Op d) [] s mid new lasts p rest in
      let long = p.1 in
      let two : length p.0 ≡ 2 = long ∙ ap (λ (x : Decoded). x.len) is in
      let bytes = subst (BytesAt mem (site.base + length s.bytes)) (piece_there s mid p.0 p.3 ends kept a.lasts) (window_there mem site.base site.bytes (length s.bytes) (length p.0) (omega arith) placed.bytes) in
      low_funct3 mem (site.base + length s.bytes) p.0 bytes two ∙ p.4 rd imm is holds

  pub own_stands : (trap : Option TrapCode) (d : Decoded) (start end : ℕ) → SlotsIn site.context.flags (access_slots trap ++ Op d ∷ []) f start end → (mem : Memory) → IsPlacedAt site mem → IsOwnForm d (fetch mem (site.base + start))
  own_stands None d start end q mem placed = subst (λ n. IsOwnForm d (fetch mem (site.base + n))) (sym q.starts) (own_at q.old.allocated d q.old q.puts.0 q.new q.lasts q.puts.1 q.puts.2 q.windows.inside q.fields mem placed)
  own_stands (Some code) d start end q mem placed =
      let a = after_slot q.old.allocated (Records (event.Trap code)) (Op d ∷ []) q.old q.puts.0 q.new q.lasts q.puts.1 q.puts.2 in
      let same : length q.puts.0.bytes ≡ start = omega arith in
      subst (λ n. IsOwnForm d (fetch mem (site.base + n))) same (own_at q.old.allocated d q.puts.0 q.puts.2.0 q.new q.lasts q.puts.2.1 q.puts.2.2 (a.ends q.windows.inside) (a.fields q.fields) mem placed)

  -- they end in the code
  slots_within : (slots : List Slot) (start end : ℕ) → SlotsIn site.context.flags slots f start end → end ≤ length site.bytes
  slots_within slots start end q = let w = within q.new q.lasts in let ends = q.ends in omega arith

  -- ---- gaps

  island_leads : FieldsStand f → IsFilled site final → (from to : ℕ) → from % 2 ≡ 0 → IslandIn site.context.flags f from to → LeadsOn site from to
  island_leads fields filled from to even i =
      let jump = (slots_stand fields filled (wide_jump_to (Label i.after_island) ∷ []) from (from + 4) (tt, tt) i.jump).0.0 in
      let there : jump.reaches.0 ≡ to = same_Some jump.reaches.0 to (sym jump.reaches.1 ∙ ap (λ (p : ℕ → Option ℕ). p i.after_island.number) same ∙ fin.finishes.grows.places i.after_island.number to i.bound) in
      leads_both site from jump.to to
      (jump_leads site from jump.to even (slots_within (wide_jump_to (Label i.after_island) ∷ []) from (from + 4) i.jump) jump.has)
      (subst (LeadsOn site jump.to) there jump.reaches.2)

  -- nothing, or an island
  pub gap_stands : FieldsStand f → IsFilled site final → (from to : ℕ) → from % 2 ≡ 0 → GapStandsIn site.context.flags f from to → GapIn site from to
  gap_stands fields filled from to even gap = ⊎_elim
      (λ (here : from ≡ to). record { leads = leads_here site from to here; even = λ e. omega arith; within = omega arith })
      (λ i. record { leads = island_leads fields filled from to even i; even = λ e. (place_within i.after_island.number to (fin.finishes.grows.places i.after_island.number to i.bound)).1; within = let l = i.longer in omega arith })
      gap

  gap_within : (from to : ℕ) → from ≤ length site.bytes → GapStandsIn site.context.flags f from to → to ≤ length site.bytes
  gap_within from to le gap = ⊎_elim (λ (here : from ≡ to). omega arith) (λ i. (place_within i.after_island.number to (fin.finishes.grows.places i.after_island.number to i.bound)).0) gap

  -- ---- parts

  -- parts that were put between two offsets, the first of which is even and in the code; and so is the second
  pub parts_stand : FieldsStand f → IsFilled site final → (parts : List Part) (start end : ℕ) → PartsAreSelfContained parts → start % 2 ≡ 0 → start ≤ length site.bytes → PartsIn site.context.flags parts f start end → PartsStand site start end parts × (end % 2 ≡ 0) × (start ≤ end) × (end ≤ length site.bytes)
  parts_stand fields filled [] start end contained even le here = (here, omega arith, omega arith, omega arith)
  parts_stand fields filled (Ask space ∷ parts) start end contained even le (mid, gap, more) =
      let g = gap_stands fields filled start mid even gap in
      let rest = parts_stand fields filled parts mid end contained (g.even even) (gap_within start mid le gap) more in
      let b = rest.2 in ((mid, g, rest.0), rest.1, omega arith, rest.3)
  parts_stand fields filled (Slots slots ∷ parts) start end contained even le (mid, put, more) =
      let s = slots_stand fields filled slots start mid contained.0 put in
      let long = s.1 in
      let size = closed_even (λ k. here_at k 0 slots) 0 slots contained.0 in
      let rest = parts_stand fields filled parts mid end contained.1 (omega arith) (slots_within slots start mid put) more in
      let b = rest.2 in ((put.old.allocated, s.0, subst (λ n. PartsStand site n end parts) long rest.0), rest.1, omega arith, rest.3)
