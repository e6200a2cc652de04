-- A buffer into which slots were put: what it had lasts, its bytes, uses and named constants are more by those of the slots, no
-- constant was put, and each window still ends in the bytes.
use Rattle.rv_sequences.proofs.Terms.{◌≡◌, ℕ, ◌+◌, ◌≤◌, List, [], ◌∷◌, ◌++◌, length, refl, ap, sym, ◌∙◌, subst, arith, append_assoc, length-append, IsaFlags, VCodeConstant, LabelUse, label_kinds, marks_of, use_at, Use, Shape, with_bytes, with_use, with_record, Lasts, AllEnd, append_none}
use Rattle.rv_sequences.proofs.Terms.{append_each, lasts_same, lasts_more, lasts_bytes, lasts_use, lasts_allocated, lasts_record, lasts_named, lasts_label, Slot, Op, Fixup, Data, Records, Names, Allocate, Here, RelocPair, Address, CallTo, slot_size, size_of, own_label, label_of, uses_of, records_of}
use Rattle.rv_sequences.proofs.Terms.{names_of, upper_event, lower_event, address_event, call_event, PutsSlot, Puts, eight_zeros}

-- ---- one slot

slot_lasts : (flags : IsaFlags) (allocated : ℕ) (slot : Slot) (s t : Shape LabelUse) → PutsSlot flags allocated slot s t → Lasts label_kinds s t
slot_lasts flags allocated (Op d) s t p = subst (Lasts label_kinds s) (sym p.3) (lasts_bytes label_kinds p.0 s)
slot_lasts flags allocated (Fixup kind target ops) s t p =
    let u = use_at (length s.bytes) (label_of allocated target) kind in
    subst (Lasts label_kinds s) (sym p.2) (lasts_more (lasts_use label_kinds u s (omega arith)) (lasts_bytes label_kinds p.0 (with_use u s)))
slot_lasts flags allocated (Data bytes) s t p = subst (Lasts label_kinds s) (sym p) (lasts_bytes label_kinds bytes s)
slot_lasts flags allocated (Records event) s t p = subst (Lasts label_kinds s) (sym p.1) (lasts_record label_kinds event s)
slot_lasts flags allocated (Names k) s t p = subst (Lasts label_kinds s) (sym p) (lasts_named label_kinds k s)
slot_lasts flags allocated Allocate s t p = subst (Lasts label_kinds s) (sym p) (lasts_allocated label_kinds s)
slot_lasts flags allocated (Here k) s t p = subst (Lasts label_kinds s) (sym p.1) (lasts_label label_kinds (own_label allocated k) s p.0)
slot_lasts flags allocated (RelocPair symbol upper lower) s t p =
    let s1 = with_record (upper_event symbol) s in
    let s2 = with_bytes p.0 s1 in
    let lower_part = lower_event (length s.bytes) in
    subst (Lasts label_kinds s) (sym p.4)
    (lasts_more (lasts_more (lasts_record label_kinds (upper_event symbol) s) (lasts_bytes label_kinds p.0 s1)) (lasts_more (lasts_record label_kinds lower_part s2) (lasts_bytes label_kinds p.1 (with_record lower_part s2))))
slot_lasts flags allocated (Address name addend) s t p = subst (Lasts label_kinds s) (sym p) (lasts_more (lasts_record label_kinds (address_event name addend) s) (lasts_bytes label_kinds eight_zeros (with_record (address_event name addend) s)))
slot_lasts flags allocated (CallTo name ops) s t p = subst (Lasts label_kinds s) (sym p.2) (lasts_more (lasts_record label_kinds (call_event name) s) (lasts_bytes label_kinds p.0 (with_record (call_event name) s)))

pub slot_bytes : (flags : IsaFlags) (allocated : ℕ) (slot : Slot) (s t : Shape LabelUse) → PutsSlot flags allocated slot s t → length t.bytes ≡ length s.bytes + slot_size slot
slot_bytes flags allocated (Op d) s t p = (λ i. length (p.3 i).bytes) ∙ length-append s.bytes p.0 ∙ ap (λ n. length s.bytes + n) p.1
slot_bytes flags allocated (Fixup kind target ops) s t p = (λ i. length (p.2 i).bytes) ∙ length-append s.bytes p.0 ∙ ap (λ n. length s.bytes + n) p.1.long
slot_bytes flags allocated (Data bytes) s t p = (λ i. length (p i).bytes) ∙ length-append s.bytes bytes
slot_bytes flags allocated (Records event) s t p = (λ i. length (p.1 i).bytes) ∙ omega arith
slot_bytes flags allocated (Names k) s t p = (λ i. length (p i).bytes) ∙ omega arith
slot_bytes flags allocated Allocate s t p = (λ i. length (p i).bytes) ∙ omega arith
slot_bytes flags allocated (Here k) s t p = (λ i. length (p.1 i).bytes) ∙ omega arith
slot_bytes flags allocated (RelocPair symbol upper lower) s t p =
    let first = p.2.long in
    let second = p.3.long in
    (λ i. length (p.4 i).bytes) ∙ omega (arith, length-append s.bytes p.0, length-append (s.bytes ++ p.0) p.1)
slot_bytes flags allocated (Address name addend) s t p = (λ i. length (p i).bytes) ∙ length-append s.bytes eight_zeros
slot_bytes flags allocated (CallTo name ops) s t p = (λ i. length (p.2 i).bytes) ∙ length-append s.bytes p.0 ∙ ap (λ n. length s.bytes + n) p.1.long

slot_uses : (flags : IsaFlags) (allocated : ℕ) (slot : Slot) (s t : Shape LabelUse) → PutsSlot flags allocated slot s t → t.uses ≡ s.uses ++ uses_of allocated (length s.bytes) (slot ∷ [])
slot_uses flags allocated (Op d) s t p = (λ i. (p.3 i).uses) ∙ sym (append_none s.uses)
slot_uses flags allocated (Fixup kind target ops) s t p = λ i. (p.2 i).uses
slot_uses flags allocated (Records event) s t p = (λ i. (p.1 i).uses) ∙ sym (append_none s.uses)
slot_uses flags allocated (Here k) s t p = (λ i. (p.1 i).uses) ∙ sym (append_none s.uses)
slot_uses flags allocated (RelocPair symbol upper lower) s t p = (λ i. (p.4 i).uses) ∙ sym (append_none s.uses)
slot_uses flags allocated (CallTo name ops) s t p = (λ i. (p.2 i).uses) ∙ sym (append_none s.uses)
slot_uses flags allocated slot s t p = (λ i. (p i).uses) ∙ sym (append_none s.uses)

-- the uses of a slot, and then those of others
uses_both : (allocated at : ℕ) (slot : Slot) (slots : List Slot) → uses_of allocated at (slot ∷ []) ++ uses_of allocated (at + slot_size slot) slots ≡ uses_of allocated at (slot ∷ slots)
uses_both allocated at (Op d) slots = refl
uses_both allocated at slot slots = grind arith

slot_records : (flags : IsaFlags) (allocated : ℕ) (slot : Slot) (s t : Shape LabelUse) → PutsSlot flags allocated slot s t → t.records ≡ s.records ++ records_of (length s.bytes) (slot ∷ [])
slot_records flags allocated (Op d) s t p = (λ i. (p.3 i).records) ∙ sym (append_none s.records)
slot_records flags allocated (Fixup kind target ops) s t p = (λ i. (p.2 i).records) ∙ sym (append_none s.records)
slot_records flags allocated (Records event) s t p = λ i. (p.1 i).records
slot_records flags allocated (Here k) s t p = (λ i. (p.1 i).records) ∙ sym (append_none s.records)
slot_records flags allocated (RelocPair symbol upper lower) s t p =
    (λ i. (p.4 i).records)
    ∙ append_assoc s.records (record { offset = length s.bytes; event = upper_event symbol } ∷ []) (record { offset = length (s.bytes ++ p.0); event = lower_event (length s.bytes) } ∷ [])
    ∙ ap (λ at. s.records ++ record { offset = length s.bytes; event = upper_event symbol } ∷ record { offset = at; event = lower_event (length s.bytes) } ∷ []) (length-append s.bytes p.0 ∙ ap (λ n. length s.bytes + n) p.2.long)
slot_records flags allocated (Address name addend) s t p = λ i. (p i).records
slot_records flags allocated (CallTo name ops) s t p = λ i. (p.2 i).records
slot_records flags allocated slot s t p = (λ i. (p i).records) ∙ sym (append_none s.records)

-- the records of a slot, and then those of others
records_both : (at : ℕ) (slot : Slot) (slots : List Slot) → records_of at (slot ∷ []) ++ records_of (at + slot_size slot) slots ≡ records_of at (slot ∷ slots)
records_both at (Op d) slots = refl
records_both at slot slots = grind arith

pub slot_ends : (flags : IsaFlags) (allocated : ℕ) (slot : Slot) (s t : Shape LabelUse) → PutsSlot flags allocated slot s t → AllEnd label_kinds s → AllEnd label_kinds t
slot_ends flags allocated (Op d) s t p ends = subst (AllEnd label_kinds) (sym p.3) (λ j u h. let e = ends j u h in omega (arith, length-append s.bytes p.0))
slot_ends flags allocated (Fixup kind target ops) s t p ends = subst (AllEnd label_kinds) (sym p.2)
    (append_each (λ (u : Use LabelUse). u.offset + length (marks_of u.kind) ≤ length (s.bytes ++ p.0)) s.uses (use_at (length s.bytes) (label_of allocated target) kind)
    (let long = p.1.long in omega (arith, length-append s.bytes p.0))
    (λ j u h. let e = ends j u h in omega (arith, length-append s.bytes p.0)))
slot_ends flags allocated (Data bytes) s t p ends = subst (AllEnd label_kinds) (sym p) (λ j u h. let e = ends j u h in omega (arith, length-append s.bytes bytes))
slot_ends flags allocated (Records event) s t p ends = subst (AllEnd label_kinds) (sym p.1) ends
slot_ends flags allocated (Names k) s t p ends = subst (AllEnd label_kinds) (sym p) ends
slot_ends flags allocated Allocate s t p ends = subst (AllEnd label_kinds) (sym p) ends
slot_ends flags allocated (Here k) s t p ends = subst (AllEnd label_kinds) (sym p.1) ends
slot_ends flags allocated (RelocPair symbol upper lower) s t p ends = subst (AllEnd label_kinds) (sym p.4) (λ j u h. let e = ends j u h in omega (arith, length-append s.bytes p.0, length-append (s.bytes ++ p.0) p.1))
slot_ends flags allocated (Address name addend) s t p ends = subst (AllEnd label_kinds) (sym p) (λ j u h. let e = ends j u h in omega (arith, length-append s.bytes eight_zeros))
slot_ends flags allocated (CallTo name ops) s t p ends = subst (AllEnd label_kinds) (sym p.2) (λ j u h. let e = ends j u h in omega (arith, length-append s.bytes p.0))

-- the constants that a slot names; and that it puts none
slot_constants : (flags : IsaFlags) (allocated : ℕ) (slot : Slot) (s t : Shape LabelUse) → PutsSlot flags allocated slot s t → (t.named ≡ names_of (slot ∷ []) s.named) × (t.constants ≡ s.constants)
slot_constants flags allocated (Op d) s t p = (λ i. (p.3 i).named, λ i. (p.3 i).constants)
slot_constants flags allocated (Fixup kind target ops) s t p = (λ i. (p.2 i).named, λ i. (p.2 i).constants)
slot_constants flags allocated (Records event) s t p = (λ i. (p.1 i).named, λ i. (p.1 i).constants)
slot_constants flags allocated (Here k) s t p = (λ i. (p.1 i).named, λ i. (p.1 i).constants)
slot_constants flags allocated (RelocPair symbol upper lower) s t p = (λ i. (p.4 i).named, λ i. (p.4 i).constants)
slot_constants flags allocated (CallTo name ops) s t p = (λ i. (p.2 i).named, λ i. (p.2 i).constants)
slot_constants flags allocated slot s t p = (λ i. (p i).named, λ i. (p i).constants)

-- the names of a slot, and then those of others
names_both : (slot : Slot) (slots : List Slot) (named : List VCodeConstant) → names_of slots (names_of (slot ∷ []) named) ≡ names_of (slot ∷ slots) named
names_both (Op d) slots named = refl
names_both slot slots named = refl

-- ---- slots

pub lasts_after_slots : (flags : IsaFlags) (allocated : ℕ) (slots : List Slot) (s t : Shape LabelUse) → Puts flags allocated slots s t → Lasts label_kinds s t
lasts_after_slots flags allocated [] s t p = subst (Lasts label_kinds s) (sym p) (lasts_same label_kinds s)
lasts_after_slots flags allocated (slot ∷ slots) s t p = lasts_more (slot_lasts flags allocated slot s p.0 p.1) (lasts_after_slots flags allocated slots p.0 t p.2)

pub puts_bytes : (flags : IsaFlags) (allocated : ℕ) (slots : List Slot) (s t : Shape LabelUse) → Puts flags allocated slots s t → length t.bytes ≡ length s.bytes + size_of slots
puts_bytes flags allocated [] s t p = (λ i. length (p i).bytes) ∙ omega arith
puts_bytes flags allocated (slot ∷ slots) s t p = let first = slot_bytes flags allocated slot s p.0 p.1 in let rest = puts_bytes flags allocated slots p.0 t p.2 in omega arith

pub puts_uses : (flags : IsaFlags) (allocated : ℕ) (slots : List Slot) (s t : Shape LabelUse) → Puts flags allocated slots s t → t.uses ≡ s.uses ++ uses_of allocated (length s.bytes) slots
puts_uses flags allocated [] s t p = (λ i. (p i).uses) ∙ sym (append_none s.uses)
puts_uses flags allocated (slot ∷ slots) s t p =
    puts_uses flags allocated slots p.0 t p.2
    ∙ (λ i. slot_uses flags allocated slot s p.0 p.1 i ++ uses_of allocated (slot_bytes flags allocated slot s p.0 p.1 i) slots)
    ∙ append_assoc s.uses (uses_of allocated (length s.bytes) (slot ∷ [])) (uses_of allocated (length s.bytes + slot_size slot) slots)
    ∙ ap (λ us. s.uses ++ us) (uses_both allocated (length s.bytes) slot slots)

pub puts_records : (flags : IsaFlags) (allocated : ℕ) (slots : List Slot) (s t : Shape LabelUse) → Puts flags allocated slots s t → t.records ≡ s.records ++ records_of (length s.bytes) slots
puts_records flags allocated [] s t p = (λ i. (p i).records) ∙ sym (append_none s.records)
puts_records flags allocated (slot ∷ slots) s t p =
    puts_records flags allocated slots p.0 t p.2
    ∙ (λ i. slot_records flags allocated slot s p.0 p.1 i ++ records_of (slot_bytes flags allocated slot s p.0 p.1 i) slots)
    ∙ append_assoc s.records (records_of (length s.bytes) (slot ∷ [])) (records_of (length s.bytes + slot_size slot) slots)
    ∙ ap (λ rs. s.records ++ rs) (records_both (length s.bytes) slot slots)

pub puts_named : (flags : IsaFlags) (allocated : ℕ) (slots : List Slot) (s t : Shape LabelUse) → Puts flags allocated slots s t → t.named ≡ names_of slots s.named
puts_named flags allocated [] s t p = λ i. (p i).named
puts_named flags allocated (slot ∷ slots) s t p = puts_named flags allocated slots p.0 t p.2 ∙ ap (names_of slots) ((slot_constants flags allocated slot s p.0 p.1).0) ∙ names_both slot slots s.named

pub puts_constants : (flags : IsaFlags) (allocated : ℕ) (slots : List Slot) (s t : Shape LabelUse) → Puts flags allocated slots s t → t.constants ≡ s.constants
puts_constants flags allocated [] s t p = λ i. (p i).constants
puts_constants flags allocated (slot ∷ slots) s t p = puts_constants flags allocated slots p.0 t p.2 ∙ (slot_constants flags allocated slot s p.0 p.1).1

pub puts_ends : (flags : IsaFlags) (allocated : ℕ) (slots : List Slot) (s t : Shape LabelUse) → Puts flags allocated slots s t → AllEnd label_kinds s → AllEnd label_kinds t
puts_ends flags allocated [] s t p ends = subst (AllEnd label_kinds) (sym p) ends
puts_ends flags allocated (slot ∷ slots) s t p ends = puts_ends flags allocated slots p.0 t p.2 (slot_ends flags allocated slot s p.0 p.1 ends)
