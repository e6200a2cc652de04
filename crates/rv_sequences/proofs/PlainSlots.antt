-- What an instruction without labels of its own adds to a buffer, and that its parts are self-contained.
use Rattle.rv_sequences.proofs.{BufferAfterSlots.{lasts_after_slots, puts_bytes, puts_uses, puts_records, puts_named, puts_constants}, Sequences.no_own, Terms.{◌≡◌, ℕ, ◌+◌, List, [], ◌∷◌, ◌++◌, length, drop, refl, ap, sym, ◌∙◌, subst, append-nil, arith, length-append, length-drop, take-append-drop}}
use Rattle.rv_sequences.proofs.Terms.{IsaFlags, Context, Inst, LabelUse, IsOfSize, inst_size, request_of, space_in, inst_records, uses_in, Use, Shape, shape_of, bytes_of, allocated_of, named_of, Buffer, IsSoundBuffer, AppendsCode, AppendsSequence, Appends, HasReturn, IsFarUse, IsOwnUse, Slot, Op}
use Rattle.rv_sequences.proofs.Terms.{Fixup, Records, Allocate, Here, RelocPair, CallTo, size_of, uses_of, records_of, names_of, PutsSlot, Puts, slots_alone, PutsParts, inst_constant, named_by, IsPlain, IsSummed, Lasts, label_kinds, table_of, place_of, slice_get, is_some, Some, None, ◌⊎◌, ◌≤◌}

-- a plain slot allocates no label and binds none
slot_keeps : (flags : IsaFlags) (allocated : ℕ) (slot : Slot) (slots : List Slot) (s t : Shape LabelUse) → IsPlain (slot ∷ slots) → PutsSlot flags allocated slot s t → IsPlain slots × (t.place ≡ s.place) × (t.labels ≡ s.labels) × (t.allocated ≡ s.allocated)
slot_keeps flags allocated (Op d) slots s t plain p = (plain, λ i. (p.3 i).place, λ i. (p.3 i).labels, λ i. (p.3 i).allocated)
slot_keeps flags allocated (Fixup kind target ops) slots s t plain p = (plain, λ i. (p.2 i).place, λ i. (p.2 i).labels, λ i. (p.2 i).allocated)
slot_keeps flags allocated (Records event) slots s t plain p = (plain, λ i. (p.1 i).place, λ i. (p.1 i).labels, λ i. (p.1 i).allocated)
slot_keeps flags allocated Allocate slots s t plain p = absurd plain
slot_keeps flags allocated (Here k) slots s t plain p = absurd plain
slot_keeps flags allocated (RelocPair symbol upper lower) slots s t plain p = (plain, λ i. (p.4 i).place, λ i. (p.4 i).labels, λ i. (p.4 i).allocated)
slot_keeps flags allocated (CallTo name ops) slots s t plain p = (plain, λ i. (p.2 i).place, λ i. (p.2 i).labels, λ i. (p.2 i).allocated)
slot_keeps flags allocated slot slots s t plain p = (plain, λ i. (p i).place, λ i. (p i).labels, λ i. (p i).allocated)

pub plain_keeps : (flags : IsaFlags) (allocated : ℕ) (slots : List Slot) (s t : Shape LabelUse) → IsPlain slots → Puts flags allocated slots s t → (t.place ≡ s.place) × (t.labels ≡ s.labels) × (t.allocated ≡ s.allocated)
plain_keeps flags allocated [] s t plain p = (λ i. (p i).place, λ i. (p i).labels, λ i. (p i).allocated)
plain_keeps flags allocated (slot ∷ slots) s t plain p =
    let first = slot_keeps flags allocated slot slots s p.0 plain p.1 in
    let rest = plain_keeps flags allocated slots p.0 t first.0 p.2 in
    (rest.0 ∙ first.1, rest.1 ∙ first.2, rest.2 ∙ first.3)

-- ---- slots without labels of their own, at the end of a buffer

-- their bytes, uses and records were put, and their constants named
pub record PlainPut (slots : List Slot) (old new : Buffer) : Type 0 where
  pub code : List ℕ
  pub long : length code ≡ size_of slots
  pub adds : AppendsCode code (uses_of (allocated_of old) (length (bytes_of old)) slots) old new
  pub records : (shape_of new).records ≡ (shape_of old).records ++ records_of (length (bytes_of old)) slots
  pub named : named_of new ≡ names_of slots (named_of old)
  pub lasts : Lasts label_kinds (shape_of old) (shape_of new)

pub plain_put : (flags : IsaFlags) (slots : List Slot) (old new : Buffer) → IsPlain slots → PutsParts flags (slots_alone slots) old new → PlainPut slots old new
plain_put flags slots old new plain (mid, p, same) =
    let keeps = plain_keeps flags (allocated_of old) slots (shape_of old) (shape_of mid) plain p.puts in
    let lasts = lasts_after_slots flags (allocated_of old) slots (shape_of old) (shape_of mid) p.puts in
    let start = length (bytes_of old) in
    subst (PlainPut slots old) (sym same) (record {
      code = drop start (bytes_of mid);
      long = omega (arith, length-drop start (bytes_of mid), puts_bytes flags (allocated_of old) slots (shape_of old) (shape_of mid) p.puts);
      adds = record {
        bytes = sym (take-append-drop start (bytes_of mid)) ∙ ap (λ front. front ++ drop start (bytes_of mid)) lasts.grows.before;
        uses = puts_uses flags (allocated_of old) slots (shape_of old) (shape_of mid) p.puts;
        places = keeps.0;
        labels = keeps.1;
        allocated = keeps.2;
        registered = lasts.registered;
        constants = puts_constants flags (allocated_of old) slots (shape_of old) (shape_of mid) p.puts;
        sound = p.sound;
      };
      records = puts_records flags (allocated_of old) slots (shape_of old) (shape_of mid) p.puts;
      named = puts_named flags (allocated_of old) slots (shape_of old) (shape_of mid) p.puts;
      lasts = lasts;
    })

pub code_long : {code : List ℕ} {own : List (Use LabelUse)} {old new : Buffer} → AppendsCode code own old new → length (bytes_of new) ≡ length (bytes_of old) + length code
code_long {code} {old = old} p = ap length p.bytes ∙ length-append (bytes_of old) code

-- as many bytes more
pub put_long : {slots : List Slot} {old new : Buffer} → PlainPut slots old new → length (bytes_of new) ≡ length (bytes_of old) + size_of slots
put_long p = omega (arith, code_long p.adds, p.long)

-- nothing was put
pub code_none : (b : Buffer) → IsSoundBuffer b → AppendsCode [] [] b b
code_none b sound = record { bytes = sym (append-nil (bytes_of b)); uses = sym (append-nil (shape_of b).uses); places = refl; labels = refl; allocated = refl; registered = refl; constants = refl; sound = sound }

-- ---- an instruction

-- what one adds that asks for no island
pub adds_alone : {context : Context} {inst : Inst} {old new : Buffer} {own : ℕ} (direct : List (Use LabelUse)) (code : List ℕ) → IsSoundBuffer old → request_of context inst ≡ None → AppendsSequence own code (uses_in context (length (bytes_of old)) (length (bytes_of new)) inst ++ direct) old new →
    own ≤ 5 → ((j : ℕ) (u : Use LabelUse) → slice_get direct j ≡ Some u → IsFarUse (table_of inst) u ⊎ IsOwnUse own (allocated_of old) (place_of new) u) → (shape_of new).records ≡ (shape_of old).records ++ inst_records context (length (bytes_of old)) (length (bytes_of new)) inst → named_of new ≡ named_by (inst_constant inst) (named_of old) →
    IsOfSize (inst_size context inst) (length code) → Lasts label_kinds (shape_of old) (shape_of new) → HasReturn context inst (length (bytes_of old)) (length (bytes_of new)) → Appends context inst old new
adds_alone {context} {inst} {old} {own = own} direct code sound asks adds few each records named fits lasts back = record {
  mid = old;
  last = old;
  front = [];
  code = code;
  own = own;
  direct = direct;
  first = code_none old sound;
  unnamed = refl;
  island = rw (asks) refl;
  adds = adds;
  few = few;
  alone = λ some. let none = ap is_some asks in absurd (cc);
  each = each;
  records = records;
  named = named;
  begins = rw (asks) refl;
  within = λ space some. let none = ap (λ r. space_in r (length code)) asks in absurd (cc);
  fits = subst (IsOfSize (inst_size context inst)) (omega arith) fits;
  stands = λ windows fields. (windows, fields);
  lasts = lasts;
  least = λ some. let none = ap is_some asks in absurd (cc);
  back = back;
}

pub summed : {context : Context} {inst : Inst} {slots : List Slot} {old new : Buffer} → IsSummed context inst slots → request_of context inst ≡ None → IsSoundBuffer old → HasReturn context inst (length (bytes_of old)) (length (bytes_of new)) → PutsParts context.flags (slots_alone slots) old new → Appends context inst old new
summed {context} {inst} {slots} {old} {new} is asks sound back p =
    let a = plain_put context.flags slots old new is.plain p in
    let start = length (bytes_of old) in
    let end : start + size_of slots ≡ length (bytes_of new) = sym (put_long a) in
    let uses = is.uses (allocated_of old) start ∙ ap (λ n. uses_in context start n inst) end in
    adds_alone {own = 0} [] a.code sound asks
    (no_own a.code _ old new (subst (λ own. AppendsCode a.code own old new) (uses ∙ sym (append-nil (uses_in context start (length (bytes_of new)) inst))) a.adds)) (omega arith) (λ j u h. absurd (cc))
    (a.records ∙ ap (λ more. (shape_of old).records ++ more) (is.records start ∙ ap (λ n. inst_records context start n inst) end)) (a.named ∙ is.names (named_of old)) (subst (IsOfSize (inst_size context inst)) (sym a.long) is.fits) a.lasts back
