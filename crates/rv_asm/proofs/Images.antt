-- Code that stands in the memory, filled by a linker, by what relocations ask and by what the buffer recorded.
use Rattle.{mach_records.specs.declared.records.FinalizedRelocTarget.FinalizedRelocTarget, rv_asm.proofs.Spans.{get_after, of_cond}}
use Rattle.rv_asm.proofs.Words.{[], Abs8, address_of_name, Addresses, AddressOf, Aims, AllClear, AllEnd, ap, arith, bits_back, Buffer, byte, bytes_from, call_event, clear_there, Code, Context, context_of, distance_to, end_of, ends_later, EndsWithin, Event, event_recorded}
use Rattle.rv_asm.proofs.Words.{ExternalName, field_size, FieldsEnd, FieldsStand, flat_map, Gap, HoldsDistance, inl, inr, IsaFlags, IsFilled, IsFilledAt, IsFilledWith, IsFinishedTo, IsLinkedWith, IsOutside, IsPlaced, IsPlacedAt, IsRecorded, IsTrapAt, Job, KeepsOutside}
use Rattle.rv_asm.proofs.Words.{label_kinds, LabelUse, Lasts, lasts_after_slots, lasts_more, length, length-append, LinesStand, List, locate, low64, lower_event, MachRecord, MachReloc, marks_of, Memory, no_offsets, None, Records, Option, parts_of, PartsIn, PCRel32, PCRelHi20, PCRelLo12I}
use Rattle.rv_asm.proofs.Words.{piece_finished, pos, Put, Puts, puts_bytes, puts_ends, record_relocs, record_traps, records_of, refl, Reloc, relocs_in, RiscvCallPlt, RiscvGotHi20, RiscvPCRelHi20, RiscvPCRelLo12I, same_number_lists, same_Some, SameOutside, Shape, shape_of, Site, size_of, slots_alone}
use Rattle.rv_asm.proofs.Words.{slice_get, slice_get-append, slice_index, Slot, slot_fields_end, SlotOf, SlotsIn, Some, Stands, start_of, subst, suc, sym, Symbol, trap_bytes, trap_size, TrapCode, traps_in, unwrap_or, upper_event, window, window_byte, window_length, wrap, zero}
use Rattle.{rv_asm.proofs.Words.{zeros, ℕ, ℤ, ⊎_elim, ◌++◌, ◌+◌, ◌-ℤ◌, ◌-◌, ◌<◌, ◌^◌, ◌∙◌, ◌∷◌, ◌≡◌, ◌≤◌}, rv_code.specs.Slots.Data, std.specs.Int.{to_le_bytes, w64}, std.specs.Option.option_map}
use Rattle.mach_records.specs.declared.records.Event.TheVariants as event
use Rattle.mach_records.specs.declared.records.FinalizedRelocTarget.TheVariants as target
use Rattle.{rv_code.proofs.MadeOfPieces.{TrapsStand, code_given, trap_given}, rv_inst.{specs.Descriptions.recorded_of, specs.Records.TrapAfter, specs.declared.inst.Inst.Inst, specs.declared.inst.Inst.TheVariants.{RawData, Udf}}}

-- ---- bytes of a memory

pub from_long : (mem : Memory) (a n : ℕ) → length (bytes_from mem a n) ≡ n
from_long mem a zero = refl
from_long mem a (suc n) = ap suc (from_long mem (a + 1) n)

from_byte : (mem : Memory) (a n k : ℕ) → k < n → slice_index (bytes_from mem a n) k ≡ byte mem (a + k)
from_byte mem a zero k lt = absurd (omega arith)
from_byte mem a (suc n) zero lt = let e : a ≡ a + 0 = omega arith in ap (byte mem) e
from_byte mem a (suc n) (suc k) lt = let e : a + 1 + k ≡ a + suc k = omega arith in from_byte mem (a + 1) n k (omega arith) ∙ ap (byte mem) e

-- bytes are these where each of them is
bytes_are : (mem : Memory) (a n : ℕ) (xs : List ℕ) → length xs ≡ n → ((k : ℕ) → k < n → byte mem (a + k) ≡ slice_index xs k) → bytes_from mem a n ≡ xs
bytes_are mem a n xs long each =
    let whole = from_long mem a n in
    same_number_lists (bytes_from mem a n) xs (whole ∙ sym long) (λ k lt. let short : k < n = omega (arith, whole, lt) in from_byte mem a n k short ∙ each k short)

-- a window of them is such bytes too
window_from : (mem : Memory) (a n from size : ℕ) → from + size ≤ n → window (bytes_from mem a n) from size ≡ bytes_from mem (a + from) size
window_from mem a n from size le =
    sym (bytes_are mem (a + from) size (window (bytes_from mem a n) from size) (window_length (bytes_from mem a n) from size (omega (arith, from_long mem a n, le)))
    (λ k lt. grind (arith, from_byte mem a n (from + k) (omega arith), window_byte (bytes_from mem a n) from size k lt)))

-- ---- what records give

record ComesFrom {X Y : Type 0} (f : X → List Y) (xs : List X) (y : Y) : Type 0 where
  index : ℕ
  from : X
  there : slice_get xs index ≡ Some from
  place : ℕ
  gives : slice_get (f from) place ≡ Some y

comes_from : {X Y : Type 0} (f : X → List Y) (xs : List X) (j : ℕ) (y : Y) → slice_get (flat_map f xs) j ≡ Some y → ComesFrom f xs y
comes_from f [] j y h = absurd (cc)
comes_from f (x ∷ xs) j y h = ⊎_elim
    (λ first. record { index = 0; from = x; there = refl; place = j; gives = first })
    (λ rest. let t = comes_from f xs rest.index y rest.there in record { index = suc t.index; from = t.from; there = t.there; place = t.place; gives = t.gives })
    (locate (f x) (flat_map f xs) j y h)

gives : {X Y : Type 0} (f : X → List Y) (xs : List X) (k : ℕ) (x : X) (y : Y) → slice_get xs k ≡ Some x → slice_get (f x) 0 ≡ Some y → (j : ℕ) × (slice_get (flat_map f xs) j ≡ Some y)
gives f [] k x y h first = absurd (cc)
gives f (z ∷ xs) zero x y h first = (0, slice_get-append (f z) (flat_map f xs) 0 y (ap (λ w. slice_get (f w) 0) (same_Some z x h) ∙ first))
gives f (z ∷ xs) (suc k) x y h first = let t = gives f xs k x y h first in (length (f z) + t.0, get_after (f z) (flat_map f xs) t.0 ∙ t.1)

-- a trap that was recorded is reported
pub trap_reported : (records : List MachRecord) (at : ℕ) (cause : TrapCode) → IsRecorded records at (event.Trap cause) → IsTrapAt (traps_in records) at cause
trap_reported records at cause r = let t = gives record_traps records r.index _ (record { offset = at; code = cause }) r.there refl in record { index = t.0; there = t.1 }

-- ---- distances

-- where a name with an addend leads
sum_leads : (o : Option ℕ) (addend : ℤ) (to : ℕ) → option_map (λ (a : ℕ). wrap (a + low64 addend)) o ≡ Some to → wrap (unwrap_or o 0 + low64 addend) ≡ to
sum_leads None addend to h = absurd (cc)
sum_leads (Some a) addend to h = same_Some _ _ h

name_leads : (o : Option ℕ) (to : ℕ) → option_map wrap o ≡ Some to → (unwrap_or (option_map wrap o) 0 ≡ to) × (to < 2 ^ 64)
name_leads None to h = absurd (cc)
name_leads (Some a) to h = let e = same_Some (wrap a) to h in (e, omega arith)

-- ---- the code where it is placed

-- what relocations fill ends within finished code
pub fields_within : (s : Shape LabelUse) (bytes : List ℕ) → IsFinishedTo s bytes → FieldsStand s → (k : ℕ) (r : MachRecord) → slice_get s.records k ≡ Some r → EndsWithin (length bytes) r.offset r.event
fields_within s bytes f fields k r h = ends_later (length s.bytes) (length bytes) r.offset r.event (let a = f.finishes.grows.longer in let b = f.finishes.same_length in omega arith) (fields.ends k r h)

-- a relocation that is reported was recorded
reloc_recorded : (relocs : List MachReloc) (records : List MachRecord) → relocs ≡ relocs_in records → (j : ℕ) (r : MachReloc) → slice_get relocs j ≡ Some r → IsRecorded records r.offset (event.Reloc r.kind r.target r.addend)
reloc_recorded relocs records same j r h =
    let t = comes_from record_relocs records j r (ap (λ rs. slice_get rs j) (sym same) ∙ h) in
    record { index = t.index; there = t.there ∙ ap Some (on t.from.offset t.from.event t.place t.gives) }
  where
    on : (offset : ℕ) (e : Event) (i : ℕ) → slice_get (event_recorded no_offsets offset e).relocs i ≡ Some r → ◌≡◌ {A = MachRecord} (record { offset = offset; event = e }) (record { offset = r.offset; event = event.Reloc r.kind r.target r.addend })
    on offset (event.Reloc kind to addend) zero gives =
        let same : (record { offset = offset; kind = kind; target = to; addend = addend }) ≡ r = same_Some _ r gives in
        ap (λ (x : MachReloc). record { offset = x.offset; event = event.Reloc x.kind x.target x.addend }) same
    on offset e i gives = absurd (cc)

-- and so does what relocations that are reported fill
pub reloc_ends : (n : ℕ) (relocs : List MachReloc) (records : List MachRecord) → relocs ≡ relocs_in records → ((k : ℕ) (r : MachRecord) → slice_get records k ≡ Some r → EndsWithin n r.offset r.event) → (j : ℕ) (r : MachReloc) → slice_get relocs j ≡ Some r → r.offset + field_size r.kind ≤ n
reloc_ends n relocs records same ends j r h = let t = reloc_recorded relocs records same j r h in ends t.index _ t.there

-- a stretch that is clear of all records is outside what relocations fill
pub all_outside : (relocs : List MachReloc) (records : List MachRecord) → relocs ≡ relocs_in records → (from size : ℕ) → AllClear records from size → IsOutside relocs from size
all_outside relocs records same from size clear j r h = let t = reloc_recorded relocs records same j r h in clear t.index _ t.there

module _ (code : Code) (base : ℕ) (symbols slots : Addresses) (mem : Memory) (context : Context) (place : ℕ → Option ℕ) (records : List MachRecord) where
  abbrev site : Site
  site = record { context = context; base = base; bytes = bytes_from mem base (length code.bytes); place = place; records = records; symbol = λ number. unwrap_or (address_of_name symbols number) 0; slot = λ number. unwrap_or (address_of_name slots number) 0 }

  pub placed_at : IsPlaced code base symbols slots mem → IsPlacedAt site mem
  placed_at placed = record {
    aligned = placed.aligned;
    bytes = record {
      room = let r = placed.room in let l = from_long mem base (length code.bytes) in omega arith;
      there = λ k lt. sym (from_byte mem base (length code.bytes) k (let l = from_long mem base (length code.bytes) in omega arith));
    };
  }

  -- a byte of a stretch that is clear of all records is outside what relocations fill
  outside : code.relocs ≡ relocs_in records → (from size k : ℕ) → k < size → AllClear records from size → IsOutside code.relocs (from + k) 1
  outside same from size k lt clear j r h = ⊎_elim (λ before. inl (omega arith)) (λ after. inr (omega arith)) (all_outside code.relocs records same from size clear j r h)

  pub keeps_outside : code.relocs ≡ relocs_in records → IsPlaced code base symbols slots mem → KeepsOutside site code.bytes
  keeps_outside same placed = record {
    long = from_long mem base (length code.bytes);
    bytes = λ k lt. let short : k < length code.bytes = let l = from_long mem base (length code.bytes) in omega arith in subst (λ (b : ℕ). b < 256) (sym (from_byte mem base (length code.bytes) k short)) (placed.bytes k short);
    same = λ from size le clear. window_from mem base (length code.bytes) from size le ∙ bytes_are mem (base + from) size (window code.bytes from size) (window_length code.bytes from size le)
        (λ k lt. grind (arith, placed.there (from + k) (omega arith) (outside same from size k lt clear), window_byte code.bytes from size k lt));
  }

  -- ---- where its bytes still stand

  module _ (new : Memory) (still : IsPlacedAt site new) where
    same_byte : (k : ℕ) → k < length code.bytes → byte new (base + k) ≡ byte mem (base + k)
    same_byte k lt = still.bytes.there k (let l = from_long mem base (length code.bytes) in omega arith) ∙ from_byte mem base (length code.bytes) k lt

    same_bytes : (from size : ℕ) → from + size ≤ length code.bytes → bytes_from new (base + from) size ≡ bytes_from mem (base + from) size
    same_bytes from size le = bytes_are new (base + from) size (bytes_from mem (base + from) size) (from_long mem (base + from) size)
        (λ k lt. grind (arith, same_byte (from + k) (omega arith), from_byte mem (base + from) size k lt))

    -- the code is still placed, since what relocations fill is among its bytes
    pub placed_again : ((j : ℕ) (r : MachReloc) → slice_get code.relocs j ≡ Some r → r.offset + field_size r.kind ≤ length code.bytes) → IsPlaced code base symbols slots mem → IsPlaced code base symbols slots new
    placed_again within placed = record {
      aligned = placed.aligned;
      room = placed.room;
      bytes = λ k lt. subst (λ (b : ℕ). b < 256) (sym (same_byte k lt)) (placed.bytes k lt);
      there = λ k lt clear. same_byte k lt ∙ placed.there k lt clear;
      filled = λ j r h. subst (IsFilledAt code base symbols slots r r.target (window code.bytes r.offset (field_size r.kind))) (sym (same_bytes r.offset (field_size r.kind) (within j r h))) (placed.filled j r h);
    }

  -- the parts of a distance, in the two words that hold it
  holds_both : (at : ℕ) (d : ℤ) → at + 8 ≤ length code.bytes → Aims PCRelHi20 (bytes_from mem (base + at) 4) d → SameOutside (marks_of PCRelHi20) (window code.bytes at 4) (bytes_from mem (base + at) 4) → Aims PCRelLo12I (bytes_from mem (base + (at + 4)) 4) (d -ℤ pos 4) → SameOutside (marks_of PCRelLo12I) (window code.bytes (at + 4) 4) (bytes_from mem (base + (at + 4)) 4) → HoldsDistance site code.bytes at d
  holds_both at d room a b c e =
      let first = sym (window_from mem base (length code.bytes) at 4 (omega arith)) in
      let second = sym (window_from mem base (length code.bytes) (at + 4) 4 (omega arith)) in
      record {
        upper = subst (λ w. Aims PCRelHi20 w d) first a;
        upper_kept = subst (SameOutside (marks_of PCRelHi20) (window code.bytes at 4)) first b;
        lower = subst (λ w. Aims PCRelLo12I w (d -ℤ pos 4)) second c;
        lower_kept = subst (SameOutside (marks_of PCRelLo12I) (window code.bytes (at + 4) 4)) second e;
      }

  -- a relocation that was recorded is reported
  reloc_reported : code.relocs ≡ relocs_in records → (k : ℕ) (at : ℕ) (kind : Reloc) (to : FinalizedRelocTarget) (addend : ℤ) → slice_get records k ≡ Some (record { offset = at; event = event.Reloc kind to addend }) → (j : ℕ) × (slice_get code.relocs j ≡ Some (record { offset = at; kind = kind; target = to; addend = addend }))
  reloc_reported same k at kind to addend h = let t = gives record_relocs records k _ (record { offset = at; kind = kind; target = to; addend = addend }) h refl in (t.0, ap (λ rs. slice_get rs t.0) same ∙ t.1)

  module _ (same : code.relocs ≡ relocs_in records) (ends : (k : ℕ) (r : MachRecord) → slice_get records k ≡ Some r → EndsWithin (length code.bytes) r.offset r.event) (placed : IsPlaced code base symbols slots mem) where
    -- the distance from an address to where two words lead
    leads_to : (at to : ℕ) → to < 2 ^ 64 → wrap (base + at + low64 (distance_to (wrap (base + at)) to)) ≡ to
    leads_to at to fits = omega (arith, bits_back (wrap (to + (2 ^ 64 - wrap (base + at)))) (omega arith))

    distances : (j k at : ℕ) (symbol : Symbol) → slice_get records j ≡ Some (record { offset = at; event = upper_event symbol }) → slice_get records k ≡ Some (record { offset = at + 4; event = lower_event at }) → IsFilledWith site code.bytes at symbol
    distances j k at (AddressOf name addend) hj hk =
        let u = reloc_reported same j at RiscvPCRelHi20 (target.ExternalName name) addend hj in
        let l = reloc_reported same k (at + 4) RiscvPCRelLo12I (target.Func at) (pos 0) hk in
        let f = placed.filled u.0 _ u.1 in
        let g = placed.filled l.0 _ l.1 u.0 _ f.0 u.1 refl f.1 in
        let sum = sum_leads (address_of_name symbols name.number) addend f.0 f.1 in
        record {
          distance = distance_to (wrap (base + at)) f.0;
          near = f.2.0;
          leads = leads_to at f.0 (omega arith) ∙ sym sum;
          holds = holds_both at (distance_to (wrap (base + at)) f.0) (omega (arith, ends k _ hk)) f.2.1.aims f.2.1.kept g.aims g.kept;
        }
    distances j k at (SlotOf name) hj hk =
        let u = reloc_reported same j at RiscvGotHi20 (target.ExternalName name) (pos 0) hj in
        let l = reloc_reported same k (at + 4) RiscvPCRelLo12I (target.Func at) (pos 0) hk in
        let f = placed.filled u.0 _ u.1 in
        let g = placed.filled l.0 _ l.1 u.0 _ f.0 u.1 refl f.1 in
        let there = name_leads _ f.0 f.1 in
        record {
          distance = distance_to (wrap (base + at)) f.0;
          near = f.2.0;
          leads = leads_to at f.0 there.1 ∙ sym there.0;
          holds = holds_both at (distance_to (wrap (base + at)) f.0) (omega (arith, ends k _ hk)) f.2.1.aims f.2.1.kept g.aims g.kept;
        }

    -- the distance of a call is whole in its two words
    calls : (k at : ℕ) (name : ExternalName) → slice_get records k ≡ Some (record { offset = at; event = call_event name }) → IsLinkedWith site code.bytes at name
    calls k at name h =
        let u = reloc_reported same k at RiscvCallPlt (target.ExternalName name) (pos 0) h in
        let f = placed.filled u.0 _ u.1 in
        let sum = sum_leads (address_of_name symbols name.number) (pos 0) f.0 f.1 in
        let here = sym (window_from mem base (length code.bytes) at 8 (omega (arith, ends k _ h))) in
        record {
          distance = distance_to (wrap (base + at)) f.0;
          near = f.2.0;
          leads = leads_to at f.0 (omega arith) ∙ sym sum;
          aims = subst (λ w. Aims PCRel32 w (distance_to (wrap (base + at)) f.0)) here f.2.1.aims;
          kept = subst (SameOutside (marks_of PCRel32) (window code.bytes at 8)) here f.2.1.kept;
        }

    pub is_filled : IsFilled site code.bytes
    is_filled = record {
      distances = distances;
      addresses = λ k at name addend h.
          let u = reloc_reported same k at Abs8 (target.ExternalName name) addend h in
          let f = placed.filled u.0 _ u.1 in
          window_from mem base (length code.bytes) at 8 (omega (arith, ends k _ h)) ∙ f.2 ∙ ap (to_le_bytes w64) (sym (sum_leads (address_of_name symbols name.number) addend f.0 f.1));
      calls = calls;
    }

-- ==== Bytes that an instruction puts with no use among them, data and those of traps, stand in the finished code, and no relocation fills
-- one of them.

-- ---- one slot among others

module _ (flags : IsaFlags) (f : Shape LabelUse) (bytes : List ℕ) (fin : IsFinishedTo f bytes) where
  -- slots that were put, in two parts
  pub puts_split : (allocated : ℕ) (slots more : List Slot) (s t : Shape LabelUse) → Puts flags allocated (slots ++ more) s t → (m : Shape LabelUse) × Puts flags allocated slots s m × Puts flags allocated more m t
  puts_split allocated [] more s t p = (s, refl, p)
  puts_split allocated (slot ∷ slots) more s t p = let r = puts_split allocated slots more p.0 t p.2 in (r.0, (p.0, p.1, r.1), r.2)

  pub fields_after : (allocated : ℕ) (slots : List Slot) (s t : Shape LabelUse) → Puts flags allocated slots s t → FieldsEnd s → FieldsEnd t
  fields_after allocated [] s t e h = subst FieldsEnd (sym e) h
  fields_after allocated (slot ∷ slots) s t p h = fields_after allocated slots p.0 t p.2 (slot_fields_end flags allocated slot s p.0 p.1 h)

  -- bytes that stand in the code, clear of all records
  record AreFound (at : ℕ) (piece : List ℕ) : Type 0 where
    there : window bytes at (length piece) ≡ piece
    clear : AllClear f.records at (length piece)

  data_found : (slots : List Slot) (piece : List ℕ) (more : List Slot) (start end : ℕ) → SlotsIn flags (slots ++ Data piece ∷ more) f start end → AreFound (start + size_of slots) piece
  data_found slots piece more start end q =
      let p = puts_split q.old.allocated slots (Data piece ∷ more) q.old q.new q.puts in
      let m : Shape LabelUse = p.0 in
      let lasts : Lasts label_kinds p.2.0 f = lasts_more (lasts_after_slots flags q.old.allocated more p.2.0 q.new p.2.2) q.lasts in
      let at : length m.bytes ≡ start + size_of slots = omega (arith, puts_bytes flags q.old.allocated slots q.old m p.1, q.starts) in
      let ends : AllEnd label_kinds m = puts_ends flags q.old.allocated slots q.old m p.1 q.windows.inside in
      let quiet : p.2.0.records ≡ m.records = ap (λ (x : Shape LabelUse). x.records) p.2.1 in
      let longer : length p.2.0.bytes ≡ length m.bytes + length piece = ap (λ (x : Shape LabelUse). length x.bytes) p.2.1 ∙ length-append m.bytes piece in
      record {
        there = subst (λ n. window bytes n (length piece) ≡ piece) at (piece_finished m ends (subst (λ (x : Shape LabelUse). Lasts label_kinds x f) p.2.1 lasts) fin.finishes);
        clear = subst (λ n. AllClear f.records n (length piece)) at (clear_there m p.2.0 f (length piece) (fields_after q.old.allocated slots q.old m p.1 q.fields) quiet longer lasts.records);
      }

-- ---- of lines

trap_zeros : (flags : IsaFlags) → trap_bytes flags ≡ zeros (trap_size flags)
trap_zeros flags = sym (of_cond zeros flags.has_zca 2 4)

module _ (job : Job) (code : Code) (gaps : List Gap) (b : Buffer) (built : LinesStand (context_of job) job.lines code.lines gaps b) (fin : IsFinishedTo (shape_of b) code.bytes) (relocs : code.relocs ≡ relocs_in (records_of b)) where
  -- what is found in the code stands there
  found : (from at : ℕ) (piece : List ℕ) → from ≡ at → AreFound job.flags (shape_of b) code.bytes fin from piece → Stands code at piece
  found from at piece same h = subst (λ n. Stands code n piece) same (record { there = h.there; unfilled = all_outside code.relocs (records_of b) relocs from (length piece) h.clear })

  pub data_there : (i : ℕ) (bytes : List ℕ) → slice_get job.lines i ≡ Some (Put (RawData bytes)) → Stands code (start_of code.lines i) bytes
  data_there i bytes e =
      let stood = (built.each i (Put (RawData bytes)) e).there in
      found (start_of code.lines i + size_of []) (start_of code.lines i) bytes (omega arith) (data_found job.flags (shape_of b) code.bytes fin [] bytes [] (start_of code.lines i) stood.1.0 stood.1.1)

  pub trap_there : (i : ℕ) (cause : TrapCode) → slice_get job.lines i ≡ Some (Put (Udf cause)) → Stands code (start_of code.lines i) (zeros (trap_size job.flags))
  trap_there i cause e =
      let stood = (built.each i (Put (Udf cause)) e).there in
      let parts : PartsIn job.flags (parts_of (context_of job) stood.0 (Udf cause)) (shape_of b) (start_of code.lines i) (end_of code.lines i) = stood.1 in
      let slots = Records (event.Trap cause) ∷ [] in
      subst (Stands code (start_of code.lines i)) (trap_zeros job.flags)
      (found (start_of code.lines i + size_of slots) (start_of code.lines i) (trap_bytes job.flags) (omega arith) (data_found job.flags (shape_of b) code.bytes fin slots (trap_bytes job.flags) [] (start_of code.lines i) parts.0 parts.1))

  pub trap_after_there : (i : ℕ) (inst : Inst) (after : ℕ) (cause : TrapCode) → slice_get job.lines i ≡ Some (Put inst) → recorded_of inst ≡ TrapAfter after cause → Stands code (start_of code.lines i + after) (zeros (trap_size job.flags))
  trap_after_there i inst after cause e records =
      let stood = (built.each i (Put inst) e).there in
      let facts = trap_given inst records in
      let given = code_given (context_of job) stood.0 inst facts.0 facts.1 in
      let trap : TrapsStand job.flags (TrapAfter after cause) given.slots = subst (λ r. TrapsStand job.flags r given.slots) records given.traps in
      let parts : PartsIn job.flags (slots_alone (trap.0 ++ Data (trap_bytes job.flags) ∷ trap.1)) (shape_of b) (start_of code.lines i) (end_of code.lines i) = subst (λ ps. PartsIn job.flags ps (shape_of b) (start_of code.lines i) (end_of code.lines i)) (given.parts ∙ ap slots_alone trap.2) stood.1 in
      subst (Stands code (start_of code.lines i + after)) (trap_zeros job.flags)
      (found (start_of code.lines i + size_of trap.0) (start_of code.lines i + after) (trap_bytes job.flags) (ap (λ n. start_of code.lines i + n) trap.3) (data_found job.flags (shape_of b) code.bytes fin trap.0 (trap_bytes job.flags) trap.1 (start_of code.lines i) parts.0 parts.1))
