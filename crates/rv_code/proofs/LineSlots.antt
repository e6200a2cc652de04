-- What lines of loads, stores, addresses, numbers and symbols add to a buffer, and that their parts are self-contained.
use Rattle.{mach_records.specs.declared.records.Event.Event, mach_uses.specs.declared.uses.Use.Use, rv_base.specs.declared.unwind.UnwindInst.UnwindInst, rv_code.proofs.OperationActs.{jump_len, least_even, least_few, load_sized, lui_sized, rri_sized, rrr_sized, store_sized}}
use Rattle.rv_code.proofs.Words.{Constant, Do, Piece, Rri, Word64, Writable, immediate_pieces, number_pieces, offset_pieces, slots_of, access_slots, Add, Addi, address_slots, address_targets, Fixup, Allocate, AMode, AreClosed, AreSelfContained, AtConstant, AtLabel, Base, Based, boxing_slots}
use Rattle.rv_code.proofs.Words.{cast_signed, Const, constant_label, constant_named, Context, Data, Decoded, decoded, decoded_load, decoded_store, FrameLayout, half_load_slots, has_load, has_store, Here, Inst, inst_constant, inst_records, inst_size, ints, is_near, is_splittable, IsaFlags, IsOfSize}
use Rattle.rv_code.proofs.Words.{IsReal, Jal20, jump_size, label_of, LabelUse, Lh, load_line_slots, load_over, load_own_size, load_size, load_slots, LoadOP, Location, location_of, low64, low_word, lower_of, MachRecord, marks_of, MemFlagsData, moved_to_float, moved_to_integer, name_more, named_by, Names}
use Rattle.rv_code.proofs.Words.{names_of, Records, number_of, number_slots, offset_slots, Op, Or, PCRelHi20, PCRelLo12I, Real, records_of, Reg, RegClass, Sh, short_jump, short_load, short_lui, short_rri, short_rrr, short_store, size_of, Slot, slot_size, store_line_slots, store_own_size, store_slots}
use Rattle.rv_code.proofs.Words.{StoreOP, target_uses, to_le_bytes, TrapCode, upper_of, use_at, uses_in, uses_of, uses_start, VCodeConstant, Virtual, w64, Action, chosen, Rrr, op_of, slots_for, zca_load, zca_store}
use Rattle.{rv_code.{specs.Accesses.{Access, access_pieces, address_pieces, based_pieces, boxing_pieces, far_pieces, half_load_pieces, half_store_pieces, load_pieces, store_access, store_pieces}, specs.Pieces.Lui}, rv_inst.specs.Halves.{boxing_size, high_bits, is_moved_first, load_line_own_size, store_line_own_size}}
use Rattle.rv_inst.{specs.Records.access_records, specs.declared.inst.Inst.TheVariants.{Load, LoadAddr, Store, Unwind}}
use Rattle.std.proofs.Common.{◌≡◌, ℕ, ◌+◌, List, [], ◌∷◌, ◌%◌, eqb-true, length, Option, refl, arith, ◌-◌, ◌≤◌, Bool, true, false, ◌++◌, Some, None, ℤ, pos, ap, sym, ◌∙◌, subst, append_assoc, lit≤, append-nil, ◌==◌, ◌^◌, ◌<◌, not, if◌then◌else◌, ◌&&◌, rules}
use Rattle.rv_ops.specs.declared.memory.LoadOP.TheVariants as loads
use Rattle.rv_ops.specs.declared.memory.StoreOP.TheVariants as stores
use Rattle.rv_code.specs.Pieces as piece
use Rattle.rv_machine.specs.declared.ops.BaseOp.TheVariants as base
use Rattle.mach_records.specs.declared.records.Event.TheVariants as event

-- slots that allocate and bind no label
abbrev pub IsPlain : List Slot → Type 0
IsPlain [] = Unit {0}
IsPlain (Allocate ∷ slots) = ⊥
IsPlain (Here k ∷ slots) = ⊥
IsPlain (slot ∷ slots) = IsPlain slots

-- an instruction's slots add its uses and records, as many bytes as it may have, and its constant
pub record IsSummed (context : Context) (inst : Inst) (slots : List Slot) : Type 0 where
  pub plain : IsPlain slots
  pub fits : IsOfSize (inst_size context inst) (size_of slots)
  pub uses : (allocated start : ℕ) → uses_of allocated start slots ≡ uses_in context start (start + size_of slots) inst
  pub records : (start : ℕ) → records_of start slots ≡ inst_records context start (start + size_of slots) inst
  pub names : (named : List VCodeConstant) → names_of slots named ≡ named_by (inst_constant inst) named

-- ---- slots that go to no label but their own have an even number of bytes.

-- the window of each kind of use has an even length
pub marks_even : (kind : LabelUse) → length (marks_of kind) % 2 ≡ 0
marks_even Jal20 = refl
marks_even _ = refl

pub closed_even : (here : ℕ → Option ℕ) (at : ℕ) (slots : List Slot) → AreClosed here at slots → size_of slots % 2 ≡ 0
closed_even here at [] h = refl
closed_even here at (Op d ∷ slots) h = grind (arith, marks_even, λ (at : ℕ). closed_even here at slots)
closed_even here at (slot ∷ slots) h = grind (arith, marks_even, λ (at : ℕ). closed_even here at slots)

-- ---- what loads and stores of one instruction, and addresses, add to a buffer, and that their parts are self-contained.

-- Slots with these uses between their start and their end, with these records so many bytes before the end, that name this constant; and
-- they use no own label.
pub record HaveContents (last : ℕ) (own : ℕ → ℕ → List (Use LabelUse)) (records_at : ℕ → List MachRecord) (constant : Option VCodeConstant) (slots : List Slot) : Type 0 where
  pub plain : IsPlain slots
  pub within : last ≤ size_of slots
  pub uses : (allocated start : ℕ) → uses_of allocated start slots ≡ own start (start + size_of slots)
  pub records : (start : ℕ) → records_of start slots ≡ records_at (start + size_of slots - last)
  pub names : (named : List VCodeConstant) → names_of slots named ≡ named_by constant named
  pub closed : (here : ℕ → Option ℕ) (start : ℕ) → AreClosed here start slots

-- the last of them, of so many bytes, may trap
abbrev pub HaveAccess : ℕ → (ℕ → ℕ → List (Use LabelUse)) → Option TrapCode → Option VCodeConstant → List Slot → Type 0
HaveAccess last own trap constant slots = HaveContents last own (λ at. access_records at trap) constant slots

-- the record of a trap at an offset, alone
abbrev pub trap_at : TrapCode → ℕ → List MachRecord
trap_at code at = record { offset = at; event = event.Trap code } ∷ []

-- uses that depend on the end alone
abbrev pub at_end : (ℕ → List (Use LabelUse)) → ℕ → ℕ → List (Use LabelUse)
at_end rest start end = rest end

abbrev pub none : ℕ → ℕ → List (Use LabelUse)
none = at_end (λ end. [])

-- without uses, records or a constant
abbrev pub HaveWords : List Slot → Type 0
HaveWords slots = HaveContents 0 none (λ at. []) None slots

pub nothing : HaveWords []
nothing = record { plain = tt; within = lit≤ tt; uses = λ allocated start. refl; records = λ start. refl; names = λ named. refl; closed = λ here start. tt }

-- an operation alone
pub one : (d : Decoded) → d.len % 2 ≡ 0 → HaveWords (Op d ∷ [])
one d even = record { plain = tt; within = omega arith; uses = λ allocated start. refl; records = λ start. refl; names = λ named. refl; closed = λ here start. (even, tt) }

pub size_append : (slots more : List Slot) → size_of (slots ++ more) ≡ size_of slots + size_of more
size_append [] more = omega arith
size_append (slot ∷ slots) more = let e = size_append slots more in omega arith

plain_append : (slots more : List Slot) → IsPlain slots → IsPlain more → IsPlain (slots ++ more)
plain_append [] more h g = g
plain_append (Here k ∷ slots) more h g = absurd h
plain_append (slot ∷ slots) more h g = search (rules, plain_append slots more)

uses_append : (allocated at end : ℕ) (slots more : List Slot) → at + size_of slots ≡ end → uses_of allocated at (slots ++ more) ≡ uses_of allocated at slots ++ uses_of allocated end more
uses_append allocated at end [] more e = let here : at ≡ end = omega arith in ap (λ n. uses_of allocated n more) here
uses_append allocated at end (Fixup kind target ops ∷ slots) more e = ap (λ us. use_at at (label_of allocated target) kind ∷ us) (uses_append allocated (at + length (marks_of kind)) end slots more (omega arith))
uses_append allocated at end (slot ∷ slots) more e = uses_append allocated _ end slots more (omega arith)

records_append : (end : ℕ) (slots more : List Slot) (at : ℕ) → at + size_of slots ≡ end → records_of at (slots ++ more) ≡ records_of at slots ++ records_of end more
records_append end [] more at e = let here : at ≡ end = omega arith in ap (λ n. records_of n more) here
records_append end (Records event ∷ slots) more at e = let r = records_append end slots more at (omega arith) in cc
records_append end (slot ∷ slots) more at e = let r = records_append end slots more (at + slot_size slot) (omega arith) in let same : at + 0 ≡ at = omega arith in cc

names_append : (slots more : List Slot) (named : List VCodeConstant) → names_of (slots ++ more) named ≡ names_of more (names_of slots named)
names_append [] more named = refl
names_append (Names k ∷ slots) more named = names_append slots more (name_more k named)
names_append (slot ∷ slots) more named = names_append slots more named

pub closed_append : (here : ℕ → Option ℕ) (at end : ℕ) (slots more : List Slot) → at + size_of slots ≡ end → AreClosed here at slots → AreClosed here end more → AreClosed here at (slots ++ more)
closed_append here at end [] more e h g = let there : end ≡ at = omega arith in subst (λ n. AreClosed here n more) there g
closed_append here at end (Op d ∷ slots) more e h g = search (rules, arith, λ (at : ℕ). closed_append here at end slots more)
closed_append here at end (slot ∷ slots) more e h g = search (rules, arith, λ (at : ℕ). closed_append here at end slots more)

-- slots without uses, records and a constant, before any
pub both : {l last : ℕ} {own : ℕ → ℕ → List (Use LabelUse)} {records_at : ℕ → List MachRecord} {constant : Option VCodeConstant} {slots more : List Slot} →
    HaveContents l none (λ at. []) None slots → HaveContents last own records_at constant more → HaveContents last (λ start end. own (start + size_of slots) end) records_at constant (slots ++ more)
both {l} {last} {own} {records_at} {constant} {slots} {more} f c =
    let whole = size_append slots more in
    let ends : (start : ℕ) → start + size_of slots + size_of more ≡ start + size_of (slots ++ more) = λ start. omega (arith, whole) in
    record {
      plain = plain_append slots more f.plain c.plain;
      within = omega (arith, c.within, whole);
      uses = λ allocated start. uses_append allocated start _ slots more refl ∙ (λ i. f.uses allocated start i ++ c.uses allocated (start + size_of slots) i) ∙ ap (own (start + size_of slots)) (ends start);
      records = λ start. records_append _ slots more start refl ∙ (λ i. f.records start i ++ c.records (start + size_of slots) i) ∙ ap (λ n. records_at (n - last)) (ends start);
      names = λ named. names_append slots more named ∙ ap (names_of more) (f.names named) ∙ c.names named;
      closed = λ here start. closed_append here start _ slots more refl (f.closed here start) (c.closed here (start + size_of slots));
    }

-- and after slots whose uses don't depend on their end
followed : {l : ℕ} {own : ℕ → ℕ → List (Use LabelUse)} {records_at : ℕ → List MachRecord} {constant : Option VCodeConstant} {slots more : List Slot} →
    ((start end other : ℕ) → own start end ≡ own start other) → HaveContents l own records_at constant slots → HaveWords more → HaveContents (l + size_of more) own records_at constant (slots ++ more)
followed {l} {own} {records_at} {constant} {slots} {more} same f c =
    let whole = size_append slots more in
    record {
      plain = plain_append slots more f.plain c.plain;
      within = omega (arith, f.within, whole);
      uses = λ allocated start. uses_append allocated start _ slots more refl ∙ (λ i. f.uses allocated start i ++ c.uses allocated (start + size_of slots) i) ∙ append-nil _ ∙ same start _ _;
      records = λ start. records_append _ slots more start refl ∙ (λ i. f.records start i ++ c.records (start + size_of slots) i) ∙ append-nil _ ∙ (let e : start + size_of slots - l ≡ start + size_of (slots ++ more) - (l + size_of more) = omega (arith, whole) in ap records_at e);
      names = λ named. names_append slots more named ∙ c.names (names_of slots named) ∙ f.names named;
      closed = λ here start. closed_append here start _ slots more refl (f.closed here start) (c.closed here (start + size_of slots));
    }

-- ---- pieces one after the other

pub slots_append : (flags : IsaFlags) (ps qs : List Piece) → slots_of flags (ps ++ qs) ≡ slots_of flags ps ++ slots_of flags qs
slots_append flags [] qs = refl
slots_append flags (p ∷ ps) qs = ap (λ slots. slots_for flags p ++ slots) (slots_append flags ps qs) ∙ sym (append_assoc (slots_for flags p) (slots_of flags ps) (slots_of flags qs))

pub size_both : (flags : IsaFlags) (ps qs : List Piece) → size_of (slots_of flags (ps ++ qs)) ≡ size_of (slots_of flags ps) + size_of (slots_of flags qs)
size_both flags ps qs = ap size_of (slots_append flags ps qs) ∙ size_append (slots_of flags ps) (slots_of flags qs)

pub both_pieces : {l last : ℕ} {own : ℕ → ℕ → List (Use LabelUse)} {records_at : ℕ → List MachRecord} {constant : Option VCodeConstant} (flags : IsaFlags) (ps qs : List Piece) → HaveContents l none (λ at. []) None (slots_of flags ps) → HaveContents last own records_at constant (slots_of flags qs) →
    HaveContents last (λ start end. own (start + size_of (slots_of flags ps)) end) records_at constant (slots_of flags (ps ++ qs))
both_pieces {last = last} {own} {records_at} {constant} flags ps qs f c = subst (HaveContents last (λ start end. own (start + size_of (slots_of flags ps)) end) records_at constant) (sym (slots_append flags ps qs)) (both f c)

-- after the record of an access's trap, where it may trap
pub access_is : (flags : IsaFlags) (trap : Option TrapCode) (ps : List Piece) → slots_of flags (access_pieces trap ++ ps) ≡ access_slots trap ++ slots_of flags ps
access_is flags None ps = refl
access_is flags (Some code) ps = refl

pub op_then : {last : ℕ} {rest : ℕ → List (Use LabelUse)} {records_at : ℕ → List MachRecord} {slots : List Slot} (d : Decoded) → d.len % 2 ≡ 0 → HaveContents last (at_end rest) records_at None slots → HaveContents last (at_end rest) records_at None (Op d ∷ slots)
op_then d even c = both (one d even) c

-- a record before slots whose own records are said from their start
pub note_then : {last : ℕ} {rest : ℕ → List (Use LabelUse)} {records_at : ℕ → List MachRecord} {slots : List Slot} (noted : Event) → size_of slots ≡ last → HaveContents last (at_end rest) records_at None slots → HaveContents last (at_end rest) (λ at. record { offset = at; event = noted } ∷ records_at at) None (Records noted ∷ slots)
note_then {last} {rest} {records_at} {slots} noted same c =
    let ends : (start : ℕ) → start + size_of slots ≡ start + (0 + size_of slots) = λ start. omega arith in
    let back : (start : ℕ) → start ≡ start + (0 + size_of slots) - last = λ start. omega (arith, same) in
    let uses = λ (allocated start : ℕ). c.uses allocated start ∙ ap rest (ends start) in
    let others = λ (start : ℕ). c.records start ∙ ap (λ n. records_at (n - last)) (ends start) in
    record { plain = c.plain; within = omega (arith, same); uses = uses; records = λ start i. record { offset = back start i; event = noted } ∷ others start i; names = c.names; closed = λ here start. c.closed here start }

-- records are said from the start
pub from_start : {last : ℕ} {rest : ℕ → List (Use LabelUse)} {records_at : ℕ → List MachRecord} {slots : List Slot} → HaveContents last (at_end rest) records_at None slots → HaveContents (size_of slots) (at_end rest) (λ at. records_at (at + size_of slots - last)) None slots
from_start {last} {rest} {records_at} {slots} c =
    let records = λ (start : ℕ). c.records start ∙ (let e : start + size_of slots - last ≡ start + size_of slots - size_of slots + size_of slots - last = omega arith in ap records_at e) in
    search (rules, arith, c, records)

-- the trap of an access is recorded where it is
accessed : (trap : Option TrapCode) (d : Decoded) → d.len % 2 ≡ 0 → HaveAccess d.len none trap None (access_slots trap ++ Op d ∷ [])
accessed trap d even =
    let same : d.len + 0 ≡ d.len = omega arith in
    let own = from_start (one d even) in
    subst (λ n. HaveAccess n none trap None (access_slots trap ++ Op d ∷ [])) same (elim trap as (λ t. HaveAccess (size_of (Op d ∷ [])) none t None (access_slots t ++ Op d ∷ [])) [ None ↦ own | Some code ↦ note_then (event.Trap code) refl own ])

accessed_by : (flags : IsaFlags) (trap : Option TrapCode) (a : Action) → (op_of flags a).len % 2 ≡ 0 → HaveAccess (op_of flags a).len none trap None (slots_of flags (access_pieces trap ++ Do a ∷ []))
accessed_by flags trap a even = subst (HaveAccess (op_of flags a).len none trap None) (sym (access_is flags trap (Do a ∷ []))) (accessed trap (op_of flags a) even)

-- by which pieces an offset is put into a register
pub offset_by : (P : List Piece → Type 0) (rd : ℕ) (o : ℤ) → (is_splittable o ≡ true → low64 (lower_of o) ≡ 0 → P (Do (Lui rd (upper_of o)) ∷ [])) → (is_splittable o ≡ true → P (Do (Lui rd (upper_of o)) ∷ Do (Rri Addi rd rd (lower_of o)) ∷ [])) → (is_splittable o ≡ false → P (Constant rd (Word64 (low64 o)) ∷ [])) → P (offset_pieces rd o)
offset_by P rd o upper both constant =
    (elim (is_splittable o) as (λ c. is_splittable o ≡ c → P (if c then immediate_pieces rd (upper_of o) (lower_of o) else Constant rd (Word64 (low64 o)) ∷ [])) [
      | true ↦ λ fits. (elim (low64 (lower_of o) == 0) as (λ c. (low64 (lower_of o) == 0) ≡ c → P (Do (Lui rd (upper_of o)) ∷ (if c then [] else Do (Rri Addi rd rd (lower_of o)) ∷ []))) [ true ↦ λ none. upper fits (eqb-true (low64 (lower_of o)) 0 none) | false ↦ λ some. both fits ]) refl
      | false ↦ constant
    ]) refl

pub offsets : (flags : IsaFlags) (rd : ℕ) (o : ℤ) → HaveWords (offset_slots flags rd o)
offsets flags rd o =
    let up = lui_sized flags rd (upper_of o) in
    let far = pos (8 + jump_size flags) in
    let even : (short_jump flags far).len % 2 ≡ 0 = omega (arith, jump_len flags far, least_even flags) in
    let bytes : HaveWords (Data (to_le_bytes w64 (low64 o)) ∷ []) = record { plain = tt; within = lit≤ tt; uses = λ allocated start. refl; records = λ start. refl; names = λ named. refl; closed = λ here start. (refl, tt) } in
    offset_by (λ ps. HaveWords (slots_of flags ps)) rd o (λ fits none. one (short_lui flags rd (upper_of o)) up.even) (λ fits. op_then (short_lui flags rd (upper_of o)) up.even (one (short_rri flags Addi rd rd (lower_of o)) (rri_sized flags Addi rd rd (lower_of o)).even))
    (λ other. op_then (decoded (Base base.Auipc) rd 0 0 (pos 0)) refl (op_then (decoded_load loads.Ld rd rd far) refl (op_then (short_jump flags far) even bytes)))

-- a number is its lower immediate
abbrev pub is_low : ℤ → Bool
is_low z = is_splittable z && low64 (upper_of z) == 0

-- by that alone, or as an offset is
abbrev pub slots_by : IsaFlags → ℕ → ℤ → Bool → List Slot
slots_by flags rd z low = slots_of flags (if low then Do (Rri Addi rd 0 (lower_of z)) ∷ [] else offset_pieces rd z)

pub number_by : (P : List Piece → Type 0) (rd : ℕ) (z : ℤ) → (is_low z ≡ true → P (Do (Rri Addi rd 0 (lower_of z)) ∷ [])) → (is_splittable z ≡ true → low64 (lower_of z) ≡ 0 → P (Do (Lui rd (upper_of z)) ∷ [])) → (is_splittable z ≡ true → P (Do (Lui rd (upper_of z)) ∷ Do (Rri Addi rd rd (lower_of z)) ∷ [])) → (is_splittable z ≡ false → P (Constant rd (Word64 (low64 z)) ∷ [])) → P (number_pieces rd z)
number_by P rd z alone upper both constant = (elim (is_low z) as (λ c. is_low z ≡ c → P (if c then Do (Rri Addi rd 0 (lower_of z)) ∷ [] else offset_pieces rd z)) [ true ↦ alone | false ↦ λ high. offset_by P rd z upper both constant ]) refl

-- the uses of an address
abbrev pub uses_at : Location → ℕ → ℕ → List (Use LabelUse)
uses_at (Based r o) = none
uses_at (AtLabel l) = λ start end. use_at start l PCRelHi20 ∷ use_at (start + 4) l PCRelLo12I ∷ []
uses_at (AtConstant k) = λ start end. use_at start (constant_label k) PCRelHi20 ∷ use_at (start + 4) (constant_label k) PCRelLo12I ∷ []

-- its constant
abbrev pub constant_at : Location → Option VCodeConstant
constant_at (AtConstant k) = Some k
constant_at _ = None

-- the sum of an offset and a register
sums : (flags : IsaFlags) (rd r : ℕ) (o : ℤ) → HaveWords (slots_of flags (offset_pieces rd o ++ Do (Rrr Add rd rd r) ∷ []))
sums flags rd r o = both_pieces flags (offset_pieces rd o) (Do (Rrr Add rd rd r) ∷ []) (offsets flags rd o) (one (short_rrr flags Add rd rd r) (rrr_sized flags Add rd rd r).even)

-- an access to a register plus an offset, which may trap: at once where it is near, else after the address in x31
based : (flags : IsaFlags) (access : Access) (trap : Option TrapCode) (r : ℕ) (o : ℤ) → (op_of flags (access r o)).len % 2 ≡ 0 → (op_of flags (access 31 (pos 0))).len ≡ 4 → HaveAccess (if is_near o then (op_of flags (access r o)).len else 4) none trap None (slots_of flags (based_pieces access trap r o))
based flags access trap r o even four =
    let far = access 31 (pos 0) in
    let last = access_pieces trap ++ Do far ∷ [] in
    let d = subst (λ n. HaveAccess n none trap None (slots_of flags last)) four (accessed_by flags trap far (ap (λ n. n % 2) four)) in
    elim (is_near o) as (λ t. HaveAccess (if t then (op_of flags (access r o)).len else 4) none trap None (slots_of flags (if t then access_pieces trap ++ Do (access r o) ∷ [] else (if t then Do (Rri Addi 31 r o) ∷ [] else offset_pieces 31 o ++ Do (Rrr Add 31 31 r) ∷ []) ++ last)))
    [ true ↦ accessed_by flags trap (access r o) even | false ↦ both_pieces flags (offset_pieces 31 o ++ Do (Rrr Add 31 31 r) ∷ []) last (sums flags 31 r o) d ]

-- an access to the address in x31 has no form of sixteen bits
wide_load : (flags : IsaFlags) (op : LoadOP) (rd : ℕ) (o : ℤ) → zca_load flags op rd 31 o ≡ None
wide_load flags loads.Flh rd o = search rules
wide_load flags _ rd o = search rules

wide_store : (flags : IsaFlags) (op : StoreOP) (src : ℕ) (o : ℤ) → zca_store flags op 31 src o ≡ None
wide_store flags stores.Fsh src o = search rules
wide_store flags _ src o = search rules

pub far_load : (flags : IsaFlags) (op : LoadOP) (rd : ℕ) (o : ℤ) → short_load flags op rd 31 o ≡ decoded_load op rd 31 o
far_load flags op rd o = elim flags.has_zca as (λ c. chosen (if c then zca_load flags op rd 31 o else None) (decoded_load op rd 31 o) ≡ decoded_load op rd 31 o) [ true ↦ ap (λ f. chosen f (decoded_load op rd 31 o)) (wide_load flags op rd o) | false ↦ refl ]

pub far_store : (flags : IsaFlags) (op : StoreOP) (src : ℕ) (o : ℤ) → short_store flags op 31 src o ≡ decoded_store op 31 src o
far_store flags op src o = elim flags.has_zca as (λ c. chosen (if c then zca_store flags op 31 src o else None) (decoded_store op 31 src o) ≡ decoded_store op 31 src o) [ true ↦ ap (λ f. chosen f (decoded_store op 31 src o)) (wide_store flags op src o) | false ↦ refl ]

pub addresses : (flags : IsaFlags) (rd : ℕ) (at : Location) → HaveAccess 0 (uses_at at) None (constant_at at) (address_slots flags rd at)
addresses flags rd (Based r o) =
    elim (is_near o) as (λ t. HaveWords (slots_of flags (if t then Do (Rri Addi rd r o) ∷ [] else offset_pieces rd o ++ Do (Rrr Add rd rd r) ∷ [])))
    [ true ↦ one (short_rri flags Addi rd r o) (rri_sized flags Addi rd r o).even | false ↦ sums flags rd r o ]
addresses flags rd _ = record { plain = tt; within = lit≤ tt; uses = λ allocated start. refl; records = λ start. refl; names = λ named. refl; closed = λ here start. (tt, (tt, tt)) }

pub loaded : (flags : IsaFlags) (rd : ℕ) (op : LoadOP) (trap : Option TrapCode) (at : Location) → HaveAccess (load_own_size flags op rd at) (uses_at at) trap (constant_at at) (load_slots flags rd op trap at)
loaded flags rd op trap (Based r o) = based flags (piece.Load op rd) trap r o (load_sized flags op rd r o).even (ap (λ (d : Decoded). d.len) (far_load flags op rd (pos 0)))
loaded flags rd op None _ = record { plain = tt; within = lit≤ tt; uses = λ allocated start. refl; records = λ start. refl; names = λ named. refl; closed = λ here start. (tt, (tt, tt)) }
loaded flags rd op (Some code) _ = record { plain = tt; within = lit≤ tt; uses = λ allocated start. refl; records = λ start. let e : start + 4 ≡ start + 8 - 4 = omega arith in ap (trap_at code) e; names = λ named. refl; closed = λ here start. (tt, (tt, tt)) }

pub stored : (flags : IsaFlags) (op : StoreOP) (src : ℕ) (trap : Option TrapCode) (at : Location) → HaveAccess (store_own_size flags op src at) (uses_at at) trap (constant_at at) (store_slots flags op src trap at)
stored flags op src trap (Based r o) = based flags (store_access op src) trap r o (store_sized flags op r src o).even (ap (λ (d : Decoded). d.len) (far_store flags op src (pos 0)))
stored flags op src None _ = let four = ap (λ (d : Decoded). d.len) (far_store flags op src (pos 0)) in record { plain = tt; within = omega (arith, four); uses = λ allocated start. refl; records = λ start. refl; names = λ named. refl; closed = λ here start. (tt, (tt, ((store_sized flags op 31 src (pos 0)).even, tt))) }
stored flags op src (Some code) at =
    let four = ap (λ (d : Decoded). d.len) (far_store flags op src (pos 0)) in
    record { plain = tt; within = omega (arith, four); uses = λ allocated start. refl; records = λ start. let e : start + 4 + 4 ≡ start + size_of (store_slots flags op src (Some code) at) - 4 = omega (arith, four) in ap (trap_at code) e; names = λ named. refl; closed = λ here start. (tt, (tt, ((store_sized flags op 31 src (pos 0)).even, tt))) }

pub either_most : (flags : IsaFlags) (x y : List Piece) (c : Bool) (most : ℕ) → size_of (slots_of flags x) ≤ most → size_of (slots_of flags y) ≤ most → size_of (slots_of flags (if c then x else y)) ≤ most
either_most flags x y true most h g = h
either_most flags x y false most h g = g

-- an offset that an upper and a lower immediate make
pub split_short : (flags : IsaFlags) (rd : ℕ) (o : ℤ) → is_splittable o ≡ true → size_of (offset_slots flags rd o) ≤ 8
split_short flags rd o splits =
    let up = (lui_sized flags rd (upper_of o)).few in let down = (rri_sized flags Addi rd rd (lower_of o)).few in
    offset_by (λ ps. size_of (slots_of flags ps) ≤ 8) rd o (λ fits none. omega arith) (λ fits. omega arith) (λ far. absurd (cc))

pub offset_most : (flags : IsaFlags) (rd : ℕ) (o : ℤ) → size_of (offset_slots flags rd o) ≤ 20
offset_most flags rd o =
    let up = (lui_sized flags rd (upper_of o)).few in let down = (rri_sized flags Addi rd rd (lower_of o)).few in
    offset_by (λ ps. size_of (slots_of flags ps) ≤ 20) rd o (λ fits none. omega arith) (λ fits. omega arith) (λ far. omega (arith, jump_len flags (pos (8 + jump_size flags)), least_few flags))

pub address_most : (flags : IsaFlags) (rd : ℕ) (at : Location) → size_of (address_slots flags rd at) ≤ 24
address_most flags rd (Based r o) =
    either_most flags _ _ (is_near o) 24 (omega (arith, (rri_sized flags Addi rd r o).few)) (omega (arith, size_both flags (offset_pieces rd o) (Do (Rrr Add rd rd r) ∷ []), offset_most flags rd o, (rrr_sized flags Add rd rd r).few))
address_most flags rd _ = lit≤ tt

access_size : (trap : Option TrapCode) (slots : List Slot) → size_of (access_slots trap ++ slots) ≡ size_of slots
access_size None slots = refl
access_size (Some code) slots = omega arith

access_long : (flags : IsaFlags) (trap : Option TrapCode) (ps : List Piece) → size_of (slots_of flags (access_pieces trap ++ ps)) ≡ size_of (slots_of flags ps)
access_long flags trap ps = ap size_of (access_is flags trap ps) ∙ access_size trap (slots_of flags ps)

-- an access after the code of its address
pub far_most : (flags : IsaFlags) (access : Access) (trap : Option TrapCode) (at : Location) (most : ℕ) → (op_of flags (access 31 (pos 0))).len ≤ 4 → size_of (address_slots flags 31 at) ≤ most → size_of (slots_of flags (far_pieces access trap at)) ≤ most + 4
far_most flags access trap at most few le = omega (arith, size_both flags (address_pieces 31 at) (access_pieces trap ++ Do (access 31 (pos 0)) ∷ []), access_long flags trap (Do (access 31 (pos 0)) ∷ []))

-- at once, or after it
pub based_most : (flags : IsaFlags) (access : Access) (trap : Option TrapCode) (r : ℕ) (o : ℤ) (most : ℕ) → ((base : ℕ) (offset : ℤ) → (op_of flags (access base offset)).len ≤ 4) → size_of (address_slots flags 31 (Based r o)) ≤ most → size_of (slots_of flags (based_pieces access trap r o)) ≤ most + 4
based_most flags access trap r o most few le = either_most flags _ _ (is_near o) (most + 4) (omega (arith, access_long flags trap (Do (access r o) ∷ []), few r o)) (far_most flags access trap (Based r o) most (few 31 (pos 0)) le)

pub load_most : (flags : IsaFlags) (op : LoadOP) (rd : ℕ) (trap : Option TrapCode) (at : Location) → size_of (load_slots flags rd op trap at) ≤ 28
load_most flags op rd trap (Based r o) = based_most flags (piece.Load op rd) trap r o 24 (λ base offset. (load_sized flags op rd base offset).few) (address_most flags 31 (Based r o))
load_most flags op rd None _ = lit≤ tt
load_most flags op rd (Some code) _ = lit≤ tt

pub store_most : (flags : IsaFlags) (op : StoreOP) (src : ℕ) (trap : Option TrapCode) (at : Location) → size_of (store_slots flags op src trap at) ≤ 28
store_most flags op src trap (Based r o) = based_most flags (store_access op src) trap r o 24 (λ base offset. (store_sized flags op base src offset).few) (address_most flags 31 (Based r o))
store_most flags op src trap at = far_most flags (store_access op src) trap at 24 (store_sized flags op 31 src (pos 0)).few (address_most flags 31 at)

pub summed_by : {context : Context} {inst : Inst} {slots : List Slot} {last : ℕ} {own : ℕ → ℕ → List (Use LabelUse)} {records_at : ℕ → List MachRecord} {constant : Option VCodeConstant} → HaveContents last own records_at constant slots → IsOfSize (inst_size context inst) (size_of slots) → ((start end : ℕ) → own start end ≡ uses_in context start end inst) → ((start end : ℕ) → records_at (end - last) ≡ inst_records context start end inst) → constant ≡ inst_constant inst → IsSummed context inst slots
summed_by {slots = slots} c fits uses records constant =
    let more = λ (allocated start : ℕ). c.uses allocated start ∙ uses start (start + size_of slots) in
    let noted = λ (start : ℕ). c.records start ∙ records start (start + size_of slots) in
    record { plain = c.plain; fits = fits; uses = more; records = noted; names = λ named. c.names named ∙ ap (λ o. named_by o named) constant }

-- an address has the constant and the uses of its location
pub same_constant : (frame : FrameLayout) (read : ℕ) (mode : AMode) → constant_at (location_of frame mode) ≡ constant_named (address_targets read mode)
same_constant frame read (Const k) = refl
same_constant frame read _ = refl

pub same_uses : (flags : IsaFlags) (frame : FrameLayout) (read : ℕ) (mode : AMode) (start end : ℕ) → uses_at (location_of frame mode) start end ≡ target_uses flags start (address_targets read mode)
same_uses flags frame read (Const k) start end = refl
same_uses flags frame read _ start end = refl

pub load_addr_summed : (context : Context) (rd : Writable Reg) (mem : AMode) → IsSummed context (LoadAddr rd mem) (address_slots context.flags (number_of rd.reg) (location_of context.frame mem))
load_addr_summed context rd mem = summed_by (addresses context.flags (number_of rd.reg) (location_of context.frame mem)) (address_most context.flags (number_of rd.reg) (location_of context.frame mem)) (same_uses context.flags context.frame 0 mem) (λ start end. refl) (same_constant context.frame 0 mem)

pub address_contained : (flags : IsaFlags) (rd : ℕ) (at : Location) → AreSelfContained (address_slots flags rd at)
address_contained flags rd at = (addresses flags rd at).closed _ 0

-- in two's complement a number below 2 ^ 63 is itself
pub small_signed : (n : ℕ) → n < 2 ^ 63 → cast_signed w64 n ≡ pos n
small_signed n lt = omega (arith, ints)

-- 32 bits are their own low word
pub own_word : (n : ℕ) → n < 2 ^ 32 → low_word n ≡ n
own_word n lt = omega arith

-- slots that allocate no label, so many bytes at most
pub record IsShort (bound : ℕ) (slots : List Slot) : Type 0 where
  pub plain : IsPlain slots
  pub short : size_of slots ≤ bound

pub access_short : (trap : Option TrapCode) → IsShort 0 (access_slots trap)
access_short None = record { plain = tt; short = lit≤ tt }
access_short (Some code) = record { plain = tt; short = lit≤ tt }

-- the code that loads a constant
pub load_over_short : (flags : IsaFlags) (rd : ℕ) (op : LoadOP) (size : ℕ) → IsShort 12 (load_over flags rd op size)
load_over_short flags rd op size = record { plain = tt; short = let jump = jump_len flags (pos (size + jump_size flags)) in let few = least_few flags in omega arith }

pub offset_short : (flags : IsaFlags) (rd : ℕ) (o : ℤ) → IsShort 20 (offset_slots flags rd o)
offset_short flags rd o = record { plain = (offsets flags rd o).plain; short = offset_most flags rd o }

pub address_short : (flags : IsaFlags) (rd : ℕ) (location : Location) → IsShort 24 (address_slots flags rd location)
address_short flags rd location = record { plain = (addresses flags rd location).plain; short = address_most flags rd location }

pub real_number : (r : Reg) (class : RegClass) (n : ℕ) → IsReal r class n → number_of r ≡ n
real_number (Real p) class n h = h.1
real_number (Virtual file index) class n h = absurd h

-- a number is put into a register
pub numbers : (flags : IsaFlags) (rd : ℕ) (z : ℤ) → HaveWords (number_slots flags rd z)
numbers flags rd z =
    elim (is_low z) as (λ low. HaveWords (slots_by flags rd z low)) [ true ↦ one (short_rri flags Addi rd 0 (lower_of z)) (rri_sized flags Addi rd 0 (lower_of z)).even | false ↦ offsets flags rd z ]

-- at most 20 bytes
pub number_few : (flags : IsaFlags) (rd : ℕ) (z : ℤ) → size_of (number_slots flags rd z) ≤ 20
number_few flags rd z = elim (is_low z) as (λ low. size_of (slots_by flags rd z low) ≤ 20) [ true ↦ omega (arith, (rri_sized flags Addi rd 0 (lower_of z)).few) | false ↦ offset_most flags rd z ]

-- ---- steps in the making of a frame

pub unwind_summed : (context : Context) (inst : UnwindInst) → IsSummed context (Unwind inst) (Records (event.Unwind inst) ∷ [])
unwind_summed context inst = record { plain = tt; fits = refl; uses = λ allocated start. refl; records = λ start. refl; names = λ named. refl }

-- ---- what lines of loads and stores add to a buffer, those of halves by integer registers among them, and that their parts are self-contained.

pub line_loaded : (flags : IsaFlags) (rd : ℕ) (op : LoadOP) (trap : Option TrapCode) (at : Location) → HaveAccess (load_line_own_size flags op rd at) (uses_at at) trap (constant_at at) (load_line_slots flags rd op trap at)
line_loaded flags rd op trap at =
    let boxed = op_then (short_lui flags 30 high_bits) (lui_sized flags 30 high_bits).even (op_then (short_rrr flags Or 31 31 30) (rrr_sized flags Or 31 31 30).even (one (moved_to_float rd 31) refl)) in
    let long : size_of (boxing_slots flags rd) ≡ boxing_size flags = omega arith in
    let same_start : (start end other : ℕ) → uses_at at start end ≡ uses_at at start other = elim at as (λ at. (start end other : ℕ) → uses_at at start end ≡ uses_at at start other) [ Based r o ↦ λ start end other. refl | _ ↦ λ start end other. refl ] in
    let last = load_own_size flags Lh 31 at + boxing_size flags in
    let half = subst (HaveAccess last (uses_at at) trap (constant_at at)) (sym (slots_append flags (load_pieces Lh 31 trap at) (boxing_pieces rd)))
    (subst (λ n. HaveAccess (load_own_size flags Lh 31 at + n) (uses_at at) trap (constant_at at) (load_slots flags 31 Lh trap at ++ boxing_slots flags rd)) long (followed same_start (loaded flags 31 Lh trap at) boxed)) in
    elim (has_load flags op) as (λ has. HaveAccess (if has then load_own_size flags op rd at else last) (uses_at at) trap (constant_at at) (slots_of flags (if has then load_pieces op rd trap at else half_load_pieces rd trap at)))
    [ true ↦ loaded flags rd op trap at | false ↦ half ]

line_stored : (flags : IsaFlags) (op : StoreOP) (src : ℕ) (trap : Option TrapCode) (at : Location) → HaveAccess (store_line_own_size flags op src at) (λ start end. uses_at at (uses_start (is_moved_first flags op) start) end) trap (constant_at at) (store_line_slots flags op src trap at)
line_stored flags op src trap at =
    elim (has_store flags op) as (λ has. HaveAccess (if has then store_own_size flags op src at else store_own_size flags Sh 30 at) (λ start end. uses_at at (uses_start (not has) start) end) trap (constant_at at)
    (slots_of flags (if has then store_pieces op src trap at else half_store_pieces src trap at)))
    [ true ↦ stored flags op src trap at | false ↦ both (one (moved_to_integer 30 src) refl) (stored flags Sh 30 trap at) ]

-- a half by integer registers has three words more
pub half_most : {most : ℕ} (flags : IsaFlags) (rd : ℕ) (trap : Option TrapCode) (at : Location) → size_of (load_slots flags 31 Lh trap at) ≤ most → size_of (half_load_slots flags rd trap at) ≤ most + 12
half_most flags rd trap at le = omega (arith, size_both flags (load_pieces Lh 31 trap at) (boxing_pieces rd), (lui_sized flags 30 high_bits).few, (rrr_sized flags Or 31 31 30).few)

pub load_summed : (context : Context) (rd : Writable Reg) (op : LoadOP) (flags : MemFlagsData) (from : AMode) → IsSummed context (Load rd op flags from) (load_line_slots context.flags (number_of rd.reg) op flags.trap (location_of context.frame from))
load_summed context rd op flags from =
    let machine = context.flags in let n = number_of rd.reg in let at = location_of context.frame from in
    let few = elim (has_load machine op) as (λ has. size_of (slots_of machine (if has then load_pieces op n flags.trap at else half_load_pieces n flags.trap at)) ≤ (if has then 28 else 28 + 12))
    [ true ↦ load_most machine op n flags.trap at | false ↦ half_most machine n flags.trap at (load_most machine Lh 31 flags.trap at) ] in
    summed_by (line_loaded machine n op flags.trap at) few (same_uses machine context.frame (load_size op) from) (λ start end. refl) (same_constant context.frame (load_size op) from)

pub store_summed : (context : Context) (to : AMode) (op : StoreOP) (flags : MemFlagsData) (src : Reg) → IsSummed context (Store src op flags to) (store_line_slots context.flags op (number_of src) flags.trap (location_of context.frame to))
store_summed context to op flags src =
    let machine = context.flags in let n = number_of src in let at = location_of context.frame to in
    let few = elim (has_store machine op) as (λ has. size_of (slots_of machine (if has then store_pieces op n flags.trap at else half_store_pieces n flags.trap at)) ≤ (if has then 28 else 28 + 4))
    [ true ↦ store_most machine op n flags.trap at | false ↦ (let few = store_most machine Sh 30 flags.trap at in omega arith) ] in
    summed_by (line_stored machine op n flags.trap at) few (λ start end. same_uses machine context.frame 0 to (uses_start (is_moved_first machine op) start) end) (λ start end. refl) (same_constant context.frame 0 to)

pub load_contained : (flags : IsaFlags) (rd : ℕ) (op : LoadOP) (trap : Option TrapCode) (at : Location) → AreSelfContained (load_line_slots flags rd op trap at)
load_contained flags rd op trap at = (line_loaded flags rd op trap at).closed _ 0

pub store_contained : (flags : IsaFlags) (op : StoreOP) (src : ℕ) (trap : Option TrapCode) (at : Location) → AreSelfContained (store_line_slots flags op src trap at)
store_contained flags op src trap at = (line_stored flags op src trap at).closed _ 0
