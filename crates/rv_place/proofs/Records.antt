-- The relocations of a listing's code stand within it, apart from one another, and name what they must.
use Rattle.std.proofs.Common.{◌≡◌, ◌≢◌, ℕ, zero, suc, ◌+◌, ◌-◌, ◌^◌, ◌<◌, ◌≤◌, ◌⊎◌, inl, inr, ⊎_elim, Bool, true, false, not, ◌&&◌, ◌||◌, List, [], ◌∷◌, ◌++◌, length, take, Option, Some, None, Err, if◌then◌else◌, refl, sym, ap, subst, ◌∙◌, append-nil, arith}
use Rattle.std.specs.Prelude.{slice_get, nat_lt, ◌==◌, pos}
use Rattle.std.specs.List.{list_any}
use Rattle.std.proofs.lemmas.Bool.{le-ltb, cases_lt}
use Rattle.std.proofs.lemmas.Bool.Decides.{nat_tests}
use Rattle.std.proofs.lemmas.Grind.{flat_map-append}
use Rattle.std.proofs.lemmas.List.Folds.{list_any-append}
use Rattle.std.proofs.lemmas.Option.{same_Some, slice_get_within}
use Rattle.std.proofs.lemmas.List.{length-take, length-take-le}
use Rattle.{mach_records.proofs.OfRecords.record_relocs, mach_records.specs.Records.relocs_in}
use Rattle.mach_records.specs.declared.records.MachRecord.{MachRecord}
use Rattle.mach_records.specs.declared.records.MachReloc.{MachReloc}
use Rattle.mach_records.specs.declared.records.FinalizedRelocTarget.{FinalizedRelocTarget}
use Rattle.mach_records.specs.declared.records.FinalizedRelocTarget.TheVariants.{ExternalName as Named, Func}
use Rattle.mach_uses.specs.Windows.{IsApart}
use Rattle.rv_base.specs.declared.call.TryCallInfo.{TryCallInfo}
use Rattle.rv_base.specs.declared.call.UserStackMap.{UserStackMap}
use Rattle.rv_base.specs.declared.flags.IsaFlags.{IsaFlags}
use Rattle.rv_base.specs.declared.frame.FrameLayout.{FrameLayout}
use Rattle.rv_base.specs.declared.reloc.Reloc.{Reloc}
use Rattle.rv_base.specs.declared.reloc.Reloc.TheVariants.{RiscvCallPlt, RiscvGotHi20, RiscvPCRelHi20, RiscvPCRelLo12I, Abs8}
use Rattle.rv_base.specs.declared.trap.TrapCode.{TrapCode}
use Rattle.rv_base.specs.Regs.{number_of}
use Rattle.rv_inst.specs.Forms.{short_jalr}
use Rattle.rv_machine.specs.State.{wrap}
use Rattle.rv_inst.specs.Context.{Context, context_of}
use Rattle.rv_inst.specs.Records.{Recorded, SlotInParts, AddressInParts, AddressLast, access_records, patch_records, recorded, return_records}
use Rattle.rv_inst.specs.Relocations.{field_size}
use Rattle.rv_inst.specs.Sizes.{Request, inst_records, request_of}
use Rattle.rv_inst.specs.declared.code.Code.{Code}
use Rattle.rv_inst.specs.declared.code.LineSpan.{LineSpan}
use Rattle.rv_inst.specs.declared.inst.Inst.{Inst}
use Rattle.rv_inst.specs.Descriptions.{conversion_trap, recorded_of}
use Rattle.rv_ops.specs.Fpu.{is_to_integer}
use Rattle.rv_inst.specs.declared.inst.Inst.TheVariants.{Load, Store, Call, CallInd, ReturnCall, FpuRR}
use Rattle.rv_inst.specs.declared.inst.Line.{Line}
use Rattle.rv_inst.specs.declared.inst.Line.TheVariants.{Inst as Put, Bind}
use Rattle.rv_inst.specs.declared.job.Job.{Job}
use Rattle.rv_fill.specs.Filled.{Table, goal_in, is_upper_at}
use Rattle.rv_fill.specs.Refusal.{is_bad_base, meets, is_bad_target, is_bad_record, is_far, refusal_to, target_refusal, record_refusal, first_of, records_refusal, refusal, Finds}
use Rattle.rv_fill.specs.declared.error.PlaceError.{PlaceError}
use Rattle.rv_fill.specs.declared.error.PlaceError.TheVariants.{BadBase, BadRecord, NoSymbol, OutOfReach, OutOfMemory}
use Rattle.rv_asm.specs.Reported.{line_records, records_from, FillsInLine, Reported}
use Rattle.rv_asm.specs.Spans.{end_of, from_of, start_of, to_of, IsGap, IsGapOf, IsSpan}
use Rattle.rv_place.specs.Images.{IsOfPlace}

-- ---- targets

-- the targets of these relocations are what they must be, among all of them
abbrev AreAimed : List MachReloc → List MachReloc → Type 0
AreAimed all [] = Unit {0}
AreAimed all (r ∷ rs) = (is_bad_target all r.kind r.target ≡ false) × AreAimed all rs

more_any : (p : MachReloc → Bool) (front all back : List MachReloc) → list_any p all ≡ true → list_any p (front ++ (all ++ back)) ≡ true
more_any p front all back h =
    list_any-append p front (all ++ back) ∙ ap (λ b. list_any p front || b) (list_any-append p all back ∙ ap (λ b. b || list_any p back) h) ∙ or_true (list_any p front)
  where
    or_true : (b : Bool) → (b || true) ≡ true
    or_true true = refl
    or_true false = refl

not_any : (b : Bool) → not b ≡ false → b ≡ true
not_any true e = refl
not_any false e = absurd (cc)

-- among more relocations they are, too
aimed_one : (front all back : List MachReloc) (kind : Reloc) (target : FinalizedRelocTarget) → is_bad_target all kind target ≡ false → is_bad_target (front ++ (all ++ back)) kind target ≡ false
aimed_one front all back RiscvCallPlt (Named name) h = refl
aimed_one front all back RiscvCallPlt (Func at) h = absurd (cc)
aimed_one front all back RiscvGotHi20 (Named name) h = refl
aimed_one front all back RiscvGotHi20 (Func at) h = absurd (cc)
aimed_one front all back RiscvPCRelHi20 (Named name) h = refl
aimed_one front all back RiscvPCRelHi20 (Func at) h = absurd (cc)
aimed_one front all back RiscvPCRelLo12I (Named name) h = absurd (cc)
aimed_one front all back RiscvPCRelLo12I (Func at) h = ap not (more_any (is_upper_at at) front all back (not_any _ h))
aimed_one front all back Abs8 (Named name) h = refl
aimed_one front all back Abs8 (Func at) h = absurd (cc)

aimed_among : (front all back rs : List MachReloc) → AreAimed all rs → AreAimed (front ++ (all ++ back)) rs
aimed_among front all back [] h = tt
aimed_among front all back (r ∷ rs) h = (aimed_one front all back r.kind r.target h.0, aimed_among front all back rs h.1)

aimed_both : (all rs more : List MachReloc) → AreAimed all rs → AreAimed all more → AreAimed all (rs ++ more)
aimed_both all [] more h g = g
aimed_both all (r ∷ rs) more h g = (h.0, aimed_both all rs more h.1 g)

-- those of two pieces, each of which is
aimed_pieces : (first more : List MachReloc) → AreAimed first first → AreAimed more more → AreAimed (first ++ more) (first ++ more)
aimed_pieces first more h g =
    aimed_both (first ++ more) first more (aimed_among [] first more first h)
    (subst (λ all. AreAimed all more) (ap (λ rest. first ++ rest) (append-nil more)) (aimed_among first more [] more g))

-- ---- one line

access_aimed : (all : List MachReloc) (at : ℕ) (trap : Option TrapCode) → AreAimed all (relocs_in (access_records at trap))
access_aimed all at None = tt
access_aimed all at (Some code) = tt

patch_aimed : (all : List MachReloc) (patchable : Bool) (end size : ℕ) → AreAimed all (relocs_in (patch_records patchable end size))
patch_aimed all false end size = tt
patch_aimed all true end size = tt

site_aimed : (all : List MachReloc) (frame : FrameLayout) (at : ℕ) (t : Option TryCallInfo) (more : List MachRecord) → AreAimed all (relocs_in more) → AreAimed all (relocs_in (return_records frame at None t ++ more))
site_aimed all frame at None more h = h
site_aimed all frame at (Some t) more h = h

return_aimed : (all : List MachReloc) (frame : FrameLayout) (at : ℕ) (entries : Option UserStackMap) (t : Option TryCallInfo) (more : List MachRecord) → AreAimed all (relocs_in more) → AreAimed all (relocs_in (return_records frame at entries t ++ more))
return_aimed all frame at None t more h = site_aimed all frame at t more h
return_aimed all frame at (Some entries) t more h = site_aimed all frame at t more h

-- the upper part of a pair stands at the place that its lower part names
at_itself : (n : ℕ) → (n == n) ≡ true
at_itself n = grind (arith, nat_tests)

pair_aimed : (b : Bool) → b ≡ true → not (b || false) ≡ false
pair_aimed true e = refl
pair_aimed false e = absurd (cc)

-- what is recorded of one whose description gives its code
recorded_aimed : (r : Recorded) (start end : ℕ) → AreAimed (relocs_in (recorded r start end)) (relocs_in (recorded r start end))
recorded_aimed (SlotInParts name) start end = (refl, (pair_aimed _ (at_itself start), tt))
recorded_aimed (AddressInParts name addend) start end = (refl, (pair_aimed _ (at_itself start), tt))
recorded_aimed (AddressLast name addend) start end = (refl, tt)
recorded_aimed r start end = tt

inst_aimed : (context : Context) (start end : ℕ) (inst : Inst) → AreAimed (relocs_in (inst_records context start end inst)) (relocs_in (inst_records context start end inst))
inst_aimed context start end (Load rd op flags from) = access_aimed (relocs_in (inst_records context start end (Load rd op flags from))) _ flags.trap
inst_aimed context start end (Store src op flags to) = access_aimed (relocs_in (inst_records context start end (Store src op flags to))) _ flags.trap
inst_aimed context start end (FpuRR op width frm rd rs) = access_aimed (relocs_in (inst_records context start end (FpuRR op width frm rd rs))) start (conversion_trap (is_to_integer op))
inst_aimed context start end (Call info) =
    let all = relocs_in (inst_records context start end (Call info)) in
    (refl, return_aimed all context.frame _ info.stack_map info.try_call_info (patch_records info.patchable _ _) (patch_aimed all info.patchable _ _))
inst_aimed context start end (CallInd info) =
    let rs = return_records context.frame (start + (short_jalr context.flags 1 (number_of info.dest) (pos 0)).len) info.stack_map info.try_call_info in
    subst (λ records. AreAimed (relocs_in rs) (relocs_in records)) (append-nil rs) (return_aimed (relocs_in rs) context.frame _ info.stack_map info.try_call_info [] tt)
inst_aimed context start end (ReturnCall info) = (refl, tt)
inst_aimed context start end inst = recorded_aimed (recorded_of inst) start end

line_aimed : (context : Context) (start end : ℕ) (line : Line) → AreAimed (relocs_in (line_records context start end line)) (relocs_in (line_records context start end line))
line_aimed context start end (Put inst) = inst_aimed context start end inst
line_aimed context start end (Bind label) = tt

lines_aimed : (context : Context) (spans : List LineSpan) (i : ℕ) (lines : List Line) → AreAimed (relocs_in (records_from context spans i lines)) (relocs_in (records_from context spans i lines))
lines_aimed context spans i [] = tt
lines_aimed context spans i (line ∷ lines) =
    let first = line_records context (start_of spans i) (end_of spans i) line in
    let more = records_from context spans (suc i) lines in
    subst (λ rs. AreAimed rs rs) (sym (flat_map-append record_relocs first more)) (aimed_pieces (relocs_in first) (relocs_in more) (line_aimed context (start_of spans i) (end_of spans i) line) (lines_aimed context spans (suc i) lines))

aimed_at : (all rs : List MachReloc) (j : ℕ) (r : MachReloc) → AreAimed all rs → slice_get rs j ≡ Some r → is_bad_target all r.kind r.target ≡ false
aimed_at all [] j r h e = absurd (cc)
aimed_at all (x ∷ rs) zero r h e = subst (λ (r : MachReloc). is_bad_target all r.kind r.target ≡ false) (same_Some x r e) h.0
aimed_at all (x ∷ rs) (suc j) r h e = aimed_at all rs j r h.1 e

-- ---- places

gap_ascends : (flags : IsaFlags) (bytes : List ℕ) (from to : ℕ) → IsGap flags bytes from to → from ≤ to
gap_ascends flags bytes from to h = ⊎_elim (λ same. omega arith) (λ island. let longer = island.longer in omega arith) h

asked_ascends : (flags : IsaFlags) (bytes : List ℕ) (request : Option Request) (from to : ℕ) → IsGapOf flags bytes request from to → from ≤ to
asked_ascends flags bytes None from to same = omega arith
asked_ascends flags bytes (Some r) from to gap = gap_ascends flags bytes from to gap

span_ascends : (context : Context) (bytes : List ℕ) (line : Line) (start from to end : ℕ) → IsSpan context bytes line start from to end → start ≤ end
span_ascends context bytes (Put inst) start from to end h = let gap = asked_ascends context.flags bytes (request_of context inst) from to h.gap in omega (arith, h.first, gap, h.last)
span_ascends context bytes (Bind label) start from to end h = omega (arith, h.0)

line_at : (lines : List Line) (i : ℕ) → i < length lines → (line : Line) × (slice_get lines i ≡ Some line)
line_at [] i lt = absurd (omega arith)
line_at (x ∷ lines) zero lt = (x, refl)
line_at (x ∷ lines) (suc i) lt = line_at lines i (omega arith)

get_taken : (rs : List MachReloc) (j i : ℕ) (r : MachReloc) → slice_get (take j rs) i ≡ Some r → (i < j) × (slice_get rs i ≡ Some r)
get_taken [] j i r e = let within = slice_get_within (take j []) i r e in absurd (omega (arith, within, length-take {A = MachReloc}))
get_taken (x ∷ rs) zero i r e = let none = length-take-le 0 (x ∷ rs) (omega arith) in let within = slice_get_within (take 0 (x ∷ rs)) i r e in absurd (omega (arith, none, within))
get_taken (x ∷ rs) (suc j) zero r e = (omega arith, e)
get_taken (x ∷ rs) (suc j) (suc i) r e = let rest = get_taken rs j i r e in (let below = rest.0 in omega arith, rest.1)

-- ---- refusals

-- a relocation that is none such is refused for its target alone
target_sound : (o : Option ℕ) (base index i : ℕ) (r : MachReloc) → refusal_to base index r o ≡ Some (BadRecord i) → ⊥
target_sound None base index i r e = absurd (cc)
target_sound (Some to) base index i r e = far_sound (is_far r.kind (wrap (base + r.offset)) to) index i e
  where
    far_sound : (b : Bool) (index i : ℕ) → (if b then Some (OutOfReach index) else None) ≡ Some (BadRecord i) → ⊥
    far_sound true index i e = absurd (cc)
    far_sound false index i e = absurd (cc)

named_sound : (base : ℕ) (symbols slots : Table) (index i : ℕ) (r : MachReloc) (target : FinalizedRelocTarget) → target_refusal base symbols slots index r target ≡ Some (BadRecord i) → ⊥
named_sound base symbols slots index i r (Named name) e = target_sound (goal_in symbols slots r.kind name.number r.addend) base index i r e
named_sound base symbols slots index i r (Func at) e = absurd (cc)

passed : (b : Bool) (error : PlaceError) (next : Option PlaceError) (e : PlaceError) → b ≡ false → (if b then Some error else next) ≡ Some e → next ≡ Some e
passed true error next e is h = absurd (cc)
passed false error next e is h = h

one_or_next : (a b : Option PlaceError) (e : PlaceError) → first_of a b ≡ Some e → (a ≡ Some e) ⊎ (b ≡ Some e)
one_or_next None b e h = inr h
one_or_next (Some error) b e h = inl h

records_sound : (count : ℕ) (relocs : List MachReloc) (base : ℕ) (symbols slots : Table) (index : ℕ) (rs : List MachReloc) (i : ℕ) → ((k : ℕ) (r : MachReloc) → slice_get rs k ≡ Some r → is_bad_record count relocs (index + k) r ≡ false) → records_refusal count relocs base symbols slots index rs ≡ Some (BadRecord i) → ⊥
records_sound count relocs base symbols slots index [] i fine e = absurd (cc)
records_sound count relocs base symbols slots index (r ∷ rs) i fine e =
    let here : index + 0 ≡ index = omega arith in
    ⊎_elim
    (λ one. named_sound base symbols slots index i r r.target (passed (is_bad_record count relocs index r) (BadRecord index) _ (BadRecord i) (subst (λ n. is_bad_record count relocs n r ≡ false) here (fine 0 r refl)) one))
    (λ next. records_sound count relocs base symbols slots (suc index) rs i (λ k s g. let same : index + suc k ≡ suc index + k = omega arith in subst (λ n. is_bad_record count relocs n s ≡ false) same (fine (suc k) s g)) next)
    (one_or_next (record_refusal count relocs base symbols slots index r) (records_refusal count relocs base symbols slots (suc index) rs) (BadRecord i) e)

based : (b : Bool) (next : Option PlaceError) (i : ℕ) → (if b then Some BadBase else next) ≡ Some (BadRecord i) → next ≡ Some (BadRecord i)
based true next i e = absurd (cc)
based false next i e = e

module _ (job : Job) (code : Code) (h : Reported job code) where
  -- so many lines before the last one end where it does, or before
  ends_before_last : (more i : ℕ) → i + suc more ≡ length job.lines → end_of code.lines i ≤ code.end
  ends_before_last zero i e = let last : suc i ≡ length job.lines = omega arith in let same = h.last i last in omega arith
  ends_before_last (suc more) i e =
      let below : suc i < length job.lines = omega arith in
      let line = line_at job.lines (suc i) below in
      let gap = gap_ascends job.flags code.bytes (end_of code.lines i) (start_of code.lines (suc i)) (h.joined i below) in
      let span = span_ascends (context_of job) code.bytes line.0 (start_of code.lines (suc i)) (from_of h.gaps (suc i)) (to_of h.gaps (suc i)) (end_of code.lines (suc i)) (h.long (suc i) line.0 line.1) in
      let rest = ends_before_last more (suc i) (omega arith) in
      omega (arith, gap, span, rest)

  field_within : (j : ℕ) (r : MachReloc) → slice_get code.relocs j ≡ Some r → r.offset + field_size r.kind ≤ length code.bytes
  field_within j r e =
      let f = h.fields j r e in
      let below = f.1 in
      let count = h.count in
      let ends = f.3 in
      let within = h.within in
      let last = ends_before_last (length job.lines - suc f.0) f.0 (omega (arith, below, count)) in
      omega (arith, ends, last, within)

  target_fine : (j : ℕ) (r : MachReloc) → slice_get code.relocs j ≡ Some r → is_bad_target code.relocs r.kind r.target ≡ false
  target_fine j r e = subst (λ rs. slice_get rs j ≡ Some r → is_bad_target rs r.kind r.target ≡ false) (sym h.relocs) (aimed_at (relocs_in (records_from (context_of job) code.lines 0 job.lines)) (relocs_in (records_from (context_of job) code.lines 0 job.lines)) j r (lines_aimed (context_of job) code.lines 0 job.lines)) e

  apart_fine : (a b c d : ℕ) → (a + b ≤ c) ⊎ (c + d ≤ a) → (nat_lt a (c + d) && nat_lt c (a + b)) ≡ false
  apart_fine a b c d h = grind (arith, nat_tests)

  none_meets : (rs : List MachReloc) (r : MachReloc) → ((j : ℕ) (s : MachReloc) → slice_get rs j ≡ Some s → IsApart r.offset (field_size r.kind) s.offset (field_size s.kind)) → list_any (meets r) rs ≡ false
  none_meets [] r apart = refl
  none_meets (s ∷ rs) r apart = ap (λ b. b || list_any (meets r) rs) (apart_fine r.offset (field_size r.kind) s.offset (field_size s.kind) (apart 0 s refl)) ∙ none_meets rs r (λ j t e. apart (suc j) t e)

  record_fine : (j : ℕ) (r : MachReloc) → slice_get code.relocs j ≡ Some r → is_bad_record (length code.bytes) code.relocs j r ≡ false
  record_fine j r e =
      let first : nat_lt (length code.bytes) (r.offset + field_size r.kind) ≡ false = le-ltb _ _ (field_within j r e) in
      let second = none_meets (take j code.relocs) r (λ i t g. let taken = get_taken code.relocs j i t g in h.fields_apart j i r t (λ same. absurd (omega (arith, taken.0))) e taken.1) in
      (λ i. first i || second i || target_fine j r e i)

  module _ (base : ℕ) (symbols slots : Table) where
    never_bad : (i : ℕ) → refusal (length code.bytes) code.relocs base symbols slots ≡ Some (BadRecord i) → ⊥
    unfolding refusal
    never_bad i e = records_sound (length code.bytes) code.relocs base symbols slots 0 code.relocs i (λ k r g. let here : k ≡ 0 + k = omega arith in subst (λ n. is_bad_record (length code.bytes) code.relocs n r ≡ false) here (record_fine k r g)) (based (is_bad_base base (length code.bytes)) _ i e)

    -- what is refused is refused for the base or for the symbols
    pub of_place : (error : PlaceError) → Finds {X = List ℕ} (refusal (length code.bytes) code.relocs base symbols slots) (Err error) → IsOfPlace error
    of_place BadBase found = tt
    of_place (BadRecord index) found = never_bad index found
    of_place (NoSymbol index) found = tt
    of_place (OutOfReach index) found = tt
    of_place OutOfMemory found = tt
