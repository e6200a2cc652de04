-- The records of lines: handlers with the offsets of their labels, saved registers, and the bytes that relocations fill.
use Rattle.rv_asm.{proofs.LabelNames.bound_place, proofs.LinesInBuffer.gap_within, proofs.RefusalOrder.{AllBound, all_both, all_first}}
use Rattle.rv_asm.proofs.Words.{[], Abs8, access_records, AllByRecursion, ap, append-nil, arith, Bind, Bool, broken_rule, Buffer, Constant, ConstPlace, Context, end_of, ExternalName, false, field_size, FillsInLine, finalized_handler, first_in, flat_map-append, FrameLayout, from_of, Gap, GapAsked}
use Rattle.rv_asm.proofs.Words.{handler_label, inl, inr, Inst, inst_records, inst_registers, is_some, is_virtual, IsApart, IsGap, IsOfSize, IsOutside, keeps, label_start, LabelUse, length, Line, line_records, LineSpan, LinesStand, List, list_any, locate, MachLabel, MachRecord, MachReloc, map}
use Rattle.rv_asm.proofs.Words.{named_labels, None, offset_or_zero, Option, patch_records, place_of, Put, record_relocs, record_unwinds, records_from, refl, Reloc, relocs_in, Request, request_of, return_records, same_Some, SavesReal, Shape, slice_get, slice_get_within, Some, sp_to_fp_of, SpansIn}
use Rattle.{rv_asm.proofs.Words.{StandOutside, start_of, StepSaves, subst, suc, sym, to_of, TrapCode, tries_in, true, try_labels, TryCallInfo, unwinds_in, unwrap_or, UserStackMap, Virtual, zero, ℕ, ⊎_elim, ◌++◌, ◌+◌, ◌-◌, ◌<◌, ◌∙◌, ◌∷◌, ◌≡◌, ◌≢◌, ◌≤◌, ◌⊎◌}, rv_base.specs.declared.call.CallInfo.CallInfo}
use Rattle.{rv_base.{specs.declared.call.TryCallHandler.TryCallHandler, specs.declared.call.TryCallHandler.TheVariants.{Default, Tag}, specs.declared.unwind.UnwindInst.UnwindInst, specs.declared.unwind.UnwindInst.TheVariants.SaveReg}, rv_code.proofs.MadeOfPieces.{HasRoom, has_room}}
use Rattle.{rv_inst.{specs.Descriptions.{conversion_trap, recorded_of}, specs.Records.{Recorded, recorded, Nothing, TrapAfter, SlotInParts, AddressInParts, AddressLast}, specs.declared.inst.Inst.TheVariants.{BrTable, EmitIsland, FpuRR, Unwind, Call, CallInd, Load, ReturnCall, ReturnCallInd, Store}}, rv_ops.specs.Fpu.is_to_integer}
use Rattle.mach_records.specs.declared.records.FinalizedMachExceptionHandler.TheVariants as to

-- ---- records by their kinds

-- of an access: none, or a trap
pub access_cases : (P : List MachRecord → Type 0) (at : ℕ) (trap : Option TrapCode) → P [] → ((code : TrapCode) → P (access_records at (Some code))) → P (access_records at trap)
access_cases P at None none one = none
access_cases P at (Some code) none one = one code

-- of a call that may be patched, or not
pub patch_cases : (P : List MachRecord → Type 0) (patchable : Bool) (end size : ℕ) → P [] → P (patch_records true end size) → P (patch_records patchable end size)
patch_cases P false end size none one = none
patch_cases P true end size none one = one

-- of a call that returns: with a map of the values on the stack or not, and one that ends its block or not
pub return_cases : (P : Option TryCallInfo → List MachRecord → Type 0) (frame : FrameLayout) (at : ℕ) (entries : Option UserStackMap) (t : Option TryCallInfo) → P None (return_records frame at None None) → ((t : TryCallInfo) → P (Some t) (return_records frame at None (Some t))) →
    ((m : UserStackMap) → P None (return_records frame at (Some m) None)) → ((m : UserStackMap) (t : TryCallInfo) → P (Some t) (return_records frame at (Some m) (Some t))) → P t (return_records frame at entries t)
return_cases P frame at None None plain ends maps both = plain
return_cases P frame at None (Some t) plain ends maps both = ends t
return_cases P frame at (Some m) None plain ends maps both = maps m
return_cases P frame at (Some m) (Some t) plain ends maps both = both m t

-- ---- handlers

module _ (f g : ℕ → ℕ) where
  abbrev Same : MachLabel → Type 0
  Same l = f l.number ≡ g l.number

  -- both find these labels at the same offsets
  abbrev Agree : List MachLabel → Type 0
  Agree labels = AllByRecursion Same labels

  handlers_agree : (handlers : List TryCallHandler) → Agree (map handler_label handlers) → map (finalized_handler f) handlers ≡ map (finalized_handler g) handlers
  handlers_agree [] h = refl
  handlers_agree (Tag tag label ∷ handlers) h = let rest = handlers_agree handlers h.1 in λ i. to.Tag tag (h.0 i) ∷ rest i
  handlers_agree (Default label ∷ handlers) h = let rest = handlers_agree handlers h.1 in λ i. to.Default (h.0 i) ∷ rest i

  -- of the records where a call returns, and others after them
  return_agree : (frame : FrameLayout) (at : ℕ) (entries : Option UserStackMap) (t : Option TryCallInfo) (more : List MachRecord) → Agree (try_labels t) → tries_in f more ≡ tries_in g more → tries_in f (return_records frame at entries t ++ more) ≡ tries_in g (return_records frame at entries t ++ more)
  return_agree frame at entries t more h e = return_cases (λ t rs. Agree (try_labels t) → tries_in f (rs ++ more) ≡ tries_in g (rs ++ more)) frame at entries t (λ h. e) site (λ m h. e) (λ m. site) h
    where
      site : (t : TryCallInfo) → Agree (try_labels (Some t)) → tries_in f (return_records frame at None (Some t) ++ more) ≡ tries_in g (return_records frame at None (Some t) ++ more)
      site t h = let same = handlers_agree t.handlers h.1 in λ i. record { offset = at; frame_offset = Some (sp_to_fp_of frame); handlers = same i } ∷ e i

  access_agree : (at : ℕ) (trap : Option TrapCode) → tries_in f (access_records at trap) ≡ tries_in g (access_records at trap)
  access_agree at trap = access_cases (λ rs. tries_in f rs ≡ tries_in g rs) at trap refl (λ code. refl)

  -- a call names no other labels
  own_agree : (t : Option TryCallInfo) → Agree (try_labels t ++ [] ++ []) → Agree (try_labels t)
  own_agree t h = all_first Same (try_labels t) [] (all_first Same (try_labels t ++ []) [] h)

  line_agree : (context : Context) (start end : ℕ) (line : Line) → Agree (named_labels line) → tries_in f (line_records context start end line) ≡ tries_in g (line_records context start end line)
  line_agree context start end (Put (Load rd op flags from)) h = access_agree _ flags.trap
  line_agree context start end (Put (Store src op flags to)) h = access_agree _ flags.trap
  line_agree context start end (Put (FpuRR op width frm rd rs)) h = access_agree start (conversion_trap (is_to_integer op))
  line_agree context start end (Put (Call info)) h = return_agree context.frame _ info.stack_map info.try_call_info (patch_records info.patchable _ _) (own_agree info.try_call_info h) (patch_cases (λ rs. tries_in f rs ≡ tries_in g rs) info.patchable _ _ refl refl)
  line_agree context start end (Put (CallInd info)) h =
      subst (λ rs. tries_in f rs ≡ tries_in g rs) (append-nil (return_records context.frame _ info.stack_map info.try_call_info))
      (return_agree context.frame _ info.stack_map info.try_call_info [] (own_agree info.try_call_info h) refl)
  line_agree context start end (Put inst) h = refl
  line_agree context start end (Bind label) h = refl

  lines_agree : (context : Context) (spans : List LineSpan) (i : ℕ) (lines : List Line) → ((k : ℕ) (line : Line) → slice_get lines k ≡ Some line → Agree (named_labels line)) → tries_in f (records_from context spans i lines) ≡ tries_in g (records_from context spans i lines)
  lines_agree context spans i [] named = refl
  lines_agree context spans i (line ∷ lines) named =
      grind (arith, flat_map-append, line_agree context (start_of spans i) (end_of spans i) line (named 0 line refl), lines_agree context spans (suc i) lines (λ k next e. named (suc k) next e))

-- a label that is bound has the offset of the line that binds it
bound_agree : {context : Context} {gaps : List Gap} (lines : List Line) (spans : List LineSpan) (b : Buffer) → LinesStand context lines spans gaps b → (labels : List MachLabel) → AllBound lines labels → Agree (offset_or_zero (place_of b)) (label_start spans lines) labels
bound_agree lines spans b built [] h = tt
bound_agree lines spans b built (l ∷ labels) h = (ap (λ o. unwrap_or o 0) (bound_place lines spans b l.number built h.0), bound_agree lines spans b built labels h.1)

pub handlers_reported : {context : Context} {gaps : List Gap} (lines : List Line) (spans : List LineSpan) (b : Buffer) → LinesStand context lines spans gaps b → ((i : ℕ) (line : Line) → slice_get lines i ≡ Some line → AllBound lines (named_labels line)) → tries_in (offset_or_zero (place_of b)) (records_from context spans 0 lines) ≡ tries_in (label_start spans lines) (records_from context spans 0 lines)
handlers_reported {context} lines spans b built named = lines_agree (offset_or_zero (place_of b)) (label_start spans lines) context spans 0 lines (λ i line e. bound_agree lines spans b built (named_labels line) (named i line e))

-- ==== The steps in the making of a frame that lines tell save registers of the machine: a line that names a virtual one is refused.

step_saves : (inst : UnwindInst) → list_any is_virtual (inst_registers (Unwind inst)) ≡ false → StepSaves inst
step_saves (SaveReg above (Virtual class index)) h = absurd (cc)
step_saves inst h = tt

access_saves : (at : ℕ) (trap : Option TrapCode) → AllByRecursion SavesReal (unwinds_in (access_records at trap))
access_saves at trap = access_cases (λ rs. AllByRecursion SavesReal (unwinds_in rs)) at trap tt (λ code. tt)

-- the records where a call returns are no steps
return_saves : (frame : FrameLayout) (at : ℕ) (entries : Option UserStackMap) (t : Option TryCallInfo) (more : List MachRecord) → AllByRecursion SavesReal (unwinds_in more) → AllByRecursion SavesReal (unwinds_in (return_records frame at entries t ++ more))
return_saves frame at entries t more h = return_cases (λ t rs. AllByRecursion SavesReal (unwinds_in (rs ++ more))) frame at entries t h (λ t. h) (λ m. h) (λ m t. h)

line_saves : (context : Context) (start end : ℕ) (line : Line) → broken_rule context line ≡ None → AllByRecursion SavesReal (unwinds_in (line_records context start end line))
line_saves context start end (Put (Load rd op flags from)) rule = access_saves _ flags.trap
line_saves context start end (Put (Store src op flags to)) rule = access_saves _ flags.trap
line_saves context start end (Put (FpuRR op width frm rd rs)) rule = access_saves start (conversion_trap (is_to_integer op))
line_saves context start end (Put (Call info)) rule = return_saves context.frame _ info.stack_map info.try_call_info (patch_records info.patchable _ _) (patch_cases (λ rs. AllByRecursion SavesReal (unwinds_in rs)) info.patchable _ _ tt tt)
line_saves context start end (Put (CallInd info)) rule =
    subst (λ rs. AllByRecursion SavesReal (unwinds_in rs)) (append-nil (return_records context.frame _ info.stack_map info.try_call_info))
    (return_saves context.frame _ info.stack_map info.try_call_info [] tt)
line_saves context start end (Put (Unwind inst)) rule = (step_saves inst (keeps context (Unwind inst) rule).real, tt)
line_saves context start end (Put inst) rule = tt
line_saves context start end (Bind label) rule = tt

pub lines_save : (context : Context) (spans : List LineSpan) (i : ℕ) (lines : List Line) → ((k : ℕ) (line : Line) → slice_get lines k ≡ Some line → broken_rule context line ≡ None) → AllByRecursion SavesReal (unwinds_in (records_from context spans i lines))
lines_save context spans i [] ruled = tt
lines_save context spans i (line ∷ lines) ruled =
    rw (flat_map-append record_unwinds (line_records context (start_of spans i) (end_of spans i) line) (records_from context spans (suc i) lines))
    (all_both SavesReal _ _ (line_saves context (start_of spans i) (end_of spans i) line (ruled 0 line refl)) (lines_save context spans (suc i) lines (λ k. ruled (suc k))))

-- ==== The bytes that relocations fill: each relocation's are in the span of its line, among its words, and no two share one; and none is
-- a constant's.

-- ---- fields one after the other

-- between two offsets: the bytes of each end before those of the next one begin
abbrev FillInTurn : List MachReloc → ℕ → ℕ → Type 0
FillInTurn [] from to = from ≤ to
FillInTurn (r ∷ rs) from to = (from ≤ r.offset) × FillInTurn rs (r.offset + field_size r.kind) to

fill_from : (rs : List MachReloc) (before from to : ℕ) → before ≤ from → FillInTurn rs from to → FillInTurn rs before to
fill_from [] before from to le h = omega arith
fill_from (r ∷ rs) before from to le h = (let first = h.0 in omega arith, h.1)

fill_both : (rs more : List MachReloc) (from mid to : ℕ) → FillInTurn rs from mid → FillInTurn more mid to → FillInTurn (rs ++ more) from to
fill_both [] more from mid to h g = fill_from more from mid to h g
fill_both (r ∷ rs) more from mid to h g = (h.0, fill_both rs more (r.offset + field_size r.kind) mid to h.1 g)

fill_ascends : (rs : List MachReloc) (from to : ℕ) → FillInTurn rs from to → from ≤ to
fill_ascends [] from to h = h
fill_ascends (r ∷ rs) from to h = let first = h.0 in let rest = fill_ascends rs (r.offset + field_size r.kind) to h.1 in omega arith

fill_between : (rs : List MachReloc) (from to j : ℕ) (r : MachReloc) → FillInTurn rs from to → slice_get rs j ≡ Some r → (from ≤ r.offset) × (r.offset + field_size r.kind ≤ to)
fill_between [] from to j r h e = absurd (cc)
fill_between (x ∷ rs) from to zero r h e = subst (λ (r : MachReloc). (from ≤ r.offset) × (r.offset + field_size r.kind ≤ to)) (same_Some x r e) (h.0, fill_ascends rs (x.offset + field_size x.kind) to h.1)
fill_between (x ∷ rs) from to (suc j) r h e =
    let rest = fill_between rs (x.offset + field_size x.kind) to j r h.1 e in
    (omega (arith, h.0, rest.0), rest.1)

fill_after : (x : MachReloc) (rs : List MachReloc) (from to k : ℕ) (r s : MachReloc) → FillInTurn (x ∷ rs) from to → Some x ≡ Some r → slice_get rs k ≡ Some s → r.offset + field_size r.kind ≤ s.offset
fill_after x rs from to k r s h e g = subst (λ (r : MachReloc). r.offset + field_size r.kind ≤ s.offset) (same_Some x r e) (fill_between rs (x.offset + field_size x.kind) to k s h.1 g).0

fill_apart : (rs : List MachReloc) (from to j k : ℕ) (r s : MachReloc) → FillInTurn rs from to → j ≢ k → slice_get rs j ≡ Some r → slice_get rs k ≡ Some s → IsApart r.offset (field_size r.kind) s.offset (field_size s.kind)
fill_apart [] from to j k r s h differ e g = absurd (cc)
fill_apart (x ∷ rs) from to zero zero r s h differ e g = absurd (differ refl)
fill_apart (x ∷ rs) from to zero (suc k) r s h differ e g = inl (fill_after x rs from to k r s h e g)
fill_apart (x ∷ rs) from to (suc j) zero r s h differ e g = inr (fill_after x rs from to j s r h g e)
fill_apart (x ∷ rs) from to (suc j) (suc k) r s h differ e g = fill_apart rs (x.offset + field_size x.kind) to j k r s h.1 (λ same. differ (ap suc same)) e g

-- ---- one line

-- the bytes of a line, and its gap among them
abbrev pub LineSpread : Context → Line → Shape LabelUse → ℕ → ℕ → ℕ → ℕ → Type 0
LineSpread context (Put inst) f start from to end = SpansIn context inst f start from to end
LineSpread context (Bind label) f start from to end = start ≡ end

spans_ascend : {context : Context} {inst : Inst} {f : Shape LabelUse} {start from to end : ℕ} → SpansIn context inst f start from to end → start ≤ end
spans_ascend {context} {inst} {f} {start} {from} {to} {end} s = omega (arith, s.first, gap_within context.flags (request_of context inst) f from to s.gap, s.last)

access_fill : (at : ℕ) (trap : Option TrapCode) (start end : ℕ) → start ≤ end → FillInTurn (relocs_in (access_records at trap)) start end
access_fill at trap start end le = access_cases (λ rs. FillInTurn (relocs_in rs) start end) at trap le (λ code. le)

patch_fill : (patchable : Bool) (begin end from to : ℕ) → from ≤ to → FillInTurn (relocs_in (patch_records patchable begin end)) from to
patch_fill patchable begin end from to le = patch_cases (λ rs. FillInTurn (relocs_in rs) from to) patchable begin end le le

-- the records where a call returns are no relocations
return_fill : (frame : FrameLayout) (at : ℕ) (entries : Option UserStackMap) (t : Option TryCallInfo) (more : List MachRecord) (from to : ℕ) → FillInTurn (relocs_in more) from to → FillInTurn (relocs_in (return_records frame at entries t ++ more)) from to
return_fill frame at entries t more from to h = return_cases (λ t rs. FillInTurn (relocs_in (rs ++ more)) from to) frame at entries t h (λ t. h) (λ m. h) (λ m t. h)

-- what is recorded of one whose description gives its code
recorded_fill : (r : Recorded) (bytes start end : ℕ) → start + bytes ≤ end → HasRoom r bytes → FillInTurn (relocs_in (recorded r start end)) start end
recorded_fill Nothing bytes start end le room = omega (arith, le)
recorded_fill (TrapAfter after code) bytes start end le room = omega (arith, le)
recorded_fill (SlotInParts name) bytes start end le room = (omega arith, (omega arith, omega (arith, le, room)))
recorded_fill (AddressInParts name addend) bytes start end le room = (omega arith, (omega arith, omega (arith, le, room)))
recorded_fill (AddressLast name addend) bytes start end le room = (omega (arith, le, room), omega (arith, le, room))

-- what a line's relocations fill stands where the line does
line_fill : (context : Context) (f : Shape LabelUse) (line : Line) (start from to end : ℕ) → LineSpread context line f start from to end → FillInTurn (relocs_in (line_records context start end line)) start end
line_fill context f (Put (Load rd op flags mode)) start from to end h = access_fill _ flags.trap start end (spans_ascend h)
line_fill context f (Put (Store src op flags mode)) start from to end h = access_fill _ flags.trap start end (spans_ascend h)
line_fill context f (Put (FpuRR op width frm rd rs)) start from to end h = access_fill start (conversion_trap (is_to_integer op)) start end (spans_ascend h)
line_fill context f (Put (Call info)) start from to end h =
    (omega arith, return_fill context.frame _ info.stack_map info.try_call_info (patch_records info.patchable _ _) (start + 8) end (patch_fill info.patchable _ _ (start + 8) end (omega (arith, h.back.returns _ refl))))
line_fill context f (Put (CallInd info)) start from to end h =
    subst (λ rs. FillInTurn (relocs_in rs) start end) (append-nil (return_records context.frame _ info.stack_map info.try_call_info))
    (return_fill context.frame _ info.stack_map info.try_call_info [] start end (spans_ascend h))
line_fill context f (Put (ReturnCall info)) start from to end h =
    let least = h.least refl in
    let before = gap_within context.flags (request_of context (ReturnCall info)) f from to h.gap in
    (omega (arith, h.first, before, least.filled), omega (arith, h.first, before, least.filled))
line_fill context f (Put inst) start from to end h =
    let bytes = from - start + (end - to) in
    recorded_fill (recorded_of inst) bytes start end (omega (arith, h.first, gap_within context.flags (request_of context inst) f from to h.gap, h.last)) (has_room context inst bytes h.size)
line_fill context f (Bind label) start from to end h = omega arith

-- ---- among the bytes of an instruction

-- before its gap, or after it
abbrev AreAmong : ℕ → ℕ → ℕ → ℕ → ℕ → ℕ → Type 0
AreAmong start from to end at by = ((start ≤ at) × (by ≤ from)) ⊎ ((to ≤ at) × (by ≤ end))

some_field : (kind : Reloc) → 1 ≤ field_size kind
some_field Abs8 = omega arith
some_field kind = omega arith

-- of one that asks for no island the gap is at its start
level : {context : Context} {inst : Inst} {f : Shape LabelUse} {start from to end : ℕ} → request_of context inst ≡ None → SpansIn context inst f start from to end → start ≡ to
level {context} {inst} {f} {start} {from} {to} asks h =
    let begins : from - start ≡ 0 = subst (λ r. IsOfSize (first_in r) (from - start)) asks h.begins in
    let gap : from ≡ to = subst (λ r. GapAsked context.flags r f from to) asks h.gap in
    omega (arith, begins, gap, h.first)

call_among : {context : Context} {info : CallInfo ExternalName} {f : Shape LabelUse} {start from to end at by : ℕ} (request : Option Request) → request_of context (Call info) ≡ request → SpansIn context (Call info) f start from to end → start ≤ at → by ≤ start + 8 → AreAmong start from to end at by
call_among None asks h starts ends = inr (omega (arith, level asks h, starts), omega (arith, h.back.returns _ refl, ends))
call_among (Some r) asks h starts ends = let least = (h.least (ap is_some asks)).returns _ refl in inl (starts, omega (arith, least, h.first, ends))

inst_among : (context : Context) (f : Shape LabelUse) (inst : Inst) (start from to end j : ℕ) (r : MachReloc) → SpansIn context inst f start from to end → slice_get (relocs_in (inst_records context start end inst)) j ≡ Some r → AreAmong start from to end r.offset (r.offset + field_size r.kind)
inst_among context f (Call info) start from to end j r h e =
    let turn : FillInTurn (relocs_in (inst_records context start end (Call info))) start (start + 8) = (omega arith, return_fill context.frame _ info.stack_map info.try_call_info (patch_records info.patchable _ _) (start + 8) (start + 8) (patch_fill info.patchable _ _ (start + 8) (start + 8) (omega arith))) in
    let own = fill_between (relocs_in (inst_records context start end (Call info))) start (start + 8) j r turn e in
    call_among (request_of context (Call info)) refl h own.0 own.1
inst_among context f (CallInd info) start from to end j r h e =
    let ends = (fill_between _ 0 0 j r (subst (λ rs. FillInTurn (relocs_in rs) 0 0) (append-nil (return_records context.frame _ info.stack_map info.try_call_info)) (return_fill context.frame _ info.stack_map info.try_call_info [] 0 0 (omega arith))) e).1 in
    absurd (omega (arith, some_field r.kind, ends))
inst_among context f (ReturnCall info) start from to end j r h e =
    let least = (h.least refl).filled in
    let own = fill_between (relocs_in (inst_records context start end (ReturnCall info))) (end - 8) end j r ((omega arith, omega (arith, least))) e in
    inr (omega (arith, own.0, least), own.1)
inst_among context f (EmitIsland space) start from to end j r h e = absurd (cc)
inst_among context f (BrTable index tmp1 tmp2 targets) start from to end j r h e = absurd (cc)
inst_among context f (ReturnCallInd info) start from to end j r h e = absurd (cc)
inst_among context f inst start from to end j r h e =
    let own = fill_between (relocs_in (inst_records context start end inst)) start end j r (line_fill context f (Put inst) start from to end h) e in
    let same : start ≡ to = level refl h in
    inr (omega (arith, own.0, same), own.1)

-- ---- all lines

module _ (context : Context) (bytes : List ℕ) (spans : List LineSpan) (gaps : List Gap) (f : Shape LabelUse) where
  abbrev SpreadAt : ℕ → Line → Type 0
  SpreadAt i line = LineSpread context line f (start_of spans i) (from_of gaps i) (to_of gaps i) (end_of spans i)

  relocs_split : (i : ℕ) (line : Line) (lines : List Line) → relocs_in (records_from context spans i (line ∷ lines)) ≡ relocs_in (line_records context (start_of spans i) (end_of spans i) line) ++ relocs_in (records_from context spans (suc i) lines)
  relocs_split i line lines = flat_map-append record_relocs (line_records context (start_of spans i) (end_of spans i) line) (records_from context spans (suc i) lines)

  -- lines, the first of which has index i, are as long as they must be; between two stands nothing, or an island
  lines_fill : (i : ℕ) (lines : List Line) (from : ℕ) → ((k : ℕ) (line : Line) → slice_get lines k ≡ Some line → SpreadAt (i + k) line) → ((k : ℕ) → suc k < length lines → IsGap context.flags bytes (end_of spans (i + k)) (start_of spans (suc (i + k)))) → (0 < length lines → from ≤ start_of spans i) →
      (to : ℕ) × FillInTurn (relocs_in (records_from context spans i lines)) from to
  lines_fill i [] from long joined starts = (from, omega arith)
  lines_fill i (line ∷ lines) from long joined starts =
      let here : i + 0 ≡ i = omega arith in
      let next : (k : ℕ) → i + suc k ≡ suc i + k = λ k. omega arith in
      let first = relocs_in (line_records context (start_of spans i) (end_of spans i) line) in
      let more = relocs_in (records_from context spans (suc i) lines) in
      let rest = lines_fill (suc i) lines (end_of spans i) (λ k l e. subst (λ n. SpreadAt n l) (next k) (long (suc k) l e)) (λ k lt. subst (λ n. IsGap context.flags bytes (end_of spans n) (start_of spans (suc n))) (next k) (joined (suc k) (omega (arith, lt))))
      (λ lt. ⊎_elim (λ same. omega arith) (λ island. let longer = island.longer in omega arith) (subst (λ n. IsGap context.flags bytes (end_of spans n) (start_of spans (suc n))) here (joined 0 (omega (arith, lt))))) in
      let both = fill_both first more (start_of spans i) (end_of spans i) rest.0 (line_fill context f line (start_of spans i) (from_of gaps i) (to_of gaps i) (end_of spans i) (subst (λ n. SpreadAt n line) here (long 0 line refl))) rest.1 in
      (rest.0, subst (λ rs. FillInTurn rs from rest.0) (sym (relocs_split i line lines)) (fill_from (first ++ more) from (start_of spans i) rest.0 (starts (omega arith)) both))

  -- a relocation is one of a line, whose index is i and some
  record OfLine (i : ℕ) (lines : List Line) (r : MachReloc) : Type 0 where
    place : ℕ
    line : Line
    there : slice_get lines place ≡ Some line
    index : ℕ
    own : slice_get (relocs_in (line_records context (start_of spans (i + place)) (end_of spans (i + place)) line)) index ≡ Some r

  of_line : (i : ℕ) (lines : List Line) (j : ℕ) (r : MachReloc) → slice_get (relocs_in (records_from context spans i lines)) j ≡ Some r → OfLine i lines r
  of_line i [] j r e = absurd (cc)
  of_line i (line ∷ lines) j r e =
      let here : i ≡ i + 0 = omega arith in
      ⊎_elim
      (λ own. record { place = 0; line = line; there = refl; index = j; own = subst (λ n. slice_get (relocs_in (line_records context (start_of spans n) (end_of spans n) line)) j ≡ Some r) here own })
      (λ later.
      let a = of_line (suc i) lines later.index r later.there in
      let same : suc i + a.place ≡ i + suc a.place = omega arith in
      record { place = suc a.place; line = a.line; there = a.there; index = a.index; own = subst (λ n. slice_get (relocs_in (line_records context (start_of spans n) (end_of spans n) a.line)) a.index ≡ Some r) same a.own })
      (locate (relocs_in (line_records context (start_of spans i) (end_of spans i) line)) (relocs_in (records_from context spans (suc i) lines)) j r (ap (λ rs. slice_get rs j) (sym (relocs_split i line lines)) ∙ e))

  module _ (lines : List Line) (count : length spans ≡ length lines) (long : (i : ℕ) (line : Line) → slice_get lines i ≡ Some line → SpreadAt i line) where
    -- each relocation's bytes are a line's
    pub fields_in_lines : (j : ℕ) (r : MachReloc) → slice_get (relocs_in (records_from context spans 0 lines)) j ≡ Some r → FillsInLine spans r
    fields_in_lines j r e =
        let a = of_line 0 lines j r e in
        let same : 0 + a.place ≡ a.place = omega arith in
        let between = fill_between _ (start_of spans a.place) (end_of spans a.place) a.index r (line_fill context f a.line (start_of spans a.place) (from_of gaps a.place) (to_of gaps a.place) (end_of spans a.place) (long a.place a.line a.there)) (subst (λ n. slice_get (relocs_in (line_records context (start_of spans n) (end_of spans n) a.line)) a.index ≡ Some r) same a.own) in
        (a.place, omega (arith, slice_get_within lines a.place a.line a.there), between.0, between.1)

    -- and none of them is a constant's
    pub constants_unfilled : (registered : List Constant) (constants : List ConstPlace) → ((i : ℕ) (inst : Inst) → slice_get lines i ≡ Some (Put inst) → StandOutside registered constants (start_of spans i) (from_of gaps i) × StandOutside registered constants (to_of gaps i) (end_of spans i)) → (j : ℕ) (c : ConstPlace) (k : Constant) → slice_get constants j ≡ Some c → slice_get registered c.constant.number ≡ Some k → IsOutside (relocs_in (records_from context spans 0 lines)) c.offset (length k.bytes)
    constants_unfilled registered constants apart j c k hc hk i r e =
        let a = of_line 0 lines i r e in
        let same : 0 + a.place ≡ a.place = omega arith in
        on a.line a.place a.index a.there (subst (λ n. slice_get (relocs_in (line_records context (start_of spans n) (end_of spans n) a.line)) a.index ≡ Some r) same a.own)
      where
        by : (start from to end : ℕ) → StandOutside registered constants start from × StandOutside registered constants to end → AreAmong start from to end r.offset (r.offset + field_size r.kind) → IsApart c.offset (length k.bytes) r.offset (field_size r.kind)
        by start from to end h among = ⊎_elim
            (λ first. ⊎_elim (λ before. inr (omega (arith, first.1, before))) (λ after. inl (omega (arith, first.0, after))) (h.0 j c k hc hk))
            (λ last. ⊎_elim (λ before. inr (omega (arith, last.1, before))) (λ after. inl (omega (arith, last.0, after))) (h.1 j c k hc hk))
            among

        on : (line : Line) (n m : ℕ) → slice_get lines n ≡ Some line → slice_get (relocs_in (line_records context (start_of spans n) (end_of spans n) line)) m ≡ Some r → IsApart c.offset (length k.bytes) r.offset (field_size r.kind)
        on (Put inst) n m there own = by (start_of spans n) (from_of gaps n) (to_of gaps n) (end_of spans n) (apart n inst there) (inst_among context f inst (start_of spans n) (from_of gaps n) (to_of gaps n) (end_of spans n) m r (long n (Put inst) there) own)
        on (Bind label) n m there own = absurd (cc)

    -- no two share a byte
    pub fields_apart : ((i : ℕ) → suc i < length lines → IsGap context.flags bytes (end_of spans i) (start_of spans (suc i))) → (j k : ℕ) (r s : MachReloc) → j ≢ k → slice_get (relocs_in (records_from context spans 0 lines)) j ≡ Some r → slice_get (relocs_in (records_from context spans 0 lines)) k ≡ Some s → IsApart r.offset (field_size r.kind) s.offset (field_size s.kind)
    fields_apart joined j k r s differ e g =
        let same : (n : ℕ) → n ≡ 0 + n = λ n. omega arith in
        let all = lines_fill 0 lines (start_of spans 0) (λ n line at. subst (λ m. SpreadAt m line) (same n) (long n line at)) (λ n lt. subst (λ m. IsGap context.flags bytes (end_of spans m) (start_of spans (suc m))) (same n) (joined n lt)) (λ lt. omega arith) in
        fill_apart (relocs_in (records_from context spans 0 lines)) (start_of spans 0) all.0 j k r s all.1 differ e g
