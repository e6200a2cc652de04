-- Code that was built and finished keeps what is promised of it.
use Rattle.{mach_buffer.proofs.LastVeneers.padding_for, rv_asm.{proofs.AfterLastIsland.{constants_left, uses_waiting}, proofs.Images.{data_there, fields_after, fields_within, is_filled, keeps_outside, placed_at, puts_split, reloc_ends, trap_after_there, trap_reported, trap_there}, proofs.LabelNames.{bound_place, finished_short}}}
use Rattle.rv_asm.{proofs.LineRecords.{LineSpread, constants_unfilled, fields_apart, fields_in_lines, handlers_reported, lines_save}, proofs.LinesInBuffer.{gap_within, outside_more}, proofs.LinesJoin.{full_runs, IsThreaded, Known, LineIn, site_of, threaded_runs}}
use Rattle.rv_asm.{proofs.RefusalOrder.{accepted_frame, accepted_lines, AllBound, bind_at, names_bound, no_rule_broken, none_stuck, parts, sum_small}, proofs.Spans.line_at}
use Rattle.rv_asm.proofs.Words.{[], access_slots, Addresses, adds_end, AddsConstants, AfterLastIsland, Fixup, AllByRecursion, AllBytes, ap, AreWindows, arith, B12, backward_of, Base, Bind, binding_line, binds_from, branch_to, broken_rule, Buffer, bytes_of, calls_in, cases_eq, Code, code_limit}
use Rattle.rv_asm.proofs.Words.{CodeFits, comes_from, cond, cond_both, CondBrTarget, Constant, constants_end, constants_of, constants_taken, constants_waiting, ConstPlace, context_of, core, Decoded, decoded_branch, EmitVState, end_before, end_of, Fallthrough, false, fetch, Finishes, forward_of}
use Rattle.rv_asm.proofs.Words.{from_of, FullRuns, Gap, gap_is, gap_stands, GapAsked, GapIn, GoesToLabel, GoStraight, has_operation, has_veneer_of, HasConstants, HasFullOperations, HasOperations, HasTail, InReach, Inst, integer_decodes, IntegerCompare, is_bound, is_integer, is_reached, is_stuck}
use Rattle.rv_asm.proofs.Words.{IsaFlags, IsApart, IsFilled, IsFinished, IsFinishedTo, IsGap, IsGapOf, IsIn, IsOutside, IsOwnForm, IsPlaced, IsPlacedAt, IsSpan, IsTrapAt, Jal20, Job, jump_kind, KeepsOutside, Kinds, Label, label_kinds, label_reached, label_start, LabelUse, Lasts, lasts_after_slots}
use Rattle.rv_asm.proofs.Words.{lasts_more, le-leb, length, length_padded, Line, LinesStand, List, MachLabel, MachReloc, map, maps_in, marks_of, Memory, named_labels, nat_eq, nat_tests, None, offset_in, offset_or_zero, one_slot, Op, operation_of, Option, own_stands, padded_for, padding}
use Rattle.rv_asm.proofs.Words.{parts_are_self_contained, parts_of, parts_stand, PartsIn, patches_in, pending, place_of, pos, Put, put_all, put_at, put_constant, put_constant_at, put_each, put_veneer, puts_bytes, reads_operation, recorded, recorded_get, records_from, records_of, refl, relocs_in}
use Rattle.rv_asm.proofs.Words.{Reported, Request, request_of, returns_from, RunsAsListed, RVCJump, same_Some, SavesReal, Shape, shape_of, Site, size_of, size_sum, slice_get, slice_get-append, slice_get-append_last, Slot, slots_alone, SlotsIn, Some, StandApart, start_of, subst, suc, sym, to_of}
use Rattle.rv_asm.{proofs.Words.{ToLabel, TrapCode, traps_in, tries_in, true, unplaced_of, unwinds_in, Use, use_at, uses_in, uses_of, VCodeConstant, veneers_end, zero, ℕ, ℤ, ⊎_elim, ◌%◌, ◌&&◌, ◌*◌, ◌++◌, ◌+◌, ◌-ℤ◌, ◌<◌, ◌^◌, ◌∙◌, ◌∷◌, ◌≡◌, ◌≤◌, ◌⊎◌}, specs.Jumps.{GoesTo, HasJumps}, proofs.CodeRanges.code_fits}
use Rattle.{rv_asm.specs.Refusal.{lines_refusal, refusal}, rv_code.specs.Operations.{decoded_jump, short_jump}, rv_inst.specs.declared.inst.Inst.TheVariants.{Jal, CondBr}, rv_machine.specs.Layout.compressed}
use Rattle.rv_machine.specs.declared.ops.BaseOp.TheVariants as base_op

pub all_bytes : (bytes : List ℕ) → AllByRecursion (λ b. b < 256) bytes → AllBytes bytes
all_bytes [] h k lt = absurd (omega arith)
all_bytes (b ∷ bytes) h zero lt = h.0
all_bytes (b ∷ bytes) h (suc k) lt = all_bytes bytes h.1 k (omega arith)

module _ (job : Job) (code : Code) (gaps : List Gap) (b : Buffer) (built : LinesStand (context_of job) job.lines code.lines gaps b) (f : IsFinishedTo (shape_of b) code.bytes) (constants : code.constants ≡ f.finishes.put.constants) (small : length code.bytes ≤ 2 ^ 64) where
  -- one of one machine word is as long as the word
  word_long : (setting : EmitVState) (inst : Inst) (start end : ℕ) (d : Decoded) → operation_of (context_of job) inst ≡ Some d → PartsIn job.flags (parts_of (context_of job) setting inst) (shape_of b) start end → end ≡ start + d.len
  word_long setting inst start end d one parts =
      let a = one_slot (context_of job) setting inst d one in
      by a.trap (subst (λ ps. PartsIn job.flags ps (shape_of b) start end) a.only parts)
    where
      ends : (slots : List Slot) (last : ℕ) → SlotsIn job.flags slots (shape_of b) start last → size_of slots ≡ d.len → last ≡ end → end ≡ start + d.len
      ends slots last s long same = omega (arith, puts_bytes job.flags s.old.allocated slots s.old s.new s.puts, s.starts, s.ends, long, same)

      by : (trap : Option TrapCode) → PartsIn job.flags (slots_alone (access_slots trap ++ Op d ∷ [])) (shape_of b) start end → end ≡ start + d.len
      by None (last, s, same) = ends (Op d ∷ []) last s (omega arith) same
      by (Some code) (last, s, same) = ends (access_slots (Some code) ++ Op d ∷ []) last s (omega arith) same

  gap_of : (request : Option Request) (from to : ℕ) → GapAsked job.flags request (shape_of b) from to → IsGapOf job.flags code.bytes request from to
  gap_of None from to gap = gap
  gap_of (Some r) from to gap = gap_is (context_of job) (shape_of b) code.bytes f small from to gap

  -- the constants that the end puts come after all lines
  put_after : AddsConstants (shape_of b) f.finishes.put
  put_after = adds_end label_kinds (shape_of b) code.bytes f.finishes

  constant_put : (j : ℕ) (c : ConstPlace) → slice_get code.constants j ≡ Some c → slice_get f.finishes.put.constants j ≡ Some c
  constant_put j c h = ap (λ (cs : List ConstPlace). slice_get cs j) (sym constants) ∙ h

  spans_long : (i : ℕ) (line : Line) → slice_get job.lines i ≡ Some line → IsSpan (context_of job) code.bytes line (start_of code.lines i) (from_of gaps i) (to_of gaps i) (end_of code.lines i)
  spans_long i (Put inst) e =
      let h = (built.each i (Put inst) e).there in
      let s = h.2 in
      record { first = s.first; gap = gap_of (request_of (context_of job) inst) (from_of gaps i) (to_of gaps i) s.gap; last = s.last; begins = s.begins; size = s.size; word = λ d one. word_long h.0 inst (start_of code.lines i) (end_of code.lines i) d one h.1 }
  spans_long i (Bind label) e = let h = (built.each i (Bind label) e).there in (sym h.0, h.2)

  spread : (i : ℕ) (line : Line) → slice_get job.lines i ≡ Some line → LineSpread (context_of job) line (shape_of b) (start_of code.lines i) (from_of gaps i) (to_of gaps i) (end_of code.lines i)
  spread i (Put inst) e = (built.each i (Put inst) e).there.2
  spread i (Bind label) e = (built.each i (Bind label) e).there.0

  spans_joined : (i : ℕ) → suc i < length job.lines → IsGap job.flags code.bytes (end_of code.lines i) (start_of code.lines (suc i))
  spans_joined i lt = let next = line_at job.lines (suc i) lt in gap_is (context_of job) (shape_of b) code.bytes f small (end_of code.lines i) (start_of code.lines (suc i)) (built.each (suc i) next.0 next.1).gap

  words_apart : StandApart (context_of job) job.lines code.lines gaps code.constants
  words_apart i inst h =
      let stood = built.each i (Put inst) h in
      let s = stood.there.2 in
      let was = built.apart i inst h in
      let le = gap_within job.flags (request_of (context_of job) inst) (shape_of b) (from_of gaps i) (to_of gaps i) s.gap in
      let fresh : (j : ℕ) (c : ConstPlace) → slice_get code.constants j ≡ Some c → (slice_get (constants_of b) j ≡ Some c) ⊎ (length (bytes_of b) ≤ c.offset) = λ j c hc. put_after.fresh j c (constant_put j c hc) in (
        outside_more job.constants (constants_of b) code.constants (length (bytes_of b)) (start_of code.lines i) (from_of gaps i) (omega (arith, le, s.last, stood.ends)) fresh was.0,
        outside_more job.constants (constants_of b) code.constants (length (bytes_of b)) (to_of gaps i) (end_of code.lines i) stood.ends fresh was.1,
      )

  reloc_of : code.relocs ≡ relocs_in (records_of b) → (j : ℕ) (r : MachReloc) → slice_get code.relocs j ≡ Some r → slice_get (relocs_in (records_from (context_of job) code.lines 0 job.lines)) j ≡ Some r
  reloc_of relocs j r e = ap (λ (rs : List MachReloc). slice_get rs j) (sym (relocs ∙ ap relocs_in built.records)) ∙ e

  pub built_reported : code.returns ≡ returns_from job.flags code.lines 0 job.lines → code.labels ≡ binds_from code.lines 0 job.lines → code.relocs ≡ relocs_in (records_of b) → code.traps ≡ traps_in (records_of b) → code.call_sites ≡ calls_in (records_of b) → code.try_call_sites ≡ tries_in (offset_or_zero (place_of b)) (records_of b) → code.patchable_call_sites ≡ patches_in (records_of b) → code.stack_maps ≡ maps_in (records_of b) → code.unwinds ≡ unwinds_in (records_of b) → code.end ≡ length (bytes_of b) → length (bytes_of b) ≤ length code.bytes → ((i : ℕ) (line : Line) → slice_get job.lines i ≡ Some line → AllBound job.lines (named_labels line)) → InReach job code gaps → HasJumps job code gaps → Reported job code
  built_reported returns labels relocs traps call_sites try_call_sites patchable_call_sites stack_maps unwinds end within named reach jumps = record {
    gaps = gaps;
    reach = reach;
    jumps = jumps;
    count = built.count;
    indices = built.indices;
    first = built.first;
    long = spans_long;
    joined = spans_joined;
    last = λ i e. end ∙ built.ends ∙ ap (end_before code.lines) (sym e);
    none = λ e. end ∙ built.ends ∙ ap (end_before code.lines) e;
    within = omega arith;
    returns = returns;
    returns_within = λ i inst r e is. (built.each i (Put inst) e).there.2.back.returns r is;
    labels = labels;
    constants = ap (map (λ (c : ConstPlace). c.constant)) constants ∙ f.finishes.listed ∙ built.named;
    placed = subst (HasConstants job.constants code.bytes) (sym constants) (subst (λ (cs : List Constant). HasConstants cs code.bytes f.finishes.put.constants) built.registered f.finishes.constants);
    ascend = λ i j c d k lt hc hd hk. (put_after.in_turn built.in_turn).ascend i j c d k lt (constant_put i c hc) (constant_put j d hd) (ap (λ (ks : List Constant). slice_get ks c.constant.number) (put_after.registered ∙ built.registered) ∙ hk);
    unfilled = λ j c k hc hk. subst (λ (rs : List MachReloc). IsOutside rs c.offset (length k.bytes)) (sym (relocs ∙ ap relocs_in built.records)) (constants_unfilled (context_of job) code.bytes code.lines gaps (shape_of b) job.lines built.count spread job.constants code.constants words_apart j c k hc hk);
    apart = words_apart;
    relocs = relocs ∙ ap relocs_in built.records;
    traps = traps ∙ ap traps_in built.records;
    call_sites = call_sites ∙ ap calls_in built.records;
    try_call_sites = try_call_sites ∙ ap (tries_in (offset_or_zero (place_of b))) built.records ∙ handlers_reported job.lines code.lines b built named;
    patchable_call_sites = patchable_call_sites ∙ ap patches_in built.records;
    stack_maps = stack_maps ∙ ap maps_in built.records;
    unwinds = unwinds ∙ ap unwinds_in built.records;
    fields = λ j r e. fields_in_lines (context_of job) code.bytes code.lines gaps (shape_of b) job.lines built.count spread j r (reloc_of relocs j r e);
    fields_apart = λ j k r s differ e g. fields_apart (context_of job) code.bytes code.lines gaps (shape_of b) job.lines built.count spread spans_joined j k r s differ (reloc_of relocs j r e) (reloc_of relocs k s g);
    raw_data = data_there job code gaps b built f relocs;
    udf = trap_there job code gaps b built f relocs;
    trap_after = trap_after_there job code gaps b built f relocs;
  }

-- ==== Code that a buffer of lines was finished to runs as its job says.

module _ (job : Job) (code : Code) (gaps : List Gap) (b : Buffer) (built : LinesStand (context_of job) job.lines code.lines gaps b) (f : IsFinishedTo (shape_of b) code.bytes) (constants : code.constants ≡ f.finishes.put.constants) (relocs : code.relocs ≡ relocs_in (records_of b)) (traps : code.traps ≡ traps_in (records_of b)) (ruled : (i : ℕ) (line : Line) → slice_get job.lines i ≡ Some line → broken_rule (context_of job) line ≡ None) where
  abbrev known : Known
  known = record { place = f.finishes.put.place; records = records_of b }

  -- the code, where it is placed
  module _ (base : ℕ) (symbols slots : Addresses) (mem : Memory) (placed : IsPlaced code base symbols slots mem) where
    abbrev site : Site
    site = site_of job code known base symbols slots mem

    keeps : KeepsOutside site code.bytes
    keeps = keeps_outside code base symbols slots mem (context_of job) f.finishes.put.place (records_of b) relocs placed

    filled : IsFilled site code.bytes
    filled = is_filled code base symbols slots mem (context_of job) f.finishes.put.place (records_of b) relocs (fields_within (shape_of b) code.bytes f built.fields) placed

    -- the line of an index stands in the code, and ends at an even offset
    each_in : (i : ℕ) (line : Line) → slice_get job.lines i ≡ Some line → LineIn site line (start_of code.lines i) (end_of code.lines i) × (end_of code.lines i % 2 ≡ 0)
    each_in i (Put inst) e =
        let h = built.each i (Put inst) e in
        let p = parts_stand site (shape_of b) code.bytes f keeps refl refl built.fields filled (parts_of (context_of job) h.there.0 inst) (start_of code.lines i) (end_of code.lines i) (parts_are_self_contained (context_of job) h.there.0 inst (ruled i (Put inst) e)) h.even (omega (arith, h.within, f.finishes.grows.longer, f.finishes.same_length, keeps.long)) h.there.1 in
        (record { setting = h.there.0; even = h.even; within = p.3; stands = p.0 }, p.1)
    each_in i (Bind label) e = let h = built.each i (Bind label) e in let same = h.there.0 in let even = h.even in (same, omega arith)

    gap_in : (i : ℕ) → suc i < length job.lines → GapIn site (end_of code.lines i) (start_of code.lines (suc i))
    gap_in i lt =
        let here = line_at job.lines i (omega arith) in
        let next = line_at job.lines (suc i) lt in
        gap_stands site (shape_of b) code.bytes f keeps refl refl built.fields filled (end_of code.lines i) (start_of code.lines (suc i)) (each_in i here.0 here.1).1 (built.each (suc i) next.0 next.1).gap

    still : IsPlacedAt site mem
    still = placed_at code base symbols slots mem (context_of job) f.finishes.put.place (records_of b) placed

    own_form : (i : ℕ) (inst : Inst) (d : Decoded) → slice_get job.lines i ≡ Some (Put inst) → operation_of (context_of job) inst ≡ Some d → IsOwnForm d (fetch mem (base + start_of code.lines i))
    own_form i inst d listed one =
        let stood = (built.each i (Put inst) listed).there in
        let a = one_slot (context_of job) stood.0 inst d one in
        let slots = subst (λ ps. PartsIn job.flags ps (shape_of b) (start_of code.lines i) (end_of code.lines i)) a.only stood.1 in
        own_stands site (shape_of b) code.bytes f keeps refl refl a.trap d (start_of code.lines i) slots.0 slots.1 mem still

  -- the operation of a line of one machine word is read at its start, in its own form
  pub built_operations : HasOperations job code
  built_operations = record {
    each = λ i inst d base symbols slots mem listed core one placed.
        let line = (each_in base symbols slots mem placed i (Put inst) listed).0 in
        (has_operation (site base symbols slots mem placed) (start_of code.lines i) d line.setting inst (end_of code.lines i) core one line.stands mem (still base symbols slots mem placed), own_form base symbols slots mem placed i inst d listed one);
  }

  -- and so it is by the decoder of all units' operations
  pub built_full_operations : HasFullOperations job code
  built_full_operations = record {
    each = λ i inst d base symbols slots mem listed one placed.
        let line = (each_in base symbols slots mem placed i (Put inst) listed).0 in
        (reads_operation (site base symbols slots mem placed) (start_of code.lines i) d line.setting inst (end_of code.lines i) one line.stands mem (still base symbols slots mem placed), own_form base symbols slots mem placed i inst d listed one);
  }

  pub built_threaded : length code.bytes < code_limit → code.end ≡ length (bytes_of b) → code.returns ≡ returns_from job.flags code.lines 0 job.lines → ((i : ℕ) (line : Line) → slice_get job.lines i ≡ Some line → is_stuck job.frame line ≡ false) →
      ((i : ℕ) (line : Line) → slice_get job.lines i ≡ Some line → AllBound job.lines (named_labels line)) → IsThreaded job code known
  built_threaded short end returns fit named = record {
    line = λ base symbols slots mem placed i line e. (each_in base symbols slots mem placed i line e).0;
    ruled = ruled;
    fit = fit;
    named = named;
    gap = λ base symbols slots mem placed i lt. (gap_in base symbols slots mem placed i lt).leads;
    last = λ i e. end ∙ built.ends ∙ ap (end_before code.lines) (sym e);
    returns = returns;
    bound = λ label e. f.finishes.grows.places label _ (bound_place job.lines code.lines b label built e);
    constants = λ number. f.finishes.offsets number ∙ ap (λ places. offset_in places number) (sym constants);
    traps = λ at cause r. subst (λ ts. IsTrapAt ts at cause) (sym traps) (trap_reported (records_of b) at cause r);
    short = short;
    placed = λ label at e.
        omega (arith, ((f.finishes.places label at e).0), f.finishes.same_length);
    fields = reloc_ends (length code.bytes) code.relocs (records_of b) relocs (fields_within (shape_of b) code.bytes f built.fields);
  }

-- ==== Jumps and branches in the finished code, and where they go.

-- ---- the index of a use

some_marks : (kind : LabelUse) → 1 ≤ length (marks_of kind)
some_marks Jal20 = omega arith
some_marks kind = omega arith

-- no two uses have the same window, so one that is still in a buffer is where it was put
same_index : (bytes : List ℕ) (uses before more : List (Use LabelUse)) (u : Use LabelUse) → recorded uses ≡ recorded (before ++ u ∷ []) ++ more → AreWindows label_kinds bytes uses → IsIn uses u → slice_get uses (length before) ≡ Some u
same_index bytes uses before more u grown windows h =
    let n = length before in
    let x = comes_from core uses n (core u) (ap (λ us. slice_get us n) grown ∙ slice_get-append (recorded (before ++ u ∷ [])) more n (core u) (recorded_get (before ++ u ∷ []) n u (slice_get-append_last before u))) in
    ⊎_elim
    (λ same. ap (slice_get uses) (sym same) ∙ h.there)
    (λ differ. absurd (overlap x.from x.is (windows.apart h.index n u x.from differ h.there x.there))) (cases_eq h.index n)
  where
    overlap : (v : Use LabelUse) → core v ≡ core u → IsApart u.offset (length (marks_of u.kind)) v.offset (length (marks_of v.kind)) → ⊥
    overlap v is apart = grind (arith, some_marks u.kind, is, apart)

-- ---- one use

served_jump : (flags : IsaFlags) → has_veneer_of (jump_kind flags) ≡ true
served_jump flags = cond_both flags.has_zca RVCJump Jal20 (λ k. has_veneer_of k ≡ true) (λ e. refl) (λ e. refl)

short_jump_integer : (flags : IsaFlags) (d : ℤ) → is_integer (short_jump flags d).op ≡ true
short_jump_integer flags d = cond_both flags.has_zca (compressed (Base base_op.Jal) 0 0 0 d) (decoded_jump d) (λ x. is_integer x.op ≡ true) (λ e. refl) (λ e. refl)

module _ (job : Job) (code : Code) (gaps : List Gap) (b : Buffer) (built : LinesStand (context_of job) job.lines code.lines gaps b) (fin : IsFinishedTo (shape_of b) code.bytes) (relocs : code.relocs ≡ relocs_in (records_of b)) (small : length code.bytes ≤ 2 ^ 64) (straight : GoStraight (context_of job) job.lines code.lines gaps b) (named : (i : ℕ) (line : Line) → slice_get job.lines i ≡ Some line → AllBound job.lines (named_labels line)) where
  module _ (base : ℕ) (symbols slots : Addresses) (mem : Memory) (placed : IsPlaced code base symbols slots mem) where
    abbrev jump_site : Site
    jump_site = site_of job code (record { place = fin.finishes.put.place; records = records_of b }) base symbols slots mem

    jump_keeps : KeepsOutside jump_site code.bytes
    jump_keeps = keeps_outside code base symbols slots mem (context_of job) fin.finishes.put.place (records_of b) relocs placed

    -- of a line, after other slots
    goes : (i : ℕ) (inst : Inst) (front : List Slot) (kind : LabelUse) (label : MachLabel) (operation : ℤ → Decoded) (more : List Slot) (at k : ℕ) → ((d : ℤ) → is_integer (operation d).op ≡ true) → slice_get job.lines i ≡ Some (Put inst) → PartsIn job.flags (slots_alone (front ++ Fixup kind (Label label) (λ d. operation d ∷ []) ∷ more)) (shape_of b) (start_of code.lines i) (end_of code.lines i) → start_of code.lines i + size_of front ≡ at → slice_get (uses_in (context_of job) (start_of code.lines i) (end_of code.lines i) inst) k ≡ Some (use_at at label kind) → has_veneer_of kind ≡ true → is_bound job.lines label.number ≡ true → GoesTo job code gaps base mem i at kind operation label
    goes i inst front kind label operation more at k integer listed (end, q, last) sized own served bound =
        let to = label_start code.lines job.lines label.number in
        let u : Use LabelUse = use_at at label kind in
        let p = puts_split job.flags (shape_of b) code.bytes fin q.old.allocated front (Fixup kind (Label label) (λ d. operation d ∷ []) ∷ more) q.old q.new q.puts in
        let m : Shape LabelUse = p.0 in
        let lasts : Lasts label_kinds p.2.0 (shape_of b) = lasts_more (lasts_after_slots job.flags q.old.allocated more p.2.0 q.new p.2.2) q.lasts in
        let here : length m.bytes ≡ at = let long = puts_bytes job.flags q.old.allocated front q.old m p.1 in let starts = q.starts in omega (arith, long, starts, sized) in
        let grown : recorded (uses_of b) ≡ recorded (m.uses ++ u ∷ []) ++ lasts.grows.more = lasts.grows.grown ∙ (λ j. recorded ((p.2.1.2 j).uses) ++ lasts.grows.more) ∙ (λ j. recorded (m.uses ++ use_at (here j) label kind ∷ []) ++ lasts.grows.more) in
        let place : place_of b label.number ≡ Some to = bound_place job.lines code.lines b label.number built bound in
        let binder = bind_at job.lines label.number bound in
        let reached : to ≤ at + forward_of kind → at ≤ to + backward_of kind → is_reached label_kinds (Some to) u ≡ true = λ forward backward j. le-leb to (at + forward_of kind) forward j && le-leb at (to + backward_of kind) backward j in
        let g = subst (λ n. GoesToLabel jump_site (shape_of b) code.bytes (length m.uses) n kind label (λ d. operation d ∷ []) to) here
        (label_reached jump_site (shape_of b) code.bytes fin jump_keeps refl refl small q.old.allocated kind label (λ d. operation d ∷ []) m p.2.0 p.2.1
        (fields_after job.flags (shape_of b) code.bytes fin q.old.allocated front q.old m p.1 q.fields) lasts to (fin.finishes.grows.places label.number to place)) in
        record {
          target = g.target;
          reads = integer_decodes job.flags (fetch mem (base + at)) (operation (pos g.target -ℤ pos at)) (integer (pos g.target -ℤ pos at)) (g.has mem (placed_at code base symbols slots mem (context_of job) fin.finishes.put.place (records_of b) placed)).0;
          leads = g.leads;
          straight = λ few forward backward. g.straight
              (same_index (shape_of b).bytes (uses_of b) m.uses lasts.grows.more u grown built.windows (straight.each i inst k u (binding_line job.lines label.number) binder.0 listed own served binder.1 binder.2 (reached forward backward) few))
              (ap (λ o. is_reached label_kinds o u) place ∙ reached forward backward);
        }

    jal_goes : (i : ℕ) (label : MachLabel) → slice_get job.lines i ≡ Some (Put (Jal label)) → GoesTo job code gaps base mem i (start_of code.lines i) (jump_kind job.flags) (short_jump job.flags) label
    jal_goes i label e =
        goes i (Jal label) [] (jump_kind job.flags) label (short_jump job.flags) [] (start_of code.lines i) 0 (short_jump_integer job.flags) e (built.each i (Put (Jal label)) e).there.1 (omega arith) refl (served_jump job.flags) (named i (Put (Jal label)) e).0

    branch_goes : (i : ℕ) (t : MachLabel) (not_taken : CondBrTarget) (kind : IntegerCompare) → slice_get job.lines i ≡ Some (Put (CondBr (ToLabel t) not_taken kind)) → GoesTo job code gaps base mem i (start_of code.lines i) B12 (decoded_branch kind) t
    branch_goes i t Fallthrough kind e =
        goes i (CondBr (ToLabel t) Fallthrough kind) [] B12 t (decoded_branch kind) [] (start_of code.lines i) 0 (λ d. refl) e (built.each i (Put (CondBr (ToLabel t) Fallthrough kind)) e).there.1 (omega arith) refl refl (named i (Put (CondBr (ToLabel t) Fallthrough kind)) e).0
    branch_goes i t (ToLabel f) kind e =
        goes i (CondBr (ToLabel t) (ToLabel f) kind) [] B12 t (decoded_branch kind) _ (start_of code.lines i) 0 (λ d. refl) e (built.each i (Put (CondBr (ToLabel t) (ToLabel f) kind)) e).there.1 (omega arith) refl refl (named i (Put (CondBr (ToLabel t) (ToLabel f) kind)) e).0

    other_goes : (i : ℕ) (t f : MachLabel) (kind : IntegerCompare) → slice_get job.lines i ≡ Some (Put (CondBr (ToLabel t) (ToLabel f) kind)) → GoesTo job code gaps base mem i (start_of code.lines i + 4) (jump_kind job.flags) (short_jump job.flags) f
    other_goes i t f kind e =
        goes i (CondBr (ToLabel t) (ToLabel f) kind) (branch_to kind (Label t) ∷ []) (jump_kind job.flags) f (short_jump job.flags) [] (start_of code.lines i + 4) 1 (short_jump_integer job.flags) e (built.each i (Put (CondBr (ToLabel t) (ToLabel f) kind)) e).there.1 (omega arith) refl (served_jump job.flags) (named i (Put (CondBr (ToLabel t) (ToLabel f) kind)) e).1.0

  pub built_jumps : HasJumps job code gaps
  built_jumps = record {
    jal = λ i label base symbols slots mem e placed. jal_goes base symbols slots mem placed i label e;
    branch = λ i t not_taken kind base symbols slots mem e placed. branch_goes base symbols slots mem placed i t not_taken kind e;
    other = λ i t f kind base symbols slots mem e placed. other_goes base symbols slots mem placed i t f kind e;
  }

-- ==== What follows the last line: the last veneers, and the constants that no island took.

-- ---- constants stay as more come to stand

module _ {L : Type 0} where
  one_stays : (o : Option Constant) (k : VCodeConstant) (s : Shape L) (j : ℕ) (c : ConstPlace) → slice_get s.constants j ≡ Some c → slice_get (put_constant_at o k s).constants j ≡ Some c
  one_stays None k s j c h = h
  one_stays (Some x) k s j c h = slice_get-append s.constants _ j c h

  each_stays : (ks : List VCodeConstant) (s : Shape L) (j : ℕ) (c : ConstPlace) → slice_get s.constants j ≡ Some c → slice_get (put_each ks s).constants j ≡ Some c
  each_stays [] s j c h = h
  each_stays (k ∷ ks) s j c h = each_stays ks (put_constant k s) j c (one_stays (slice_get s.registered k.number) k s j c h)

  veneer_leaves : (kinds : Kinds L) (i : ℕ) (o : Option (Use L)) (s : Shape L) → (put_at kinds i o s).constants ≡ s.constants
  veneer_leaves kinds i None s = refl
  veneer_leaves kinds i (Some u) s = refl

  veneers_leave : (kinds : Kinds L) (order : List ℕ) (s : Shape L) → (put_all kinds order s).constants ≡ s.constants
  veneers_leave kinds [] s = refl
  veneers_leave kinds (i ∷ order) s = veneers_leave kinds order (put_veneer kinds i s) ∙ veneer_leaves kinds i (slice_get s.uses i) s

  -- those of a buffer are the first of finished code's
  stood : (kinds : Kinds L) (s : Shape L) (bytes : List ℕ) (f : Finishes kinds s bytes) (j : ℕ) (c : ConstPlace) → slice_get s.constants j ≡ Some c → slice_get f.put.constants j ≡ Some c
  stood kinds s bytes f j c h =
      let before = put_all kinds f.order (padded_for (length f.order) s) in
      grind (arith, f.whole, each_stays (unplaced_of before) before j c, veneers_leave kinds f.order (padded_for (length f.order) s), ap (λ (x : Shape L). x.constants) (padding_for (length f.order) s).1, h)

-- the end of the last veneers
veneers_long : (n : ℕ) (bytes : List ℕ) → length (cond (nat_eq n 0) bytes (bytes ++ padding (length bytes))) + 8 * n ≡ veneers_end n (length bytes)
veneers_long zero bytes = omega arith
veneers_long (suc n) bytes = grind (arith, nat_tests, length_padded bytes)

module _ (job : Job) (code : Code) (gaps : List Gap) (b : Buffer) (built : LinesStand (context_of job) job.lines code.lines gaps b) (since : AfterLastIsland (context_of job) job.lines code.lines gaps b) (f : Finishes label_kinds (shape_of b) code.bytes) (end : code.end ≡ length (bytes_of b)) (constants : code.constants ≡ f.put.constants) where
  before : (j : ℕ) (c : ConstPlace) (k : Constant) → j < length (constants_taken (context_of job) job.lines code.lines gaps) → slice_get code.constants j ≡ Some c → slice_get job.constants c.constant.number ≡ Some k → c.offset + length k.bytes ≤ code.end
  before j c k lt hc hk =
      let d = line_at (constants_of b) j (omega (arith, lt, since.ends.stand)) in
      let same : d.0 ≡ c = same_Some d.0 c (sym (stood label_kinds (shape_of b) code.bytes f j d.0 d.1) ∙ ap (λ (cs : List ConstPlace). slice_get cs j) (sym constants) ∙ hc) in
      omega (arith, built.in_turn.within j c k (d.1 ∙ ap (λ (x : ConstPlace). Some x) same) (ap (λ (ks : List Constant). slice_get ks c.constant.number) built.registered ∙ hk), end)

  pub built_tail : HasTail job code gaps
  built_tail =
      let left = constants_left (context_of job) job.lines code.lines gaps b built since in
      let uses = uses_waiting (context_of job) job.lines code.lines gaps b built since in
      record {
        before = before;
        long = f.same_length ∙ f.long ∙ (λ j. constants_end (built.registered j) (sym left j) (veneers_long (length (pending b)) (bytes_of b) j)) ∙ (λ j. constants_end job.constants (constants_waiting (context_of job) job.lines code.lines gaps) (veneers_end (length (sym uses j)) (sym end j)));
      }

-- ==== Code that was built and finished keeps what is promised of it.

-- saved registers are the machine's
finished_saves : (job : Job) (code : Code) → refusal job ≡ None → IsFinished (context_of job) job.lines code → AllByRecursion SavesReal code.unwinds
finished_saves job code accepted f = subst (AllByRecursion SavesReal) (sym (f.unwinds ∙ ap unwinds_in f.built.records)) (lines_save (context_of job) code.lines 0 job.lines (no_rule_broken (context_of job) job.lines (accepted_lines job accepted)))

module _ (job : Job) (code : Code) (accepted : refusal job ≡ None) (f : IsFinished (context_of job) job.lines code) where
  abbrev e : lines_refusal (context_of job) job.lines ≡ None
  e = accepted_lines job accepted

  abbrev finished : IsFinishedTo (shape_of f.sink) code.bytes
  finished = record { can = f.ready; finishes = f.finished; all_bytes = all_bytes code.bytes f.bytes_fit }

  named : (i : ℕ) (line : Line) → slice_get job.lines i ≡ Some line → AllBound job.lines (named_labels line)
  named = names_bound job.lines job.lines (parts (context_of job) job.lines e).unbound

  bytes_short : length code.bytes ≤ size_sum (context_of job) job.lines + 16
  bytes_short = finished_short (context_of job) job.lines f.sink code.bytes f.built.sound f.sized f.finished

  short : length code.bytes < code_limit
  short = let small = sum_small (context_of job) job.lines e in omega (arith, bytes_short, small)

  pub finished_reported : Reported job code
  finished_reported =
      built_reported job code f.gaps f.sink f.built finished f.constants (omega (arith, short)) f.returns (f.labels ∙ f.named.labels) f.relocs f.traps f.call_sites f.try_call_sites f.patchable_call_sites f.stack_maps f.unwinds f.end (omega (arith, f.finished.grows.longer, f.finished.same_length)) named
      (record { early = f.early; tail = built_tail job code f.gaps f.sink f.built f.since f.finished f.end f.constants; short = bytes_short })
      (built_jumps job code f.gaps f.sink f.built finished f.relocs (omega (arith, short)) f.straight named)

  threaded : IsThreaded job code (record { place = f.finished.put.place; records = records_of f.sink })
  threaded = built_threaded job code f.gaps f.sink f.built finished f.constants f.relocs f.traps (no_rule_broken (context_of job) job.lines e) short f.end f.returns (none_stuck job.frame job.lines (accepted_frame job accepted)) named

  pub finished_runs : RunsAsListed job code
  finished_runs = threaded_runs job code _ threaded

  pub finished_full_runs : FullRuns job code
  finished_full_runs = full_runs job code _ threaded

  pub finished_operations : HasOperations job code
  finished_operations = built_operations job code f.gaps f.sink f.built finished f.constants f.relocs f.traps (no_rule_broken (context_of job) job.lines e)

  pub finished_full_operations : HasFullOperations job code
  finished_full_operations = built_full_operations job code f.gaps f.sink f.built finished f.constants f.relocs f.traps (no_rule_broken (context_of job) job.lines e)

  pub finished_ranges : CodeFits code
  finished_ranges = code_fits (context_of job) job.lines code e f (finished_saves job code accepted f)
