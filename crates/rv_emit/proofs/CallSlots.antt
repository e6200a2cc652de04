-- What calls that return add to a buffer: their words, and where they load results an island among them; and that their parts are self-contained.
use Rattle.rv_code.{proofs.LineSlots.{both_pieces, size_both}, proofs.LongSlots.{notes_long, rest_long}, specs.Accesses.{stack_load_pieces, stack_step_pieces}, specs.Calls.{call_ind_pieces, call_pieces, patch_notes, rest_pieces, return_notes, try_pieces}, specs.InstParts.result_slots}
use Rattle.{rv_code.{specs.Pieces.{Piece, slots_of}, specs.Slots.{uses_of, records_of}}, rv_emit.{proofs.Islands.{room_records, room_named, room_longer}, proofs.PartsInBuffer.parts_put}}
use Rattle.rv_emit.proofs.Terms.{◌≡◌, ℕ, ◌+◌, ◌-◌, ◌*◌, ◌≤◌, Bool, true, false, List, [], ◌∷◌, ◌++◌, length, Option, Some, None, inst_constant, named_by, pos, refl, ap, sym, ◌∙◌, subst, append-nil, arith, lit≤, CallInfo, TryCallInfo, UserStackMap, ExternalName, IsaFlags, CallRetPair}
use Rattle.rv_emit.proofs.Terms.{FrameLayout, Reg, number_of, sp_to_fp_of, is_some, MachRecord, Use, bytes_of, allocated_of, named_of, shape_of, VCodeConstant, LabelUse, Nowhere, Context, short_jalr, jump_kind, jump_size, marks_of, site_event, return_records}
use Rattle.rv_emit.proofs.Terms.{patch_records, StackLoad, result_loads, loads_unless, Return, return_of, filled_last, try_call_of, same_Some, IsOfSize, AtMost, first_in, space_in, request_of, inst_size, call_request, call_end, call_limit, step_limit, fall, call_size}
use Rattle.rv_emit.proofs.Terms.{results_space, inst_records, use_at, uses_by, uses_in, Inst, EmitVState, PutsAlone, PutsParts, Emits, Buffer, IsSoundBuffer, Appends, AppendsCode, HasReturn, IslandAsked, after_call, try_slots, call_slots, call_ind_slots}
use Rattle.rv_emit.proofs.Terms.{loading_parts, call_parts, parts_of, Slot, Slots, AreSelfContained, PartsAreSelfContained, size_of, names_of, call_event, HaveContents, at_end, from_start, note_then, IsPlain, steps_counted, loads_counted, summed, plain_put, put_long}
use Rattle.rv_emit.proofs.Terms.{no_own, jalr_sized, window_long, least_few, AreShortLoads, loads_most, step_most, append_assoc}
use Rattle.mach_records.specs.declared.records.Event.TheVariants as event
use Rattle.rv_code.specs.Pieces as piece
use Rattle.rv_inst.specs.declared.inst.Inst.TheVariants.{Call, CallInd}

-- ---- pieces

-- the use of a jump that goes on, by where it ends
abbrev pub try_use : IsaFlags → Option TryCallInfo → ℕ → List (Use LabelUse)
try_use flags None end = []
try_use flags (Some t) end = use_at (end - jump_size flags) t.continuation (jump_kind flags) ∷ []

abbrev no_records : ℕ → List MachRecord
no_records at = []

-- pieces that record nothing, and whose uses depend on their end alone
abbrev AreLast : IsaFlags → (ℕ → List (Use LabelUse)) → List Piece → Type 0
AreLast flags rest last = HaveContents (size_of (slots_of flags last)) (at_end rest) no_records None (slots_of flags last)

none_last : (flags : IsaFlags) → AreLast flags (λ end. []) []
none_last flags = record { plain = tt; within = lit≤ tt; uses = λ allocated start. refl; records = λ start. refl; names = λ named. refl; closed = λ here start. tt }

-- the jump, where there is one
jump_contents : (flags : IsaFlags) (t : Option TryCallInfo) → AreLast flags (try_use flags t) (try_pieces t)
jump_contents flags None = none_last flags
jump_contents flags (Some t) =
    record {
      plain = tt;
      within = omega (arith, window_long flags);
      uses = λ allocated start. let e : start ≡ start + (length (marks_of (jump_kind flags)) + 0) - jump_size flags = omega (arith, window_long flags) in ap (λ n. use_at n t.continuation (jump_kind flags) ∷ []) e;
      records = λ start. refl;
      names = λ named. refl;
      closed = λ here start. (tt, tt);
    }

-- ---- what comes after the words of a call

-- the record of a call of so many bytes that may be patched, before other pieces
patch_contents : {rest : ℕ → List (Use LabelUse)} (last : List Piece) (flags : IsaFlags) (patchable : Bool) (n : ℕ) → AreLast flags rest last → HaveContents (size_of (slots_of flags last)) (at_end rest) (λ at. patch_records patchable at n) None (slots_of flags (patch_notes patchable n ++ last))
patch_contents last flags false n c = c
patch_contents last flags true n c = note_then (event.PatchableCallSite n) refl c

-- and the records of the call's return before that
returned_contents : {rest : ℕ → List (Use LabelUse)} {records_at : ℕ → List MachRecord} (ps : List Piece) (flags : IsaFlags) (frame : FrameLayout) (entries : Option UserStackMap) (t : Option TryCallInfo) → HaveContents (size_of (slots_of flags ps)) (at_end rest) records_at None (slots_of flags ps) →
    HaveContents (size_of (slots_of flags ps)) (at_end rest) (λ at. return_records frame at entries t ++ records_at at) None (slots_of flags (return_notes frame entries t ++ ps))
returned_contents ps flags frame None t c = note_then (site_event frame t) refl c
returned_contents ps flags frame (Some entries) t c = note_then (event.StackMap (sp_to_fp_of frame) entries) (omega arith) (note_then (site_event frame t) refl c)

-- a jump that goes on is as long as it must be
pub try_end : (flags : IsaFlags) (t : Option TryCallInfo) (end : ℕ) → call_end flags t end ≡ end - size_of (try_slots flags t)
try_end flags None end = omega arith
try_end flags (Some t) end = omega (arith, window_long flags)

-- ---- a call with what comes after it

rest_contents : {rest : ℕ → List (Use LabelUse)} (last : List Piece) (flags : IsaFlags) (frame : FrameLayout) (popped : ℕ) (patchable : Bool) (n : ℕ) (entries : Option UserStackMap) (t : Option TryCallInfo) → AreLast flags rest last →
    let slots = slots_of flags (stack_step_pieces (fall popped) ++ (patch_notes patchable n ++ last)) in HaveContents (size_of slots) (at_end rest) (λ at. return_records frame at entries t ++ patch_records patchable (at + size_of slots - size_of (slots_of flags last)) n) None (slots_of flags (rest_pieces frame popped patchable n entries t last))
rest_contents last flags frame popped patchable n entries t c = returned_contents (stack_step_pieces (fall popped) ++ (patch_notes patchable n ++ last)) flags frame entries t (from_start (both_pieces flags (stack_step_pieces (fall popped)) (patch_notes patchable n ++ last) (steps_counted flags (fall popped)) (patch_contents last flags patchable n c)))

-- its records, from where its first words end
rest_records : {rest : ℕ → List (Use LabelUse)} (last : List Piece) (flags : IsaFlags) (frame : FrameLayout) (popped : ℕ) (patchable : Bool) (n : ℕ) (entries : Option UserStackMap) (t : Option TryCallInfo) (at : ℕ) → AreLast flags rest last → records_of at (slots_of flags (rest_pieces frame popped patchable n entries t last)) ≡ return_records frame at entries t ++ patch_records patchable (at + size_of (after_call flags popped)) n
rest_records last flags frame popped patchable n entries t at c =
    let ps = stack_step_pieces (fall popped) ++ (patch_notes patchable n ++ last) in
    let size = size_of (slots_of flags ps) in
    let whole = rest_long flags frame popped patchable n entries t last in
    let same = notes_long flags frame entries t ps in
    let begins : at + size_of (slots_of flags (return_notes frame entries t ++ ps)) - size ≡ at = omega arith in
    let ends : at + size_of (slots_of flags (return_notes frame entries t ++ ps)) - size + size - size_of (slots_of flags last) ≡ at + size_of (after_call flags popped) = omega arith in
    (rest_contents last flags frame popped patchable n entries t c).records at ∙ (λ i. return_records frame (begins i) entries t ++ patch_records patchable (ends i) n)

-- what the slots of a call add, with slots after it
pub record AreCall (rest : ℕ → List (Use LabelUse)) (slots : List Slot) : Type 0 where
  pub plain : IsPlain slots
  pub uses : (allocated start : ℕ) → uses_of allocated start slots ≡ rest (start + size_of slots)
  pub names : (named : List VCodeConstant) → names_of slots named ≡ named
  pub block : AreSelfContained slots

call_contents : {rest : ℕ → List (Use LabelUse)} (last : List Piece) (flags : IsaFlags) (frame : FrameLayout) (info : CallInfo ExternalName) → AreLast flags rest last → AreCall rest (call_slots flags frame info last)
call_contents {rest} last flags frame info c =
    let all = rest_contents last flags frame info.callee_pop_size info.patchable (call_size flags 8 info.callee_pop_size) info.stack_map info.try_call_info c in
    record { plain = all.plain; uses = λ allocated start. all.uses allocated (start + 8) ∙ ap rest (omega arith); names = all.names; block = all.closed _ 8 }

call_ind_contents : {rest : ℕ → List (Use LabelUse)} (last : List Piece) (flags : IsaFlags) (frame : FrameLayout) (info : CallInfo Reg) → AreLast flags rest last → AreCall rest (call_ind_slots flags frame info last)
call_ind_contents {rest} last flags frame info c =
    let jump = short_jalr flags 1 (number_of info.dest) (pos 0) in
    let all = rest_contents last flags frame info.callee_pop_size false 0 info.stack_map info.try_call_info c in
    record { plain = all.plain; uses = λ allocated start. all.uses allocated (start + jump.len) ∙ ap rest (omega arith); names = all.names; block = ((jalr_sized flags 1 (number_of info.dest) (pos 0)).even, all.closed _ (0 + jump.len)) }

-- ---- a call of either kind

-- what comes after the words of a call, put later
rest_then : (notes steps patch last : List Piece) → (notes ++ (steps ++ (patch ++ []))) ++ last ≡ notes ++ (steps ++ (patch ++ last))
rest_then notes steps patch last =
    append_assoc notes (steps ++ (patch ++ [])) last
    ∙ ap (λ more. notes ++ more) (append_assoc steps (patch ++ []) last ∙ ap (λ more. steps ++ more) (append_assoc patch [] last))

-- That an instruction is a call: of at most so many bytes of its own; its words, with what comes after them; what it loads, and where it
-- goes on.
pub record IsCall (context : Context) (inst : Inst) (own : ℕ) (call : List Piece → List Piece) (loads : List StackLoad) (t : Option TryCallInfo) : Type 0 where
  pub few : own ≤ 8
  pub whole : AreCall (try_use context.flags t) (slots_of context.flags (call (try_pieces t)))
  pub first : AreCall (λ end. []) (slots_of context.flags (call []))
  pub size : (last : List Piece) → size_of (slots_of context.flags (call last)) ≡ size_of (slots_of context.flags (call [])) + size_of (slots_of context.flags last)
  pub short : size_of (slots_of context.flags (call [])) ≤ own + step_limit
  pub records : (start : ℕ) → records_of start (slots_of context.flags (call (try_pieces t))) ≡ inst_records context start (start + size_of (slots_of context.flags (call (try_pieces t)))) inst
  pub asked : is_some (request_of context inst) ≡ true → (start end : ℕ) → records_of start (slots_of context.flags (call [])) ≡ inst_records context start end inst
  pub joined : (last : List Piece) → call [] ++ last ≡ call last
  pub parts : (setting : EmitVState) → parts_of context setting inst ≡ call_parts context.flags call loads t
  pub asks : request_of context inst ≡ call_request own loads
  pub most : inst_size context inst ≡ AtMost (call_limit own loads)
  pub returns : (r : Return) → return_of context.flags inst ≡ Some r → r.offset ≤ size_of (slots_of context.flags (call []))
  pub goes_on : try_call_of inst ≡ t
  pub filled : filled_last inst ≡ 0
  pub uses : (start end : ℕ) → uses_in context start end inst ≡ uses_by context.flags start end t Nowhere
  pub constant : inst_constant inst ≡ None

pub call_is : (context : Context) (info : CallInfo ExternalName) → IsCall context (Call info) 8 (call_pieces context.flags context.frame info) (loads_unless info.patchable info.defs) info.try_call_info
call_is context info =
    let flags = context.flags in
    let frame = context.frame in
    let t = info.try_call_info in
    let popped = info.callee_pop_size in
    let n = call_size flags 8 popped in
    let size : (last : List Piece) → size_of (call_slots flags frame info last) ≡ 8 + size_of (after_call flags popped) + size_of (slots_of flags last) = λ last. omega (arith, rest_long flags frame popped info.patchable n info.stack_map t last) in
    record {
      few = lit≤ tt;
      whole = call_contents (try_pieces t) flags frame info (jump_contents flags t);
      first = call_contents [] flags frame info (none_last flags);
      size = λ last. omega (arith, size last, size []);
      short = omega (arith, size [], step_most flags (fall popped));
      records = λ start.
          let last = try_pieces t in
          let end = start + size_of (call_slots flags frame info last) in
          let ends : start + 8 + size_of (after_call flags popped) ≡ call_end flags t end = omega (arith, size last, try_end flags t end) in
          let count : n ≡ call_end flags t end - start = omega (arith, size last, try_end flags t end) in
          ap (λ more. record { offset = start; event = call_event info.dest } ∷ more) (rest_records (try_pieces t) flags frame popped info.patchable n info.stack_map t (start + 8) (jump_contents flags t) ∙ (λ i. return_records frame (start + 8) info.stack_map t ++ patch_records info.patchable (ends i) (count i)));
      asked = λ some start end. ap (λ more. record { offset = start; event = call_event info.dest } ∷ more) (rest_records [] flags frame popped info.patchable n info.stack_map t (start + 8) (none_last flags) ∙ ap (λ more. return_records frame (start + 8) info.stack_map t ++ more) (unpatched info.patchable _ _ _ _ some));
      joined = λ last. ap (λ more. piece.Call 1 1 info.dest ∷ more) (rest_then (return_notes frame info.stack_map t) (stack_step_pieces (fall popped)) (patch_notes info.patchable n) last);
      parts = λ setting. refl;
      asks = refl;
      most = refl;
      returns = λ r is. omega (arith, ap (λ (r : Return). r.offset) (same_Some _ r is), size []);
      goes_on = refl;
      filled = refl;
      uses = λ start end. refl;
      constant = refl;
    }
  where
    unpatched : (patchable : Bool) (a b m n : ℕ) → is_some (call_request 8 (loads_unless patchable info.defs)) ≡ true → patch_records patchable a m ≡ patch_records patchable b n
    unpatched true a b m n some = absurd (cc)
    unpatched false a b m n some = refl

pub call_ind_is : (context : Context) (info : CallInfo Reg) → IsCall context (CallInd info) 4 (call_ind_pieces context.frame info) (result_loads info.defs) info.try_call_info
call_ind_is context info =
    let flags = context.flags in
    let frame = context.frame in
    let t = info.try_call_info in
    let popped = info.callee_pop_size in
    let jump = (short_jalr flags 1 (number_of info.dest) (pos 0)).len in
    let size : (last : List Piece) → size_of (call_ind_slots flags frame info last) ≡ jump + size_of (after_call flags popped) + size_of (slots_of flags last) = λ last. omega (arith, rest_long flags frame popped false 0 info.stack_map t last) in
    record {
      few = lit≤ tt;
      whole = call_ind_contents (try_pieces t) flags frame info (jump_contents flags t);
      first = call_ind_contents [] flags frame info (none_last flags);
      size = λ last. omega (arith, size last, size []);
      short = omega (arith, size [], step_most flags (fall popped), (jalr_sized flags 1 (number_of info.dest) (pos 0)).few);
      records = λ start. rest_records (try_pieces t) flags frame popped false 0 info.stack_map t (start + jump) (jump_contents flags t) ∙ append-nil _;
      asked = λ some start end. rest_records [] flags frame popped false 0 info.stack_map t (start + jump) (none_last flags) ∙ append-nil _;
      joined = λ last. ap (λ more. piece.Jalr 1 (number_of info.dest) (pos 0) ∷ more) (rest_then (return_notes frame info.stack_map t) (stack_step_pieces (fall popped)) [] last);
      parts = λ setting. refl;
      asks = refl;
      most = refl;
      returns = λ r is. omega (arith, ap (λ (r : Return). r.offset) (same_Some _ r is), size []);
      goes_on = refl;
      filled = refl;
      uses = λ start end. refl;
      constant = refl;
    }

-- ---- what is added

-- a call goes to its continuation alone
same_use : (flags : IsaFlags) (start end : ℕ) (t : Option TryCallInfo) → try_use flags t end ≡ uses_by flags start end t Nowhere
same_use flags start end None = refl
same_use flags start end (Some t) = refl

pub loads_contents : (flags : IsaFlags) (loads : List StackLoad) (t : Option TryCallInfo) → HaveContents (size_of (try_slots flags t)) (at_end (try_use flags t)) no_records None (result_slots flags loads t)
loads_contents flags loads t = both_pieces flags (stack_load_pieces flags loads) (try_pieces t) (loads_counted flags loads) (jump_contents flags t)

-- how many bytes at most: before its loads a call has at most 32, and from there on no more than are asked for
pub try_few : (flags : IsaFlags) (t : Option TryCallInfo) → size_of (try_slots flags t) ≤ 4
try_few flags None = lit≤ tt
try_few flags (Some t) = omega (arith, window_long flags, least_few flags)

-- where it returns, and the jump that goes on
returned : {context : Context} {inst : Inst} {own : ℕ} {call : List Piece → List Piece} {loads : List StackLoad} {t : Option TryCallInfo} (start end : ℕ) → IsCall context inst own call loads t → start + size_of (slots_of context.flags (call [])) + size_of (try_slots context.flags t) ≤ end → HasReturn context inst start end
returned {context} {t = t} start end is le = record {
  returns = λ r e. omega (arith, is.returns r e, le);
  goes_on = λ c e. let same : t ≡ Some c = sym is.goes_on ∙ e in omega (arith, window_long context.flags, le, ap (λ t. size_of (try_slots context.flags t)) same);
}

-- by what it loads
pub call_adds : {context : Context} {inst : Inst} {own : ℕ} {call : List Piece → List Piece} {t : Option TryCallInfo} (loads : List StackLoad) (old new : Buffer) → IsCall context inst own call loads t → AreShortLoads context.flags loads → IsSoundBuffer old →
    PutsParts context.flags (call_parts context.flags call loads t) old new → Appends context inst old new
call_adds {context} {inst} {own} {call} {t} [] old new is short sound p =
    let slots = slots_of context.flags (call (try_pieces t)) in
    let few : size_of slots ≤ call_limit own [] = omega (arith, is.size (try_pieces t), is.short, try_few context.flags t) in
    let put = plain_put context.flags slots old new is.whole.plain p in
    summed (record {
      plain = is.whole.plain;
      fits = subst (λ s. IsOfSize s (size_of slots)) (sym is.most) few;
      uses = λ allocated start. is.whole.uses allocated start ∙ same_use context.flags start (start + size_of slots) t ∙ sym (is.uses start (start + size_of slots));
      records = is.records;
      names = λ named. is.whole.names named ∙ sym (ap (λ k. named_by k named) is.constant);
    }) is.asks sound (returned (length (bytes_of old)) (length (bytes_of new)) is (omega (arith, put_long put, is.size (try_pieces t)))) p
call_adds {context} {inst} {own} {call} {t} (l ∷ loads) old new is short sound (mid, first, (last, made, room, second)) =
    let flags = context.flags in
    let start = length (bytes_of old) in
    let slots = result_slots flags (l ∷ loads) t in
    let more = loads_contents flags (l ∷ loads) t in
    let a = plain_put flags (slots_of flags (call [])) old mid is.first.plain (mid, first, refl) in
    let b = plain_put flags slots last new more.plain second in
    let end : length (bytes_of last) + size_of slots ≡ length (bytes_of new) = sym (put_long b) in
    let some : is_some (request_of context inst) ≡ true = ap is_some is.asks in
    let space : space_in (request_of context inst) (length b.code) ≡ Some (results_space (l ∷ loads)) = ap (λ r. space_in r (length b.code)) is.asks in
    let few : size_of slots ≤ 28 * length (l ∷ loads) + 4 = omega (arith, loads_most flags (l ∷ loads) short, try_few flags t, size_both flags (stack_load_pieces flags (l ∷ loads)) (try_pieces t)) in
    record {
      mid = mid;
      last = last;
      front = a.code;
      code = b.code;
      own = 0;
      direct = [];
      first = subst (λ us. AppendsCode a.code us old mid) (is.first.uses (allocated_of old) start) a.adds;
      unnamed = a.named ∙ is.first.names (named_of old);
      island = subst (λ n. IslandAsked n mid last) (sym space) (made, room);
      adds = no_own b.code _ last new (subst (λ us. AppendsCode b.code us last new) (more.uses (allocated_of last) (length (bytes_of last)) ∙ ap (try_use flags t) end ∙ same_use flags start (length (bytes_of new)) t ∙ sym (is.uses start (length (bytes_of new))) ∙ sym (append-nil _)) b.adds);
      few = lit≤ tt;
      alone = λ asks. refl;
      each = λ j u h. absurd (cc);
      records = b.records ∙ ap (λ rs. (shape_of last).records ++ rs) (more.records (length (bytes_of last))) ∙ append-nil (shape_of last).records ∙ room_records (results_space (l ∷ loads)) mid last made room ∙ a.records ∙ ap (λ rs. (shape_of old).records ++ rs) (is.asked some start (length (bytes_of new)));
      named = b.named ∙ more.names (named_of last) ∙ room_named (results_space (l ∷ loads)) mid last made room ∙ a.named ∙ is.first.names (named_of old) ∙ sym (ap (λ k. named_by k (named_of old)) is.constant);
      begins = subst (λ r. IsOfSize (first_in r) (length a.code)) (sym is.asks) (omega (arith, a.long, is.short));
      within = λ n e. let same = same_Some _ n (sym space ∙ e) in omega (arith, same, b.long, few);
      stands = λ windows fields. let put = parts_put flags (Slots (slots_of flags (call [])) ∷ []) old mid (is.first.block, tt) sound windows fields (mid, first, refl) in (put.windows, put.fields);
      lasts = b.lasts;
      least = λ asks. record { returns = λ r e. omega (arith, is.returns r e, a.long); filled = omega (arith, is.filled) };
      fits = subst (λ s. IsOfSize s (length a.code + length b.code)) (sym is.most) (omega (arith, a.long, b.long, is.short, few));
      back = returned start (length (bytes_of new)) is (omega (arith, end, put_long a, room_longer (results_space (l ∷ loads)) mid last made room, size_both flags (stack_load_pieces flags (l ∷ loads)) (try_pieces t)));
    }

-- a call that asks for no island loads nothing
no_loads : (own : ℕ) (loads : List StackLoad) → call_request own loads ≡ None → loads ≡ []
no_loads own [] asks = refl
no_loads own (l ∷ loads) asks = absurd (cc)

-- what is put for a call is what an instruction emits that is the call
put_emits : {context : Context} {inst : Inst} {own : ℕ} {call : List Piece → List Piece} {loads : List StackLoad} {t : Option TryCallInfo} (given : Inst) (old new : Buffer) → IsCall context inst own call loads t → given ≡ inst → PutsParts context.flags (call_parts context.flags call loads t) old new → Emits context given old new
put_emits {context} given old new is same p = subst (λ i. Emits context i old new) (sym same) (λ setting. subst (λ parts. PutsParts context.flags parts old new) (sym (is.parts setting)) p)

pub call_emits : {context : Context} {inst : Inst} {own : ℕ} {call : List Piece → List Piece} {loads : List StackLoad} {t : Option TryCallInfo} (given : Inst) (old new : Buffer) → IsCall context inst own call loads t → given ≡ inst → request_of context given ≡ None →
    PutsAlone context.flags (slots_of context.flags (call (try_pieces t))) old new → Emits context given old new
call_emits {context} {own = own} {call} {loads} {t} given old new is same asks p =
    put_emits given old new is same (subst (λ loads. PutsParts context.flags (call_parts context.flags call loads t) old new) (sym (no_loads own loads (sym is.asks ∙ ap (request_of context) (sym same) ∙ asks))) p)

-- and one that asks for one loads results
some_parts : (flags : IsaFlags) (own : ℕ) (call : List Piece → List Piece) (loads : List StackLoad) (t : Option TryCallInfo) (old new : Buffer) → is_some (call_request own loads) ≡ true → PutsParts flags (loading_parts flags call loads t) old new → PutsParts flags (call_parts flags call loads t) old new
some_parts flags own call [] t old new asks p = absurd (cc)
some_parts flags own call (l ∷ loads) t old new asks p = p

pub loading_emits : {context : Context} {inst : Inst} {own : ℕ} {call : List Piece → List Piece} {loads : List StackLoad} {t : Option TryCallInfo} (given : Inst) (all : List StackLoad) (old new : Buffer) → IsCall context inst own call loads t → given ≡ inst → is_some (request_of context given) ≡ true → (is_some (call_request own loads) ≡ true → all ≡ loads) →
    PutsParts context.flags (loading_parts context.flags call all t) old new → Emits context given old new
loading_emits {context} {own = own} {call} {loads} {t} given all old new is same asks every p =
    let some : is_some (call_request own loads) ≡ true = ap is_some (sym is.asks ∙ ap (request_of context) (sym same)) ∙ asks in
    put_emits given old new is same (some_parts context.flags own call loads t old new some (subst (λ loads. PutsParts context.flags (loading_parts context.flags call loads t) old new) (every some) p))

-- which are all of them
pub unless_all : (patchable : Bool) (defs : List CallRetPair) → is_some (call_request 8 (loads_unless patchable defs)) ≡ true → result_loads defs ≡ loads_unless patchable defs
unless_all true defs some = absurd (cc)
unless_all false defs some = refl

-- ---- self-contained slots

pub call_blocks : {context : Context} {inst : Inst} {own : ℕ} {call : List Piece → List Piece} {t : Option TryCallInfo} (loads : List StackLoad) → IsCall context inst own call loads t → PartsAreSelfContained (call_parts context.flags call loads t)
call_blocks [] is = (is.whole.block, tt)
call_blocks {context} {t = t} (l ∷ loads) is = (is.first.block, ((loads_contents context.flags (l ∷ loads) t).closed _ 0, tt))
